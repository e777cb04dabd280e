use Rattle.std.proofs.Common.{sym, subst, ◌∙◌}
use Rattle.rb_grammar.specs.Reading.{EndsIf}
use Rattle.rb_parse.proofs.Judged.{tree_told, more_told, form_told, fault_told, first_told}
use Rattle.rb_parse.proofs.parser.parse.Goals as goal

pub returns-in-Err-clause-err : goal.returns-in-Err-clause-err
returns-in-Err-clause-err c = first_told c.args.source.now c.in-Err.fault c.in-Err.ensures.err.0 c.in-Err.ensures.err.1

pub returns-then-is_at_end-clause-ok : goal.returns-then-is_at_end-clause-ok
returns-then-is_at_end-clause-ok c =
    let ended = subst (λ b. EndsIf b c.read_program.new.cursor.ending) c.if-is_at_end.true c.is_at_end.ensures.ended in
    tree_told c.args.source.now _ c.in-Ok.cursor c.read_program.new.cursor c.in-Ok.ensures.ok c.in-Ok-read_program.ensures.ending
    c.in-Ok-read_program.ensures.ok (sym c.is_at_end.ensures.nothing ∙ c.if-is_at_end.true) ended

pub returns-in-Ok-read_program-clause-err : goal.returns-in-Ok-read_program-clause-err
returns-in-Ok-read_program-clause-err c =
    more_told c.args.source.now c.stray.result _ c.in-Ok.cursor c.read_program.new.cursor c.in-Ok.ensures.ok
    c.in-Ok-read_program.ensures.ending c.in-Ok-read_program.ensures.ok (sym c.is_at_end.ensures.nothing ∙ c.if-is_at_end.false)
    c.stray.ensures.placed c.stray.ensures.named

pub returns-in-Err-Form-clause-err : goal.returns-in-Err-Form-clause-err
returns-in-Err-Form-clause-err c =
    form_told c.args.source.now c.stray-in-Err-Form.result _ c.in-Ok.cursor c.read_program.new.cursor c.in-Ok.ensures.ok
    c.in-Err-Form.ensures.ending c.in-Err-Form.ensures.err c.in-Err-Form.field-0-is c.stray-in-Err-Form.ensures.placed
    c.stray-in-Err-Form.ensures.named

pub returns-in-Err-Token-clause-err : goal.returns-in-Err-Token-clause-err
returns-in-Err-Token-clause-err c =
    fault_told c.args.source.now c.in-Err-Token.fault _ c.in-Ok.cursor c.read_program.new.cursor c.in-Ok.ensures.ok
    c.in-Err-Token.ensures.err c.in-Err-Token.field-0-is
