use Rattle.std.proofs.Common.{refl, sym, ap, ◌∙◌}
use Rattle.rb_grammar.proofs.Made.{variable_with}
use Rattle.rb_grammar.proofs.Pairs.{by_named, exit_two, opens}
use Rattle.rb_grammar.proofs.Reaching.{by_part, by_terminal, complete, exit_within, same_value}
use Rattle.rb_grammar.proofs.Accepting.Starts.{no_declaration}
use Rattle.rb_grammar.specs.Parts.{Part}
use Rattle.rb_syntax.specs.Plain.{declaration}
use Rattle.rb_parse.proofs.Closing.{last_closed, last_missed}
use Rattle.rb_parse.proofs.Shorter.{call_fewer, no_more}
use Rattle.rb_parse.proofs.declarations.read_declaration.Goals as goal

pub returns-in_err-name-clause-err : goal.returns-in_err-name-clause-err
returns-in_err-name-clause-err c =
    exit_two c.from_residual.result c.from_residual.ensures.1 refl
    (opens Part.Declaration c.args.cursor.now.point _ refl (no_declaration _) refl) c.in_err-name.ensures.err

pub returns-in_err-size-clause-err : goal.returns-in_err-size-clause-err
returns-in_err-size-clause-err c =
    exit_within c.from_residual-in_err-size.result c.from_residual-in_err-size.ensures.1 (c.in_ok-name.ensures.ending)
    (by_named (opens Part.Declaration c.args.cursor.now.point _ refl (no_declaration _) refl) c.in_ok-name.ensures.ok)
    c.in_err-size.ensures.err

pub returns-clause-err : goal.returns-clause-err
returns-clause-err c =
    last_missed _ _ c.closed.result
    (c.in_ok-size.ensures.ending ∙ c.in_ok-name.ensures.ending)
    (by_part (by_named (opens Part.Declaration c.args.cursor.now.point _ refl (no_declaration _) refl) c.in_ok-name.ensures.ok)
    c.in_ok-size.ensures.ok) c.closed.ensures.err

pub returns-clause-ok : goal.returns-clause-ok
returns-clause-ok c =
    last_closed _ c.closed.result declaration _ (λ token taken. same_value
    (ap (variable_with c.in_ok-size.size) (sym (c.in_ok-name.ensures.ok).named.is))
    (complete (by_terminal (by_part (by_named (opens Part.Declaration c.args.cursor.now.point _ refl (no_declaration _) refl)
    c.in_ok-name.ensures.ok) c.in_ok-size.ensures.ok) taken))) c.closed.ensures.same c.closed.ensures.taken

pub returns-in_err-name-clause-ending : goal.returns-in_err-name-clause-ending
returns-in_err-name-clause-ending c = c.in_err-name.ensures.ending

pub returns-in_err-size-clause-ending : goal.returns-in_err-size-clause-ending
returns-in_err-size-clause-ending c = c.in_err-size.ensures.ending ∙ c.in_ok-name.ensures.ending

pub returns-clause-ending : goal.returns-clause-ending
returns-clause-ending c = c.closed.ensures.ending ∙ c.in_ok-size.ensures.ending ∙ c.in_ok-name.ensures.ending

pub returns-clause-shorter : goal.returns-clause-shorter
returns-clause-shorter c =
    call_fewer _ _ c.closed.result c.closed.ensures.shorter (no_more c.in_ok-size.ensures.shorter c.in_ok-name.ensures.shorter)
