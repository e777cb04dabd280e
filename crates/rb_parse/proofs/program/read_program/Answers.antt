use Rattle.std.proofs.Common.{refl, sym, ◌∙◌}
use Rattle.rb_grammar.proofs.Accepting.Forms.{program_unmarked}
use Rattle.rb_grammar.proofs.Pairs.{by_two, exit_two}
use Rattle.rb_grammar.proofs.Reaching.{begins, exit_sure, last_start, starts}
use Rattle.rb_grammar.specs.ExpressionTable.{nothing_after}
use Rattle.rb_grammar.specs.Parts.{Part}
use Rattle.rb_base.specs.declared.edition.Edition.TheVariants as editions
use Rattle.rb_syntax.specs.Plain.{tree}
use Rattle.rb_parse.proofs.Handed.{last_read, last_stopped}
use Rattle.rb_parse.proofs.Shorter.{and_fewer, call_fewer}
use Rattle.rb_parse.proofs.program.read_program.Goals as goal

pub returns-in_err-take-clause-err : goal.returns-in_err-take-clause-err
returns-in_err-take-clause-err c =
    exit_sure _ c.from_residual.result c.from_residual.ensures.1 refl (sym c.if-stands_at.ensures) (last_start _ refl) c.in_err-take.ensures.err

pub returns-in_err-take_two-clause-err : goal.returns-in_err-take_two-clause-err
returns-in_err-take_two-clause-err c =
    exit_two c.from_residual-in_err-take_two.result c.from_residual-in_err-take_two.ensures.1 c.in_ok-take.ensures.ending
    (starts _ refl c.in_ok-take.ensures.ok) c.in_err-take_two.ensures.err

pub returns-in_ok-take_two-clause-err : goal.returns-in_ok-take_two-clause-err
returns-in_ok-take_two-clause-err c =
    last_stopped _ c.read_unmarked.result (c.in_ok-take_two.ensures.ending ∙ c.in_ok-take.ensures.ending)
    (by_two (starts _ refl c.in_ok-take.ensures.ok) c.in_ok-take_two.ensures.ok) c.read_unmarked.ensures.err

pub returns-in_ok-take_two-clause-ok : goal.returns-in_ok-take_two-clause-ok
returns-in_ok-take_two-clause-ok c =
    last_read _ c.read_unmarked.result tree tree (λ _. refl)
    (by_two (starts _ refl c.in_ok-take.ensures.ok) c.in_ok-take_two.ensures.ok) c.read_unmarked.ensures.ok

pub returns-else-stands_at-clause-err : goal.returns-else-stands_at-clause-err
returns-else-stands_at-clause-err c =
    last_stopped _ c.read_unmarked-else-stands_at.result refl
    (begins (Part.Unmarked editions.First) c.args.cursor.now.point nothing_after (program_unmarked _ (sym c.if-stands_at.ensures))
    refl refl) c.read_unmarked-else-stands_at.ensures.err

pub returns-else-stands_at-clause-ok : goal.returns-else-stands_at-clause-ok
returns-else-stands_at-clause-ok c =
    last_read _ c.read_unmarked-else-stands_at.result tree tree (λ _. refl)
    (begins (Part.Unmarked editions.First) c.args.cursor.now.point nothing_after (program_unmarked _ (sym c.if-stands_at.ensures))
    refl refl) c.read_unmarked-else-stands_at.ensures.ok

pub returns-in_err-take-clause-ending : goal.returns-in_err-take-clause-ending
returns-in_err-take-clause-ending c = c.in_err-take.ensures.ending

pub returns-in_err-take_two-clause-ending : goal.returns-in_err-take_two-clause-ending
returns-in_err-take_two-clause-ending c = c.in_err-take_two.ensures.ending ∙ c.in_ok-take.ensures.ending

pub returns-in_ok-take_two-clause-ending : goal.returns-in_ok-take_two-clause-ending
returns-in_ok-take_two-clause-ending c =
    c.read_unmarked.ensures.ending ∙ c.in_ok-take_two.ensures.ending ∙ c.in_ok-take.ensures.ending

pub returns-in_ok-take_two-clause-shorter : goal.returns-in_ok-take_two-clause-shorter
returns-in_ok-take_two-clause-shorter c =
    call_fewer _ _ c.read_unmarked.result c.read_unmarked.ensures.shorter (and_fewer c.in_ok-take_two.ensures.shorter c.in_ok-take.ensures.shorter)
