use Rattle.std.proofs.Common.{refl, sym, ap, ◌∙◌}
use Rattle.rb_grammar.proofs.Accepting.Forms.{statement_assignment}
use Rattle.rb_grammar.proofs.Reaching.{begins, by_part, by_terminal, complete, exit_missed, exit_within, same_value}
use Rattle.rb_grammar.specs.Parts.{Part}
use Rattle.rb_grammar.specs.StatementTable.{assignment_after}
use Rattle.rb_syntax.proofs.Bridge.{command_assign}
use Rattle.rb_syntax.specs.Plain.{command, expression, reference}
use Rattle.rb_syntax.specs.Tree.{Assignment}
use Rattle.rb_parse.proofs.Closing.{last_closed, last_missed}
use Rattle.rb_parse.proofs.Shorter.{and_fewer, call_fewer}
use Rattle.rb_parse.proofs.simple_statements.read_assignment.Goals as goal

pub returns-in_err-named-clause-err : goal.returns-in_err-named-clause-err
returns-in_err-named-clause-err c =
    λ edition. exit_within c.from_residual.result c.from_residual.ensures.1 refl
    (begins Part.Place c.args.cursor.now.point assignment_after
    (statement_assignment edition _ c.requires.no_receive c.requires.no_if c.requires.no_while c.requires.no_ensure
    c.requires.no_converse c.requires.no_print c.requires.no_send c.requires.no_call c.requires.no_fail) refl refl)
    c.in_err-named.ensures.err

pub returns-in_err-place-clause-err : goal.returns-in_err-place-clause-err
returns-in_err-place-clause-err c =
    λ edition. exit_missed c.from_residual-in_err-place.result c.from_residual-in_err-place.ensures.1 c.in_ok-named.ensures.ending
    (by_part (begins Part.Place c.args.cursor.now.point assignment_after
    (statement_assignment edition _ c.requires.no_receive c.requires.no_if c.requires.no_while c.requires.no_ensure
    c.requires.no_converse c.requires.no_print c.requires.no_send c.requires.no_call c.requires.no_fail) refl refl)
    c.in_ok-named.ensures.ok) c.in_err-place.ensures.err

pub returns-in_err-value-clause-err : goal.returns-in_err-value-clause-err
returns-in_err-value-clause-err c =
    λ edition. exit_within c.from_residual-in_err-value.result c.from_residual-in_err-value.ensures.1
    (c.in_ok-place.ensures.ending ∙ c.in_ok-named.ensures.ending)
    (by_terminal (by_part (begins Part.Place c.args.cursor.now.point assignment_after
    (statement_assignment edition _ c.requires.no_receive c.requires.no_if c.requires.no_while c.requires.no_ensure
    c.requires.no_converse c.requires.no_print c.requires.no_send c.requires.no_call c.requires.no_fail) refl refl)
    c.in_ok-named.ensures.ok) c.in_ok-place.ensures.taken.1) c.in_err-value.ensures.err

pub returns-clause-err : goal.returns-clause-err
returns-clause-err c =
    λ edition. last_missed _ _ c.closed-2.result
    (c.in_ok-value.ensures.ending ∙ c.in_ok-place.ensures.ending ∙ c.in_ok-named.ensures.ending)
    (by_part (by_terminal (by_part (begins Part.Place c.args.cursor.now.point assignment_after
    (statement_assignment edition _ c.requires.no_receive c.requires.no_if c.requires.no_while c.requires.no_ensure
    c.requires.no_converse c.requires.no_print c.requires.no_send c.requires.no_call c.requires.no_fail) refl refl)
    c.in_ok-named.ensures.ok) c.in_ok-place.ensures.taken.1) c.in_ok-value.ensures.ok) c.closed-2.ensures.err

pub returns-clause-ok : goal.returns-clause-ok
returns-clause-ok c =
    λ edition. last_closed _ c.closed-2.result command _ (λ token taken. same_value
    (ap (λ place. Assignment (reference place) (expression c.in_ok-value.value)) (sym c.in_ok-place.ensures.same) ∙ sym
    (command_assign c.in_ok-place.place c.in_ok-value.value))
    (complete (by_terminal (by_part (by_terminal (by_part (begins Part.Place c.args.cursor.now.point assignment_after
    (statement_assignment edition _ c.requires.no_receive c.requires.no_if c.requires.no_while c.requires.no_ensure
    c.requires.no_converse c.requires.no_print c.requires.no_send c.requires.no_call c.requires.no_fail) refl refl)
    c.in_ok-named.ensures.ok) c.in_ok-place.ensures.taken.1) c.in_ok-value.ensures.ok) taken))) c.closed-2.ensures.same
    c.closed-2.ensures.taken

pub returns-in_err-named-clause-ending : goal.returns-in_err-named-clause-ending
returns-in_err-named-clause-ending c = c.in_err-named.ensures.ending

pub returns-in_err-place-clause-ending : goal.returns-in_err-place-clause-ending
returns-in_err-place-clause-ending c = c.in_err-place.ensures.ending ∙ c.in_ok-named.ensures.ending

pub returns-in_err-value-clause-ending : goal.returns-in_err-value-clause-ending
returns-in_err-value-clause-ending c =
    c.in_err-value.ensures.ending ∙ c.in_ok-place.ensures.ending ∙ c.in_ok-named.ensures.ending

pub returns-clause-ending : goal.returns-clause-ending
returns-clause-ending c =
    c.closed-2.ensures.ending ∙ c.in_ok-value.ensures.ending ∙ c.in_ok-place.ensures.ending ∙ c.in_ok-named.ensures.ending

pub returns-clause-shorter : goal.returns-clause-shorter
returns-clause-shorter c =
    call_fewer _ _ c.closed-2.result c.closed-2.ensures.shorter (and_fewer c.in_ok-value.ensures.shorter (and_fewer c.in_ok-place.ensures.shorter c.in_ok-named.ensures.shorter))
