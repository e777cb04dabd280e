use Rattle.std.proofs.Common.{refl, sym, ◌∙◌}
use Rattle.rb_grammar.proofs.Reaching.{by_part, by_terminal, complete, exit_sure, exit_within, last_start, same_value, starts}
use Rattle.rb_syntax.proofs.Bridge.{command_print}
use Rattle.rb_syntax.specs.Plain.{command}
use Rattle.rb_parse.proofs.Closing.{last_closed, last_missed}
use Rattle.rb_parse.proofs.Shorter.{and_fewer, call_fewer}
use Rattle.rb_parse.proofs.simple_statements.read_print.Goals as goal

pub returns-in_err-take-clause-err : goal.returns-in_err-take-clause-err
returns-in_err-take-clause-err c =
    λ edition. exit_sure _ c.from_residual.result c.from_residual.ensures.1 refl c.requires (last_start _ refl) c.in_err-take.ensures.err

pub returns-in_err-items-clause-err : goal.returns-in_err-items-clause-err
returns-in_err-items-clause-err c =
    λ edition. exit_within c.from_residual-in_err-items.result c.from_residual-in_err-items.ensures.1 c.in_ok-take.ensures.ending
    (starts _ refl c.in_ok-take.ensures.ok) c.in_err-items.ensures.err

pub returns-clause-err : goal.returns-clause-err
returns-clause-err c =
    λ edition. last_missed _ _ c.closed.result
    (c.in_ok-items.ensures.ending ∙ c.in_ok-take.ensures.ending)
    (by_part (starts _ refl c.in_ok-take.ensures.ok) c.in_ok-items.ensures.ok) c.closed.ensures.err

pub returns-clause-ok : goal.returns-clause-ok
returns-clause-ok c =
    λ edition. last_closed _ c.closed.result command _ (λ token taken. same_value (sym (command_print c.in_ok-items.items))
    (complete (by_terminal (by_part (starts _ refl c.in_ok-take.ensures.ok) c.in_ok-items.ensures.ok) taken)))
    c.closed.ensures.same c.closed.ensures.taken

pub returns-in_err-take-clause-ending : goal.returns-in_err-take-clause-ending
returns-in_err-take-clause-ending c = c.in_err-take.ensures.ending

pub returns-in_err-items-clause-ending : goal.returns-in_err-items-clause-ending
returns-in_err-items-clause-ending c = c.in_err-items.ensures.ending ∙ c.in_ok-take.ensures.ending

pub returns-clause-ending : goal.returns-clause-ending
returns-clause-ending c = c.closed.ensures.ending ∙ c.in_ok-items.ensures.ending ∙ c.in_ok-take.ensures.ending

pub returns-clause-shorter : goal.returns-clause-shorter
returns-clause-shorter c =
    call_fewer _ _ c.closed.result c.closed.ensures.shorter (and_fewer c.in_ok-items.ensures.shorter c.in_ok-take.ensures.shorter)
