use Rattle.std.proofs.Common.{None, refl, sym, ◌∙◌}
use Rattle.rb_grammar.proofs.Reaching.{by_part, by_terminal, complete, exit_sure, exit_within, last_start, passes, starts}
use Rattle.rb_grammar.proofs.Accepting.Starts.{no_size}
use Rattle.rb_parse.proofs.Closing.{last_closed, last_missed}
use Rattle.rb_parse.proofs.Shorter.{and_fewer, call_at_most}
use Rattle.rb_parse.proofs.declarations.read_size.Goals as goal

pub returns-in_err-take-clause-err : goal.returns-in_err-take-clause-err
returns-in_err-take-clause-err c =
    exit_sure _ c.from_residual.result c.from_residual.ensures.1 refl (sym c.if-stands_at.ensures) (last_start _ refl) c.in_err-take.ensures.err

pub returns-in_err-size-clause-err : goal.returns-in_err-size-clause-err
returns-in_err-size-clause-err c =
    exit_within c.from_residual-in_err-size.result c.from_residual-in_err-size.ensures.1 c.in_ok-take.ensures.ending
    (starts _ refl c.in_ok-take.ensures.ok) c.in_err-size.ensures.err

pub returns-in_ok-size-clause-err : goal.returns-in_ok-size-clause-err
returns-in_ok-size-clause-err c =
    last_missed _ _ c.closed.result (c.in_ok-size.ensures.ending ∙ c.in_ok-take.ensures.ending)
    (by_part (starts _ refl c.in_ok-take.ensures.ok) c.in_ok-size.ensures.ok) c.closed.ensures.err

pub returns-in_ok-size-clause-ok : goal.returns-in_ok-size-clause-ok
returns-in_ok-size-clause-ok c =
    last_closed _ c.closed.result (λ size. size) _
    (λ token taken. complete (by_terminal (by_part (starts _ refl c.in_ok-take.ensures.ok) c.in_ok-size.ensures.ok) taken))
    c.closed.ensures.same c.closed.ensures.taken

pub returns-else-stands_at-clause-ok : goal.returns-else-stands_at-clause-ok
returns-else-stands_at-clause-ok c =
    passes None _ (no_size _ (sym c.if-stands_at.ensures)) refl

pub returns-in_err-take-clause-ending : goal.returns-in_err-take-clause-ending
returns-in_err-take-clause-ending c = c.in_err-take.ensures.ending

pub returns-in_err-size-clause-ending : goal.returns-in_err-size-clause-ending
returns-in_err-size-clause-ending c = c.in_err-size.ensures.ending ∙ c.in_ok-take.ensures.ending

pub returns-in_ok-size-clause-ending : goal.returns-in_ok-size-clause-ending
returns-in_ok-size-clause-ending c =
    c.closed.ensures.ending ∙ c.in_ok-size.ensures.ending ∙ c.in_ok-take.ensures.ending

pub returns-in_ok-size-clause-shorter : goal.returns-in_ok-size-clause-shorter
returns-in_ok-size-clause-shorter c =
    call_at_most _ _ c.closed.result c.closed.ensures.shorter (and_fewer c.in_ok-size.ensures.shorter c.in_ok-take.ensures.shorter)
