use Rattle.std.proofs.Common.{refl, arith}
use Rattle.rb_grammar.proofs.Reaching.{by_terminal, complete, exit_first, exit_missed, starts}
use Rattle.rb_grammar.proofs.Receipts.{no_other_alternate}
use Rattle.rb_grammar.specs.Parts.{Part}
use Rattle.rb_grammar.proofs.endings.read_no_alternate.Goals as goal

pub returns-in_err-take-clause-err : goal.returns-in_err-take-clause-err
returns-in_err-take-clause-err c =
    λ edition.
    exit_first (Part.OtherAlternates edition) _ refl (no_other_alternate edition _ c.requires) refl c.from_residual.result
    c.from_residual.ensures.1 refl c.in_err-take.ensures.err

pub returns-in_err-take-2-clause-err : goal.returns-in_err-take-2-clause-err
returns-in_err-take-2-clause-err c =
    λ edition.
    exit_missed c.from_residual-in_err-take-2.result c.from_residual-in_err-take-2.ensures.1 c.in_ok-take.ensures.ending
    (starts _ refl c.in_ok-take.ensures.ok) c.in_err-take-2.ensures.err

pub returns-clause-ok : goal.returns-clause-ok
returns-clause-ok c =
    λ edition. complete (by_terminal (starts _ refl c.in_ok-take.ensures.ok) c.in_ok-take-2.ensures.ok)

pub returns-clause-shorter : goal.returns-clause-shorter
returns-clause-shorter c = omega (arith, c.in_ok-take.ensures.shorter, c.in_ok-take-2.ensures.shorter)
