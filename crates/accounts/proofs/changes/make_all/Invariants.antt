use Rattle.accounts.specs.Same.{SameCopies}
use Rattle.accounts.proofs.changes.make_all.Given as goal

abbrev pub invariant-loop-change : goal.invariant-loop-change
invariant-loop-change g l = SameCopies l.initial.words l.initial.cache l.words l.cache
