-- What is left to settle settles to the same.
use Rattle.std.proofs.Common.{◌≡◌, length}
use Rattle.rb_meaning.specs.State.{settle}
use Rattle.rb_walk.specs.States.{state_of}
use Rattle.rb_walk.proofs.state.State.settle.Given as goal

abbrev pub invariant-ends : goal.invariant-ends
invariant-ends l = settle (state_of l.self) ≡ settle (state_of l.initial.self)

abbrev pub decreases-ends : goal.decreases-ends
decreases-ends l = length (state_of l.self).items
