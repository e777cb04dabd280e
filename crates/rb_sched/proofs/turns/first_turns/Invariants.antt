use Rattle.std.proofs.Common.{[], length}
use Rattle.rb_base.specs.Naming.{process_names}
use Rattle.rb_sched.specs.Walk.{GoesOn}
use Rattle.rb_sched.proofs.turns.first_turns.Given as goal

abbrev pub invariant-loop-rest : goal.invariant-loop-rest
invariant-loop-rest l = GoesOn (process_names l.names) l.text [] l.rest

abbrev pub decreases-loop-rest : goal.decreases-loop-rest
decreases-loop-rest l = length l.rest
