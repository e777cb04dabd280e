use Rattle.std.proofs.Common.{◌≡◌}
use Rattle.rb_meaning.specs.Value.{counter_of}
use Rattle.rb_walk.specs.Counters.{counted}
use Rattle.rb_walk.proofs.counter.Counters.get.Given as goal

abbrev pub invariant-loop-rest : goal.invariant-loop-rest
invariant-loop-rest l = counter_of (counted l.rest) l.name ≡ counter_of (counted l.initial.rest) l.name
