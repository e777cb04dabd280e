use Rattle.std.proofs.Common.{◌≡◌, drop}
use Rattle.std.specs.List.{list_all}
use Rattle.rb_stuck.specs.Stuck.{has_ended}
use Rattle.rb_stuck.proofs.surveying.have_ended.Given as goal

-- all before this one have ended
abbrev pub invariant-loop-p : goal.invariant-loop-p
invariant-loop-p g l = list_all has_ended l.machine.world.processes ≡ list_all has_ended (drop l.p l.machine.world.processes)
