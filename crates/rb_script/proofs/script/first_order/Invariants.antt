use Rattle.std.proofs.Common.{length}
use Rattle.rb_base.specs.Naming.{process_names}
use Rattle.rb_script.proofs.ScriptLines.{WalkedTo}
use Rattle.rb_script.proofs.script.first_order.Given as goal

abbrev pub invariant-loop-rest : goal.invariant-loop-rest
invariant-loop-rest l = WalkedTo (process_names l.names) l.turns l.initial.position l.text l.position l.rest

abbrev pub decreases-loop-rest : goal.decreases-loop-rest
decreases-loop-rest l = length l.rest
