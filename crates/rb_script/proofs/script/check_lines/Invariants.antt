use Rattle.std.proofs.Common.{length}
use Rattle.rb_base.specs.Naming.{process_names}
use Rattle.rb_script.proofs.ScriptLines.{ReadUpTo}
use Rattle.rb_script.proofs.script.check_lines.Given as goal

abbrev pub invariant-loop-rest : goal.invariant-loop-rest
invariant-loop-rest l = ReadUpTo (process_names l.names) l.turns l.text l.position l.at l.rest

abbrev pub decreases-loop-rest : goal.decreases-loop-rest
decreases-loop-rest l = length l.rest
