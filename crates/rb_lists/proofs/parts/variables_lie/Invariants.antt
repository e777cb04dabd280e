use Rattle.std.proofs.Common.{◌↔◌, length, map}
use Rattle.rb_code.specs.Instructions.Plain.{part as plain_part}
use Rattle.rb_lists.specs.Variables.{LieInParts}
use Rattle.rb_lists.proofs.parts.variables_lie.Given as goal

abbrev pub invariant-processes : goal.invariant-processes
invariant-processes l = LieInParts l.fn.names (map plain_part l.fn.processes) ↔ LieInParts l.left (map plain_part l.parts)

abbrev pub decreases-processes : goal.decreases-processes
decreases-processes l = length l.left
