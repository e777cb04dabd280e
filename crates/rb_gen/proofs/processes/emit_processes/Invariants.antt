use Rattle.std.proofs.Common.{length, map}
use Rattle.rb_syntax.specs.Plain.{process_declaration}
use Rattle.rb_code.specs.Instructions.Plain.{channel, part}
use Rattle.rb_draft.specs.Output.{output}
use Rattle.rb_gen.proofs.ProcessRows.{CompletesProcesses}
use Rattle.rb_gen.proofs.processes.emit_processes.Given as goal

abbrev pub invariant-processes : goal.invariant-processes
invariant-processes l =
    CompletesProcesses l.slots (map channel l.channels) (map process_declaration l.fn.processes) l.number
    (map process_declaration l.rest) (map part l.parts.items)
    (output l.fn.draft) (output l.draft)

abbrev pub decreases-processes : goal.decreases-processes
decreases-processes l = length l.rest
