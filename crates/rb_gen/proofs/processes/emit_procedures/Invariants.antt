use Rattle.std.proofs.Common.{length, map}
use Rattle.rb_syntax.specs.Plain.{procedure_declaration}
use Rattle.rb_code.specs.Instructions.Plain.{procedure}
use Rattle.rb_draft.specs.Output.{output}
use Rattle.rb_gen.proofs.ProcessRows.{CompletesProcedures}
use Rattle.rb_gen.proofs.processes.emit_procedures.Given as goal

abbrev pub invariant-procedures : goal.invariant-procedures
invariant-procedures l =
    CompletesProcedures l.slots l.words (map procedure_declaration l.fn.procedures) (map procedure_declaration l.rest)
    (map procedure l.entries.items) (output l.fn.draft) (output l.draft)

abbrev pub decreases-procedures : goal.decreases-procedures
decreases-procedures l = length l.rest
