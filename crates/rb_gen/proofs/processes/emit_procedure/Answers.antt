use Rattle.std.proofs.Common.{List, ℕ, ap₂, refl}
use Rattle.rb_code.specs.Instructions.Plain.{Procedure}
use Rattle.rb_draft.specs.Output.{output}
use Rattle.rb_gen.proofs.ProcessRows.{same_commands}
use Rattle.rb_gen.proofs.processes.emit_procedure.Goals as goal

pub returns : goal.returns
returns c =
    let entry : List ℕ → ℕ → Procedure = λ name start. record { name = name; start = start } in (
      output c.emit_statements.new.draft,
      same_commands c.args.slots.now refl c.deref.ensures.value c.in_ok-emit_statements.ensures,
      c.in_ok-put.ensures refl,
      ap₂ entry c.in_ok-name.ensures c.in_ok-start.ensures,
    )
