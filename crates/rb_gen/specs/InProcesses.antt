-- What a procedure in memory adds to the draft, with its entry.
use Rattle.std.specs.Prelude.{◌≡◌, ℕ, List, length}
use Rattle.rb_syntax.specs.declared.program.Procedure.{Procedure as Held}
use Rattle.rb_syntax.specs.Plain.{commands_of}
use Rattle.rb_scope.specs.declared.slot.Slot.{Slot}
use Rattle.rb_code.specs.Instructions.Plain.{Procedure}
use Rattle.rb_code.specs.Agreement.Template.{One}
use Rattle.rb_code.specs.declared.instr.Instr.TheVariants.{Return}
use Rattle.rb_draft.specs.Output.{Output}
use Rattle.rb_draft.specs.Emits.{Adds}
use Rattle.rb_gen.specs.Writes.{WritesCommands}

abbrev pub WritesProcedure : List Slot → List ℕ → Held → Procedure → Output → Output → Type 0
WritesProcedure slots words held entry old new =
    (d : Output) × WritesCommands slots words (commands_of held.block.body.items) old d × Adds (One Return) d new
    × (entry ≡ record { name = held.name.text.now; start = length old.instrs })
