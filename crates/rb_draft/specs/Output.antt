-- The code so far, with lists in place of vectors. A call that is not linked yet has its procedure's number in place of an address.
use Rattle.std.specs.Prelude.{ℕ, Bool, true, false, List, [], ◌∷◌, ◌++◌, map, slice_get, slice_set, option_map}
use Rattle.std.specs.Option.{unwrap_or}
use Rattle.rb_code.specs.Instructions.Plain.{Block, Code, Procedure, block}
use Rattle.rb_code.specs.WordMachine.Workspace.{part_of}
use Rattle.rb_code.specs.declared.instr.Instr.{Instr}
use Rattle.rb_code.specs.declared.instr.Instr.TheVariants.{Call, Text}
use Rattle.rb_draft.specs.declared.draft.Draft.{Draft}

-- the code so far: an entry of the list of recovery blocks is settled once the block's code is there
pub record Output : Type 0 where
  pub instrs : List Instr
  pub texts : List (List ℕ)
  pub blocks : List Block

abbrev pub output : Draft → Output
output draft = record { instrs = draft.instrs.items; texts = draft.texts.items; blocks = map block draft.blocks.items }

-- the first address of one of these procedures, by its number
abbrev pub start_among : List Procedure → ℕ → ℕ
start_among procedures number = unwrap_or (option_map (λ one. one.start) (slice_get procedures number)) 0

-- an instruction, where a call has the address of one of these procedures in place of its number
abbrev pub linked_to : List Procedure → Instr → Instr
linked_to procedures (Call number arguments words) = Call (start_among procedures number) arguments words
linked_to procedures other = other

-- an instruction of process number p as it stands in the whole code; and one that is linked already
abbrev pub linked : ℕ → Code → Instr → Instr
linked p whole = linked_to (part_of whole p).procedures

abbrev pub as_it_is : Code → Instr → Instr
as_it_is whole instr = instr

-- an instruction that names a text
abbrev pub is_text : Instr → Bool
is_text (Text k) = true
is_text other = false

-- with one more instruction
abbrev pub added : Instr → Output → Output
added instr o = record { instrs = o.instrs ++ (instr ∷ []); texts = o.texts; blocks = o.blocks }

-- with another instruction at an address
abbrev pub patched : Output → ℕ → Instr → Output
patched o at instr = record { instrs = slice_set o.instrs at instr; texts = o.texts; blocks = o.blocks }

-- with one instruction at several addresses
abbrev pub filled_with : List ℕ → Instr → Output → Output
filled_with [] instr o = o
filled_with (at ∷ others) instr o = filled_with others instr (patched o at instr)

-- with the entry of a recovery block
abbrev pub settled : Output → ℕ → Block → Output
settled o number entry = record { instrs = o.instrs; texts = o.texts; blocks = slice_set o.blocks number entry }
