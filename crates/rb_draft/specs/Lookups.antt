-- More of what is made of a name by its slot, with defaults: the number of a process, and of a conversation.
use Rattle.std.specs.Prelude.{ℕ, List, Option, Some, None, slice_get}
use Rattle.rb_syntax.specs.Tree.{Identifier}
use Rattle.rb_scope.specs.declared.slot.Slot.{Slot}
use Rattle.rb_scope.specs.declared.slot.Slot.TheVariants as slot

abbrev pub process_in : Option Slot → ℕ
process_in (Some (slot.Process k)) = k
process_in _ = 0

abbrev pub process_of : List Slot → ℕ → ℕ
process_of slots id = process_in (slice_get slots id)

abbrev pub joined_in : Option Slot → ℕ
joined_in (Some (slot.Conversation k)) = k
joined_in _ = 0

-- the number of the conversation that a recovery block is a part of, if it has one
abbrev pub joined_of : List Slot → Option Identifier → Option ℕ
joined_of slots None = None
joined_of slots (Some name) = Some (joined_in (slice_get slots name.id))
