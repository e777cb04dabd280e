-- Slots for trees: each message that may still be asked for lies in its slot, and slots may be read in place of lists.
use Rattle.std.proofs.Common.{◌≡◌, ℕ, ℤ, zero, suc, List, [], length, replicate, slice_get, unwrap_or, refl}
use Rattle.rb_syntax.specs.Tree.{Tree}
use Rattle.rb_world.specs.Slots.{zero_slots}
use Rattle.rb_world.proofs.Slots.SlotsTheorem.{OpensWithSlots, slots_read, slots_stand, slots_unseen}
use Rattle.rb_meaning.specs.Groups.{channels_of}
use Rattle.rb_meaning.specs.Meaning.{opening_states, sent_on, tree_kind}
use Rattle.rb_meaning.specs.Nesting.{IsNested}
use Rattle.rb_meaning.specs.Laws.{SlotsAreRead, SlotsAreUnseen, SlotsHoldMessages}
use Rattle.rb_meaning.proofs.Knowing.KnownOfProcess.{Known}
use Rattle.rb_meaning.proofs.Knowing.KnownIsKept.{known_kept}
use Rattle.rb_meaning.proofs.Nesting.NestedProgram.{known_opening, procedures_kept}
use Rattle.rb_meaning.proofs.Trees.TreeErasable.{erasable}
use Rattle.rb_meaning.proofs.Trees.TreeErasure.{each_opening}
use Rattle.rb_meaning.proofs.Trees.TreeParts.{parts_of}

abbrev nothing : {A : Type 0} → List A
nothing = []

none_sent : (n c : ℕ) → length (unwrap_or (slice_get (replicate n (nothing {A = ℤ})) c) []) ≡ zero
none_sent zero c = refl
none_sent (suc n) zero = refl
none_sent (suc n) (suc c) = none_sent n c

pub opens_with_slots : (tree : Tree) → IsNested tree → OpensWithSlots (parts_of tree) (Known tree) (opening_states tree 0 tree.processes)
opens_with_slots tree nested = record {
  known = known_opening tree nested;
  held = each_opening tree (λ s. s.held ≡ []) (λ n process. refl) 0 tree.processes;
  sent = each_opening tree (λ s. (c : ℕ) → length (sent_on s c) ≡ 0) (λ n process c. none_sent _ c) 0 tree.processes;
}

-- slots beside the messages change nothing that is told
pub slots_are_unseen : SlotsAreUnseen
slots_are_unseen tree turns = slots_unseen (tree_kind tree) turns (opening_states tree 0 tree.processes) tt (zero_slots (channels_of tree))

-- each message that may still be asked for lies in its slot
pub slots_hold_messages : SlotsHoldMessages
slots_hold_messages tree nested turns =
    slots_stand (known_kept tree (procedures_kept tree nested)) (erasable tree) (opens_with_slots tree nested) turns

-- a run that reads messages from their slots is the same
pub slots_are_read : SlotsAreRead
slots_are_read tree nested turns = slots_read (known_kept tree (procedures_kept tree nested)) (erasable tree) (opens_with_slots tree nested) turns
