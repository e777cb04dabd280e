-- Slots. A channel with room for n messages has n slots, and message number k lies in slot k modulo n. No recovery point holds
-- them, and a rejection writes none: a message that is undone, or that nobody can ask for any more, leaves its slot as it is.
use Rattle.std.specs.Prelude.{◌≡◌, ◌≤◌, ◌<◌, ◌+◌, ◌%◌, ℕ, ℤ, pos, List, [], replicate, map, slice_get, slice_set, Some}
use Rattle.std.specs.Option.{option_map, unwrap_or}
use Rattle.rb_world.specs.Kind.{Ends, Kind, Want, NothingLeft, SendsOn, ReceivesOn, MayReceiveOn, Enters, Starts, Acts, Stepped, Trapped, Went, Held}
use Rattle.rb_world.specs.World.{Process, World, change_at}
use Rattle.rb_world.specs.Channels.{room_from}

-- the slots of each channel
abbrev pub Slots : Type 0
Slots = List (List ℤ)

-- the size of channel number c
abbrev pub size_on : List Ends → ℕ → ℕ
size_on channels c = unwrap_or (option_map (λ ends. ends.size) (slice_get channels c)) 0

-- the slot that message number n of channel c lies in
abbrev pub slot_of : List Ends → Slots → ℕ → ℕ → ℤ
slot_of channels slots c n = unwrap_or (slice_get (unwrap_or (slice_get slots c) []) (n % size_on channels c)) (pos 0)

-- message number n of channel c is put into its slot
abbrev pub put_slot : List Ends → ℕ → ℕ → ℤ → Slots → Slots
put_slot channels c n v slots = change_at c (λ values. slice_set values (n % size_on channels c) v) slots

-- before the first turn all slots are 0
abbrev pub zero_slots : List Ends → Slots
zero_slots channels = map (λ ends. replicate ends.size (pos 0)) channels

-- a send puts its message, which is the last of those after it, into its slot; nothing else writes a slot
abbrev pub slots_after : {S C M : Type 0} → Kind S C M → M → Want → S → S → Slots → Slots
slots_after k m NothingLeft s later slots = slots
slots_after k m (SendsOn c) s later slots = put_slot k.channels c (k.sent s c) (k.message m later c (k.sent s c)) slots
slots_after k m (ReceivesOn c) s later slots = slots
slots_after k m (MayReceiveOn c) s later slots = slots
slots_after k m (Enters facts) s later slots = slots
slots_after k m Starts s later slots = slots
slots_after k m Acts s later slots = slots

-- what a step comes to, with its slots
abbrev pub stepped_with_slots : {S C M : Type 0} → Kind S C M → S → Slots → Stepped S M → Stepped S (M × Slots)
stepped_with_slots k s slots (Trapped cause) = Trapped cause
stepped_with_slots k s slots (Went later m) = Went later (m, slots_after k m (k.want s) s later slots)
stepped_with_slots k s slots (Held later) = Held later

-- The same kind with slots beside its lists of messages, which are written and never read.
abbrev pub with_slots : {S C M : Type 0} → Kind S C M → Kind S C (M × Slots)
with_slots k = record {
  channels = k.channels;
  groups = k.groups;
  want = k.want;
  settle = k.settle;
  enter = k.enter;
  copy = k.copy;
  restore = k.restore;
  cut = k.cut;
  accept = k.accept;
  step = λ alternate copy s message memory. stepped_with_slots k s memory.1 (k.step alternate copy s message memory.0);
  sent = k.sent;
  taken = k.taken;
  sent_then = k.sent_then;
  taken_then = k.taken_then;
  message = λ memory s c n. k.message memory.0 s c n;
  message_then = λ memory s copy c n. k.message_then memory.0 s copy c n;
  held = k.held;
  release = k.release;
  keep = λ t alternate s memory. ((k.keep t alternate s memory.0).0, ((k.keep t alternate s memory.0).1, memory.1));
}

-- the same, but messages are read from their slots
abbrev pub from_slots : {S C M : Type 0} → Kind S C M → Kind S C (M × Slots)
from_slots k = record (with_slots k) {
  message = λ memory s c n. slot_of k.channels memory.1 c n;
  message_then = λ memory s copy c n. slot_of k.channels memory.1 c n;
}

-- The slots of a channel between two processes: no more messages are sent than its size above the number that room is counted
-- from, and from that number on each lies in its slot.
pub record LieInSlots {S C M : Type 0} (k : Kind S C M) (m : M) (slots : Slots) (c : ℕ) (ends : Ends) (sender receiver : Process S C) : Type 0 where
  pub fit : k.sent sender.state c ≤ ends.size + room_from k receiver.state receiver.levels c
  pub lie : (n : ℕ) → room_from k receiver.state receiver.levels c ≤ n → n < k.sent sender.state c
      → slot_of k.channels slots c n ≡ k.message m sender.state c n

-- the same of every channel of a world
abbrev pub AllLieInSlots : {S C M : Type 0} → Kind S C M → World S C (M × Slots) → Type 0
AllLieInSlots {S} {C} k w = (c : ℕ) (ends : Ends) (sender receiver : Process S C) → slice_get k.channels c ≡ Some ends
    → slice_get w.processes ends.sender ≡ Some sender → slice_get w.processes ends.receiver ≡ Some receiver
    → LieInSlots k w.memory.0 w.memory.1 c ends sender receiver
