-- What a receiver can see, and how much room a sender has. A message which recovery may take back is not yet seen outside,
-- and a receipt which recovery may undo frees no room; inside a conversation messages pass between its members at once
-- (Randell 1975).
use Rattle.std.specs.Prelude.{ℕ, ℤ, ◌+◌, nat_lt, Bool, false, cond, List, [], ◌∷◌, slice_get, Option, Some, None}
use Rattle.rb_world.specs.Kind.{Ends, Kind}
use Rattle.rb_world.specs.World.{Level, Process, World, is_shared}

-- The recovery point of the sender's first level that it does not share with the receiver; levels are shared as far as
-- they are, from the outside in, of the same conversations. None is the present state.
abbrev pub seen_copy : {C : Type 0} → List (Level C) → List (Level C) → Option C
seen_copy [] ms = None
seen_copy (l ∷ ls) [] = Some l.copy
seen_copy (l ∷ ls) (m ∷ ms) = cond (is_shared l.facts.conversation m.facts.conversation) (seen_copy ls ms) (Some l.copy)

-- how many messages are seen, in the present or in a recovery point, and one of them
abbrev pub seen_count : {S C M : Type 0} → Kind S C M → S → Option C → ℕ → ℕ
seen_count k s None c = k.sent s c
seen_count k s (Some copy) c = k.sent_then s copy c

-- message number n of a channel, as it stands in the present or in a recovery point
abbrev pub seen_message : {S C M : Type 0} → Kind S C M → M → S → Option C → ℕ → ℕ → ℤ
seen_message k memory s None c n = k.message memory s c n
seen_message k memory s (Some copy) c n = k.message_then memory s copy c n

-- the number taken that room is counted from: that of the outermost recovery point, or the present one without a level
abbrev pub room_from : {S C M : Type 0} → Kind S C M → S → List (Level C) → ℕ → ℕ
room_from k s [] c = k.taken s c
room_from k s (l ∷ ls) c = k.taken_then s l.copy c

-- there is room while the present list is less than `size` longer than that number
abbrev pub has_room_for : {S C M : Type 0} → Kind S C M → ℕ → Ends → Option (Process S C) → Option (Process S C) → Bool
has_room_for k c ends None q = false
has_room_for k c ends (Some p) None = false
has_room_for k c ends (Some p) (Some q) = nat_lt (k.sent p.state c) (ends.size + room_from k q.state q.levels c)

-- whether a channel with these ends has room in a world
abbrev pub has_room_on : {S C M : Type 0} → Kind S C M → World S C M → ℕ → Option Ends → Bool
has_room_on k w c None = false
has_room_on k w c (Some ends) = has_room_for k c ends (slice_get w.processes ends.sender) (slice_get w.processes ends.receiver)

-- whether a send on channel number c has room
abbrev pub has_room : {S C M : Type 0} → Kind S C M → World S C M → ℕ → Bool
has_room k w c = has_room_on k w c (slice_get k.channels c)

-- the first message that is seen and was not taken, if there is one
abbrev pub first_message : {S C M : Type 0} → Kind S C M → M → ℕ → S → Option C → ℕ → Option ℤ
first_message k memory c s copy taken =
    cond (nat_lt taken (seen_count k s copy c)) (Some (seen_message k memory s copy c taken)) None

-- the first message that a receiver sees of a sender and did not take; none where one of the two is missing
abbrev pub message_between : {S C M : Type 0} → Kind S C M → M → ℕ → Option (Process S C) → Option (Process S C) → Option ℤ
message_between k memory c None q = None
message_between k memory c (Some p) None = None
message_between k memory c (Some p) (Some q) =
    first_message k memory c p.state (seen_copy p.levels q.levels) (k.taken q.state c)

-- the message that is there on a channel with these ends
abbrev pub message_on : {S C M : Type 0} → Kind S C M → World S C M → ℕ → Option Ends → Option ℤ
message_on k w c None = None
message_on k w c (Some ends) =
    message_between k w.memory c (slice_get w.processes ends.sender) (slice_get w.processes ends.receiver)

-- the message that is there for the receiver of a channel
abbrev pub message_there : {S C M : Type 0} → Kind S C M → World S C M → ℕ → Option ℤ
message_there k w c = message_on k w c (slice_get k.channels c)
