-- What the frames of an environment in memory stand for.
use Rattle.std.specs.Prelude.{ℕ, ℤ, ◌-◌, nat_le, cond, List, map, reverse, slice_set, Option, Some, None}
use Rattle.rb_meaning.specs.Environment.{Stored, Frame}
use Rattle.rb_walk.specs.declared.frames.Slot.{Slot}
use Rattle.rb_walk.specs.declared.frames.Call.{Call}

-- a variable in memory
abbrev pub stored : Slot → Stored
stored slot = record { name = slot.name.now; values = slot.values.items }

-- a frame in memory
abbrev pub frame : List Slot → Frame
frame slots = map stored slots

-- the frames of a call in memory, which keeps the innermost last
abbrev pub frames_of : Call → List Frame
frames_of call = reverse (map (λ slots. frame slots.items) call.frames.items)

-- the frames of all calls in memory, which keeps the running call last
abbrev pub calls_of : List Call → List (List Frame)
calls_of calls = reverse (map frames_of calls)

-- a number of a variable is replaced
abbrev pub changed : Stored → ℕ → ℤ → Stored
changed stored i v = record { name = stored.name; values = slice_set stored.values i v }

-- what is left of so many words once these were taken; none where these are more
abbrev pub left_of : ℕ → ℕ → Option ℕ
left_of most taken = cond (nat_le taken most) (Some (most - taken)) None
