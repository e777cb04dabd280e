-- What code is made of a name, by the slot that its number has. A name whose slot is of another kind gets a default; where names are
-- resolved none has.
use Rattle.std.specs.Prelude.{ℕ, List, Option, Some, None, slice_get}
use Rattle.rb_scope.specs.declared.slot.Slot.{Slot}
use Rattle.rb_scope.specs.declared.slot.Slot.TheVariants as slot
use Rattle.rb_code.specs.declared.instr.Spot.{Spot}
use Rattle.rb_code.specs.declared.instr.Spot.TheVariants as spots

-- the first word of a variable
abbrev pub spot_in : Option Slot → Spot
spot_in (Some (slot.Global at size)) = spots.Global at
spot_in (Some (slot.Local at size)) = spots.Local at
spot_in _ = spots.Global 0

abbrev pub spot_of : List Slot → ℕ → Spot
spot_of slots id = spot_in (slice_get slots id)

-- how many elements an array has
abbrev pub elements_or_none : Option ℕ → ℕ
elements_or_none None = 0
elements_or_none (Some n) = n

abbrev pub elements_in : Option Slot → ℕ
elements_in (Some (slot.Global at size)) = elements_or_none size
elements_in (Some (slot.Local at size)) = elements_or_none size
elements_in _ = 0

abbrev pub elements_of : List Slot → ℕ → ℕ
elements_of slots id = elements_in (slice_get slots id)

-- the counter that a name stands for, if it is that of a quantified expression
abbrev pub counter_in : Option Slot → Option ℕ
counter_in (Some (slot.Counter k)) = Some k
counter_in _ = None

abbrev pub counter_of : List Slot → ℕ → Option ℕ
counter_of slots id = counter_in (slice_get slots id)

-- the number of a channel, and of a procedure in its process
abbrev pub channel_in : Option Slot → ℕ
channel_in (Some (slot.Channel k)) = k
channel_in _ = 0

abbrev pub channel_of : List Slot → ℕ → ℕ
channel_of slots id = channel_in (slice_get slots id)

abbrev pub procedure_in : Option Slot → ℕ
procedure_in (Some (slot.Procedure k)) = k
procedure_in _ = 0

abbrev pub procedure_of : List Slot → ℕ → ℕ
procedure_of slots id = procedure_in (slice_get slots id)

-- the counter of a quantified expression
abbrev pub quantified_in : Option Slot → ℕ
quantified_in (Some (slot.Counter k)) = k
quantified_in _ = 0

abbrev pub quantified_of : List Slot → ℕ → ℕ
quantified_of slots id = quantified_in (slice_get slots id)
