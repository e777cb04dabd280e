-- A script on its walk: the orders of the text that is left.
use Rattle.std.specs.Prelude.{ℕ, List, [], Result, Ok, Err}
use Rattle.std.specs.Result.{IsOk}
use Rattle.rb_base.specs.declared.fault.TextFault.{TextFault}
use Rattle.rb_sched.specs.Schedule.{lines_of}
use Rattle.rb_script.specs.declared.order.Order.{Order}
use Rattle.rb_script.specs.Script.{orders_of}

-- the orders of a text that has no fault
abbrev pub orders_in : Result (List Order) TextFault → List Order
orders_in (Ok orders) = orders
orders_in (Err fault) = []

-- the orders of a text that is left, from a position
abbrev pub orders_left : List (List ℕ) → ℕ → ℕ → List ℕ → List Order
orders_left names turns position rest = orders_in (orders_of names turns position 1 (lines_of rest))

-- such a text has no fault
abbrev pub IsFaultless : List (List ℕ) → ℕ → ℕ → List ℕ → Type 0
IsFaultless names turns position rest = IsOk (orders_of names turns position 1 (lines_of rest))
