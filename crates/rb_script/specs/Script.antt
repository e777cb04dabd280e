-- Sessions: a text that steps forth and back over the turns of a schedule, and its first fault. The form of the text is this project's own,
-- as is all that this crate defines; its lines and their words are those of schedules.
use Rattle.std.specs.Prelude.{◌≡◌, ℕ, ◌+◌, ◌-◌, ◌≤◌, ◌<◌, nat_eq, nat_le, Bool, ◌&&◌, cond, List, [], ◌∷◌, codes, Option, Some, None, Result, Ok, Err}
use Rattle.std.specs.Cmp.Lexicographic.{pointwise}
use Rattle.rb_base.specs.declared.fault.TextFault.{TextFault}
use Rattle.rb_base.specs.declared.fault.FaultName.{FaultName}
use Rattle.rb_base.specs.declared.fault.FaultName.TheVariants.{B1, B2, B3}
use Rattle.rb_base.specs.Bytes.{is_name, is_number, digits_value}
use Rattle.rb_base.specs.Naming.{first_named}
use Rattle.rb_sched.specs.Schedule.{lines_of, words_of}
use Rattle.rb_script.specs.declared.order.Order.{Order}
use Rattle.rb_script.specs.declared.order.Order.TheVariants.{Forth, Back, Show}
use Rattle.rb_script.specs.declared.order.TheConstants.{MOST_STEPS}

-- a number of turns that a line may ask for
abbrev pub is_count : ℕ → Bool
is_count n = nat_le 1 n && nat_le n MOST_STEPS

abbrev pub counted : List ℕ → Result ℕ FaultName
counted word = cond (is_number word && is_count (digits_value 0 word)) (Ok (digits_value 0 word)) (Err B1)

-- the process of this name
abbrev pub known : Option ℕ → Result ℕ FaultName
known None = Err B2
known (Some p) = Ok p

abbrev pub process_named : List (List ℕ) → List ℕ → Result ℕ FaultName
process_named names word = cond (is_name word) (known (first_named names word)) (Err B1)

-- a line asks this of a number, unless that is a fault
abbrev pub asks : (ℕ → Order) → Result ℕ FaultName → Result (Option Order) FaultName
asks order (Ok n) = Ok (Some (order n))
asks order (Err name) = Err name

-- what a line of two words asks for
abbrev pub order_by : List (List ℕ) → List ℕ → List ℕ → Result (Option Order) FaultName
order_by names verb word =
    cond (pointwise nat_eq (codes "step") verb) (asks Forth (counted word))
    (cond (pointwise nat_eq (codes "back") verb) (asks Back (counted word))
    (cond (pointwise nat_eq (codes "show") verb) (asks Show (process_named names word))
    (Err B1)))

-- what a line asks for, if it isn't empty, or its fault with the least number, wherever it stands
abbrev pub order_of_words : List (List ℕ) → List (List ℕ) → Result (Option Order) FaultName
order_of_words names [] = Ok None
order_of_words names (verb ∷ []) = Err B1
order_of_words names (verb ∷ word ∷ []) = order_by names verb word
order_of_words names (verb ∷ word ∷ more ∷ words) = Err B1

-- the position that an order leads to, unless that is past the last turn or before the first
abbrev pub position_after : ℕ → ℕ → Order → Option ℕ
position_after turns position (Forth n) = cond (nat_le (position + n) turns) (Some (position + n)) None
position_after turns position (Back n) = cond (nat_le n position) (Some (position - n)) None
position_after turns position (Show p) = Some position

-- an order with the position that it leads to
abbrev pub leads : Order → Option ℕ → Result (Option Order × ℕ) FaultName
leads order None = Err B3
leads order (Some position) = Ok (Some order, position)

abbrev pub followed : ℕ → ℕ → Result (Option Order) FaultName → Result (Option Order × ℕ) FaultName
followed turns position (Ok None) = Ok (None, position)
followed turns position (Ok (Some order)) = leads order (position_after turns position order)
followed turns position (Err name) = Err name

-- what a line asks for and where it leads, from a position among so many turns, or its fault with the least number
abbrev pub line_read : List (List ℕ) → ℕ → ℕ → List ℕ → Result (Option Order × ℕ) FaultName
line_read names turns position line = followed turns position (order_of_words names (words_of line))

-- the order of a line in front of those of the lines after it
abbrev pub in_front : Option Order → Result (List Order) TextFault → Result (List Order) TextFault
in_front None others = others
in_front (Some order) (Ok others) = Ok (order ∷ others)
in_front (Some order) (Err fault) = Err fault

-- goes on after a line, unless it has a fault, which stands at its number
abbrev pub after_line : Result (Option Order × ℕ) FaultName → ℕ → (ℕ → Result (List Order) TextFault) → Result (List Order) TextFault
after_line (Ok (order, position)) at others = in_front order (others position)
after_line (Err name) at others = Err (record { name = name; at = at })

-- the orders of the lines from this number on, from a position among so many turns; or the first fault
abbrev pub orders_of : List (List ℕ) → ℕ → ℕ → ℕ → List (List ℕ) → Result (List Order) TextFault
orders_of names turns position at [] = Ok []
orders_of names turns position at (line ∷ lines) =
    after_line (line_read names turns position line) at (λ later. orders_of names turns later (at + 1) lines)

-- the orders that a text gives, over so many turns, or its first fault
abbrev pub script_of : List (List ℕ) → ℕ → List ℕ → Result (List Order) TextFault
script_of names turns text = orders_of names turns 0 1 (lines_of text)

-- Orders that can be followed from a position: none leads past the last turn or before the first, and each that shows a process names one
-- of so many.
abbrev pub CanFollow : ℕ → ℕ → ℕ → List Order → Type 0
CanFollow processes turns position [] = Unit {0}
CanFollow processes turns position (Forth n ∷ orders) = (position + n ≤ turns) × CanFollow processes turns (position + n) orders
CanFollow processes turns position (Back n ∷ orders) = (n ≤ position) × CanFollow processes turns (position - n) orders
CanFollow processes turns position (Show p ∷ orders) = (p < processes) × CanFollow processes turns position orders

-- the next order is taken off, until none is left
abbrev pub TakesOrder : List Order → Option Order → List Order → Type 0
TakesOrder old None new = (old ≡ []) × (new ≡ [])
TakesOrder old (Some order) new = old ≡ order ∷ new
