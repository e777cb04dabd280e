-- Records: a text that lists kept turns, a line a turn, with the alternate of a start; and its first fault. The form of the text is
-- this project's own.
use Rattle.std.specs.Prelude.{ℕ, ◌+◌, nat_le, nat_lt, Bool, ◌&&◌, cond, List, [], ◌∷◌, Option, Some, None, Result, Ok, Err}
use Rattle.rb_base.specs.declared.fault.TextFault.{TextFault}
use Rattle.rb_base.specs.declared.fault.FaultName.{FaultName}
use Rattle.rb_base.specs.declared.fault.FaultName.TheVariants.{V1, V2, V3}
use Rattle.rb_base.specs.declared.limits.TheConstants.{MOST_TURNS}
use Rattle.rb_base.specs.Bytes.{is_name, is_number, digits_value}
use Rattle.rb_base.specs.Naming.{first_named}
use Rattle.rb_sched.specs.Schedule.{lines_of, words_of}
use Rattle.rb_base.specs.declared.kept.Kept.{Kept}

-- digits whose number lies from 1 to the greatest that turns and alternates may have
abbrev pub is_counted : List ℕ → Bool
is_counted word = is_number word && (nat_lt 0 (digits_value 0 word) && nat_le (digits_value 0 word) MOST_TURNS)

-- the kept turn of a known process, which is above the turn before it, if there is one
abbrev pub kept_after : ℕ → ℕ → Option ℕ → ℕ → Result (Option Kept) FaultName
kept_after before turn None alternate = Err V2
kept_after before turn (Some p) alternate =
    cond (nat_lt before turn) (Ok (Some (record { turn = turn; process = p; alternate = alternate }))) (Err V3)

-- a line's turn, where the turn before it has this number (0 where there is none), or its fault with the least number
abbrev pub line_of_words : List (List ℕ) → ℕ → List (List ℕ) → Result (Option Kept) FaultName
line_of_words names before [] = Ok None
line_of_words names before (turn ∷ []) = Err V1
line_of_words names before (turn ∷ name ∷ []) =
    cond (is_counted turn && is_name name) (kept_after before (digits_value 0 turn) (first_named names name) 0) (Err V1)
line_of_words names before (turn ∷ name ∷ alternate ∷ []) =
    cond (is_counted turn && (is_name name && is_counted alternate))
    (kept_after before (digits_value 0 turn) (first_named names name) (digits_value 0 alternate)) (Err V1)
line_of_words names before (turn ∷ name ∷ alternate ∷ more ∷ words) = Err V1

-- a turn in front of those of the lines after it
abbrev pub in_front : Kept → Result (List Kept) TextFault → Result (List Kept) TextFault
in_front kept (Ok others) = Ok (kept ∷ others)
in_front kept (Err fault) = Err fault

-- goes on after a line, unless it has a fault, which stands at its number
abbrev pub after_line : Result (Option Kept) FaultName → ℕ → ℕ → (ℕ → Result (List Kept) TextFault) → Result (List Kept) TextFault
after_line (Ok None) before at others = others before
after_line (Ok (Some kept)) before at others = in_front kept (others kept.turn)
after_line (Err name) before at others = Err (record { name = name; at = at })

-- the turns of the lines from this number on, behind a turn of this number; or the first fault
abbrev pub lines_kept : List (List ℕ) → ℕ → ℕ → List (List ℕ) → Result (List Kept) TextFault
lines_kept names before at [] = Ok []
lines_kept names before at (line ∷ lines) =
    after_line (line_of_words names before (words_of line)) before at (λ last. lines_kept names last (at + 1) lines)

-- the list of kept turns that a text stands for, with the names of these processes, or its first fault
abbrev pub record_of : List (List ℕ) → List ℕ → Result (List Kept) TextFault
record_of names text = lines_kept names 0 1 (lines_of text)
