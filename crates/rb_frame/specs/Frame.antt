-- What is written of a fault: where it is and what is wrong, the line with a mark under the place, and where more is told.
use Rattle.std.specs.Prelude.{ℕ, ◌-◌, ◌==◌, nat_le, nat_lt, Bool, ◌&&◌, ◌||◌, cond, List, [], ◌++◌, length, map, take, drop, codes, decimal}
use Rattle.rb_base.specs.declared.place.Place.{Place}
use Rattle.rb_sched.specs.Schedule.{without_cr}
use Rattle.rb_frame.specs.Lines.{line_at}
use Rattle.rb_frame.specs.declared.frame.TheConstants.{FRONT_COLUMNS, MOST_SHOWN, SHOWN_BEFORE}

-- a byte as it is shown: printable ASCII and tabs as they are, and each other one as `?`, so that each takes one column
abbrev pub shown_byte : ℕ → ℕ
shown_byte b = cond ((nat_le 32 b && nat_le b 126) || b == 9) b 63

-- what stands under a byte before the mark: a tab under a tab, and else a blank
abbrev pub under_byte : ℕ → ℕ
under_byte b = cond (b == 9) 9 32

-- bytes as they are shown
abbrev pub shown : List ℕ → List ℕ
shown bytes = map shown_byte bytes

-- what stands under bytes before the mark
abbrev pub under : List ℕ → List ℕ
under bytes = map under_byte bytes

-- what stands of a line before the column of this number, from 1
abbrev pub before_column : ℕ → List ℕ → List ℕ
before_column column line = take (column - 1) line

-- How many bytes at the front of a line are left out: none of a line of at most `MOST_SHOWN` bytes, and none where the place is among the
-- first `FRONT_COLUMNS`; else what is shown begins `SHOWN_BEFORE` bytes before the place.
abbrev pub left_out : ℕ → List ℕ → ℕ
left_out column line =
    cond (nat_le (length line) MOST_SHOWN || nat_le column FRONT_COLUMNS) 0 (length (before_column column line) - SHOWN_BEFORE)

-- dots, where something is left out
abbrev pub dots : Bool → List ℕ
dots something = cond something (codes "...") []

-- the bytes of a line that are shown, where so many are left out in front: as many as there are, and at most `MOST_SHOWN`
abbrev pub window : ℕ → List ℕ → List ℕ
window left line = dots (nat_lt 0 left) ++ (take MOST_SHOWN (drop left line) ++ dots (nat_lt MOST_SHOWN (length (drop left line))))

-- what is shown of those that stand before the place
abbrev pub before_mark : ℕ → List ℕ → List ℕ
before_mark left before = dots (nat_lt 0 left) ++ drop left before

-- bytes of a line with its number
abbrev pub numbered : ℕ → List ℕ → List ℕ
numbered line bytes = decimal line ++ (codes " | " ++ (shown bytes ++ codes "\n"))

-- the mark behind these bytes of a line with its number
abbrev pub marked : ℕ → List ℕ → List ℕ
marked line bytes = under (decimal line) ++ (codes " | " ++ (under bytes ++ codes "^\n"))

-- where more is told of a fault
abbrev pub next_step : List ℕ → List ℕ
next_step name = codes "next: rblview explain " ++ (name ++ codes "\n")

-- the file and the place, the name of the fault and one sentence
abbrev pub headed : List ℕ → Place → List ℕ → List ℕ → List ℕ
headed file place name sentence =
    file ++ (codes ":" ++ (decimal place.line ++ (codes ":" ++ (decimal place.column ++ (codes ": " ++ (name ++ (codes ": " ++ (sentence ++ codes "\n"))))))))

-- the line of this number as it is shown: what stands between the LFs around it, without the CR that may end it
abbrev pub shown_line : List ℕ → ℕ → List ℕ
shown_line text line = without_cr (line_at line text)

-- a line with its number, as much of it as is shown, and the mark under the column of this number
unfoldable pub pointed : ℕ → ℕ → List ℕ → List ℕ
pointed number column line =
    numbered number (window (left_out column line) line) ++ marked number (before_mark (left_out column line) (before_column column line))

-- what is written in place of what stands there
abbrev pub helped : List ℕ → List ℕ
helped words = codes "help: " ++ (words ++ codes "\n")

-- a remark about another place of the text, with its line and a mark
abbrev pub noted : List ℕ → Place → List ℕ → List ℕ
noted text place words = codes "note: " ++ (words ++ (codes "\n" ++ pointed place.line place.column (shown_line text place.line)))

-- a fault at a place of a text, with remarks
abbrev pub framed_with : List ℕ → List ℕ → Place → List ℕ → List ℕ → List ℕ → List ℕ
framed_with file text place name sentence remarks =
    headed file place name sentence ++ (pointed place.line place.column (shown_line text place.line) ++ (remarks ++ next_step name))

-- a fault at a place of a text
abbrev pub framed : List ℕ → List ℕ → Place → List ℕ → List ℕ → List ℕ
framed file text place name sentence = framed_with file text place name sentence []

-- a fault that has no place
abbrev pub framed_alone : List ℕ → List ℕ → List ℕ → List ℕ
framed_alone file name sentence = file ++ (codes ": " ++ (name ++ (codes ": " ++ (sentence ++ (codes "\n" ++ next_step name)))))
