-- The lines of a text around a place.
use Rattle.std.specs.Prelude.{ℕ, zero, suc, ◌+◌, ◌-◌, ◌==◌, nat_eq, Bool, not, cond, List, [], ◌∷◌, length, take, take_while}
use Rattle.rb_base.specs.declared.place.Place.{Place}

-- what stands behind the first LF
abbrev pub after_line : List ℕ → List ℕ
after_line [] = []
after_line (b ∷ bs) = cond (b == 10) bs (after_line bs)

-- what stands behind so many lines
abbrev pub after_lines : ℕ → List ℕ → List ℕ
after_lines zero text = text
after_lines (suc n) text = after_lines n (after_line text)

-- a line ends before LF
abbrev pub is_of_line : ℕ → Bool
is_of_line b = not (nat_eq b 10)

-- the line of this number, from 1, without its LF: what stands between the LFs around it
abbrev pub line_at : ℕ → List ℕ → List ℕ
line_at line text = take_while is_of_line (after_lines (line - 1) text)

-- the text before a place
abbrev pub before : List ℕ → Place → List ℕ
before text place = take (length text - length (after_lines (place.line - 1) text) + (place.column - 1)) text
