-- Kinds of bytes that sources alone have, and places. What this crate defines is this project's own.
use Rattle.std.specs.Prelude.{ℕ, ◌+◌, ◌==◌, nat_le, Bool, ◌&&◌, ◌||◌, if◌then◌else◌, List, [], ◌∷◌}
use Rattle.rb_base.specs.declared.place.Place.{Place}

-- a space, tab, CR or LF
abbrev pub is_blank : ℕ → Bool
is_blank b = b == 32 || b == 9 || b == 13 || b == 10

-- what may stand in a text, beside the quotes, and in a comment
abbrev pub is_printable : ℕ → Bool
is_printable b = nat_le 32 b && nat_le b 126

-- what may stand in a comment, which LF ends
abbrev pub is_comment_byte : ℕ → Bool
is_comment_byte b = is_printable b || b == 9 || b == 13

-- the first byte of a text stands at line 1, column 1
abbrev pub first_place : Place
first_place = record { line = 1; column = 1 }

-- the place of the byte after this one
abbrev pub place_after : Place → ℕ → Place
place_after p b = if b == 10 then record { line = p.line + 1; column = 1 } else record { line = p.line; column = p.column + 1 }

-- the place after these bytes
abbrev pub place_past : Place → List ℕ → Place
place_past p [] = p
place_past p (b ∷ bs) = place_past (place_after p b) bs

-- so many bytes further on one line
abbrev pub columns_on : Place → ℕ → Place
columns_on p n = record { line = p.line; column = p.column + n }
