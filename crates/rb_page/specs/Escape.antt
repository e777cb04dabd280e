-- How a text stands in a page.
use Rattle.std.specs.Prelude.{ℕ, nat_eq, nat_le, Bool, not, ◌&&◌, ◌||◌, cond, List, [], ◌∷◌, ◌++◌, codes, decimal}
use Rattle.std.specs.List.{flat_map}

-- `&`, `<` and `>`
abbrev pub is_markup : ℕ → Bool
is_markup b = nat_eq b 38 || nat_eq b 60 || nat_eq b 62

-- a byte that stands for itself: the tab, LF and the printable ones, but for those of markup
abbrev pub is_plain : ℕ → Bool
is_plain b = not (is_markup b) && (nat_eq b 9 || nat_eq b 10 || (nat_le 32 b && nat_le b 126))

-- the reference to a byte by its number
abbrev pub reference : ℕ → List ℕ
reference b = codes "&#" ++ (decimal b ++ codes ";")

abbrev pub escaped_byte : ℕ → List ℕ
escaped_byte b = cond (is_plain b) (b ∷ []) (reference b)

-- a text as it stands in a page
abbrev pub escaped : List ℕ → List ℕ
escaped text = flat_map escaped_byte text
