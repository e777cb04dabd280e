-- All faults and causes, in a line each.
use Rattle.std.specs.Prelude.{◌≡◌, ℕ, nat_eq, Bool, not, List, ◌++◌, map, take_while, codes}
use Rattle.std.specs.List.{flat_map}
use Rattle.rb_reasons.specs.Names.{name_of, names}

abbrev pub is_of_line : ℕ → Bool
is_of_line b = not (nat_eq b 10)

-- the first line of a text
abbrev pub headline : List ℕ → List ℕ
headline text = take_while is_of_line text ++ codes "\n"

-- These are the first lines of texts that have all names, in their order.
abbrev pub AreHeadlines : List ℕ → Type 0
AreHeadlines told = (texts : List (List ℕ)) × (map name_of texts ≡ names) × (told ≡ flat_map headline texts)
