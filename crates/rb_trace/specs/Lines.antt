-- Words of a line, each with a blank before it.
use Rattle.std.specs.Prelude.{ℕ, List, ◌∷◌}
use Rattle.std.specs.List.{flat_map}

-- a word with a blank before it
abbrev pub spaced_word : List ℕ → List ℕ
spaced_word word = 32 ∷ word

-- words one after another, each with a blank before it
abbrev pub spaced : List (List ℕ) → List ℕ
spaced words = flat_map spaced_word words
