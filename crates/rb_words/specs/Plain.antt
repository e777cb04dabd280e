-- Words that are no options.
use Rattle.std.specs.Prelude.{ℕ, nat_eq, Bool, false, not, List, [], ◌∷◌}

-- a word that is not empty, and has no `-` at its front
abbrev pub is_plain_word : List ℕ → Bool
is_plain_word [] = false
is_plain_word (b ∷ bs) = not (nat_eq b 45)
