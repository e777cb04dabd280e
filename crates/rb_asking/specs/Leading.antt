-- The words that ask for help or for the version.
use Rattle.std.specs.Prelude.{ℕ, nat_eq, Bool, false, List, [], ◌∷◌, codes}
use Rattle.std.specs.List.{list_any}
use Rattle.std.specs.Cmp.Lexicographic.{pointwise}

-- a word that is among these
abbrev pub is_among : List (List ℕ) → List ℕ → Bool
is_among words word = list_any (λ one. pointwise nat_eq one word) words

-- those that ask for help as a first word
abbrev pub is_help : List ℕ → Bool
is_help word = is_among (codes "help" ∷ codes "--help" ∷ codes "-h" ∷ []) word

-- those that ask for the version as a first word
abbrev pub is_version : List ℕ → Bool
is_version word = is_among (codes "version" ∷ codes "--version" ∷ []) word

-- behind a first word, one alone that asks how that command is used; `help` may be a word of the command
abbrev pub is_help_alone : List (List ℕ) → Bool
is_help_alone [] = false
is_help_alone (word ∷ []) = is_among (codes "--help" ∷ codes "-h" ∷ []) word
is_help_alone (word ∷ another ∷ more) = false
