-- A command as `clap` is told of it.
use Rattle.std.specs.Prelude.{ℕ, true, List, [], ◌∷◌, ◌++◌, map}
use Rattle.clap.specs.Words.{Rule, Shape, new_app, new_rule}

-- an argument that has to be given, by its place
abbrev pub required_word : List ℕ → Rule
required_word id = record (new_rule id) { required = true }

-- a command of this name that takes these words
abbrev pub command_with : List ℕ → List (List ℕ) → Shape
command_with name words = record (new_app name).top { rules = map required_word words }

-- and that takes these words, and one more that may be left out
abbrev pub command_and_last : List ℕ → List (List ℕ) → List ℕ → Shape
command_and_last name words last = record (new_app name).top { rules = map required_word words ++ new_rule last ∷ [] }
