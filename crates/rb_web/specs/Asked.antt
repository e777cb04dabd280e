-- What a call over texts is asked: its words, and the files that they name.
use Rattle.std.specs.Prelude.{◌≡◌, ℕ, nat_eq, List, [], ◌∷◌, ◌++◌, drop, map}
use Rattle.std.specs.List.{slice_split, zip}
use Rattle.std.specs.Str.{IsUtf8}
use Rattle.rb_outside.specs.Outside.{File}

-- The bytes are these words, each ended by a byte 0: they are a text, and where it is cut at each 0, the words come, and nothing behind the last.
abbrev pub AreWords : List ℕ → List (List ℕ) → Type 0
AreWords bytes words = IsUtf8 bytes × (slice_split (λ b. nat_eq b 0) bytes ≡ words ++ [] ∷ [])

-- the files that the words behind the first name, as many as there are texts
abbrev pub files_named : List (List ℕ) → List (List ℕ) → List File
files_named words texts = map (λ file. record { name = file.0; bytes = file.1 }) (zip (drop 1 words) texts)
