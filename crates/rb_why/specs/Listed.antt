-- Words with commas between them.
use Rattle.std.specs.Prelude.{ℕ, List, [], ◌∷◌, ◌++◌, codes}

-- the list with one more word
abbrev pub with_word : List ℕ → List ℕ → List ℕ
with_word [] word = word
with_word (b ∷ bs) word = (b ∷ bs) ++ (codes ", " ++ word)

-- a word as it is quoted
abbrev pub quoted : List ℕ → List ℕ
quoted word = codes "`" ++ (word ++ codes "`")

-- the words behind those that were listed before
abbrev pub listed : List (List ℕ) → List ℕ → List ℕ
listed [] told = told
listed (word ∷ words) told = listed words (with_word told (quoted word))
