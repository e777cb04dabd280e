-- The regions of a recovery cache, one for each open level, and what is undone with them. That only what changes is saved is of
-- Horning, Lauer, Melliar-Smith and Randell (1974).
use Rattle.std.specs.Prelude.{ℕ, ℤ, List, [], ◌∷◌, ◌++◌, Option, Some, None, slice_get, slice_set, take, drop}

-- a place, and the value of its word at the entry of a level
pub record Saved : Type 0 where
  pub place : ℕ
  pub value : ℤ

-- what an open level has saved, the first first, and its height: how many words there were at its entry
pub record Region : Type 0 where
  pub height : ℕ
  pub saved : List Saved

-- the words with saved values put back, the last first
abbrev pub put_back : List ℤ → List Saved → List ℤ
put_back words [] = words
put_back words (s ∷ saved) = slice_set (put_back words saved) s.place s.value

-- all that regions saved, from the outermost in
abbrev pub all_saved : List Region → List Saved
all_saved [] = []
all_saved (r ∷ inner) = r.saved ++ all_saved inner

-- the height of a region
abbrev pub height_of : Option Region → ℕ
height_of None = 0
height_of (Some r) = r.height

-- regions from the outermost in are put back as far out as level k, the inner ones first, and cut to its height
abbrev pub undo : List ℤ → List Region → ℕ → List ℤ
undo words regions k = take (height_of (slice_get regions k)) (put_back words (all_saved (drop k regions)))
