-- What contracts see of a recovery cache: a whole copy of the words for each open level, and the places that were
-- touched in it. The view as a list of whole copies is this project's own.
use Rattle.std.specs.Prelude.{ℕ, ◌-◌, ◌<◌, ◌≤◌, ℤ, Bool, eqb, nat_lt, not, ◌&&◌, List, [], ◌∷◌, ◌++◌, map, filter, take, reverse, length, get_or}
use Rattle.std.specs.List.{AllByRecursion, IsDistinct, list_any}
use Rattle.rb_cache.specs.Undo.{Saved, Region, put_back}

-- how many levels may be open, and below which place words are written
pub record Limits : Type 0 where
  pub levels : ℕ
  pub words : ℕ

-- the regions of the open levels, from the innermost out
pub record RecoveryCache : Type 0 where
  pub regions : List Region
  pub limits : Limits

-- an open level: how many words there were at its entry, and the places below that were touched in it
pub record Level : Type 0 where
  pub height : ℕ
  pub touched : List ℕ

-- the place of what was saved
abbrev pub place_of : Saved → ℕ
place_of s = s.place

-- the level of a region
abbrev pub level_of : Region → Level
level_of r = record { height = r.height; touched = map place_of r.saved }

-- the open levels, from the outermost in
abbrev pub open_levels : RecoveryCache → List Level
open_levels cache = reverse (map level_of cache.regions)

-- the words at the entry of each level, from the innermost out: region after region is put back
abbrev pub restored : List ℤ → List Region → List (List ℤ)
restored words [] = []
restored words (r ∷ outer) = take r.height (put_back words r.saved) ∷ restored (put_back words r.saved) outer

-- the copies of the open levels, from the outermost in
abbrev pub copies : List ℤ → RecoveryCache → List (List ℤ)
copies words cache = reverse (restored words cache.regions)

-- the copy of level k
abbrev pub copy_at : List ℤ → RecoveryCache → ℕ → List ℤ
copy_at words cache k = get_or (copies words cache) k []

-- the last of a list, or the default
abbrev pub last_or : {A : Type 0} → List A → A → A
last_or xs default = get_or xs (length xs - 1) default

-- the copy of the innermost level
abbrev pub last_copy : List ℤ → RecoveryCache → List ℤ
last_copy words cache = last_or (copies words cache) []

-- the places touched in the innermost level
abbrev pub last_touched : RecoveryCache → List ℕ
last_touched cache = (last_or (open_levels cache) (record { height = 0; touched = [] })).touched

-- there are at least as many words as at the entry of each open level
abbrev pub Fits : List ℤ → RecoveryCache → Type 0
Fits words cache = AllByRecursion (λ (r : Region). r.height ≤ length words) cache.regions

-- the places touched in a level are distinct and below its height
pub record IsLevel (level : Level) : Type 0 where
  pub distinct : IsDistinct eqb level.touched
  pub below : AllByRecursion (λ (p : ℕ). p < level.height) level.touched

-- a level at its entry, and once it was put back
abbrev pub entered : ℕ → Level
entered height = record { height = height; touched = [] }

-- a place joins those of a level if it is below its height and not among them
abbrev pub joins : Level → ℕ → Bool
joins level p = nat_lt p level.height && not (list_any (eqb p) level.touched)

-- the level once those of these places have joined it that do
abbrev pub joined : List ℕ → Level → Level
joined places level = record { height = level.height; touched = level.touched ++ filter (joins level) places }

-- the innermost level changes
abbrev pub change_last : (Level → Level) → List Level → List Level
change_last change [] = []
change_last change (l ∷ []) = change l ∷ []
change_last change (l ∷ m ∷ inner) = l ∷ change_last change (m ∷ inner)

-- the innermost level goes, and its touched places join those of the level around it
abbrev pub accepted : List Level → List Level
accepted [] = []
accepted (top ∷ []) = []
accepted (l ∷ top ∷ []) = joined top.touched l ∷ []
accepted (l ∷ m ∷ n ∷ inner) = l ∷ accepted (m ∷ n ∷ inner)
