-- What the calls do to the regions, from the innermost out.
use Rattle.std.specs.Prelude.{ℕ, ◌<◌, ◌≤◌, ℤ, Bool, true, false, nat_lt, not, ◌&&◌, List, [], ◌∷◌, ◌++◌, map, filter, eqb}
use Rattle.std.specs.List.{IsDistinct, list_any, AllByRecursion}
use Rattle.rb_cache.specs.Undo.{Saved, Region}
use Rattle.rb_cache.specs.Copies.{place_of}

-- a value of this place was saved
abbrev pub is_saved : ℕ → List Saved → Bool
is_saved p saved = list_any (eqb p) (map place_of saved)

-- the places of a region
abbrev pub places : Region → List ℕ
places r = map place_of r.saved

-- the height of the innermost region
abbrev pub top_height : List Region → ℕ
top_height [] = 0
top_height (r ∷ rs) = r.height

-- the place is below a height, and no value of it was saved
abbrev pub is_new : ℕ → List Saved → Saved → Bool
is_new height saved s = nat_lt s.place height && not (is_saved s.place saved)

-- a word with this value is about to be written
abbrev pub recorded : ℕ → ℤ → List Region → List Region
recorded p value [] = []
recorded p value (r ∷ rs) =
    record {
      height = r.height;
      saved = elim (nat_lt p r.height && not (is_saved p r.saved)) [ true ↦ r.saved ++ record { place = p; value = value } ∷ [] | false ↦ r.saved ];
    } ∷ rs

-- the innermost region was put back
abbrev pub cleared : List Region → List Region
cleared [] = []
cleared (r ∷ rs) = record { height = r.height; saved = [] } ∷ rs

-- the innermost region is merged into the one around it, which keeps what it saved first
abbrev pub merged : List Region → List Region
merged [] = []
merged (top ∷ []) = []
merged (top ∷ r ∷ rs) = record { height = r.height; saved = r.saved ++ filter (is_new r.height r.saved) top.saved } ∷ rs

-- a region saves each place once, and only places below its height and below n
pub record IsRegion (n : ℕ) (r : Region) : Type 0 where
  pub distinct : IsDistinct eqb (places r)
  pub below : AllByRecursion (λ (s : Saved). s.place < r.height) r.saved
  pub within : AllByRecursion (λ (s : Saved). s.place < n) r.saved

-- and no region is higher than the one inside it
abbrev pub Stacked : ℕ → List Region → Type 0
Stacked n [] = Unit {0}
Stacked n (r ∷ rs) = IsRegion n r × (top_height rs ≤ r.height) × Stacked n rs
