-- What is seen of a cache from its fields.
use Rattle.std.proofs.Common.{◌≡◌, ℕ, ◌<◌, ◌≤◌, ℤ, List, [], ◌∷◌, ◌++◌, map, reverse, take, length, sym, ◌∙◌, ap, subst}
use Rattle.std.proofs.lemmas.List.{length-reverse}
use Rattle.std.specs.List.{AllByRecursion}
use Rattle.rb_cache.specs.declared.entry.Entry.{Entry}
use Rattle.rb_cache.specs.declared.entry.Mark.{Mark}
use Rattle.rb_cache.specs.Undo.{Saved, Region, put_back}
use Rattle.rb_cache.specs.Copies.{RecoveryCache, Level, level_of, open_levels, restored, last_copy, last_touched, Fits, IsLevel, place_of}
use Rattle.rb_cache.specs.Regions.{recorded, merged, top_height, Stacked}
use Rattle.rb_cache.specs.Arena.{regions_of}
use Rattle.rb_cache.proofs.Copies.{top_low}
use Rattle.rb_cache.proofs.Stamps.{length-regions, reverse-push, regions-open}
use Rattle.rb_cache.proofs.Views.{length-levels, last_or-reverse, reverse-cons}

-- the value that these fields stand for
abbrev pub seen : List Mark → List Entry → ℕ → ℕ → RecoveryCache
seen marks log l w = record { regions = regions_of (reverse marks) log; limits = record { levels = l; words = w } }

pub regions_seen : (marks : List Mark) (log : List Entry) (l w : ℕ) (k : RecoveryCache) → seen marks log l w ≡ k
    → regions_of (reverse marks) log ≡ k.regions
regions_seen marks log l w k v = ap (λ (x : RecoveryCache). x.regions) v

pub length-open_levels : (marks : List Mark) (log : List Entry) (l w : ℕ) (k : RecoveryCache) → seen marks log l w ≡ k
    → length (open_levels k) ≡ length marks
length-open_levels marks log l w k v =
    sym (ap (λ (x : RecoveryCache). length (open_levels x)) v)
    ∙ length-levels (regions_of (reverse marks) log)
    ∙ length-regions (reverse marks) log
    ∙ length-reverse marks

pub top_fits : (ws : List ℤ) (k : RecoveryCache) → Fits ws k → top_height k.regions ≤ length ws
top_fits ws k f = top_low (length ws) k.regions f

-- a mark is added at the end of the arena
pub opened : (marks new : List Mark) (log : List Entry) (n h : ℕ) (l w : ℕ) (ws : List ℤ) (k : RecoveryCache) → seen marks log l w ≡ k
    → new ≡ marks ++ record { first = n; height = h } ∷ [] → n ≡ length log → h ≡ length ws
    → regions_of (reverse new) log ≡ record { height = length ws; saved = [] } ∷ k.regions
opened marks new log n h l w ws k v e at high =
    ap (λ (xs : List Mark). regions_of (reverse xs) log) e
    ∙ ap (λ (xs : List Mark). regions_of xs log) (reverse-push marks (record { first = n; height = h }))
    ∙ ap (λ (i : ℕ). regions_of (record { first = i; height = h } ∷ reverse marks) log) at
    ∙ regions-open h (reverse marks) log
    ∙ ap (λ (i : ℕ). record { height = i; saved = [] } ∷ regions_of (reverse marks) log) high
    ∙ ap (λ (rs : List Region). record { height = length ws; saved = [] } ∷ rs) (regions_seen marks log l w k v)

-- the heights stay
pub fits-recorded : (n p : ℕ) (v : ℤ) (rs : List Region) → AllByRecursion (λ (r : Region). r.height ≤ n) rs
    → AllByRecursion (λ (r : Region). r.height ≤ n) (recorded p v rs)
fits-recorded n p v [] a = tt
fits-recorded n p v (r ∷ rs) a = a

pub fits-merged : (n : ℕ) (rs : List Region) → AllByRecursion (λ (r : Region). r.height ≤ n) rs
    → AllByRecursion (λ (r : Region). r.height ≤ n) (merged rs)
fits-merged n [] a = tt
fits-merged n (top ∷ []) a = tt
fits-merged n (top ∷ r ∷ rs) a = a.1

-- the innermost level's copy and places
pub last_copy-is : (ws : List ℤ) (r : Region) (rs : List Region) (k : RecoveryCache) → r ∷ rs ≡ k.regions
    → last_copy ws k ≡ take r.height (put_back ws r.saved)
last_copy-is ws r rs k e =
    sym (ap (λ (xs : List Region). last_copy ws (record k { regions = xs })) e)
    ∙ last_or-reverse (take r.height (put_back ws r.saved)) (restored (put_back ws r.saved) rs) []

pub last_touched-is : (r : Region) (rs : List Region) (k : RecoveryCache) → r ∷ rs ≡ k.regions → last_touched k ≡ map place_of r.saved
last_touched-is r rs k e =
    sym (ap (λ (xs : List Region). last_touched (record k { regions = xs })) e)
    ∙ ap (λ (l : Level). l.touched) (last_or-reverse (level_of r) (map level_of rs) (record { height = 0; touched = [] }))

-- each level is one
places_below : (h : ℕ) (es : List Saved) → AllByRecursion (λ (s : Saved). s.place < h) es → AllByRecursion (λ (p : ℕ). p < h) (map place_of es)
places_below h [] a = tt
places_below h (e ∷ es) a = (a.0, places_below h es a.1)

all_levels : (n : ℕ) (rs : List Region) → Stacked n rs → AllByRecursion IsLevel (map level_of rs)
all_levels n [] s = tt
all_levels n (r ∷ rs) s = (record { distinct = s.0.distinct; below = places_below r.height r.saved s.0.below }, all_levels n rs s.2)

all_push : (P : Level → Type 0) (ls : List Level) (l : Level) → AllByRecursion P ls → P l → AllByRecursion P (ls ++ l ∷ [])
all_push P [] l a p = (p, tt)
all_push P (x ∷ ls) l a p = (a.0, all_push P ls l a.1 p)

all_reverse : (P : Level → Type 0) (ls : List Level) → AllByRecursion P ls → AllByRecursion P (reverse ls)
all_reverse P [] a = tt
all_reverse P (l ∷ ls) a = subst (AllByRecursion P) (sym (reverse-cons l ls)) (all_push P (reverse ls) l (all_reverse P ls a.1) a.0)

pub are_levels : (n : ℕ) (rs : List Region) → Stacked n rs → AllByRecursion IsLevel (reverse (map level_of rs))
are_levels n rs s = all_reverse IsLevel (map level_of rs) (all_levels n rs s)
