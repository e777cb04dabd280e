-- The innermost level, and what its rejection comes to.
use Rattle.std.proofs.Common.{◌≡◌, ◌<◌, ◌≤◌, ◌-◌, ℕ, ℤ, List, sym, ◌∙◌, ap, reverse, length, map, subst, arith, get_or, take, drop, ◌∷◌}
use Rattle.std.proofs.lemmas.List.{length-take-le}
use Rattle.std.specs.List.{AllByRecursion}
use Rattle.rb_cache.specs.declared.entry.Entry.{Entry}
use Rattle.rb_cache.specs.declared.entry.Mark.{Mark}
use Rattle.rb_cache.specs.Undo.{Saved, Region, put_back}
use Rattle.rb_cache.specs.Copies.{RecoveryCache, Level, level_of, open_levels, restored, last_copy, last_touched, Fits, entered, change_last}
use Rattle.rb_cache.specs.Regions.{cleared, top_height, Stacked}
use Rattle.rb_cache.specs.Arena.{saved_of, regions_of, Holds}
use Rattle.rb_cache.proofs.Copies.{restored-reject, length-put_back, all_low}
use Rattle.rb_cache.proofs.Stamps.{Top, top_is, all_weaker, length-saved, regions-undo}
use Rattle.rb_cache.proofs.Views.{levels-cleared}
use Rattle.rb_cache.proofs.Seen.{seen, length-open_levels, regions_seen, top_fits, last_copy-is, last_touched-is}

-- what is known of the innermost level, whose mark is m
pub record Innermost (n : ℕ) (ws : List ℤ) (k : RecoveryCache) (marks : List Mark) (st : List ℕ) (log : List Entry) (m : Mark) : Type 0 where
  pub top : Top n marks st log m
  pub is : regions_of (m ∷ top.around) log ≡ k.regions
  pub low : m.height ≤ length ws
  pub within : AllByRecursion (λ (s : Saved). s.place < length ws) (map saved_of (drop m.first log))
  pub touched : length (last_touched k) ≡ length log - m.first

pub innermost_is : (ws : List ℤ) (k : RecoveryCache) (marks : List Mark) (st : List ℕ) (log : List Entry) (l w n : ℕ) (m : Mark)
    → seen marks log l w ≡ k
    → 0 < length (open_levels k)
    → n ≡ length marks → m ≡ get_or marks (n - 1) m → Holds (length st) (reverse marks) st log → Fits ws k → Innermost (length st) ws k marks st log m
innermost_is ws k marks st log l w n m v some e at h f =
    let there : 0 < length marks = omega (arith, some, length-open_levels marks log l w k v) in
    let t = top_is (length st) marks st log m there (subst (λ (i : ℕ). m ≡ get_or marks (i - 1) m) e at) h in
    let is : regions_of (m ∷ t.around) log ≡ k.regions = ap (λ (xs : List Mark). regions_of xs log) (sym t.is) ∙ regions_seen marks log l w k v in
    let low : m.height ≤ length ws = subst (λ (rs : List Region). top_height rs ≤ length ws) (sym is) (top_fits ws k f) in
    let saved = map saved_of (drop m.first log) in
    record {
      top = t;
      is = is;
      low = low;
      within = all_weaker (λ (s : Saved). s.place < m.height) (λ (s : Saved). s.place < length ws)
          (λ s lt. omega (arith, low, lt)) saved t.holds.stacked.0.below;
      touched = ap (λ (ps : List ℕ). length ps)
          (last_touched-is (record { height = m.height; saved = saved }) (regions_of t.around (take m.first log)) k is) ∙ length-saved m.first log;
    }

-- the words and the regions after a rejection
pub record Rejected (ws us : List ℤ) (k : RecoveryCache) (new : List Region) : Type 0 where
  pub words : us ≡ last_copy ws k
  pub copies : reverse (restored us new) ≡ reverse (restored ws k.regions)
  pub levels : reverse (map level_of new) ≡ change_last (λ (l : Level). entered l.height) (open_levels k)
  pub fits : AllByRecursion (λ (r : Region). r.height ≤ length us) new

put_back_top : (n : ℕ) (ws us : List ℤ) (r : Region) (rs : List Region) (k : RecoveryCache) (new : List Region) → Stacked n (r ∷ rs)
    → r ∷ rs ≡ k.regions
    → r.height ≤ length ws
    → us ≡ take r.height (put_back ws r.saved) → new ≡ cleared k.regions → Rejected ws us k new
put_back_top n ws us r rs k new s e low w z =
    let long : length us ≡ r.height = ap length w ∙ length-take-le r.height (put_back ws r.saved) (omega (arith, length-put_back ws r.saved, low)) in
    let fits : AllByRecursion (λ (x : Region). x.height ≤ length us) (cleared (r ∷ rs)) =
    (omega (arith, long), all_low n (length us) rs s.2 (omega (arith, long, s.1))) in
    record {
      words = w ∙ sym (last_copy-is ws r rs k e);
      copies = ap (λ (xs : List Region). reverse (restored us xs)) (z ∙ ap cleared (sym e))
          ∙ ap (λ (xs : List ℤ). reverse (restored xs (cleared (r ∷ rs)))) w
          ∙ ap reverse (restored-reject n ws r rs s)
          ∙ ap (λ (xs : List Region). reverse (restored ws xs)) e;
      levels = ap (λ (xs : List Region). reverse (map level_of xs)) z ∙ levels-cleared k.regions;
      fits = subst (AllByRecursion (λ (x : Region). x.height ≤ length us)) (sym (z ∙ ap cleared (sym e))) fits;
    }

pub rejected : (n : ℕ) (ws us : List ℤ) (k : RecoveryCache) (marks : List Mark) (st : List ℕ) (log new : List Entry) (m : Mark)
    → Innermost n ws k marks st log m
    → us ≡ take m.height (put_back ws (map saved_of (drop m.first log))) → new ≡ take m.first log → Rejected ws us k (regions_of (reverse marks) new)
rejected n ws us k marks st log new m h u a =
    let t = h.top in
    let z : regions_of (reverse marks) new ≡ cleared k.regions =
    ap (λ (xs : List Mark). regions_of xs new) t.is ∙ ap (regions_of (m ∷ t.around)) a ∙ regions-undo m t.around log t.holds.cuts.0
    ∙ ap cleared h.is in
    let top : Region = record { height = m.height; saved = map saved_of (drop m.first log) } in
    put_back_top n ws us top (regions_of t.around (take m.first log)) k (regions_of (reverse marks) new) t.holds.stacked h.is h.low u z
