-- How far the stamps reach: stamps of 0 may be added, and the innermost level is the highest.
use Rattle.std.proofs.Common.{◌≡◌, ℕ, zero, suc, ◌+◌, ◌-◌, ◌<◌, ◌≤◌, List, [], ◌∷◌, ◌++◌, reverse, length, replicate, get_or, refl, sym, ◌∙◌, ap, subst, arith}
use Rattle.std.proofs.lemmas.List.{length-append, length-replicate}
use Rattle.rb_cache.specs.declared.entry.Entry.{Entry}
use Rattle.rb_cache.specs.declared.entry.Mark.{Mark}
use Rattle.rb_cache.specs.Undo.{Saved, Region}
use Rattle.rb_cache.specs.Regions.{merged, top_height, Stacked}
use Rattle.rb_cache.specs.Arena.{regions_of, Holds}
use Rattle.rb_cache.specs.Merging.{innermost}
use Rattle.rb_cache.proofs.Stamps.{all_weaker, reverse-last}
use Rattle.rb_cache.proofs.Chains.{stamp_known}

-- stamps of 0 are added for places that have no entry
zeros : (k p : ℕ) → get_or (replicate k 0) p 0 ≡ zero
zeros zero p = refl
zeros (suc k) zero = refl
zeros (suc k) (suc p) = zeros k p

zeros_after : (st : List ℕ) (k p : ℕ) → get_or (st ++ replicate k 0) p 0 ≡ get_or st p 0
zeros_after [] k p = zeros k p
zeros_after (s ∷ st) k zero = refl
zeros_after (s ∷ st) k (suc p) = zeros_after st k p

Stacked-wider : (n k : ℕ) (rs : List Region) → Stacked n rs → Stacked (n + k) rs
Stacked-wider n k [] s = tt
Stacked-wider n k (r ∷ rs) s = (
  record {
    distinct = s.0.distinct;
    below = s.0.below;
    within = all_weaker (λ (e : Saved). e.place < n) (λ (e : Saved). e.place < n + k) (λ e lt. omega (arith, lt)) r.saved s.0.within;
  },
  s.1,
  Stacked-wider n k rs s.2,
)

pub Holds-grow : (k : ℕ) (ms : List Mark) (st us : List ℕ) (log : List Entry) → us ≡ st ++ replicate k 0 → Holds (length st) ms st log
    → Holds (length us) ms us log
Holds-grow k ms st us log e h =
    let n : length (st ++ replicate k 0) ≡ length st + k = omega (arith, length-append st (replicate k 0), length-replicate {A = ℕ} k 0) in
    let grown : Holds (length (st ++ replicate k 0)) ms (st ++ replicate k 0) log =
    record {
      size = refl;
      stamped = record { now = λ p lt. zeros_after st k p ∙ stamp_known (length st) ms st log p h; before = h.stamped.before };
      cuts = h.cuts;
      stacked = subst (λ (i : ℕ). Stacked i (regions_of ms log)) (sym n) (Stacked-wider (length st) k (regions_of ms log) h.stacked);
    } in
    subst (λ (xs : List ℕ). Holds (length xs) ms xs log) (sym e) grown

-- as many stamps as before
pub Holds-sized : (n : ℕ) (ms : List Mark) (st : List ℕ) (log : List Entry) → Holds n ms st log → Holds (length st) ms st log
Holds-sized n ms st log h = subst (λ (i : ℕ). Holds i ms st log) (sym h.size) h

-- the innermost level
pub below_last : (marks : List Mark) (d : Mark) (at : ℕ) → 0 < length marks → at < (get_or marks (length marks - 1) d).height
    → at < (innermost (reverse marks)).height
below_last marks d at some h = subst (λ (m : Mark). at < m.height) (sym (ap innermost (reverse-last marks d some))) h

top_height-regions : (ms : List Mark) (log : List Entry) → top_height (regions_of ms log) ≡ (innermost ms).height
top_height-regions [] log = refl
top_height-regions (m ∷ ms) log = refl

top_height-merged : (n : ℕ) (rs : List Region) → Stacked n rs → top_height (merged rs) ≤ top_height rs
top_height-merged n [] s = omega arith
top_height-merged n (top ∷ []) s = omega arith
top_height-merged n (top ∷ r ∷ rs) s = s.1

pub lower_merged : (n : ℕ) (old new : List Mark) (log more : List Entry) → Stacked n (regions_of old log)
    → regions_of new more ≡ merged (regions_of old log) → (innermost new).height ≤ (innermost old).height
lower_merged n old new log more s e =
    omega (
      arith,
      top_height-regions old log,
      top_height-regions new more,
      ap top_height e,
      top_height-merged n (regions_of old log) s,
    )
