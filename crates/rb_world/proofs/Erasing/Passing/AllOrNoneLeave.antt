-- A cut of the world after all members left a conversation: it shows all of them as they are, or each at an older copy.
use Rattle.std.proofs.Common.{◌≡◌, ◌⊎◌, ◌≤◌, ◌<◌, ℕ, suc, nat_lt, Bool, true, false, true≢false, cond, List, length, map, slice_get, Some, refl, sym, ap, ◌∙◌, subst, inl, inr, ltb-true, ltb-false, le_of_eq, le_trans, lt_irrefl, lt_of_le_of_lt, lt_of_lt_of_le, arith}
use Rattle.std.specs.List.{list_all}
use Rattle.rb_world.specs.World.{Process, without_last}
use Rattle.rb_world.specs.Nested.{IsLevelOf}
use Rattle.rb_world.specs.Standing.{Each}
use Rattle.rb_world.specs.Turn.{leaves, members_of, stands_at, stands_there}
use Rattle.rb_world.proofs.Erasing.ErasableKinds.{Parts, whole, IsErasable}
use Rattle.rb_world.proofs.Erasing.Showing.Cuts.{IsConsistent}
use Rattle.rb_world.proofs.Erasing.Showing.ConsistentCuts.{level_within}
use Rattle.rb_world.proofs.LastLevels.{length-with_last, slice_get-without_last}
use Rattle.rb_world.proofs.Erasing.Showing.TestLinesInCuts.{list_all_member}
use Rattle.rb_world.proofs.Keeping.NestedSame.{same_number, shares_level}
use Rattle.rb_world.proofs.Erasing.Passing.LeavingCuts.{stands_last, level_at_line, level_before, consistent_left, left_level, stayed_level}

-- process z, number r, stands at the line of c
pub record StandsThere {S : Type 0} (c r : ℕ) (qs : List (Process S S)) (z : Process S S) : Type 0 where
  pub there : slice_get qs r ≡ Some z
  pub stands : stands_at c z ≡ true

-- a level further out than the one at the line is left
outside_left : {S : Type 0} (c d i : ℕ) (z : Process S S) → stands_at c z ≡ true → IsLevelOf d z.levels i → i < length (without_last z.levels)
    → IsLevelOf d (without_last z.levels) i
outside_left c d i z stands l h =
    let at = stands_last c z stands in
    record { level = l.level; there = sym (slice_get-without_last z.levels at.last i at.is_last h) ∙ l.there; of_it = l.of_it }

-- The cut with everybody who stands at the line at the number after: that of the level that goes, or a further one, is the present.
abbrev pub before_leaving : {S : Type 0} → ℕ → List (Process S S) → (ℕ → ℕ) → ℕ → ℕ
before_leaving c qs f r = cond (stands_there c (slice_get qs r)) (suc (f r)) (f r)

-- its number for one process, by whether it stands
pub leaving_at : {S : Type 0} (c r : ℕ) (qs : List (Process S S)) (f : ℕ → ℕ) (z : Process S S) (stands : Bool)
    → slice_get qs r ≡ Some z → stands_at c z ≡ stands
    → before_leaving c qs f r ≡ cond stands (suc (f r)) (f r)
leaving_at c r qs f z stands there e = ap (λ (b : Bool). cond b (suc (f r)) (f r)) (ap (stands_there c) there ∙ e)

module _ {S E P : Type 0} (x : Parts S E P) (Known : ℕ → Process S S → Type 0) (laws : IsErasable x Known) (c : ℕ)
    (qs : List (Process S S)) (known : Each Known qs) where
  -- all who stand have as many levels
  pub same_depth : (r other : ℕ) (z z' : Process S S) → StandsThere c r qs z → StandsThere c other qs z'
      → length (without_last z.levels) ≡ length (without_last z'.levels)
  same_depth r other z z' one two =
      same_number x.groups z.levels z'.levels (laws.nested r z (known r z one.there)) (laws.nested other z' (known other z' two.there)) c
      (length (without_last z.levels)) (length (without_last z'.levels)) (level_at_line c z one.stands) (level_at_line c z' two.stands)

  module _ (f : ℕ → ℕ) (consistent : IsConsistent f (map (leaves (whole x) c) qs)) where
    -- who is shown at an older copy takes the others along
    pub leave_together : (r other : ℕ) (z z' : Process S S) → StandsThere c r qs z → StandsThere c other qs z'
        → f r < length (without_last z.levels) → f other ≤ f r
    leave_together r other z z' one two h =
        let shared =
        shares_level x.groups z.levels z'.levels (laws.nested r z (known r z one.there)) (laws.nested other z' (known other z' two.there)) c
        (length (without_last z.levels)) (length (without_last z'.levels)) (f r) (level_at_line c z one.stands) (level_at_line c z' two.stands) h in
        let h' : f r < length (without_last z'.levels) = lt_of_lt_of_le h (le_of_eq (same_depth r other z z' one two)) in
        consistent_left x c f qs consistent r other shared.conversation (f r) z z' one.there two.there
        (left_level x c shared.conversation (f r) z one.stands (outside_left c shared.conversation (f r) z one.stands shared.one h))
        (left_level x c shared.conversation (f r) z' two.stands (outside_left c shared.conversation (f r) z' two.stands shared.other h'))

    -- if one is shown at an older copy, all are
    pub all_older : (p : ℕ) (q : Process S S) → StandsThere c p qs q → f p < length (without_last q.levels)
        → (r : ℕ) (z : Process S S) → StandsThere c r qs z → f r < length (without_last z.levels)
    all_older p q at h r z two =
        lt_of_le_of_lt (leave_together p r q z at two h) (lt_of_lt_of_le h (le_of_eq (same_depth p r q z at two)))

    -- if one is shown as it is, all are
    pub all_present : (p : ℕ) (q : Process S S) → StandsThere c p qs q → length (without_last q.levels) ≤ f p
        → (r : ℕ) (z : Process S S) → StandsThere c r qs z → (older : Bool) → nat_lt (f r) (length (without_last z.levels)) ≡ older
        → length (without_last z.levels) ≤ f r
    all_present p q at h r z two true e =
        absurd (lt_irrefl (length (without_last q.levels))
        (lt_of_le_of_lt h (all_older r z two (ltb-true (f r) (length (without_last z.levels)) e) p q at)))
    all_present p q at h r z two false e = ltb-false (f r) (length (without_last z.levels)) e

    -- all at older copies
    module _ (older : (r : ℕ) (z : Process S S) → StandsThere c r qs z → f r < length (without_last z.levels)) where
      -- the level at which a process is shown is still there
      shown_left : (d r : ℕ) (z : Process S S) → slice_get qs r ≡ Some z → IsLevelOf d z.levels (f r) → (stands : Bool) → stands_at c z ≡ stands
          → IsLevelOf d (leaves (whole x) c z).levels (f r)
      shown_left d r z e l true stands =
          left_level x c d (f r) z stands (outside_left c d (f r) z stands l (older r z (record { there = e; stands = stands })))
      shown_left d r z e l false stands = stayed_level x c d (f r) z stands l

      reaches_left : (d j other : ℕ) (z' : Process S S) → slice_get qs other ≡ Some z' → IsLevelOf d z'.levels j
          → (stands : Bool) → stands_at c z' ≡ stands
          → (f other ≤ j) ⊎ IsLevelOf d (leaves (whole x) c z').levels j
      reaches_left d j other z' e l true stands = either (level_before c d j z' stands l)
        where
          either : ((j ≡ length (without_last z'.levels)) × (d ≡ c)) ⊎ IsLevelOf d (without_last z'.levels) j
              → (f other ≤ j) ⊎ IsLevelOf d (leaves (whole x) c z').levels j
          either (inl h) = inl (omega (arith, h.0, older other z' (record { there = e; stands = stands })))
          either (inr h) = inr (left_level x c d j z' stands h)
      reaches_left d j other z' e l false stands = inr (stayed_level x c d j z' stands l)

      -- the cut was consistent before they left
      pub older_consistent : IsConsistent f qs
      older_consistent r other d j z z' e e' l l' = either (reaches_left d j other z' e' l' (stands_at c z') refl)
        where
          either : (f other ≤ j) ⊎ IsLevelOf d (leaves (whole x) c z').levels j → f other ≤ j
          either (inl h) = h
          either (inr h) = consistent_left x c f qs consistent r other d j z z' e e' (shown_left d r z e l (stands_at c z) refl) h

    -- all as they are
    module _ (here : (r : ℕ) (z : Process S S) → StandsThere c r qs z → length (without_last z.levels) ≤ f r)
        (all : list_all (λ m. stands_there c (slice_get qs m)) (members_of (slice_get x.groups c)) ≡ true) where
      -- who is inside c stands
      inside_stands : (r i : ℕ) (z : Process S S) → slice_get qs r ≡ Some z → IsLevelOf c z.levels i → stands_at c z ≡ true
      inside_stands r i z e l =
          ap (stands_there c) (sym e)
          ∙ list_all_member (λ m. stands_there c (slice_get qs m)) (members_of (slice_get x.groups c)) r all (laws.is_member r z i c (known r z e) l)

      -- who stands is shown as it is
      not_older : (d r : ℕ) (z : Process S S) → slice_get qs r ≡ Some z → IsLevelOf d z.levels (before_leaving c qs f r)
          → (stands : Bool) → stands_at c z ≡ stands
          → (stands ≡ false) × IsLevelOf d z.levels (f r)
      not_older d r z e l true stands =
          absurd (none_so
          (subst (λ (n : ℕ). n < length z.levels) (leaving_at c r qs f z true e stands)
          (level_within d (before_leaving c qs f r) z.levels l))
          (here r z (record { there = e; stands = stands }))
          (length-with_last z.levels (stands_last c z stands).last (stands_last c z stands).is_last))
        where
          none_so : suc (f r) < length z.levels → length (without_last z.levels) ≤ f r → length z.levels ≡ suc (length (without_last z.levels)) → ⊥
          none_so a b n = omega (arith, a, b, n)
      not_older d r z e l false stands = (refl, subst (IsLevelOf d z.levels) (leaving_at c r qs f z false e stands) l)

      -- where r is shown at a level, nobody who stands has a level of the same conversation
      reaches : (d j r other : ℕ) (z z' : Process S S) → slice_get qs r ≡ Some z → slice_get qs other ≡ Some z'
          → stands_at c z ≡ false → IsLevelOf d z.levels (f r)
          → IsLevelOf d z'.levels j → (stands : Bool) → stands_at c z' ≡ stands → cond stands (suc (f other)) (f other) ≤ j
      reaches d j r other z z' e e' away l l' true stands = absurd (either (level_before c d j z' stands l'))
        where
          at : StandsThere c other qs z'
          at = record { there = e'; stands = stands }

          either : ((j ≡ length (without_last z'.levels)) × (d ≡ c)) ⊎ IsLevelOf d (without_last z'.levels) j → ⊥
          either (inl h) = true≢false (sym (inside_stands r (f r) z e (subst (λ (b : ℕ). IsLevelOf b z.levels (f r)) h.1 l)) ∙ away)
          either (inr h) = lt_irrefl j (lt_of_lt_of_le (level_within d j (without_last z'.levels) h) (le_trans (here other z' at)
              (consistent_left x c f qs consistent r other d j z z' e e' (stayed_level x c d (f r) z away l) (left_level x c d j z' stands h))))
      reaches d j r other z z' e e' away l l' false stands =
          consistent_left x c f qs consistent r other d j z z' e e' (stayed_level x c d (f r) z away l) (stayed_level x c d j z' stands l')

      -- the cut that shows them as they were is consistent before they left
      pub present_before : IsConsistent (before_leaving c qs f) qs
      present_before r other d j z z' e e' l l' =
          let away = not_older d r z e l (stands_at c z) refl in
          subst (λ (n : ℕ). n ≤ j) (sym (leaving_at c other qs f z' (stands_at c z') e' refl))
          (reaches d j r other z z' e e' away.0 away.1 l' (stands_at c z') refl)
