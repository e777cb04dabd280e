-- All members leave a conversation together: a cut of the new world shows all of them as they are, or each at a level that is
-- further out; and the cuts of the old world that serve these are consistent.
use Rattle.std.proofs.Common.{◌≡◌, ◌⊎◌, ◌≤◌, ℕ, nat_lt, Bool, true, false, true≢false, cond, List, length, map, slice_get, Option, Some, None, refl, sym, ap, ◌∙◌, subst, inl, inr, eqb-true}
use Rattle.std.specs.Option.{option_map}
use Rattle.std.proofs.lemmas.Option.{slice_get-map}
use Rattle.rb_world.specs.World.{Level, Process, is_number, last_of, settled, without_last}
use Rattle.rb_world.specs.Nested.{IsLevelOf}
use Rattle.rb_world.specs.Turn.{is_last_of, leaves, stands_at}
use Rattle.rb_world.proofs.ListFacts.{some_same, second_holds}
use Rattle.rb_world.proofs.Erasing.ErasableKinds.{Parts, whole}
use Rattle.rb_world.proofs.Erasing.Showing.Cuts.{IsConsistent}
use Rattle.rb_world.proofs.LastLevels.{last_or_before, slice_get-last}

-- who stands at the line of c has a level of c as its innermost one
pub record StandsLast {S : Type 0} (c : ℕ) (z : Process S S) : Type 0 where
  pub last : Level S
  pub is_last : last_of z.levels ≡ Some last
  pub of_it : last.facts.conversation ≡ Some c

same_conversation : (c : ℕ) (conversation : Option ℕ) → is_number conversation c ≡ true → conversation ≡ Some c
same_conversation c None e = absurd (true≢false (sym e))
same_conversation c (Some d) e = ap Some (eqb-true d c e)

last_stands : {S : Type 0} (c : ℕ) (z : Process S S) (last : Option (Level S)) → last_of z.levels ≡ last → is_last_of c last ≡ true → StandsLast c z
last_stands c z None e here = absurd (true≢false (sym here))
last_stands c z (Some last) e here = record { last = last; is_last = e; of_it = same_conversation c last.facts.conversation here }

-- so it is of all who stand there
pub stands_last : {S : Type 0} (c : ℕ) (z : Process S S) → stands_at c z ≡ true → StandsLast c z
stands_last c z stands = last_stands c z (last_of z.levels) refl (second_holds z.at_line (is_last_of c (last_of z.levels)) stands)

-- that level, by its number
pub level_at_line : {S : Type 0} (c : ℕ) (z : Process S S) → stands_at c z ≡ true → IsLevelOf c z.levels (length (without_last z.levels))
level_at_line c z stands =
    let at = stands_last c z stands in
    record { level = at.last; there = slice_get-last z.levels at.last at.is_last; of_it = at.of_it }

-- a level that is further out than the line, or is of another conversation, stays
pub level_before : {S : Type 0} (c d i : ℕ) (z : Process S S) → stands_at c z ≡ true → IsLevelOf d z.levels i
    → ((i ≡ length (without_last z.levels)) × (d ≡ c)) ⊎ IsLevelOf d (without_last z.levels) i
level_before c d i z stands l =
    either (last_or_before d i z.levels (stands_last c z stands).last (stands_last c z stands).is_last l
    (nat_lt i (length (without_last z.levels))) refl)
  where
    either : ((i ≡ length (without_last z.levels)) × ((stands_last c z stands).last.facts.conversation ≡ Some d))
        ⊎ IsLevelOf d (without_last z.levels) i
        → ((i ≡ length (without_last z.levels)) × (d ≡ c)) ⊎ IsLevelOf d (without_last z.levels) i
    either (inl h) = inl (h.0, some_same (sym h.1 ∙ (stands_last c z stands).of_it))
    either (inr h) = inr h

module _ {S E P : Type 0} (x : Parts S E P) (c : ℕ) where
  -- who does not stand stays
  pub leaves_not : (z : Process S S) → stands_at c z ≡ false → leaves (whole x) c z ≡ z
  leaves_not z e = ap (λ (b : Bool). cond b (settled (whole x) z.state (without_last z.levels)) z) e

  -- and who stands goes on without its level
  pub leaves_goes : (z : Process S S) → stands_at c z ≡ true → leaves (whole x) c z ≡ settled (whole x) z.state (without_last z.levels)
  leaves_goes z e = ap (λ (b : Bool). cond b (settled (whole x) z.state (without_last z.levels)) z) e

  -- consistency of the new world, in terms of the old one
  pub consistent_left : (f : ℕ → ℕ) (qs : List (Process S S)) → IsConsistent f (map (leaves (whole x) c) qs)
      → (r other d j : ℕ) (z z' : Process S S) → slice_get qs r ≡ Some z → slice_get qs other ≡ Some z'
      → IsLevelOf d (leaves (whole x) c z).levels (f r) → IsLevelOf d (leaves (whole x) c z').levels j → f other ≤ j
  consistent_left f qs consistent r other d j z z' e e' l l' =
      consistent r other d j (leaves (whole x) c z) (leaves (whole x) c z')
      (slice_get-map (leaves (whole x) c) qs r ∙ ap (option_map (leaves (whole x) c)) e)
      (slice_get-map (leaves (whole x) c) qs other ∙ ap (option_map (leaves (whole x) c)) e') l l'

  -- a level that is left after leaving
  pub left_level : (d i : ℕ) (z : Process S S) → stands_at c z ≡ true → IsLevelOf d (without_last z.levels) i
      → IsLevelOf d (leaves (whole x) c z).levels i
  left_level d i z stands l = subst (λ (a : Process S S). IsLevelOf d a.levels i) (sym (leaves_goes z stands)) l

  -- a level of one that stays
  pub stayed_level : (d i : ℕ) (z : Process S S) → stands_at c z ≡ false → IsLevelOf d z.levels i → IsLevelOf d (leaves (whole x) c z).levels i
  stayed_level d i z stands l = subst (λ (a : Process S S). IsLevelOf d a.levels i) (sym (leaves_not z stands)) l
