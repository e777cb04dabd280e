-- A stuck world stays stuck: no turn changes more than turns used, up to the first in which a level is beyond its bound.
use Rattle.std.proofs.Common.{◌≡◌, ◌⊎◌, ◌<◌, ◌≤◌, inl, inr, le_of_suc-le-suc, ℕ, zero, suc, ◌+◌, true, List, [], ◌∷◌, length, Option, Some, None, slice_get, refl, sym, ap, ◌∙◌, subst, arith}
use Rattle.std.proofs.lemmas.List.{length-map}
use Rattle.std.proofs.lemmas.Option.{slice_get_past}
use Rattle.rb_world.specs.Kind.{Kind}
use Rattle.rb_world.specs.Turn.{moves, turn}
use Rattle.rb_world.specs.World.{Process, World}
use Rattle.std.proofs.Math.Nat.{eq-or-lt_of_le}
use Rattle.std.proofs.lemmas.Bool.{cases_lt}
use Rattle.rb_world.proofs.ListFacts.{first_holds, none_some, second_holds}
use Rattle.rb_stuck.specs.Alike.{IsAlike, uncounted}
use Rattle.rb_stuck.specs.Stuck.{ChangesNothing, TellsNothing, all_still, is_still, is_stuck, stands_still}
use Rattle.rb_stuck.proofs.Still.Turns.{AllFreed, alike_back, alike_self, alike_then, freed_alike, stays_still}

-- as many processes
pub as_many : {S C M : Type 0} (w v : World S C M) → IsAlike w v → length w.processes ≡ length v.processes
as_many w v alike = sym (length-map w.processes uncounted) ∙ ap length alike.processes ∙ length-map v.processes uncounted

module _ {S C M : Type 0} (k : Kind S C M) (n : ℕ) (first : World S C M) where
  pub below : (b p : ℕ) → all_still k n first b ≡ true → p < b → stands_still k n first p ≡ true
  below zero p all less = absurd (omega (arith, less))
  below (suc b) p all less = at_or_below (eq-or-lt_of_le (le_of_suc-le-suc less)) (λ lower. below b p (first_holds (all_still k n first b) (stands_still k n first b) all) lower)
    where
      at_or_below : (p ≡ b) ⊎ (p < b) → (p < b → stands_still k n first p ≡ true) → stands_still k n first p ≡ true
      at_or_below (inl same) lower =
          subst (λ q. stands_still k n first q ≡ true) (sym same) (second_holds (all_still k n first b) (stands_still k n first b) all)
      at_or_below (inr less) lower = lower less

  nobody : (p : ℕ) (o : Option (Process S C)) → o ≡ None → is_still (moves k n p first o).kind ≡ true
  nobody p None e = refl
  nobody p (Some q) e = absurd (none_some (sym e))

  -- in a stuck world each turn is still, also one of nobody
  pub each_still : is_stuck k n first ≡ true → (p : ℕ) → stands_still k n first p ≡ true
  each_still stuck p = within_or_past (cases_lt p (length first.processes))
    where
      within_or_past : (p < length first.processes) ⊎ (length first.processes ≤ p) → stands_still k n first p ≡ true
      within_or_past (inl less) = below (length first.processes) p stuck less
      within_or_past (inr past) = nobody p (slice_get first.processes p) (slice_get_past first.processes p past)

  stays : ((p : ℕ) → stands_still k n first p ≡ true) → AllFreed k first.processes → (t : ℕ) (turns : List ℕ) (w : World S C M)
      → IsAlike w first → ChangesNothing k first t turns w
  stays still free t [] w alike = tt
  stays still free t (p ∷ turns) w alike = λ within.
      let one = stays_still k n t p first w (alike_back alike) (freed_alike k w first alike free) (λ q here runs. within q here) (still p) in
      let after : IsAlike (turn k t p w).0 first = alike_then one.alike alike in (
        (subst (λ many. TellsNothing many (turn k t p w).1) (as_many w first alike) one.tells, after),
        stays still free (t + 1) turns (turn k t p w).0 after,
      )

  pub stuck_stays : is_stuck k n first ≡ true → AllFreed k first.processes → (t : ℕ) (turns : List ℕ) → ChangesNothing k first t turns first
  stuck_stays stuck free t turns = stays (each_still stuck) free t turns first (alike_self first)
