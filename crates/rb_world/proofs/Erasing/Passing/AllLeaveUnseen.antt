-- All members leave a conversation, and the cut shows each of them further out: nothing of it is seen.
use Rattle.std.proofs.Common.{◌≡◌, ◌<◌, ℕ, Bool, true, false, List, [], ◌∷◌, length, map, slice_get, Some, refl, sym, ◌∙◌, subst, not-suc-le-zero}
use Rattle.rb_world.specs.World.{Level, Running, Process, settled, without_last}
use Rattle.rb_world.specs.Standing.{Each}
use Rattle.rb_world.specs.Turn.{leaves, stands_at}
use Rattle.rb_world.proofs.ListFacts.{Each-map}
use Rattle.rb_world.proofs.Keeping.EachProcess.{KeepsEach}
use Rattle.rb_world.proofs.Erasing.ErasableKinds.{Parts, whole, IsErasable}
use Rattle.rb_world.proofs.Erasing.Showing.Cuts.{ShowsOne, Shows}
use Rattle.rb_world.proofs.Erasing.Showing.ErasureInvariant.{IsQuiet}
use Rattle.rb_world.proofs.Erasing.Showing.ShownWorlds.{map_left_shown}
use Rattle.rb_world.proofs.ListFacts.{last_stands_last, slice_get-there}
use Rattle.rb_world.proofs.Erasing.Showing.ShownOlder.{shown_alike, shown_outside}
use Rattle.rb_world.proofs.Erasing.Passing.LeavingCuts.{stands_last, level_at_line, leaves_not, leaves_goes}
use Rattle.rb_world.proofs.Erasing.Passing.AllOrNoneLeave.{StandsThere}

module _ {S E P : Type 0} (x : Parts S E P) (Known : ℕ → Process S S → Type 0) (laws : IsErasable x Known) (c : ℕ)
    (qs : List (Process S S)) (known : Each Known qs) where
  -- who stands runs
  pub stander_runs : (r : ℕ) (z : Process S S) → StandsThere c r qs z → z.status ≡ Running
  stander_runs r z at =
      let level = level_at_line c z at.stands in
      laws.runs r z (length (without_last z.levels)) level.level (known r z at.there) level.there

  module _ (keeps : KeepsEach (whole x) Known) (f : ℕ → ℕ)
      (older : (r : ℕ) (z : Process S S) → StandsThere c r qs z → f r < length (without_last z.levels)) where
    -- and runs on, if a level is left
    leaver_runs : (r : ℕ) (z : Process S S) → StandsThere c r qs z → (settled (whole x) z.state (without_last z.levels)).status ≡ Running
    leaver_runs r z at =
        let found = slice_get-there (without_last z.levels) (f r) (older r z at) in
        laws.runs r (settled (whole x) z.state (without_last z.levels)) (f r) found.0 (keeps.leaves r c z (known r z at.there) at.stands) found.1

    one_unseen_leaves : (r : ℕ) (z : Process S S) (u : Process S P) → slice_get qs r ≡ Some z → ShowsOne x (f r) z u
        → (stands : Bool) → stands_at c z ≡ stands
        → ShowsOne x (f r) (leaves (whole x) c z) u
    one_unseen_leaves r z u e shows true stands =
        let at : StandsThere c r qs z = record { there = e; stands = stands } in
        let last = stands_last c z stands in
        let runs = stander_runs r z at in
        let runs' = leaver_runs r z at in
        subst (λ (a : Process S S). ShowsOne x (f r) a u) (sym (leaves_goes x c z stands))
        (shown_alike x (f r) (f r) z (settled (whole x) z.state (without_last z.levels)) u runs runs'
        (sym (shown_outside x (f r) (settled (whole x) z.state (without_last z.levels)) z (last.last ∷ []) (older r z at)
        (last_stands_last z.levels last.last last.is_last) (runs ∙ sym runs'))) shows)
    one_unseen_leaves r z u e shows false stands = subst (λ (a : Process S S). ShowsOne x (f r) a u) (sym (leaves_not x c z stands)) shows

    pub unseen_leaves : (us : List (Process S P)) → Shows x f qs us → Shows x f (map (leaves (whole x) c) qs) us
    unseen_leaves us shows =
        map_left_shown x f f (leaves (whole x) c) qs us (λ r z u e _ h. one_unseen_leaves r z u e h (stands_at c z) refl) shows

    -- who stands has a level left, so it has nothing to release
    quiet_leaver : (r : ℕ) (z : Process S S) → slice_get qs r ≡ Some z → IsQuiet x r z → (stands : Bool) → stands_at c z ≡ stands
        → IsQuiet x r (leaves (whole x) c z)
    quiet_leaver r z e quiet true stands =
        subst (IsQuiet x r) (sym (leaves_goes x c z stands))
        (λ bare. absurd (not-suc-le-zero (subst (λ (ls : List (Level S)). f r < length ls) bare (older r z (record { there = e; stands = stands })))))
    quiet_leaver r z e quiet false stands = subst (IsQuiet x r) (sym (leaves_not x c z stands)) quiet

    pub quiet_leaves : Each (IsQuiet x) qs → Each (IsQuiet x) (map (leaves (whole x) c) qs)
    quiet_leaves quiet = Each-map (IsQuiet x) (leaves (whole x) c) qs quiet (λ r z e h. quiet_leaver r z e h (stands_at c z) refl)
