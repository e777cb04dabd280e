-- A process that a cut shows as it is: what is known of it, of the world, and of the plain world that shows the cut.
use Rattle.std.proofs.Common.{◌≡◌, ◌≤◌, ℕ, zero, suc, false, List, [], ◌∷◌, length, slice_get, Option, Some, None, sym, ap, ◌∙◌, true≢false}
use Rattle.std.proofs.lemmas.Option.{slice_get_past}
use Rattle.rb_world.specs.World.{Running, Process, World}
use Rattle.rb_world.specs.Standing.{Each, is_failed}
use Rattle.rb_world.proofs.Erasing.ErasableKinds.{Nothing, Parts}
use Rattle.rb_world.proofs.Erasing.Showing.Cuts.{Alive, Lost, IsConsistent, Shows, ShowsOne, plain_levels, shown, shown_at}
use Rattle.rb_world.proofs.Erasing.Showing.ErasureInvariant.{IsGrounded}
use Rattle.rb_world.proofs.Erasing.Showing.ShownWorlds.{get_shown}

-- the process as a plain run has it, with all its levels
abbrev pub as_is : {S E P : Type 0} → Parts S E P → Process S S → Process S P
as_is x q = record { state = q.state; levels = plain_levels x q.levels; at_line = q.at_line; status = q.status }

-- who is looked up in a world, and in the world that a cut of it shows: nobody in both, or a process and who shows it
abbrev pub BothShown : {S E P : Type 0} → Parts S E P → ℕ → Option (Process S S) → Option (Process S P) → Type 0
BothShown x n None None = Unit {0}
BothShown x n None (Some u) = ⊥
BothShown x n (Some q) None = ⊥
BothShown x n (Some q) (Some u) = ShowsOne x n q u

-- q is process p of w and runs; the cut f of w, which v shows, has p as it is
pub record IsPresent {S E P : Type 0} (x : Parts S E P) (Known : ℕ → Process S S → Type 0) (f : ℕ → ℕ) (p : ℕ)
    (q : Process S S) (w : World S S Nothing) (v : World S P Nothing) : Type 0 where
  pub there : slice_get w.processes p ≡ Some q
  pub running : q.status ≡ Running
  pub present : length q.levels ≤ f p
  pub shows : Shows x f w.processes v.processes
  pub consistent : IsConsistent f w.processes
  pub grounded : Each (IsGrounded x Known) w.processes

module _ {S E P : Type 0} (x : Parts S E P) where
  -- a process and who shows it are looked up together
  pub both_shown : (f : ℕ → ℕ) (r : ℕ) (qs : List (Process S S)) (us : List (Process S P)) → Shows x f qs us
      → BothShown x (f r) (slice_get qs r) (slice_get us r)
  both_shown f r [] [] shows = tt
  both_shown f r [] (u ∷ us) shows = absurd shows
  both_shown f r (q ∷ qs) [] shows = absurd shows
  both_shown f zero (q ∷ qs) (u ∷ us) shows = shows.0
  both_shown f (suc r) (q ∷ qs) (u ∷ us) shows = both_shown (λ n. f (suc n)) r qs us shows.1

  -- where a process has no level of that number, it is shown as it is
  pub shown_present : (n : ℕ) (q : Process S S) → length q.levels ≤ n → shown x n q ≡ as_is x q
  shown_present n q past = ap (shown_at x n q) (slice_get_past q.levels n past)

  -- one that has not failed and has no level of that number is shown as it is
  pub present_one : (n : ℕ) (q : Process S S) (u : Process S P) → is_failed q.status ≡ false → length q.levels ≤ n → ShowsOne x n q u → u ≡ as_is x q
  present_one n q u well past (Alive alive e) = e ∙ shown_present n q past
  present_one n q u well past (Lost failed state line own) = absurd (true≢false (sym failed ∙ well))

  -- who is shown as it is
  pub present_there : (Known : ℕ → Process S S → Type 0) (f : ℕ → ℕ) (p : ℕ) (q : Process S S) (w : World S S Nothing) (v : World S P Nothing)
      → IsPresent x Known f p q w v → slice_get v.processes p ≡ Some (as_is x q)
  present_there Known f p q w v here =
      let found = get_shown x f p w.processes v.processes q here.shows here.there in
      found.there ∙ ap Some (present_one (f p) q found.process (ap is_failed here.running) here.present found.shows)
