-- A process that a cut shows as it is, or at an older recovery point; and what stays shown when levels are added inside, or go.
use Rattle.std.proofs.Common.{◌≡◌, ◌≤◌, ◌<◌, ◌+◌, ℕ, false, List, ◌++◌, length, take, slice_get, Some, sym, ap, ap₂, ◌∙◌, arith, true≢false}
use Rattle.rb_world.specs.World.{Level, ProcessStatus, Running, Process}
use Rattle.rb_world.specs.Standing.{is_failed}
use Rattle.rb_world.proofs.Erasing.ErasableKinds.{Parts}
use Rattle.rb_world.proofs.Erasing.Showing.Cuts.{plain_levels, shown_at, shown, ShowsOne, Alive, Lost, Shows}
use Rattle.rb_world.proofs.ListFacts.{slice_get-front, slice_get-there, take-front}
use Rattle.rb_world.proofs.Erasing.Showing.ShownWorlds.{IsShown, get_shown}
use Rattle.rb_world.proofs.Erasing.Stepping.PresentProcess.{as_is, shown_present}

module _ {S E P : Type 0} (x : Parts S E P) where
  -- the recovery point at which a process is shown
  abbrev pub older : ℕ → ProcessStatus → List (Level S) → Level S → Process S P
  older n status levels level = record { state = level.copy; levels = plain_levels x (take (n + 1) levels); at_line = false; status = status }

  -- at the number of a level it is shown at that level's recovery point
  pub shown_older : (n : ℕ) (q : Process S S) (level : Level S) → slice_get q.levels n ≡ Some level → shown x n q ≡ older n q.status q.levels level
  shown_older n q level e = ap (shown_at x n q) e

  -- levels that are added inside, or go, are not seen by a cut that shows a level further out
  pub shown_outside : (n : ℕ) (q longer : Process S S) (more : List (Level S)) → n < length q.levels → longer.levels ≡ q.levels ++ more
      → longer.status ≡ q.status → shown x n longer ≡ shown x n q
  shown_outside n q longer more h levels status =
      let found : (y : Level S) × (slice_get q.levels n ≡ Some y) = slice_get-there q.levels n h in
      shown_older n longer found.0 (ap (λ (ls : List (Level S)). slice_get ls n) levels ∙ slice_get-front q.levels more n h ∙ found.1)
      ∙ ap₂ (λ (st : ProcessStatus) (ls : List (Level S)). record { state = found.0.copy; levels = plain_levels x ls; at_line = false; status = st }) status
      (ap (λ (ls : List (Level S)). take (n + 1) ls) levels ∙ take-front q.levels more (n + 1) (omega (arith, h)))
      ∙ sym (shown_older n q found.0 found.1)

  -- who runs has not failed
  pub running_whole : (q : Process S S) → q.status ≡ Running → is_failed q.status ≡ false
  running_whole q e = ap is_failed e

  -- who has not failed is shown in no other way
  pub shown_alive : (n : ℕ) (q : Process S S) (u : Process S P) → is_failed q.status ≡ false → ShowsOne x n q u → u ≡ shown x n q
  shown_alive n q u e (Alive whole same) = same
  shown_alive n q u e (Lost failed state line own) = absurd (true≢false (sym failed ∙ e))

  -- another process is shown by the same, where both run and are shown alike
  pub shown_alike : (n m : ℕ) (q r : Process S S) (u : Process S P) → q.status ≡ Running → r.status ≡ Running → shown x m r ≡ shown x n q
      → ShowsOne x n q u → ShowsOne x m r u
  shown_alike n m q r u e e' same shows = Alive (running_whole r e') (shown_alive n q u (running_whole q e) shows ∙ sym same)

  -- a running process that the cut shows as it is
  pub present_there : (f : ℕ → ℕ) (p : ℕ) (q : Process S S) (qs : List (Process S S)) (us : List (Process S P)) → Shows x f qs us
      → slice_get qs p ≡ Some q → q.status ≡ Running → length q.levels ≤ f p → slice_get us p ≡ Some (as_is x q)
  present_there f p q qs us shows there running h =
      let found : IsShown x (f p) p q us = get_shown x f p qs us q shows there in
      found.there ∙ ap Some (shown_alive (f p) q found.process (running_whole q running) found.shows ∙ shown_present x (f p) q h)
