-- What is true of every world that a run comes to: no process comes or goes, nor a conversation; no process has more than
-- the most levels; a process that has failed has none.
use Rattle.std.specs.Prelude.{◌≡◌, ◌≤◌, ℕ, Bool, true, false, List, [], length, slice_get, Some}
use Rattle.rb_world.specs.Kind.{Kind}
use Rattle.rb_world.specs.World.{ProcessStatus, Running, Finished, FailedWith, Process, World}
use Rattle.rb_world.specs.Turn.{most_levels}

-- P holds of each element, by its number
abbrev pub Each : {A : Type 0} → (ℕ → A → Type 0) → List A → Type 0
Each {A} P xs = (r : ℕ) (x : A) → slice_get xs r ≡ Some x → P r x

-- so many processes, and so many conversations
pub record HasSize {S C M : Type 0} (processes talks : ℕ) (w : World S C M) : Type 0 where
  pub of_processes : length w.processes ≡ processes
  pub of_talks : length w.talks ≡ talks

-- a process has no more than the most levels
abbrev pub IsShallow : {S C : Type 0} → ℕ → Process S C → Type 0
IsShallow p q = length q.levels ≤ most_levels

-- a process has failed
abbrev pub is_failed : ProcessStatus → Bool
is_failed Running = false
is_failed Finished = false
is_failed (FailedWith cause) = true

-- a process that has failed has no level
abbrev pub IsBareIfFailed : {S C : Type 0} → ℕ → Process S C → Type 0
IsBareIfFailed p q = is_failed q.status ≡ true → q.levels ≡ []

-- all of this of one world, with as many processes and conversations as it opened with
pub record IsStanding {S C M : Type 0} (k : Kind S C M) (states : List S) (w : World S C M) : Type 0 where
  pub size : HasSize (length states) (length k.groups) w
  pub shallow : Each IsShallow w.processes
  pub bare : Each IsBareIfFailed w.processes
