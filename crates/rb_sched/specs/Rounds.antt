-- The turns that a line still gives, as rounds over processes that stand side by side.
use Rattle.std.specs.Prelude.{◌≡◌, ℕ, zero, suc, ◌-◌, ◌<◌, ◌≤◌, List, [], ◌∷◌, ◌++◌, Option, Some, None}
use Rattle.rb_base.specs.declared.limits.TheConstants.{MOST_TURNS}
use Rattle.rb_sched.specs.Schedule.{numbers_from}

-- so many rounds over the processes from `first` on
abbrev pub rounds_over : ℕ → ℕ → ℕ → List ℕ
rounds_over first size zero = []
rounds_over first size (suc n) = numbers_from first size ++ rounds_over first size n

-- the turns of so many rounds from `first` up to `end`, where the first of them goes on at `at`
abbrev pub turns_left : ℕ → ℕ → ℕ → ℕ → List ℕ
turns_left first end at zero = []
turns_left first end at (suc n) = numbers_from at (end - at) ++ rounds_over first (end - first) n

-- the first of a list is taken off, until none is left
abbrev pub TakesFirst : List ℕ → Option ℕ → List ℕ → Type 0
TakesFirst old None new = (old ≡ []) × (new ≡ [])
TakesFirst old (Some p) new = old ≡ p ∷ new

-- rounds that a line may ask for: while some are left, there are processes, and one of them is next
pub record AreRounds (first end at left : ℕ) : Type 0 where
  pub few_rounds : left ≤ MOST_TURNS
  -- while rounds are left there are processes
  pub some_processes : 0 < left → first < end
  -- while rounds are left one of the processes is next
  pub within : 0 < left → at < end
