-- What holds of every schedule.
use Rattle.std.specs.Prelude.{◌≡◌, ℕ, ◌<◌, ◌≤◌, List, length, Ok}
use Rattle.std.specs.List.{AllByRecursion}
use Rattle.rb_base.specs.declared.limits.TheConstants.{MOST_TURNS}
use Rattle.rb_sched.specs.Schedule.{schedule_of}

-- each turn is that of a process, and there are at most as many as a schedule may have
abbrev pub TurnsNameProcesses : Type 0
TurnsNameProcesses =
    (names : List (List ℕ)) (text turns : List ℕ) → schedule_of names text ≡ Ok turns
    → AllByRecursion (λ p. p < length names) turns × (length turns ≤ MOST_TURNS)
