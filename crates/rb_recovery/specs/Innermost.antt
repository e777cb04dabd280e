-- The innermost level of a process, and what it wants.
use Rattle.std.specs.Prelude.{◌≡◌, ℕ, List, slice_get, Option, Some, None}
use Rattle.rb_world.specs.World.{Level}
use Rattle.rb_code.specs.Instructions.Plain.{Code}
use Rattle.rb_code.specs.WordMachine.Turn.{Copy, want}
use Rattle.rb_proc.specs.Process.{Seen, wanted_by}
use Rattle.rb_recoverable.specs.Views.{IsViewOf}
use Rattle.rb_recoverable.specs.declared.level_view.LevelView.{LevelView}
use Rattle.rb_proc.specs.declared.answers.Wanted.{Wanted}

-- these are the levels' innermost one, if there is one
abbrev pub IsInnermost : Option (Level Copy) → Option LevelView → Type 0
IsInnermost None None = Unit {0}
IsInnermost None (Some view) = ⊥
IsInnermost (Some level) None = ⊥
IsInnermost (Some level) (Some view) = IsViewOf (Some level) view

-- the alternate that a level tries, and 0 without a level
abbrev pub tried_by : Option LevelView → ℕ
tried_by None = 0
tried_by (Some view) = view.alternate

-- what process number p wants
abbrev pub WantsThere : Code → List Seen → ℕ → Wanted → Type 0
WantsThere c procs p wanted = (one : Seen) → slice_get procs p ≡ Some one → wanted ≡ wanted_by (want c one.process.state)
