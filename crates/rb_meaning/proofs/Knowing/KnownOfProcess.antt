-- What is known of each process of a run of a nested program.
use Rattle.std.proofs.Common.{◌≡◌, ℕ, false, List, [], ◌∷◌}
use Rattle.rb_syntax.specs.Tree.{Tree}
use Rattle.rb_world.specs.World.{Level, ProcessStatus, Running, Process}
use Rattle.rb_world.specs.Standing.{is_failed}
use Rattle.rb_meaning.specs.State.{State}
use Rattle.rb_meaning.specs.Laws.{with_test}
use Rattle.rb_meaning.proofs.InsideOut.{onto}
use Rattle.rb_meaning.proofs.Nesting.RecoveryPoints.{ArePoints, IsOwn, facts_in, facts_left}

-- who has a level runs
abbrev pub RunsInside : List (Level State) → ProcessStatus → Type 0
RunsInside [] status = Unit {0}
RunsInside (level ∷ levels) status = status ≡ Running

-- What is left of it keeps the rules, in its state and in its recovery points; unless it failed, the blocks that are left are
-- those of its levels; and who has a level runs.
pub record Known (tree : Tree) (p : ℕ) (q : Process State State) : Type 0 where
  pub own : IsOwn tree p q.state
  pub points : ArePoints tree p [] q.levels
  pub left : is_failed q.status ≡ false → facts_left tree q.state.items ≡ onto [] (with_test q.at_line (facts_in q.levels))
  pub inside : RunsInside q.levels q.status
