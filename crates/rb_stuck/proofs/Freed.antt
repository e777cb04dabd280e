-- In every world of a tree's run who has no level holds no line.
use Rattle.std.proofs.Common.{◌≡◌, ℕ, ◌+◌, List, [], ◌∷◌, map, refl}
use Rattle.rb_syntax.specs.Tree.{ProcessDeclaration, Tree}
use Rattle.rb_world.specs.Kind.{Kind}
use Rattle.rb_world.specs.Turn.{freed, move, run, turn}
use Rattle.rb_world.specs.World.{Level, Process, World, settled}
use Rattle.rb_meaning.specs.Meaning.{opening_states, run_of, tree_kind}
use Rattle.rb_stuck.proofs.Still.Turns.{AllFreed, HoldsNone}

-- What is released is no longer held, and is released once.
pub record ReleasesAll {S C M : Type 0} (k : Kind S C M) : Type 0 where
  pub none : (s : S) → k.held (k.release s) ≡ []
  pub once : (s : S) → k.release (k.release s) ≡ k.release s

module _ {S C M : Type 0} (k : Kind S C M) (releases : ReleasesAll k) where
  freed_holds : (s : S) (levels : List (Level C)) (q : Process S C) → q.state ≡ s → q.levels ≡ levels → HoldsNone k (freed k q)
  freed_holds s levels q e f = holds q.levels
    where
      holds : (ls : List (Level C)) → HoldsNone k (freed k (record q { levels = ls }))
      holds [] = (releases.none q.state, releases.once q.state)
      holds (l ∷ ls) = (refl, refl)

  all_freed : (qs : List (Process S C)) → AllFreed k (map (freed k) qs)
  all_freed [] = tt
  all_freed (q ∷ qs) = (freed_holds q.state q.levels q refl refl, all_freed qs)

  -- so it is after each turn
  pub run_frees : (t : ℕ) (turns : List ℕ) (w : World S C M) → AllFreed k w.processes → AllFreed k (run k t turns w).0.processes
  run_frees t [] w free = free
  run_frees t (p ∷ turns) w free =
      run_frees (t + 1) turns (turn k t p w).0 (all_freed (move k t p w).world.processes)

tree_releases : (tree : Tree) → ReleasesAll (tree_kind tree)
tree_releases tree = record { none = λ s. refl; once = λ s. refl }

opening_holds : (tree : Tree) (p : ℕ) (processes : List ProcessDeclaration)
    → AllFreed (tree_kind tree) (map (λ s. settled (tree_kind tree) s []) (opening_states tree p processes))
opening_holds tree p [] = tt
opening_holds tree p (process ∷ processes) = ((refl, refl), opening_holds tree (p + 1) processes)

pub tree_runs_freed : (tree : Tree) (turns : List ℕ) → AllFreed (tree_kind tree) (run_of tree turns).0.processes
tree_runs_freed tree turns = run_frees (tree_kind tree) (tree_releases tree) 1 turns _ (opening_holds tree 0 tree.processes)
