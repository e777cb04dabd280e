-- The world once one of its processes in memory has become another.
use Rattle.std.proofs.Common.{◌≡◌, ℕ, zero, suc, List, [], ◌∷◌, map, set, get_or, slice_get, subst, Option, Some, Result, Ok, Err, refl, ap, sym, ◌∙◌}
use Rattle.std.proofs.lemmas.Option.{get_or_from_slice_get}
use Rattle.rb_syntax.specs.Tree.{Tree}
use Rattle.rb_world.specs.World.{change_at, with_process}
use Rattle.rb_world.specs.Turn.{opening_talks}
use Rattle.rb_base.specs.declared.kept.Kept.{Kept}
use Rattle.rb_meaning.specs.Groups.{groups_of}
use Rattle.rb_meaning.specs.PlainRun.{PlainWorld}
use Rattle.rb_walk.specs.declared.halt.Halt.{Halt}
use Rattle.rb_walk.specs.declared.halt.Halt.TheVariants.{Stuck, Memory}
use Rattle.rb_levels.specs.declared.process.Process.{Process}
use Rattle.rb_levels.specs.Moves.{PlainProcess, Becomes}
use Rattle.rb_plain.specs.Turns.{acted_world, with_moved}
use Rattle.rb_levels.specs.Worlds.{process_of, world_of, MovesTo}

-- a process that is written at its place
processes_moved : (processes : List Process) (p : ℕ) (new : Process)
    → map process_of (set processes p new) ≡ change_at p (λ _. process_of new) (map process_of processes)
processes_moved [] p new = refl
processes_moved (one ∷ processes) zero new = refl
processes_moved (one ∷ processes) (suc p) new = ap (λ qs. process_of one ∷ qs) (processes_moved processes p new)

pub world_moved : (tree : Tree) (processes : List Process) (p : ℕ) (new : Process)
    → world_of tree (set processes p new) ≡ with_process p (λ _. process_of new) (world_of tree processes)
world_moved tree processes p new =
    ap (λ qs. record { processes = qs; talks = opening_talks (groups_of tree); memory = tt }) (processes_moved processes p new)

-- what came of the process is what came of its world
pub moves_with : {A : Type 0} (tree : Tree) (processes : List Process) (p : ℕ) (new : Process) (moved : Option PlainProcess) (result : Result A Halt)
    → Becomes moved (process_of new) result → MovesTo (with_moved p (world_of tree processes) moved) (world_of tree (set processes p new)) result
moves_with tree processes p new moved (Ok done) e =
    ap (with_moved p (world_of tree processes)) e ∙ ap Some (sym (world_moved tree processes p new))
moves_with tree processes p new moved (Err Stuck) e = ap (with_moved p (world_of tree processes)) e
moves_with tree processes p new moved (Err Memory) e = tt

-- the same at the place where a process was read, by what it comes to alone
pub moved_there : {A : Type 0} (tree : Tree) (kept : Kept) (processes : List Process) (one d : Process) → slice_get processes kept.process ≡ Some one
    → (alone : PlainProcess → Option PlainProcess) (new : Process) (result : Result A Halt)
    → acted_world tree kept (process_of one) (world_of tree processes) ≡ with_moved kept.process (world_of tree processes) (alone (process_of one))
    → Becomes (alone (process_of (get_or processes kept.process d))) (process_of new) result
    → MovesTo (acted_world tree kept (process_of one) (world_of tree processes)) (world_of tree (set processes kept.process new)) result
moved_there {A} tree kept processes one d there alone new result acted becomes =
    let w = world_of tree processes in
    let here : Becomes {A = A} (alone (process_of one)) (process_of new) result =
    subst (λ (x : Process). Becomes {A = A} (alone (process_of x)) (process_of new) result)
    (get_or_from_slice_get processes kept.process one d there) becomes in
    subst (λ (o : Option PlainWorld). MovesTo {A = A} o (world_of tree (set processes kept.process new)) result) (sym acted)
    (moves_with tree processes kept.process new (alone (process_of one)) result here)
