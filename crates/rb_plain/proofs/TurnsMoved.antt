-- The world that a kept turn comes to, by what its process is.
use Rattle.std.proofs.Common.{◌≡◌, Bool, true, false, cond, inl, inr, List, slice_get, Option, Some, None, option_map, Result, refl, ap, sym, ◌∙◌, subst}
use Rattle.std.proofs.lemmas.Option.{slice_get-map}
use Rattle.rb_syntax.specs.Tree.{Tree}
use Rattle.rb_base.specs.declared.kept.Kept.{Kept}
use Rattle.rb_world.proofs.ListFacts.{some_same}
use Rattle.rb_world.specs.Plain.{plain_acts, plain_moves, plain_runs}
use Rattle.rb_meaning.specs.Step.{wants_first}
use Rattle.rb_meaning.specs.PlainRun.{PlainWorld}
use Rattle.rb_walk.specs.declared.halt.Halt.{Halt}
use Rattle.rb_walk.specs.declared.items.First.{First}
use Rattle.rb_walk.specs.Items.{IsFirst}
use Rattle.rb_walk.specs.States.{state_of}
use Rattle.rb_levels.specs.declared.process.Process.{Process}
use Rattle.rb_levels.specs.Moves.{PlainProcess, IsReady}
use Rattle.rb_plain.specs.Turns.{acted_world, IsFirstReady}
use Rattle.rb_levels.specs.Worlds.{moved_world, process_of, status_of, unkept_kind, world_of, MovesTo}

-- the process that is there is ready, and this stands first in it
pub ready_first : (first : First) (o : Option Process) → IsFirstReady o (Some first) → (one : Process) → o ≡ Some one
    → IsReady one × IsFirst (state_of one.state).items first
ready_first first None ready one e = absurd ready
ready_first first (Some there) ready one e = subst (λ (p : Process). IsReady p × IsFirst (state_of p.state).items first) (some_same e) ready

module _ (tree : Tree) (kept : Kept) (processes : List Process) where
  -- the world after the turn, by the process that is there
  abbrev Moves : Option PlainProcess → Option PlainWorld
  Moves o = option_map (λ m. m.world) (plain_moves (unkept_kind tree) kept (world_of tree processes) o)

  found : (o : Option Process) → slice_get processes kept.process ≡ o
      → moved_world tree kept (world_of tree processes) ≡ Moves (option_map process_of o)
  found o e = ap Moves (slice_get-map process_of processes kept.process ∙ ap (option_map process_of) e)

  -- it runs, away from every test line
  runs : (one : Process) → slice_get processes kept.process ≡ Some one → IsReady one
      → moved_world tree kept (world_of tree processes) ≡ acted_world tree kept (process_of one) (world_of tree processes)
  runs one there ready =
      let k = unkept_kind tree in
      let q = process_of one in
      let w = world_of tree processes in
      found (Some one) there
      ∙ ap (λ b. option_map (λ m. m.world) (plain_runs k kept q w (status_of b))) ready.runs
      ∙ ap (λ b. option_map (λ m. m.world) (cond b None (plain_acts k kept q w (wants_first tree q.state.items)))) ready.away

  pub turned : {A : Type 0} (first : First) (new : PlainWorld) (result : Result A Halt) → IsFirstReady (slice_get processes kept.process) (Some first)
      → ((one : Process) → slice_get processes kept.process ≡ Some one
      → MovesTo (acted_world tree kept (process_of one) (world_of tree processes)) new result)
      → MovesTo (moved_world tree kept (world_of tree processes)) new result
  turned {A} first new result ready moves = by (slice_get processes kept.process) refl ready
    where
      by : (o : Option Process) → slice_get processes kept.process ≡ o → IsFirstReady o (Some first)
          → MovesTo {A = A} (moved_world tree kept (world_of tree processes)) new result
      by None e ready = absurd ready
      by (Some one) e ready = subst (λ (o : Option PlainWorld). MovesTo {A = A} o new result) (sym (runs one e ready.0)) (moves one e)

  -- it is not there, or done, or at a test line
  stops : (one : Process) (b : Bool) → one.is_done ≡ b → one.at_line ≡ true → Moves (Some (process_of one)) ≡ None
  stops one b done line =
      let k = unkept_kind tree in
      let q = process_of one in
      let w = world_of tree processes in
      ap (λ s. option_map (λ m. m.world) (plain_runs k kept q w (status_of s))) done ∙ by b
    where
      by : (b : Bool) → option_map (λ m. m.world) (plain_runs (unkept_kind tree) kept (process_of one) (world_of tree processes) (status_of b)) ≡ None
      by true = refl
      by false =
          ap (λ b. option_map (λ m. m.world)
          (cond b None
          (plain_acts (unkept_kind tree) kept (process_of one) (world_of tree processes)
          (wants_first tree (process_of one).state.items)))) line

  pub stuck : IsFirstReady (slice_get processes kept.process) None → moved_world tree kept (world_of tree processes) ≡ None
  stuck ready = by (slice_get processes kept.process) refl ready
    where
      by : (o : Option Process) → slice_get processes kept.process ≡ o → IsFirstReady o None → moved_world tree kept (world_of tree processes) ≡ None
      by None e ready = found None e
      by (Some one) e (inl done) =
          found (Some one) e
          ∙ ap (λ b. option_map (λ m. m.world) (plain_runs (unkept_kind tree) kept (process_of one) (world_of tree processes) (status_of b))) done
      by (Some one) e (inr line) = found (Some one) e ∙ stops one one.is_done refl line
