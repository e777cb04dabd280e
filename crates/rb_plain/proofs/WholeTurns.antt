-- A whole turn: what a kept turn comes to, once lines are released.
use Rattle.std.proofs.Common.{◌≡◌, option_map, slice_get, Option, Some, None, sym, ap, ◌∙◌}
use Rattle.rb_base.specs.declared.kept.Kept.{Kept}
use Rattle.rb_syntax.specs.Tree.{Tree}
use Rattle.rb_world.specs.World.{with_each}
use Rattle.rb_world.specs.Turn.{Moved, Told, freed, told}
use Rattle.rb_world.specs.Plain.{plain_moves, plain_turn, plain_turned}
use Rattle.rb_world.proofs.ListFacts.{none_some, some_same}
use Rattle.rb_meaning.specs.State.{State}
use Rattle.rb_meaning.specs.Step.{Nothing}
use Rattle.rb_meaning.specs.PlainRun.{EntryPoint, PlainWorld}
use Rattle.rb_levels.specs.Worlds.{moved_world, unkept_kind}

module _ (tree : Tree) (kept : Kept) (w : PlainWorld) where
  moved_on : (moved : Option (Moved State EntryPoint Nothing)) (v u : PlainWorld) → option_map (λ m. m.world) moved ≡ Some v
      → u ≡ with_each (freed (unkept_kind tree)) v → (one : Told) × (plain_turned (unkept_kind tree) w moved ≡ Some (u, one))
  moved_on None v u e f = absurd (none_some e)
  moved_on (Some moved) v u e f =
      let one = told (unkept_kind tree) w moved in (
        one,
        ap (λ (x : PlainWorld). Some (x, one)) (ap (with_each (freed (unkept_kind tree))) (some_same e) ∙ sym f),
      )

  -- a turn that was taken, once lines are released
  pub turn_on : (v u : PlainWorld) → moved_world tree kept w ≡ Some v → u ≡ with_each (freed (unkept_kind tree)) v
      → (one : Told) × (plain_turn (unkept_kind tree) kept w ≡ Some (u, one))
  turn_on v u e f = moved_on (plain_moves (unkept_kind tree) kept w (slice_get w.processes kept.process)) v u e f
