-- What an acceptance test that held comes to: a private level goes, and a member comes to its test line.
use Rattle.std.proofs.Common.{◌≡◌, ℕ, List, map, set, Option, Some, None, option_map, refl, ap, sym, ◌∙◌, subst}
use Rattle.rb_syntax.specs.Tree.{Tree}
use Rattle.rb_world.specs.Turn.{accepted, accepted_at, at_test_line, stands_now}
use Rattle.rb_world.specs.World.{Level as Open, last_of, settled, with_process, without_last}
use Rattle.rb_world.proofs.ListFacts.{none_some, some_same}
use Rattle.rb_meaning.specs.State.{State}
use Rattle.rb_meaning.specs.PlainRun.{EntryPoint, PlainWorld}
use Rattle.rb_levels.specs.declared.process.Process.{Process}
use Rattle.rb_levels.specs.Moves.{skipped}
use Rattle.rb_walk.specs.States.{state_of}
use Rattle.rb_levels.specs.Worlds.{level_of, process_of, unkept_kind, world_of}
use Rattle.rb_plain.proofs.MovedProcesses.{world_moved}

-- the conversation of a level, if a level is open
abbrev pub conversation_at : Option (Open EntryPoint) → Option (Option ℕ)
conversation_at level = option_map (λ one. one.facts.conversation) level

module _ (tree : Tree) (p : ℕ) (levels : List (Open EntryPoint)) (w : PlainWorld) (s : State) where
  -- without a level nothing changes
  pub no_level : (o : Option (Open EntryPoint)) → conversation_at o ≡ None → w ≡ (accepted (unkept_kind tree) p levels o w (s, tt)).world
  no_level None e = refl
  no_level (Some level) e = cc

  -- what it comes to, by the innermost level, and by its conversation
  comes : (o : Option (Open EntryPoint)) (c : Option ℕ) → conversation_at o ≡ Some c
      → (accepted_at (unkept_kind tree) p levels c w (s, tt)).world ≡ (accepted (unkept_kind tree) p levels o w (s, tt)).world
  comes None c e = absurd (none_some e)
  comes (Some level) c e = ap (λ d. (accepted_at (unkept_kind tree) p levels d w (s, tt)).world) (sym (some_same e))

module _ (tree : Tree) (processes : List Process) (p : ℕ) (one : Process) where
  -- a private level has gone
  alone : (new : Process) → conversation_at (last_of (map level_of one.levels.items)) ≡ Some None
      → process_of new ≡ settled (unkept_kind tree) (skipped (state_of one.state)) (without_last (map level_of one.levels.items))
      → world_of tree (set processes p new)
      ≡ (accepted (unkept_kind tree) p (map level_of one.levels.items) (last_of (map level_of one.levels.items)) (world_of tree processes)
      (skipped (state_of one.state), tt)).world
  alone new private gone =
      let w = world_of tree processes in
      world_moved tree processes p new ∙ ap (λ q. with_process p (λ _. q) w) gone
      ∙ comes tree p (map level_of one.levels.items) w (skipped (state_of one.state)) (last_of (map level_of one.levels.items)) None private

  -- a member has come to its test line
  together : (new : Process) (after : List Process) (c : ℕ) → conversation_at (last_of (map level_of one.levels.items)) ≡ Some (Some c)
      → process_of new ≡ stands_now (skipped (state_of one.state)) (map level_of one.levels.items)
      → world_of tree after ≡ (at_test_line (unkept_kind tree) c (world_of tree (set processes p new))).world
      → world_of tree after
      ≡ (accepted (unkept_kind tree) p (map level_of one.levels.items) (last_of (map level_of one.levels.items)) (world_of tree processes)
      (skipped (state_of one.state), tt)).world
  together new after c member stands passes =
      let w = world_of tree processes in
      passes
      ∙ ap (λ v. (at_test_line (unkept_kind tree) c v).world) (world_moved tree processes p new ∙ ap (λ q. with_process p (λ _. q) w) stands)
      ∙ comes tree p (map level_of one.levels.items) w (skipped (state_of one.state)) (last_of (map level_of one.levels.items)) (Some c) member

  -- the same, of what was read at its place
  module _ (x y : Process) (read : x ≡ one) (again : y ≡ one) where
    pub alone_gone : (new : Process) → conversation_at (last_of (map level_of x.levels.items)) ≡ Some None
        → process_of new ≡ settled (unkept_kind tree) (skipped (state_of y.state)) (without_last (map level_of y.levels.items))
        → world_of tree (set processes p new)
        ≡ (accepted (unkept_kind tree) p (map level_of one.levels.items) (last_of (map level_of one.levels.items)) (world_of tree processes)
        (skipped (state_of one.state), tt)).world
    alone_gone new private gone =
        alone new (subst (λ (z : Process). conversation_at (last_of (map level_of z.levels.items)) ≡ Some None) read private)
        (subst (λ (z : Process). process_of new
        ≡ settled (unkept_kind tree) (skipped (state_of z.state)) (without_last (map level_of z.levels.items))) again gone)

    pub together_gone : (new : Process) (after : List Process) (c : ℕ) → conversation_at (last_of (map level_of x.levels.items)) ≡ Some (Some c)
        → process_of new ≡ stands_now (skipped (state_of y.state)) (map level_of y.levels.items)
        → world_of tree after ≡ (at_test_line (unkept_kind tree) c (world_of tree (set processes p new))).world
        → world_of tree after
        ≡ (accepted (unkept_kind tree) p (map level_of one.levels.items) (last_of (map level_of one.levels.items)) (world_of tree processes)
        (skipped (state_of one.state), tt)).world
    together_gone new after c member stands passes =
        together new after c (subst (λ (z : Process). conversation_at (last_of (map level_of z.levels.items)) ≡ Some (Some c)) read member)
        (subst (λ (z : Process). process_of new ≡ stands_now (skipped (state_of z.state)) (map level_of z.levels.items)) again stands) passes
