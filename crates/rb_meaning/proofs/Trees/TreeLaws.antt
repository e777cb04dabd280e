-- The laws of the meaning, of every nested program and every list of turns.
use Rattle.std.proofs.Common.{◌≡◌, ℕ, Bool, true, false, List, refl, sym, ◌∙◌}
use Rattle.rb_syntax.specs.Tree.{Tree}
use Rattle.rb_world.specs.World.{Level, Process}
use Rattle.rb_world.proofs.Keeping.EachProcess.{each_opening_run}
use Rattle.rb_world.proofs.LastLevels.{without_last-map}
use Rattle.rb_meaning.specs.State.{State}
use Rattle.rb_meaning.specs.Meaning.{opening_states}
use Rattle.rb_meaning.specs.Nesting.{IsNested}
use Rattle.rb_meaning.specs.Laws.{IsIn}
use Rattle.rb_meaning.specs.Laws.{LevelsAreNested, with_test}
use Rattle.rb_meaning.proofs.InsideOut.{onto-twice}
use Rattle.rb_meaning.proofs.Knowing.KnownOfProcess.{Known}
use Rattle.rb_meaning.proofs.Knowing.KnownIsKept.{known_kept}
use Rattle.rb_meaning.proofs.Nesting.LevelsNest.{levels_nest}
use Rattle.rb_meaning.proofs.Nesting.NestedProgram.{known_opening, procedures_kept}
use Rattle.rb_meaning.proofs.Nesting.RecoveryPoints.{facts_in, facts_left}

-- what is known of a process holds in every world of a run
pub run_known : (tree : Tree) → IsNested tree → (turns : List ℕ) (r : ℕ) (q : Process State State) → IsIn tree turns r q → Known tree r q
run_known tree nested turns r q at =
    each_opening_run (known_kept tree (procedures_kept tree nested)) turns (opening_states tree 0 tree.processes) tt
    (λ n s e. known_opening tree nested n s e) r q at

facts_with_test : (line : Bool) (levels : List (Level State)) → facts_in (with_test line levels) ≡ with_test line (facts_in levels)
facts_with_test true levels = sym (without_last-map (λ (level : Level State). level.facts) levels)
facts_with_test false levels = refl

-- the levels of every process of a run are nested, and are those of what is left
pub levels_are_nested : LevelsAreNested
levels_are_nested tree nested turns r q at =
    let known = run_known tree nested turns r q at in (
      levels_nest tree r q.levels known.points,
      λ whole. facts_with_test q.at_line q.levels
          ∙ onto-twice (with_test q.at_line (facts_in q.levels)) (facts_left tree q.state.items) (known.left whole),
    )
