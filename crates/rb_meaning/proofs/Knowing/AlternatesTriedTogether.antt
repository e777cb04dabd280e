-- In every world of a run of a nested program each open level of a conversation tries its present alternate, and has as many alternates
-- as each `converse` for it.
use Rattle.std.proofs.Common.{ℕ}
use Rattle.rb_syntax.specs.Tree.{Tree}
use Rattle.rb_world.specs.World.{Process}
use Rattle.rb_world.specs.Nested.{IsLevelOf}
use Rattle.rb_world.proofs.Members.PresentKept.{AreOrdered, run_present}
use Rattle.rb_meaning.specs.State.{State}
use Rattle.rb_meaning.specs.Groups.{groups_of}
use Rattle.rb_meaning.specs.Meaning.{opening_states, tree_kind}
use Rattle.rb_meaning.specs.Laws.{TriedTogether}
use Rattle.rb_meaning.proofs.Knowing.KnownOfProcess.{Known}
use Rattle.rb_meaning.proofs.Knowing.KnownIsKept.{known_kept}
use Rattle.rb_meaning.proofs.Nesting.LevelsNest.{levels_have_as_many, levels_nest, levels_of_members}
use Rattle.rb_meaning.proofs.Nesting.NestedProgram.{known_opening, procedures_kept}
use Rattle.rb_meaning.proofs.Trees.TreeLaws.{run_known}

known_ordered : (tree : Tree) (r : ℕ) (q : Process State State) → Known tree r q → AreOrdered (groups_of tree) r q.levels
known_ordered tree r q known = record {
  nested = levels_nest tree r q.levels known.points;
  members = λ i c at. levels_of_members tree r q.levels i c known.points at;
}

-- members try the same alternate
pub tried_together : TriedTogether
tried_together tree nested turns r i c q level has of_c =
    let at : IsLevelOf c q.levels i = record { level = level; there = has.level_there; of_it = of_c } in
    record {
      present = run_present (tree_kind tree) (Known tree) (known_ordered tree)
          (known_kept tree (procedures_kept tree nested)) turns (opening_states tree 0 tree.processes) tt
          (λ n s e. known_opening tree nested n s e) r q has.there i c at;
      as_many = levels_have_as_many tree r q.levels i c (run_known tree nested turns r q has.there).points at;
    }
