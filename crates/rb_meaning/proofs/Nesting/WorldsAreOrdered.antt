-- Every world of a run of a nested program is ordered: levels are nested, and are those of members, and no line is left to release.
use Rattle.std.proofs.Common.{ℕ, List}
use Rattle.rb_syntax.specs.Tree.{Tree}
use Rattle.rb_world.proofs.Members.OrderedRuns.{run_ordered}
use Rattle.rb_world.proofs.Members.Together.{IsOrdered}
use Rattle.rb_meaning.specs.Meaning.{run_of, tree_kind}
use Rattle.rb_meaning.specs.Nesting.{IsNested}
use Rattle.rb_meaning.proofs.Knowing.KnownIsKept.{known_kept}
use Rattle.rb_meaning.proofs.Nesting.NestedProgram.{procedures_kept}
use Rattle.rb_meaning.proofs.Trees.TreeErasable.{erasable}
use Rattle.rb_meaning.proofs.Trees.TreeErasure.{opens_erasably}

-- what is known of each world in which a turn of a nested program begins
pub runs_ordered : (tree : Tree) → IsNested tree → (turns : List ℕ) → IsOrdered (tree_kind tree) (run_of tree turns).0
runs_ordered tree nested turns = run_ordered (known_kept tree (procedures_kept tree nested)) (erasable tree) (opens_erasably tree nested) turns
