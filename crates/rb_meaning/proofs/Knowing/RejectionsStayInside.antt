-- A turn of a nested program that is undone changes no other process than those inside the outermost conversation that it rejects.
use Rattle.std.proofs.Common.{◌+◌, length}
use Rattle.rb_world.proofs.Members.RejectionsTold.{undone-inside}
use Rattle.rb_meaning.specs.Meaning.{run_of, tree_kind}
use Rattle.rb_meaning.specs.Laws.{RejectionsStayInside}
use Rattle.rb_meaning.proofs.Nesting.WorldsAreOrdered.{runs_ordered}

pub rejections_stay_inside : RejectionsStayInside
rejections_stay_inside tree nested turns p =
    undone-inside (tree_kind tree) (length turns + 1) p (run_of tree turns).0 (runs_ordered tree nested turns)
