use Rattle.std.proofs.Common.{◌+◌, length}
use Rattle.rb_meaning.specs.Meaning.{run_of, tree_kind}
use Rattle.rb_stuck.proofs.Still.Stays.{stuck_stays}
use Rattle.rb_stuck.proofs.Freed.{tree_runs_freed}
use Rattle.rb_stuck.proofs.laws.stuck_trees_stay.Goals as goal

pub returns : goal.returns
returns c = λ tree turns more stuck.
    stuck_stays (tree_kind tree) (length turns + 1) (run_of tree turns).0 stuck (tree_runs_freed tree turns) (length turns + 1) more
