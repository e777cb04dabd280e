-- In every turn of a nested program, for every conversation, those inside it keep their levels, or pass its test line together, or go
-- back together, or go out together.
use Rattle.std.proofs.Common.{◌+◌, length, refl}
use Rattle.rb_world.proofs.Members.TurnTold.{turn-together}
use Rattle.rb_meaning.specs.Meaning.{run_of, tree_kind}
use Rattle.rb_meaning.specs.Laws.{PassedTogether}
use Rattle.rb_meaning.proofs.Nesting.WorldsAreOrdered.{runs_ordered}

-- members pass the test line together, and go back together
pub passed_together : PassedTogether
passed_together tree nested turns c p =
    turn-together (tree_kind tree) (λ s x. refl) (length turns + 1) c p (run_of tree turns).0 (runs_ordered tree nested turns)
