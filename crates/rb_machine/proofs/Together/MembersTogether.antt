-- In every turn of the word machine, for every conversation, those inside it keep their levels, or pass its test line together, or go
-- back together, or go out together.
use Rattle.std.proofs.Common.{◌+◌, length, refl}
use Rattle.rb_world.proofs.Members.TurnTold.{turn-together}
use Rattle.rb_code.specs.WordMachine.WordKind.{word_kind}
use Rattle.rb_code.specs.WordMachine.WordRun.{word_run}
use Rattle.rb_machine.specs.TurnLaws.{PassedTogether}
use Rattle.rb_machine.proofs.Knowing.OrderedRuns.{runs_ordered}

-- members pass the test line together, and go back together
pub passed_together : PassedTogether
passed_together c groups counts sound turns d p =
    turn-together (word_kind c groups) (λ s x. refl) (length turns + 1) d p (word_run c groups turns).0
    (runs_ordered c groups counts sound turns)
