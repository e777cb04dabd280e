-- A turn of the word machine that is undone changes no other process than those inside the outermost conversation that it rejects.
use Rattle.std.proofs.Common.{◌+◌, length}
use Rattle.rb_world.proofs.Members.RejectionsTold.{undone-inside}
use Rattle.rb_code.specs.WordMachine.WordKind.{word_kind}
use Rattle.rb_code.specs.WordMachine.WordRun.{word_run}
use Rattle.rb_machine.specs.TurnLaws.{RejectionsStayInside}
use Rattle.rb_machine.proofs.Knowing.OrderedRuns.{runs_ordered}

-- an undone turn leaves everyone else alone
pub rejections_stay_inside : RejectionsStayInside
rejections_stay_inside c groups counts sound turns p =
    undone-inside (word_kind c groups) (length turns + 1) p (word_run c groups turns).0 (runs_ordered c groups counts sound turns)
