use Rattle.rb_run.proofs.ReceiptsStand.{receipts_stand}
use Rattle.rb_run.proofs.laws.nothing_taken_back.Goals as goal

pub returns : goal.returns
returns c = receipts_stand
