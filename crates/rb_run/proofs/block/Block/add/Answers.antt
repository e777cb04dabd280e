-- Bytes wait behind the others, or the others are put first.
use Rattle.std.proofs.Common.{rules}
use Rattle.rb_run.proofs.Gathered.{gathers_all, gathers_both, gathers_past, gathers_stopped_at}
use Rattle.rb_run.proofs.block.Block.add.Goals as goal

pub returns-in_err-put : goal.returns-in_err-put
returns-in_err-put g c = gathers_stopped_at _ _ _ _ _ _ _ _ _ _ _ c.from_residual.ensures.0 c.in_err-put.ensures.gathers

pub returns-then-remaining_capacity-bytes : goal.returns-then-remaining_capacity-bytes
returns-then-remaining_capacity-bytes g c =
    gathers_both _ _ _ _ _ _ _ _ _ _ _ _ _ c.in_ok-put.ensures.gathers (gathers_past _ _ _ _ _ _ _ c.in_ok-put.ensures.none c.put_all.ensures)

pub returns : goal.returns
returns g c = gathers_all _ _ _ _ _ _ (search rules)
