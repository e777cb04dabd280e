-- A record is gathered line by line.
use Rattle.rb_trace.specs.Naming.{naming}
use Rattle.rb_run.proofs.Gathered.{gathers_all, gathers_next, gathered_part, gathered_whole}
use Rattle.rb_run.proofs.Recorded.{line_of_kept}
use Rattle.rb_run.proofs.record.write_record.Goals as goal

pub loop-turn-init : goal.loop-turn-init
loop-turn-init g c = gathers_all _ _ _ _ _ _ c.new-block.ensures

pub loop-turn-preserved : goal.loop-turn-preserved
loop-turn-preserved g c =
    gathers_next (line_of_kept (naming c.args.names.now)) c.args.kept.now c.loop-turn.turn-index _ c.loop-turn-test.true _ _ _ _ _ _ _ _ _ _ _
    c.loop-turn.invariant c.in_ok-add_kept.ensures

pub returns-in_err-add_kept : goal.returns-in_err-add_kept
returns-in_err-add_kept g c =
    gathered_part (line_of_kept (naming c.args.names.now)) c.args.kept.now _ _ _ _ _ _ _ c.from_residual.result c.from_residual.ensures.0
    (gathers_next (line_of_kept (naming c.args.names.now)) c.args.kept.now c.loop-turn.turn-index _ c.loop-turn-test.true _ _ _ _ _ _ _ _ _ _ _
    c.loop-turn.invariant c.in_err-add_kept.ensures)

pub returns : goal.returns
returns g c =
    gathered_whole (line_of_kept (naming c.args.names.now)) c.args.kept.now _ _ _ _ _ _ _ _ _ _ _ c.loop-turn-test.false
    c.loop-turn.invariant c.put.ensures.gathers c.put.ensures.none
