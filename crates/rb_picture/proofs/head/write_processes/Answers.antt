use Rattle.std.proofs.Common.{◌+◌, drop, map, arith}
use Rattle.std.specs.List.{flat_map}
use Rattle.rb_trace.proofs.Written.{written_nothing, written_more, written_part, written_all}
use Rattle.rb_trace.specs.Naming.{process_naming}
use Rattle.rb_picture.specs.Head.{process_head}
use Rattle.rb_changes.proofs.Parts.{flat_end, flat_next}
use Rattle.rb_picture.proofs.head.write_processes.Goals as goal

pub loop-process-init : goal.loop-process-init
loop-process-init g c = written_nothing _ _ _

pub loop-process-preserved : goal.loop-process-preserved
loop-process-preserved g c =
    let text = process_head in
    let xs = c.args.processes.now in
    let i = c.loop-process.process-index in
    let next = flat_next text process_naming i xs c.process-item.result _ (omega (arith, c.loop-process-test.true)) c.process-item.is in
    written_more _ _ (text (process_naming c.process-item.result)) (flat_map text (drop (i + 1) (map process_naming xs))) _ _ _ _ _ _
    c.loop-process.invariant next c.in_ok-write_process.ensures

pub returns-in_err-write_process : goal.returns-in_err-write_process
returns-in_err-write_process g c =
    let text = process_head in
    let xs = c.args.processes.now in
    let i = c.loop-process.process-index in
    let next = flat_next text process_naming i xs c.process-item.result _ (omega (arith, c.loop-process-test.true)) c.process-item.is in
    written_part _ _ (text (process_naming c.process-item.result)) (flat_map text (drop (i + 1) (map process_naming xs))) _ _ _ _ _ _ _
    c.from_residual.result c.loop-process.invariant next c.in_err-write_process.ensures c.from_residual.ensures.0

pub returns : goal.returns
returns g c =
    written_all _ _ _ _ _ _ c.loop-process.invariant
    (flat_end (process_head) process_naming _ c.args.processes.now (omega (arith, c.loop-process-test.false)))
