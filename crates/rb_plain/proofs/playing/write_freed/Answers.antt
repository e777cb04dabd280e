use Rattle.std.proofs.Common.{◌+◌, ℕ, Vec, drop}
use Rattle.std.specs.List.{flat_map}
use Rattle.std.specs.declared.alloc.Global.{Global}
use Rattle.rb_syntax.specs.Plain.{tree}
use Rattle.rb_trace.specs.Naming.{naming}
use Rattle.rb_trace.specs.Report.{out_line}
use Rattle.rb_trace.proofs.Written.{written_more, written_part}
use Rattle.rb_world.specs.Text.{out_lines}
use Rattle.rb_plain.proofs.Releasing.{lines_of_all, next_lines}
use Rattle.rb_plain.proofs.playing.write_freed.Goals as goal

pub loop-p-preserved : goal.loop-p-preserved
loop-p-preserved g c =
    let names = naming c.args.names.now in
    let p = c.loop-p.p in
    let program = tree c.args.program.now in
    let next = next_lines program names c.args.turn p c.args.processes.now c.index-processes-p.result c.freed_lines.result.now c.loop-p-test.true c.index-processes-p.is c.freed_lines.ensures in
    written_more _ _ (flat_map (λ (line : Vec ℕ Global). out_line names c.args.turn p line.items) c.freed_lines.result.now)
    (out_lines names c.args.turn (p + 1)
    (drop (p + 1) (lines_of_all program c.args.processes.now))) _ _ _ _ _ _ c.loop-p.invariant next c.in_ok-write_lines.ensures

pub returns-in_err-write_lines : goal.returns-in_err-write_lines
returns-in_err-write_lines g c =
    let names = naming c.args.names.now in
    let p = c.loop-p.p in
    let program = tree c.args.program.now in
    let next = next_lines program names c.args.turn p c.args.processes.now c.index-processes-p.result c.freed_lines.result.now c.loop-p-test.true c.index-processes-p.is c.freed_lines.ensures in
    written_part _ _ (flat_map (λ (line : Vec ℕ Global). out_line names c.args.turn p line.items) c.freed_lines.result.now)
    (out_lines names c.args.turn (p + 1) (drop (p + 1) (lines_of_all program c.args.processes.now))) _ _ _ _ _ _ _ c.from_residual.result
    c.loop-p.invariant next c.in_err-write_lines.ensures c.from_residual.ensures.0
