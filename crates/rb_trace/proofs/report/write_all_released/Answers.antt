use Rattle.std.proofs.lemmas.Grind.{common_steps}
use Rattle.std.proofs.Common.{◌≡◌, ℕ, ◌+◌, ◌<◌, length, drop, ap, ◌∙◌, arith}
use Rattle.std.specs.List.{flat_map}
use Rattle.rb_base.specs.Lines.{belonging}
use Rattle.rb_world.specs.Text.{out_lines}
use Rattle.rb_trace.specs.Naming.{naming}
use Rattle.rb_trace.specs.Report.{out_line}
use Rattle.rb_trace.proofs.Written.{written_more, written_part}
use Rattle.rb_trace.proofs.Waiting.{cleared, cleared_length, cleared_all}
use Rattle.rb_trace.proofs.Released.{own_lines, one_cleared}
use Rattle.rb_trace.proofs.report.write_all_released.Goals as goal

pub write_released-requires : goal.write_released-requires
write_released-requires g c =
    omega (
      arith,
      ap length c.loop-process.invariant.1,
      cleared_length c.loop-process.process (g.M.Lines.waiting c.args.lines.now),
      c.requires.fit,
      c.len-processes.ensures,
      c.loop-process-test.true,
    )

pub loop-process-preserved : goal.loop-process-preserved
loop-process-preserved g c =
    let p = c.loop-process.process in
    let first = g.M.Lines.waiting c.args.lines.now in
    let before = g.M.Lines.waiting c.loop-process.lines in
    let names = naming c.args.names.now in
    let within : p < length first = omega (arith, c.requires.fit, c.len-processes.ensures, c.loop-process-test.true) in
    let step = c.in_ok-write_released.ensures in (
      written_more _ _ (flat_map (out_line names c.args.turn p) (belonging before p))
          (out_lines names c.args.turn (p + 1) (drop (p + 1) first)) _ _ _ _ _ _
          c.loop-process.invariant.0 (own_lines names c.args.turn p first before within c.loop-process.invariant.1) step.text,
      one_cleared p first before _ c.loop-process.invariant.1 step.none_waits,
      step.rest ∙ c.loop-process.invariant.2,
    )

pub returns-in_err-write_released-clause-text : goal.returns-in_err-write_released-clause-text
returns-in_err-write_released-clause-text g c =
    let p = c.loop-process.process in
    let first = g.M.Lines.waiting c.args.lines.now in
    let before = g.M.Lines.waiting c.loop-process.lines in
    let names = naming c.args.names.now in
    let within : p < length first = omega (arith, c.requires.fit, c.len-processes.ensures, c.loop-process-test.true) in
    written_part _ _ (flat_map (out_line names c.args.turn p) (belonging before p))
    (out_lines names c.args.turn (p + 1) (drop (p + 1) first)) _ _ _ _ _ _ _
    c.from_residual.result c.loop-process.invariant.0
    (own_lines names c.args.turn p first before within c.loop-process.invariant.1) c.in_err-write_released.ensures.text c.from_residual.ensures.0

pub returns-clause-none_waits : goal.returns-clause-none_waits
returns-clause-none_waits g c =
    let first = g.M.Lines.waiting c.args.lines.now in
    let all : c.loop-process.process ≡ length first =
    omega (arith, c.requires.fit, c.len-processes.ensures, c.loop-process-test.false, c.loop-process.auto.process-end) in
    c.loop-process.invariant.1 ∙ ap (λ (n : ℕ). cleared n first) all ∙ cleared_all first

pub returns-clause-text : goal.returns-clause-text
returns-clause-text g c = grind (arith, common_steps)

pub loop-process-init : goal.loop-process-init
loop-process-init g c = grind (arith, common_steps)
