use Rattle.std.proofs.Common.{◌+◌, drop, map, arith}
use Rattle.std.specs.List.{flat_map}
use Rattle.rb_trace.proofs.Written.{written_nothing, written_more, written_part, written_all}
use Rattle.rb_trace.specs.Naming.{variable_naming}
use Rattle.rb_picture.specs.Head.{variable_head}
use Rattle.rb_changes.proofs.Parts.{flat_end, flat_next}
use Rattle.rb_picture.proofs.head.write_variables.Goals as goal

pub loop-variable-init : goal.loop-variable-init
loop-variable-init g c = written_nothing _ _ _

pub loop-variable-preserved : goal.loop-variable-preserved
loop-variable-preserved g c =
    let text = variable_head c.args.process.now in
    let xs = c.args.variables.now in
    let i = c.loop-variable.variable-index in
    let next = flat_next text variable_naming i xs c.variable-item.result _ (omega (arith, c.loop-variable-test.true)) c.variable-item.is in
    written_more _ _ (text (variable_naming c.variable-item.result)) (flat_map text (drop (i + 1) (map variable_naming xs))) _ _ _ _ _ _
    c.loop-variable.invariant next c.in_ok-write_variable.ensures

pub returns-in_err-write_variable : goal.returns-in_err-write_variable
returns-in_err-write_variable g c =
    let text = variable_head c.args.process.now in
    let xs = c.args.variables.now in
    let i = c.loop-variable.variable-index in
    let next = flat_next text variable_naming i xs c.variable-item.result _ (omega (arith, c.loop-variable-test.true)) c.variable-item.is in
    written_part _ _ (text (variable_naming c.variable-item.result)) (flat_map text (drop (i + 1) (map variable_naming xs))) _ _ _ _ _ _ _
    c.from_residual.result c.loop-variable.invariant next c.in_err-write_variable.ensures c.from_residual.ensures.0

pub returns : goal.returns
returns g c =
    written_all _ _ _ _ _ _ c.loop-variable.invariant
    (flat_end (variable_head c.args.process.now) variable_naming _ c.args.variables.now (omega (arith, c.loop-variable-test.false)))
