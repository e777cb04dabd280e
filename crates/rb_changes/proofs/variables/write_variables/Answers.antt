use Rattle.std.proofs.Common.{◌+◌, drop, length, map, arith}
use Rattle.std.specs.List.{flat_map}
use Rattle.rb_trace.proofs.Written.{written_nothing, written_more, written_part, written_all}
use Rattle.rb_trace.specs.Naming.{variable_naming}
use Rattle.rb_changes.specs.Changes.{variable_change}
use Rattle.rb_changes.proofs.Parts.{flat_end, flat_next, lies_at}
use Rattle.rb_changes.proofs.variables.write_variables.Goals as goal

pub loop-variable-init : goal.loop-variable-init
loop-variable-init g c = written_nothing _ _ _

pub write_variable-requires-clause-before : goal.write_variable-requires-clause-before
write_variable-requires-clause-before g c =
    lies_at (length c.args.was.now) c.args.variables.now c.loop-variable.variable-index c.variable-item.result _ c.requires.before
    (omega (arith, c.loop-variable-test.true)) c.variable-item.is

pub write_variable-requires-clause-after : goal.write_variable-requires-clause-after
write_variable-requires-clause-after g c =
    lies_at (length c.args.now.now) c.args.variables.now c.loop-variable.variable-index c.variable-item.result _ c.requires.after
    (omega (arith, c.loop-variable-test.true)) c.variable-item.is

pub loop-variable-preserved : goal.loop-variable-preserved
loop-variable-preserved g c =
    let text = variable_change c.args.turn c.args.process.now c.args.was.now c.args.now.now in
    let xs = c.args.variables.now in
    let i = c.loop-variable.variable-index in
    let x = c.variable-item.result in
    let next = flat_next text variable_naming i xs x _ (omega (arith, c.loop-variable-test.true)) c.variable-item.is in
    written_more _ _ (text (variable_naming x)) (flat_map text (drop (i + 1) (map variable_naming xs))) _ _ _ _ _ _
    c.loop-variable.invariant next c.in_ok-write_variable.ensures

pub returns-in_err-write_variable : goal.returns-in_err-write_variable
returns-in_err-write_variable g c =
    let text = variable_change c.args.turn c.args.process.now c.args.was.now c.args.now.now in
    let xs = c.args.variables.now in
    let i = c.loop-variable.variable-index in
    let x = c.variable-item.result in
    let next = flat_next text variable_naming i xs x _ (omega (arith, c.loop-variable-test.true)) c.variable-item.is in
    written_part _ _ (text (variable_naming x)) (flat_map text (drop (i + 1) (map variable_naming xs))) _ _ _ _ _ _ _
    c.from_residual.result c.loop-variable.invariant next c.in_err-write_variable.ensures c.from_residual.ensures.0

pub returns : goal.returns
returns g c =
    written_all _ _ _ _ _ _ c.loop-variable.invariant
    (flat_end (variable_change c.args.turn c.args.process.now c.args.was.now c.args.now.now) variable_naming _ c.args.variables.now (omega (arith, c.loop-variable-test.false)))
