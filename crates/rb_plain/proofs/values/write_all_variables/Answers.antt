use Rattle.std.proofs.Common.{◌≡◌, ◌+◌, ◌<◌, List, drop, length, map, get_or, ap, ◌∙◌, arith}
use Rattle.rb_base.specs.declared.names.ProcessNames.{ProcessNames}
use Rattle.rb_meaning.specs.Environment.{global_words}
use Rattle.rb_trace.specs.Naming.{process_naming}
use Rattle.rb_world.specs.Text.{value_lines, variable_lines}
use Rattle.rb_plain.specs.Played.{words_of_all}
use Rattle.rb_plain.proofs.Endings.{is_there, next_values, own_lie}
use Rattle.rb_plain.proofs.Writing.{next_stopped, next_written, writes_answered}
use Rattle.rb_plain.proofs.values.write_all_variables.Goals as goal

pub bounds-processes-p : goal.bounds-processes-p
bounds-processes-p g c =
    let names = c.args.names.now.processes.items in
    let processes = c.args.processes.now in
    let i = c.loop-p.p in
    let same = c.deref-process-items.ensures.value in
    let within : i < length names = omega (arith, c.loop-p-test.true, ap length same) in
    is_there names processes i c.requires within

pub write_variables-requires : goal.write_variables-requires
write_variables-requires g c =
    let names = c.args.names.now.processes.items in
    let processes = c.args.processes.now in
    let i = c.loop-p.p in
    let same = c.deref-process-items.ensures.value in
    let within : i < length names = omega (arith, c.loop-p-test.true, ap length same) in
    let one = c.process-item.result in
    let is : one ≡ get_or names i one = c.process-item.is ∙ ap (λ (xs : List ProcessNames). get_or xs i one) same in
    let process = get_or processes i c.index-processes-p.result in
    let at : process ≡ get_or processes i process = ap (get_or processes i) c.index-processes-p.is in
    own_lie names processes i one process c.requires within is at

pub loop-p-preserved : goal.loop-p-preserved
loop-p-preserved g c =
    let names = c.args.names.now.processes.items in
    let processes = c.args.processes.now in
    let i = c.loop-p.p in
    let same = c.deref-process-items.ensures.value in
    let within : i < length names = omega (arith, c.loop-p-test.true, ap length same) in
    let one = c.process-item.result in
    let is : one ≡ get_or names i one = c.process-item.is ∙ ap (λ (xs : List ProcessNames). get_or xs i one) same in
    let process = get_or processes i c.index-processes-p.result in
    let at : process ≡ get_or processes i process = ap (get_or processes i) c.index-processes-p.is in
    next_written _ _ (variable_lines (process_naming one) (global_words process.state.environment))
    (value_lines (map process_naming (drop (i + 1) names)) (drop (i + 1) (words_of_all processes))) _ _ _ _ _ _ c.in_ok-write_variables.field-0
    c.loop-p.invariant (next_values names processes i one process c.requires within is at) c.in_ok-write_variables.ensures

pub returns-in_err-write_variables : goal.returns-in_err-write_variables
returns-in_err-write_variables g c =
    let names = c.args.names.now.processes.items in
    let processes = c.args.processes.now in
    let i = c.loop-p.p in
    let same = c.deref-process-items.ensures.value in
    let within : i < length names = omega (arith, c.loop-p-test.true, ap length same) in
    let one = c.process-item.result in
    let is : one ≡ get_or names i one = c.process-item.is ∙ ap (λ (xs : List ProcessNames). get_or xs i one) same in
    let process = get_or processes i c.index-processes-p.result in
    let at : process ≡ get_or processes i process = ap (get_or processes i) c.index-processes-p.is in
    writes_answered _ _ _ _ _ c.in_err-write_variables.field-0.0 c.from_residual.result c.from_residual.ensures.1
    (next_stopped _ _ (variable_lines (process_naming one) (global_words process.state.environment))
    (value_lines (map process_naming (drop (i + 1) names)) (drop (i + 1) (words_of_all processes))) _ _ _ _ _ _ c.in_err-write_variables.field-0.0
    c.loop-p.invariant (next_values names processes i one process c.requires within is at) c.in_err-write_variables.ensures)
