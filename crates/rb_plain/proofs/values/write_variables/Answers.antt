use Rattle.std.proofs.Common.{◌≡◌, ◌+◌, ◌<◌, ◌++◌, ℕ, List, drop, length, map, get_or, ap, sym, ◌∙◌, arith}
use Rattle.std.specs.List.{flat_map}
use Rattle.rb_base.specs.declared.names.Variable.{Variable}
use Rattle.rb_meaning.specs.Environment.{global_words}
use Rattle.rb_trace.specs.Naming.{variable_naming}
use Rattle.rb_world.specs.Text.{variable_line}
use Rattle.rb_plain.proofs.Endings.{next_variable}
use Rattle.rb_plain.proofs.Writing.{next_stopped, next_written, writes_answered}
use Rattle.rb_plain.proofs.values.write_variables.Goals as goal

pub loop-variable-preserved : goal.loop-variable-preserved
loop-variable-preserved g c =
    let process = c.args.process.now in
    let variables = process.variables.items in
    let words = global_words c.args.environment.now in
    let i = c.loop-variable.variable-index in
    let one = c.variable-item.result in
    let same = c.deref-variable-items.ensures.value in
    let is : one ≡ get_or variables i one = c.variable-item.is ∙ ap (λ (xs : List Variable). get_or xs i one) same in
    let within : i < length variables = omega (arith, c.loop-variable-test.true, ap length same) in
    let rest = flat_map (variable_line process.name words) (map variable_naming (drop (i + 1) variables)) in
    let next = next_variable process.name words variables i one within is
    ∙ ap (λ (name : List ℕ). variable_line name words (variable_naming one) ++ rest) (sym c.as_bytes.ensures) in
    next_written _ _
    (variable_line c.as_bytes.result.now words (variable_naming one)) rest _ _ _ _ _ _ c.in_ok-write_one.field-0 c.loop-variable.invariant
    next c.in_ok-write_one.ensures

pub returns-in_err-write_one : goal.returns-in_err-write_one
returns-in_err-write_one g c =
    let process = c.args.process.now in
    let variables = process.variables.items in
    let words = global_words c.args.environment.now in
    let i = c.loop-variable.variable-index in
    let one = c.variable-item.result in
    let same = c.deref-variable-items.ensures.value in
    let is : one ≡ get_or variables i one = c.variable-item.is ∙ ap (λ (xs : List Variable). get_or xs i one) same in
    let within : i < length variables = omega (arith, c.loop-variable-test.true, ap length same) in
    let rest = flat_map (variable_line process.name words) (map variable_naming (drop (i + 1) variables)) in
    let next = next_variable process.name words variables i one within is
    ∙ ap (λ (name : List ℕ). variable_line name words (variable_naming one) ++ rest) (sym c.as_bytes.ensures) in
    writes_answered _ _ _ _ _ c.in_err-write_one.field-0.0 c.from_residual.result c.from_residual.ensures.1
    (next_stopped _ _
    (variable_line c.as_bytes.result.now words
    (variable_naming one)) rest _ _ _ _ _ _ c.in_err-write_one.field-0.0 c.loop-variable.invariant
    next c.in_err-write_one.ensures)
