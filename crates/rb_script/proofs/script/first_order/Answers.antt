-- A line more is walked.
use Rattle.std.proofs.Common.{sym, ◌∙◌}
use Rattle.rb_base.specs.Naming.{process_names}
use Rattle.rb_script.proofs.ScriptLines.{still_faultless, walked_off, walked_on}
use Rattle.rb_script.proofs.script.first_order.Goals as goal

pub returns-then-is_some-clause-order : goal.returns-then-is_some-clause-order
returns-then-is_some-clause-order c =
    walked_off (process_names c.args.names.now) c.args.turns c.args.position c.args.text.now c.loop-rest.position c.loop-rest.rest.now
    c.first_line.result.0.now c.first_line.result.1.now c.loop-rest.invariant c.first_line.ensures.lines c.in-Ok.order c.in-Ok.later
    (sym c.in-Ok.ensures) (sym c.is_some.ensures ∙ c.if-is_some.true)

pub returns-then-is_some-clause-faultless : goal.returns-then-is_some-clause-faultless
returns-then-is_some-clause-faultless c =
    still_faultless (process_names c.args.names.now) c.args.turns c.args.position c.args.text.now c.loop-rest.position c.loop-rest.rest.now
    c.first_line.result.0.now c.first_line.result.1.now c.loop-rest.invariant c.first_line.ensures.lines c.in-Ok.order c.in-Ok.later
    (sym c.in-Ok.ensures)

pub loop-rest-preserved : goal.loop-rest-preserved
loop-rest-preserved c =
    walked_on (process_names c.args.names.now) c.args.turns c.args.position c.args.text.now c.loop-rest.position c.loop-rest.rest.now
    c.first_line.result.0.now c.first_line.result.1.now c.loop-rest.invariant c.first_line.ensures.lines c.in-Ok.order c.in-Ok.later
    (sym c.in-Ok.ensures) (sym c.is_some.ensures ∙ c.if-is_some.false)
