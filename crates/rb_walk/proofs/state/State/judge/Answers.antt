use Rattle.std.proofs.Common.{option_map, sym, ap, ◌∙◌, [], rules}
use Rattle.rb_syntax.specs.Tree.{Expression}
use Rattle.rb_meaning.specs.Step.{former}
use Rattle.rb_meaning.specs.Value.{Outcome, value}
use Rattle.rb_walk.proofs.Judged.{test_fails, test_holds, test_traps}
use Rattle.rb_walk.proofs.Lookups.{test_of}
use Rattle.rb_walk.proofs.state.State.judge.Goals as goal

pub returns-else-value-eq0 : goal.returns-else-value-eq0
returns-else-value-eq0 c =
    let now = c.args.self.now.environment in
    let at : Expression → Outcome = value now (former now (option_map (λ e. e.now) c.args.prior)) [] in
    test_holds _ c.in-Ok.value (sym (c.in-Ok.ensures ∙ ap at (test_of c.args.block.now))) c.if-value-eq0.false

pub returns-then-value-eq0 : goal.returns-then-value-eq0
returns-then-value-eq0 c =
    let now = c.args.self.now.environment in
    let at : Expression → Outcome = value now (former now (option_map (λ e. e.now) c.args.prior)) [] in
    test_fails _ c.in-Ok.value (sym (c.in-Ok.ensures ∙ ap at (test_of c.args.block.now))) (search rules) c.if-value-eq0.true

pub returns-in-Err : goal.returns-in-Err
returns-in-Err c =
    let now = c.args.self.now.environment in
    let at : Expression → Outcome = value now (former now (option_map (λ e. e.now) c.args.prior)) [] in
    test_traps _ c.in-Err.field-0 (sym (ap at (test_of c.args.block.now)) ∙ sym c.tested.ensures ∙ c.in-Err.is)
