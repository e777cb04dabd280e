use Rattle.std.proofs.Common.{Bool, Some, cond, ap, sym, ◌∙◌}
use Rattle.rb_code.specs.Instructions.Plain.{code as plain}
use Rattle.rb_picture.specs.Trace.{test_of}
use Rattle.rb_world.specs.World.{last_of}
use Rattle.rb_view.proofs.asking.address_running.Goals as goal

pub returns-then-is_at_line : goal.returns-then-is_at_line
returns-then-is_at_line g c q there runs =
    c.test_in.ensures (last_of q.levels) (c.innermost.ensures q there)
    ∙ ap (λ (b : Bool). cond b (test_of (plain c.args.code.now) (last_of q.levels)) (Some q.state.at))
    (sym c.if-is_at_line.true ∙ c.is_at_line.ensures q there runs)

pub returns-else-is_at_line : goal.returns-else-is_at_line
returns-else-is_at_line g c q there runs =
    ap Some (c.place.ensures q there)
    ∙ ap (λ (b : Bool). cond b (test_of (plain c.args.code.now) (last_of q.levels)) (Some q.state.at))
    (sym c.if-is_at_line.false ∙ c.is_at_line.ensures q there runs)
