use Rattle.std.proofs.Common.{◌≡◌, ap, sym, ◌∙◌, refl}
use Rattle.rb_syntax.specs.Plain.{expression as plain, identifier, subscript}
use Rattle.rb_syntax.specs.Tree.{Element}
use Rattle.rb_gen.proofs.Rows.{last_call, then_adds, store_scalar, store_element}
use Rattle.rb_gen.proofs.simple.emit_assignment.Goals as goal

pub returns-in_ok-emit_expression-in-None : goal.returns-in_ok-emit_expression-in-None
returns-in_ok-emit_expression-in-None c =
    last_call c.put-in-None.result c.put-in-None.ensures (λ h. then_adds (c.in_ok-put.ensures refl)
    (store_scalar c.args.slots.now (identifier c.args.target.now.name)
    (ap subscript c.in-None.is) c.spot_of-spot.ensures c.in_ok-emit_expression-in-None.ensures
    (h refl)))

pub returns-in_ok-emit_expression-in-Some-2 : goal.returns-in_ok-emit_expression-in-Some-2
returns-in_ok-emit_expression-in-Some-2 c =
    let is : subscript c.args.target.now.index ≡ Element (plain c.deref.result.now) =
    ap subscript c.in-Some.is ∙ ap (λ e. Element (plain e)) (sym c.deref.ensures) in
    last_call c.put-in-Some.result c.put-in-Some.ensures (λ h. then_adds (c.in_ok-put.ensures refl)
    (store_element c.args.slots.now (identifier c.args.target.now.name) is c.spot_of-spot.ensures refl c.in_ok-emit_expression-in-Some.ensures
    c.in_ok-put_bound-in-Some.ensures c.in_ok-emit_expression-in-Some-2.ensures (h refl)))
