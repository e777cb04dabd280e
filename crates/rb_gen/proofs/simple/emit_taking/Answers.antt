use Rattle.std.proofs.Common.{◌≡◌, ap, sym, ◌∙◌, refl}
use Rattle.rb_syntax.specs.Plain.{expression as plain, identifier, subscript}
use Rattle.rb_syntax.specs.Tree.{Element}
use Rattle.rb_gen.proofs.Rows.{last_call, store_scalar, store_element}
use Rattle.rb_gen.proofs.simple.emit_taking.Goals as goal

pub returns-in_ok-put-in-None : goal.returns-in_ok-put-in-None
returns-in_ok-put-in-None c =
    last_call c.put-in-None.result c.put-in-None.ensures (λ h. store_scalar c.args.slots.now (identifier c.args.target.now.name) (ap subscript c.in-None.is) c.spot_of-spot.ensures
    (c.in_ok-put-in-None.ensures refl) (h refl))

pub returns-in_ok-put-in-Some : goal.returns-in_ok-put-in-Some
returns-in_ok-put-in-Some c =
    let is : subscript c.args.target.now.index ≡ Element (plain c.deref.result.now) =
    ap subscript c.in-Some.is ∙ ap (λ e. Element (plain e)) (sym c.deref.ensures) in
    last_call c.put-in-Some-2.result c.put-in-Some-2.ensures (λ h. store_element c.args.slots.now
    (identifier c.args.target.now.name) is c.spot_of-spot.ensures refl c.in_ok-emit_expression-in-Some.ensures c.in_ok-put_bound-in-Some.ensures
    (c.in_ok-put-in-Some.ensures refl) (h refl))
