use Rattle.std.proofs.Common.{◌-◌, ◌∙◌, arith}
use Rattle.rb_scope.proofs.Places.{one_earlier}
use Rattle.rb_scope.proofs.scope.index.Goals as goal

pub places-preserved : goal.places-preserved
places-preserved c = (
  omega (arith, c.places.invariant.0),
  λ x. c.in_ok-insert.ensures.updates.0 (record { ref_ptr = (0, 0); now = x })
      ∙ one_earlier x c.args.declared.now c.places.place (c.places.place - 1) _ _ (omega arith)
      (omega (arith, c.places.invariant.0)) (c.places.invariant.1 x),
)
