use Rattle.std.proofs.Common.{refl}
use Rattle.rb_gen.proofs.Rows.{last_call, bound_row}
use Rattle.rb_gen.proofs.expressions.put_bound.Goals as goal

pub returns : goal.returns
returns c =
    last_call c.put.result c.put.ensures (λ h. bound_row c.elements_of.ensures (h refl))
