use Rattle.std.proofs.Common.{refl}
use Rattle.rb_gen.proofs.Rows.{last_call, scalar_code}
use Rattle.rb_gen.proofs.expressions.put_scalar.Goals as goal

pub returns-in-None : goal.returns-in-None
returns-in-None c =
    last_call c.put.result c.put.ensures (λ h. scalar_code c.args.spot c.in-None.is (h refl))

pub returns-in-Some : goal.returns-in-Some
returns-in-Some c =
    last_call c.put-in-Some.result c.put-in-Some.ensures (λ h. scalar_code c.args.spot c.in-Some.is (h refl))
