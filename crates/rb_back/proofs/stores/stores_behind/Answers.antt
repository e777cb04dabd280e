use Rattle.rb_code.specs.Instructions.Plain.{code as plain}
use Rattle.rb_back.specs.Stores.{IsIn, MayStoreFrom}
use Rattle.rb_back.proofs.Storing.Gathered.{to_both}
use Rattle.rb_back.proofs.stores.stores_behind.Goals as goal

pub returns-in-JumpZero : goal.returns-in-JumpZero
returns-in-JumpZero c b k to low =
    to_both (plain c.args.code.now) c.args.instr c.args.at c.in-JumpZero.b c.in-JumpZero.is
    (λ x. MayStoreFrom (plain c.args.code.now) c.args.ranges.now x k → IsIn k c.joined.result)
    (λ may. c.joined.ensures.one k (c.stores_by-in-JumpZero.ensures k low may))
    (λ may. c.joined.ensures.other k (c.stores_by-next.ensures k low may)) b to
