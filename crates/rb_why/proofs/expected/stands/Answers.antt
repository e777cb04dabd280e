use Rattle.std.proofs.Common.{refl}
use Rattle.rb_why.proofs.Standing.{stands_with_tree, stands_by}
use Rattle.rb_why.proofs.expected.stands.Goals as goal

pub returns-in-Ok : goal.returns-in-Ok
returns-in-Ok c = (λ _ r. stands_with_tree c.args.source.now c.args.line _ c.in-Ok.ensures.ok r, λ _. refl)

pub returns-in-Err-Fault : goal.returns-in-Err-Fault
returns-in-Err-Fault c =
    let refused = rw c.in-Err-Fault.field-0-is at c.in-Err-Fault.ensures.err in
    stands_by c.args.source.now c.args.line c.in-Err-Fault.fault c.front_behind.result c.is_place.result refused c.front_behind.ensures c.is_place.ensures
