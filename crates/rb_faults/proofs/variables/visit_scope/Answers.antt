use Rattle.std.proofs.Common.{◌<◌, length, arith}
use Rattle.rb_scope.proofs.Places.{there}
use Rattle.rb_faults.proofs.Places.{scope_step}
use Rattle.rb_faults.proofs.variables.visit_scope.Goals as goal

pub loop-place-preserved : goal.loop-place-preserved
loop-place-preserved c =
    let sc = c.args.scope.now in
    let place = c.loop-place.place in
    let within : place < length sc = omega (arith, c.loop-place-test.true, c.len-place-end.ensures) in
    let one = there sc place within in
    scope_step sc place one.0 c.loop-place.finder c.declares.new.finder _ one.1 c.loop-place.invariant (c.in_ok-declares.ensures one.0 one.1)
