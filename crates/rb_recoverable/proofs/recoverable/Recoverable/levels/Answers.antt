use Rattle.std.proofs.Common.{length, ap, arith}
use Rattle.rb_recoverable.specs.Contents.{Contents}
use Rattle.rb_recoverable.proofs.Tied.{marks_levels}
use Rattle.rb_recoverable.proofs.recoverable.Recoverable.levels.Goals as goal

pub returns : goal.returns
returns g c =
    let levels = marks_levels _ _ _ _ _ _ _ _ _ c.self.invariant in
    let same = ap (λ (r : Contents). length r.levels) c.self.view_is in
    omega arith
