use Rattle.std.proofs.Common.{◌<◌, length, ap, ◌∙◌, arith}
use Rattle.rb_cache.specs.Copies.{open_levels}
use Rattle.rb_recoverable.proofs.Backs.{length-accepted}
use Rattle.rb_recoverable.proofs.recoverable.levels.forget.Goals as goal

pub inner-smaller : goal.inner-smaller
inner-smaller g c =
    let long = ap length c.accept.ensures.levels ∙ length-accepted (open_levels c.inner.cache) in
    let some = c.inner-test.true in
    let count = c.levels.ensures.count in
    let less : length (open_levels c.accept.new.self) < length (open_levels c.inner.cache) = omega arith in less
