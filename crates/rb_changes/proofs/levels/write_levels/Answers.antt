use Rattle.rb_outside.proofs.Puts.{puts_both, puts_stopped_at}
use Rattle.rb_changes.proofs.levels.write_levels.Goals as goal

pub returns-in_err-write_count : goal.returns-in_err-write_count
returns-in_err-write_count g c =
    puts_stopped_at _ _ _ _ _ _ _ c.from_residual.result c.from_residual.ensures.0 c.in_err-write_count.ensures

pub returns : goal.returns
returns g c = puts_both _ _ _ _ _ _ _ _ _ _ c.in_ok-write_count.ensures c.write_each.ensures
