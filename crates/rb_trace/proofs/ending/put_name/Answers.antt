use Rattle.std.proofs.Common.{◌∷◌}
use Rattle.rb_outside.proofs.Puts.{puts_both, puts_stopped_at}
use Rattle.rb_trace.proofs.ending.put_name.Goals as goal

pub returns : goal.returns
returns g c = puts_both c.args.process.now (46 ∷ c.args.variable.now) _ _ _ _ _ _ _ _ c.in_ok-put.ensures c.put_after.ensures

pub returns-in_err-put : goal.returns-in_err-put
returns-in_err-put g c =
    puts_stopped_at c.args.process.now
    (46 ∷ c.args.variable.now) _ _ _ _ _ c.from_residual.result c.from_residual.ensures.0 c.in_err-put.ensures
