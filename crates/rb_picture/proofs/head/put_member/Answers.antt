use Rattle.std.proofs.Common.{[], ◌∷◌}
use Rattle.rb_outside.proofs.Puts.{puts_both, puts_stopped_at}
use Rattle.rb_picture.proofs.head.put_member.Goals as goal

pub returns-in_err-put : goal.returns-in_err-put
returns-in_err-put g c =
    puts_stopped_at (32 ∷ []) c.args.name.now _ _ _ _ _ c.from_residual.result c.from_residual.ensures.0 c.in_err-put.ensures

pub returns : goal.returns
returns g c = puts_both (32 ∷ []) c.args.name.now _ _ _ _ _ _ _ _ c.in_ok-put.ensures c.put-2.ensures
