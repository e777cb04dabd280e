use Rattle.rb_outside.proofs.Puts.{puts_both, puts_stopped_at}
use Rattle.rb_image.specs.Pieces.{natural}
use Rattle.rb_image.proofs.write.number.put_some.Goals as goal

pub returns : goal.returns
returns g c = puts_both (natural 1) (natural c.args.n) _ _ _ _ _ _ _ _ c.in_ok-put_natural.ensures c.put_natural-2.ensures

pub returns-in_err-put_natural : goal.returns-in_err-put_natural
returns-in_err-put_natural g c =
    puts_stopped_at (natural 1) (natural c.args.n) _ _ _ _ _ c.from_residual.result c.from_residual.ensures.0 c.in_err-put_natural.ensures
