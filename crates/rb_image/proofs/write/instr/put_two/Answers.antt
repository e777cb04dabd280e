use Rattle.std.proofs.Common.{◌∷◌}
use Rattle.rb_outside.proofs.Puts.{puts_both, puts_stopped_at}
use Rattle.rb_image.specs.Pieces.{natural}
use Rattle.rb_image.proofs.write.instr.put_two.Goals as goal

pub returns-in_err-put_one : goal.returns-in_err-put_one
returns-in_err-put_one g c =
    puts_stopped_at (c.args.code ∷ natural c.args.m) (natural c.args.n) _ _ _ _ _ c.from_residual.result c.from_residual.ensures.0
    c.in_err-put_one.ensures

pub returns : goal.returns
returns g c =
    puts_both (c.args.code ∷ natural c.args.m) (natural c.args.n) _ _ _ _ _ _ _ _ c.in_ok-put_one.ensures c.put_natural.ensures
