use Rattle.std.proofs.Common.{[], ◌∷◌, map, decimal}
use Rattle.rb_outside.proofs.Puts.{puts_both}
use Rattle.rb_trace.specs.Lines.{spaced}
use Rattle.rb_code.proofs.line.put_alternates_line.Goals as goal

pub returns : goal.returns
returns g c = puts_both (spaced (map decimal c.args.alternates.now)) (10 ∷ []) _ _ _ _ _ _ _ _ c.in_ok-put_alternates.ensures c.put.ensures
