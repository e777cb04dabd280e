use Rattle.std.proofs.Common.{◌-◌, ◌^◌, rules}
use Rattle.rb_recoverable.proofs.Tied.{tied_new}
use Rattle.rb_recoverable.proofs.recoverable.Recoverable.new.Goals as goal

pub invariant_of-result : goal.invariant_of-result
invariant_of-result g c =
    tied_new 0 (2 ^ 32 - 1) c.args.words c.requires.some c.requires.few _ _ _ _ _ _ _ (search rules) (search rules) (search rules)
    (search rules) (search rules) (search rules) (search rules)
