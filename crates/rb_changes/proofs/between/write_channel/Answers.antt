use Rattle.std.proofs.Common.{ℤ, w64, ap, rules}
use Rattle.std.proofs.lemmas.Int.{to_z-of_z}
use Rattle.rb_outside.proofs.Puts.{puts_both, puts_same, puts_stopped_at}
use Rattle.rb_changes.specs.Changes.{message_change, numbers_change}
use Rattle.rb_changes.proofs.between.write_channel.Goals as goal

pub returns-in_err-write_if_others : goal.returns-in_err-write_if_others
returns-in_err-write_if_others g c =
    puts_stopped_at (numbers_change c.args.turn c.args.channel.now c.args.was c.args.now)
    (message_change c.args.turn c.args.channel.now c.args.was.sent c.args.now.sent c.args.last) _ _ _ _ _ c.from_residual.result
    c.from_residual.ensures.0 c.in_err-write_if_others.ensures

pub returns : goal.returns
returns g c =
    puts_both (numbers_change c.args.turn c.args.channel.now c.args.was c.args.now)
    (message_change c.args.turn c.args.channel.now c.args.was.sent c.args.now.sent c.args.last) _ _ _ _ _ _ _ _
    c.in_ok-write_if_others.ensures
    (puts_same _ _ _ _ _ _ _
    (ap (λ (v : ℤ). message_change c.args.turn c.args.channel.now c.args.was.sent c.args.now.sent v)
    (to_z-of_z w64 c.args.last (search rules))) c.write_if_sent.ensures)
