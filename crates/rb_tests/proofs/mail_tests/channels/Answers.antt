use Rattle.std.proofs.Common.{ℕ, ◌+◌, length, ap, ◌∙◌}
use Rattle.std.proofs.lemmas.List.{length_push}
use Rattle.rb_tests.proofs.mail_tests.channels.Goals as goal

pub loop-channel-preserved : goal.loop-channel-preserved
loop-channel-preserved c =
    ap length c.in_ok-add.ensures.ok ∙ length_push c.loop-channel.mails _ ∙ ap (λ (n : ℕ). n + 1) c.loop-channel.invariant
