use Rattle.std.proofs.Common.{◌≡◌, length}
use Rattle.rb_tests.proofs.mail_tests.channels.Given as goal

abbrev pub invariant-loop-channel : goal.invariant-loop-channel
invariant-loop-channel l = length l.mails ≡ l._channel
