use Rattle.std.proofs.Common.{◌≡◌, length}
use Rattle.rb_tests.proofs.mail_tests.put_each.Given as goal

abbrev pub invariant-loop-channel : goal.invariant-loop-channel
invariant-loop-channel l = length l.mails ≡ length l.fn.mails
