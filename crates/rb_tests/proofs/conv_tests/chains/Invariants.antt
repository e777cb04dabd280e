use Rattle.std.proofs.Common.{◌≡◌, vec_len}
use Rattle.rb_tests.proofs.conv_tests.chains.Given as goal

abbrev pub invariant-loop-c : goal.invariant-loop-c
invariant-loop-c l = vec_len l.conversations ≡ l.c
