use Rattle.std.proofs.Common.{◌≡◌, length}
use Rattle.rb_tests.proofs.conv_tests.is_rejected_whole.Given as goal

abbrev pub invariant-loop-c : goal.invariant-loop-c
invariant-loop-c l = length l.table ≡ 64
