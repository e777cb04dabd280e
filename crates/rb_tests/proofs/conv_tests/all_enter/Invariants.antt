use Rattle.std.proofs.Common.{◌≡◌, length}
use Rattle.rb_tests.proofs.conv_tests.all_enter.Given as goal

abbrev pub invariant-loop-p : goal.invariant-loop-p
invariant-loop-p l = length l.table ≡ length l.fn.table
