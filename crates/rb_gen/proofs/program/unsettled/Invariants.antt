use Rattle.std.proofs.Common.{◌≡◌, length}
use Rattle.rb_gen.proofs.program.unsettled.Given as goal

abbrev pub invariant-entries : goal.invariant-entries
invariant-entries l = length l.blocks.items ≡ l._number
