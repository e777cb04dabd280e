use Rattle.std.proofs.Common.{◌≡◌, ℕ, ◌<◌, ◌≤◌, length, get_or}
use Rattle.rb_flow.specs.Ends.{end_in}
use Rattle.rb_flow.proofs.LoopEnds.{end_from}
use Rattle.rb_flow.proofs.ends.ends_of_loops.Given as goal

abbrev pub invariant-loop-i : goal.invariant-loop-i
invariant-loop-i l = record {
  within : l.i ≤ length l.code.instrs.items;
  size : length l.ends.items ≡ length l.code.instrs.items;
  ends : (b : ℕ) → b < length l.code.instrs.items → end_in (get_or l.ends.items b 0) ≡ end_from l.counter l.code.instrs.items l.i b;
}

abbrev pub decreases-loop-i : goal.decreases-loop-i
decreases-loop-i l = l.i
