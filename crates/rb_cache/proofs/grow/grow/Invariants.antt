use Rattle.std.proofs.Common.{◌≡◌, ◌-◌, ◌≤◌, ◌++◌, length, max, replicate, vec_capacity}
use Rattle.rb_cache.proofs.grow.grow.Given as goal

abbrev pub invariant-loop-i : goal.invariant-loop-i
invariant-loop-i l =
    record {
      stamps : l.stamps.items ≡ l.fn.stamps.items ++ replicate (l._i - length l.fn.stamps.items) 0;
      from : length l.fn.stamps.items ≤ l._i;
      to : l._i ≤ max (length l.fn.stamps.items) l.count;
      room : vec_capacity l.stamps ≡ vec_capacity l.fn.stamps;
    }
