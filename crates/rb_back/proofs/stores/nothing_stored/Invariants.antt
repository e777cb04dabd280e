use Rattle.std.proofs.Common.{◌≡◌, vec_len}
use Rattle.rb_back.proofs.stores.nothing_stored.Given as goal

abbrev pub invariant-loop-at : goal.invariant-loop-at
invariant-loop-at l = vec_len l.ranges ≡ l._at
