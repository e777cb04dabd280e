use Rattle.std.proofs.Common.{◌+◌, ◌*◌, ◌≤◌, vec_len}
use Rattle.std.specs.BTreeSet.{btree_set_len}
use Rattle.rb_domino.specs.Board.{is_in, stack}
use Rattle.rb_domino.proofs.Unsent.{Unsending}
use Rattle.rb_domino.proofs.sends.unsend.Given as goal

abbrev pub invariant-loop-m : goal.invariant-loop-m
invariant-loop-m g l = record {
  unsending : Unsending l.history l.takes l.place (stack l.initial.sends.items) (stack l.sends.items) (is_in l.initial.pending) (is_in l.pending);
  work : l.steps + 3 * vec_len l.sends + btree_set_len l.pending
      ≤ l.initial.steps + 3 * vec_len l.initial.sends + btree_set_len l.initial.pending;
}

abbrev pub decreases-loop-m : goal.decreases-loop-m
decreases-loop-m g l = vec_len l.sends
