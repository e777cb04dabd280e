-- The work of an analysis, in ticks.
use Rattle.std.specs.Prelude.{ℕ, ◌+◌, ◌*◌}
use Rattle.std.specs.BTreeSet.{btree_set_len}
use Rattle.rb_domino.specs.declared.board.Board.{Board}
use Rattle.rb_domino.specs.Board.{in_all, left_on, stacks}

-- The ticks that falls still take at most: one for each state that is left, which may be given up; three for each message that its
-- sender has, which may leave it, join the pending and leave them; and one for each place that is pending.
abbrev pub owed : Board → ℕ
owed board = in_all (left_on board) + 3 * in_all (stacks board.sends.items) + btree_set_len board.pending
