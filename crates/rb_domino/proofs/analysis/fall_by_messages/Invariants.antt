use Rattle.std.proofs.Common.{◌+◌, ◌-◌, ◌≤◌}
use Rattle.rb_domino.specs.Board.{left_on}
use Rattle.rb_domino.specs.Recovery.{falls_by_messages}
use Rattle.rb_domino.specs.Work.{owed}
use Rattle.rb_domino.proofs.Rounds.{FallsOn}
use Rattle.rb_domino.proofs.analysis.fall_by_messages.Given as goal

abbrev pub invariant-loop-round : goal.invariant-loop-round
invariant-loop-round g l = record {
  falls : FallsOn l.history (falls_by_messages l.history l.most (left_on l.initial.board)) (l.most - l._round) l.initial.drops.items l.drops.items
      l.board;
  work : l.steps + owed l.board ≤ l.initial.steps + owed l.initial.board + l._round;
}
