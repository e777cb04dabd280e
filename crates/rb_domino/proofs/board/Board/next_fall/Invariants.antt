use Rattle.std.proofs.Common.{◌≡◌, ◌+◌, ◌≤◌, length}
use Rattle.rb_domino.specs.Board.{Holds}
use Rattle.rb_domino.specs.Work.{owed}
use Rattle.rb_domino.proofs.board.Board.next_fall.Given as goal

abbrev pub invariant-loop-taken : goal.invariant-loop-taken
invariant-loop-taken g l = record {
  states : l.self.states ≡ l.initial.self.states;
  holds : Holds l.history l.self;
  work : l.steps + owed l.self ≤ l.initial.steps + owed l.initial.self;
}

abbrev pub decreases-loop-taken : goal.decreases-loop-taken
decreases-loop-taken g l = length l.self.pending.keys
