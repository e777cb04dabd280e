use Rattle.std.proofs.Common.{◌≡◌, ◌+◌, ◌≤◌, length}
use Rattle.rb_domino.specs.Recovery.{failure_from}
use Rattle.rb_domino.proofs.analysis.failure.Given as goal

abbrev pub invariant-loop-rest : goal.invariant-loop-rest
invariant-loop-rest g l = record {
  left : failure_from 0 l.lines ≡ failure_from l.at l.rest;
  all : l.at + length l.rest ≡ length l.lines;
  work : l.steps ≤ l.initial.steps + l.at;
}

abbrev pub decreases-loop-rest : goal.decreases-loop-rest
decreases-loop-rest g l = length l.rest
