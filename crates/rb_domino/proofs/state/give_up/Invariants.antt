use Rattle.std.proofs.Common.{◌+◌, ◌≤◌, vec_len}
use Rattle.rb_domino.proofs.GivenUp.{GivesUp}
use Rattle.rb_domino.proofs.state.give_up.Given as goal

abbrev pub invariant-loop-state : goal.invariant-loop-state
invariant-loop-state g l = record {
  gives_up : GivesUp l.fall l.initial.states.items l.initial.drops.items l.states.items l.drops.items;
  work : l.steps + vec_len l.states ≤ l.initial.steps + vec_len l.initial.states;
}

abbrev pub decreases-loop-state : goal.decreases-loop-state
decreases-loop-state g l = vec_len l.states
