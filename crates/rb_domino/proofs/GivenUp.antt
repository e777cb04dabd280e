-- States that are given up one by one, from the latest to the earliest.
use Rattle.std.proofs.Common.{◌≡◌, List, ◌++◌, map}
use Rattle.rb_domino.specs.declared.analysis.Dropped.{Dropped}
use Rattle.rb_domino.specs.declared.state.State.{State}
use Rattle.rb_domino.specs.declared.state.Fall.{Fall}
use Rattle.rb_domino.specs.Board.{stack}
use Rattle.rb_domino.specs.Recovery.{states_after, states_before}

-- a state that is given up in a fall
abbrev pub dropped_in : Fall → State → Dropped
dropped_in fall state = record { process = fall.process; state = state.number; message = fall.message }

-- these drops are made already, and those of the states that are left are still to come
pub record GivesUp (fall : Fall) (states : List State) (drops : List Dropped) (left : List State) (made : List Dropped) : Type 0 where
  pub same : states_before fall.after (stack states) ≡ states_before fall.after (stack left)
  pub joined : drops ++ map (dropped_in fall) (states_after fall.after (stack states))
      ≡ made ++ map (dropped_in fall) (states_after fall.after (stack left))
