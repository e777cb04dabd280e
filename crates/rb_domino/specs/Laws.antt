-- What holds of every history.
use Rattle.std.specs.Prelude.{◌≡◌, List}
use Rattle.rb_domino.specs.declared.state.State.{State}
use Rattle.rb_domino.specs.History.{Story, IsHistory, IsWhole}
use Rattle.rb_domino.specs.Board.{IsOrderly}
use Rattle.rb_domino.specs.Recovery.{outcome_of}
use Rattle.rb_domino.specs.RecoveryLine.{IsConsistent, IsGreatest, IsLine, IsRecovered, recovery_line}

-- lines name what was there before them, messages are numbered in the order of their lines, and none is taken twice
abbrev pub HistoriesAreOrderly : Type 0
HistoriesAreOrderly = (story : Story) → IsHistory story → IsOrderly story

-- the line that is left is the greatest consistent one, and the drops are its certificate
abbrev pub LinesAreRecovered : Type 0
LinesAreRecovered = (story : Story) → IsWhole story → IsRecovered story (outcome_of story).drops (recovery_line story)

-- only one line is the greatest
abbrev pub GreatestIsOne : Type 0
GreatestIsOne =
    (story : Story) (line : List State) → IsWhole story → IsLine story line → IsConsistent story line → IsGreatest story line
    → line ≡ recovery_line story
