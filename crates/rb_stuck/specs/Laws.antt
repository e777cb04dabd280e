-- What holds of stuck worlds, and of how the code of a program stands.
use Rattle.std.specs.Prelude.{◌≡◌, ◌+◌, ℕ, true, List, length}
use Rattle.rb_syntax.specs.Tree.{Tree}
use Rattle.rb_world.specs.Kind.{Membership}
use Rattle.rb_meaning.specs.Groups.{groups_of}
use Rattle.rb_meaning.specs.Meaning.{run_of, tree_kind}
use Rattle.rb_code.specs.Instructions.Plain.{Code}
use Rattle.rb_code.specs.SoundCode.WellFormed.{IsSound}
use Rattle.rb_code.specs.WordMachine.WordKind.{word_kind}
use Rattle.rb_code.specs.WordMachine.WordRun.{word_run}
use Rattle.rb_prepare.specs.Laws.{OfEveryCode}
use Rattle.rb_stuck.specs.AsTold.{StandsAsTold}
use Rattle.rb_stuck.specs.Programs.{tree_standing_text, word_standing_text}
use Rattle.rb_stuck.specs.Stuck.{ChangesNothing, is_stuck}

-- The world that a program has come to, if it is stuck, stays so, whatever turns follow.
abbrev pub StuckTreesStay : Type 0
StuckTreesStay = (tree : Tree) (turns more : List ℕ) → is_stuck (tree_kind tree) (length turns + 1) (run_of tree turns).0 ≡ true
    → ChangesNothing (tree_kind tree) (run_of tree turns).0 (length turns + 1) more (run_of tree turns).0

-- So it is of the word machine over sound code.
abbrev pub StuckCodeStays : Type 0
StuckCodeStays = (c : Code) (groups : List Membership) (counts turns more : List ℕ) → IsSound c groups counts
    → is_stuck (word_kind c groups) (length turns + 1) (word_run c groups turns).0 ≡ true
    → ChangesNothing (word_kind c groups) (word_run c groups turns).0 (length turns + 1) more (word_run c groups turns).0

-- What is written of how the run of a tree stands is so, whatever turns were taken.
abbrev pub StandingsAreTold : Type 0
StandingsAreTold = (tree : Tree) (turns text : List ℕ) → text ≡ tree_standing_text tree turns → StandsAsTold tree turns text

-- The code of a source stands as its tree does, after all turns.
abbrev pub StandsAsMeant : Tree → Code → Type 0
StandsAsMeant tree c = (turns : List ℕ) → word_standing_text c (groups_of tree) turns ≡ tree_standing_text tree turns

abbrev pub CodeStandsAsMeant : Type 0
CodeStandsAsMeant = OfEveryCode StandsAsMeant
