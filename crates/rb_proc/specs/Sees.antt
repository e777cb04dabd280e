-- What a turn sees, for the word machine.
use Rattle.std.specs.Prelude.{◌≡◌, ℕ, ◌+◌, ◌<◌, ◌≤◌, List, [], ◌∷◌, length, map}
use Rattle.rb_base.specs.Limits.{most_words}
use Rattle.rb_world.specs.Kind.{Ends}
use Rattle.rb_world.specs.Slots.{Slots}
use Rattle.rb_world.specs.World.{Level, copy_of, last_of}
use Rattle.rb_code.specs.Instructions.Plain.{Code}
use Rattle.rb_code.specs.WordMachine.Workspace.{part_of, variables_place}
use Rattle.rb_code.specs.WordMachine.Act.{Sight as Seen}
use Rattle.rb_code.specs.WordMachine.Turn.{Copy, prior_words}
use Rattle.rb_proc.specs.Given.{alternate_by}
use Rattle.rb_recoverable.specs.Places.{most_places}
use Rattle.rb_proc.specs.declared.sight.Sight.{Sight}

abbrev pub see_of : Sight → List (Level Copy) → Seen
see_of sight levels = record {
  process = sight.process;
  prior = prior_words (copy_of (last_of levels));
  message = sight.message;
  alternate = alternate_by sight.wanted levels;
}

-- a turn is one of a process of this code
pub record IsTurnOf (c : Code) (sight : Sight) : Type 0 where
  pub exists : sight.process < length c.processes
  pub variables : sight.variables ≡ variables_place (part_of c sight.process)
  pub words : (part_of c sight.process).words ≤ most_words c.edition
  pub few : variables_place (part_of c sight.process) + most_words c.edition ≤ most_places

-- each list of slots has as many as its channel's size
abbrev pub FitSizes : List ℕ → List Ends → Type 0
FitSizes [] channels = Unit {0}
FitSizes (n ∷ ns) [] = ⊥
FitSizes (n ∷ ns) (ends ∷ channels) = (n ≡ ends.size) × FitSizes ns channels

abbrev pub AreSized : Code → Slots → Type 0
AreSized c slots = FitSizes (map length slots) c.channels
