-- A program with commands, whatever these are: what `clap` makes of a first word that names one, and of one that names none.
use Rattle.std.proofs.Common.{◌≡◌, ◌∙◌, true, false, List, [], ◌∷◌, codes, Some, None, refl, sym, ap}
use Rattle.std.specs.Str.{bytes_eq}
use Rattle.std.specs.List.{find, fold}
use Rattle.clap.specs.Walk.{Names, answers_to, Text, Walk, idle, nothing_held, rows_after, subcommand_met, walk, walked}
use Rattle.clap.specs.Simple.{App, Shape, built, label_of, names_of, subcommand_of}
use Rattle.clap.specs.Kinds.{or_else}
use Rattle.clap.specs.Faults.{defaults_fault, fault_of, level_fault, walk_fault}
use Rattle.clap.specs.declared.error.kind.ErrorKind.TheVariants.{InvalidSubcommand, UnknownArgument}
use Rattle.clap.proofs.WalkLemmas.{walk_stopped}
use Rattle.clap.proofs.FaultLemmas.{stopped_fault}
use Rattle.rb_words.specs.Plain.{is_plain_word}
use Rattle.rb_asking.specs.Program.{program_with}
use Rattle.rb_words.proofs.Leaves.{standing, turn}

module _ (its_name : Text) (commands : List Shape) where
  abbrev pub program : App
  program = program_with its_name commands

  abbrev pub top : Shape
  top = (built program).top

  abbrev pub names : Names
  names = names_of (built program)

  -- at a command's name the walk stops, and leaves it the words
  abbrev pub stopped_at : Text → List Text → Walk
  stopped_at name words = record (standing nothing_held 1) { stopped = Some (name, words) }

  module _ (name : Text) (words : List Text) (command : Shape) (meets : subcommand_met names idle name ≡ Some name)
      (helps : bytes_eq name (codes "help") ≡ false) (found : find (λ s. answers_to name (label_of s)) (built program).subs ≡ Some command) where
    stops : walked [] names (standing nothing_held 1) name ≡ stopped_at name []
    unfolding walked
    stops = rw meets refl

    walk-name : walk [] names nothing_held (name ∷ words) ≡ stopped_at name words
    walk-name = ap (λ w. fold (walked [] names) w words) stops ∙ sym (walk_stopped [] names (standing nothing_held 1) name [] words)

    name_passes : walk_fault top names (standing nothing_held 1) (name ∷ words) ≡ []
    unfolding walk_fault
    name_passes = rw (meets, helps, stops) (stopped_fault top names (standing nothing_held 1) (name, []) words)

    -- the program is at fault where the command is with its words
    pub fault-name : fault_of program (name ∷ words) ≡ or_else (level_fault command [] nothing_held words false []) []
    unfolding defaults_fault
    fault-name = rw (name_passes, walk-name, found) refl

    -- and has the command's values
    pub subcommand-name : subcommand_of program (name ∷ words) ≡ Some (command.name, rows_after command.rules [] words)
    subcommand-name = rw (walk-name, found) refl

  pub other_word : (word : Text) (words : List Text) → is_plain_word word ≡ true → subcommand_met names idle word ≡ None →
      fault_of program (word ∷ words) ≡ UnknownArgument ∷ InvalidSubcommand ∷ []
  unfolding walk_fault
  other_word word words plain none = rw (turn names nothing_held 1 word plain none top) refl
