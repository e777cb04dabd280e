-- A program with commands, as `clap` is told of it.
use Rattle.std.specs.Prelude.{ℕ, true, false, List, [], Some, None}
use Rattle.clap.specs.Words.{App, Shape, new_app}
use Rattle.rb_words.specs.Leaf.{command_and_last, command_with}
use Rattle.rb_asking.specs.Guides.{Guide}

-- the program, before it is told of its commands: one of them has to be named, and there are no others
abbrev pub program_alone : List ℕ → App
program_alone name = record {
  top = record (new_app name).top {
    no_binary_name = true;
    disable_help_flag = true;
    disable_help_subcommand = true;
    subcommand_required = true;
  };
  subs = [];
}

-- the program with these commands
abbrev pub program_with : List ℕ → List Shape → App
program_with name commands = record { top = record (program_alone name).top { is_leaf = false }; subs = commands }

-- a command, as `clap` is told of it
abbrev pub shape_of : Guide → Shape
shape_of guide = elim guide.last [ None ↦ command_with guide.name guide.takes | Some word ↦ command_and_last guide.name guide.takes word ]
