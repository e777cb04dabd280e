-- How a program stands after turns: by its tree, and by its code.
use Rattle.std.specs.Prelude.{ℕ, ◌+◌, List, length}
use Rattle.rb_syntax.specs.Tree.{Tree}
use Rattle.rb_world.specs.Kind.{Membership}
use Rattle.rb_meaning.specs.Meaning.{naming_of, run_of, tree_kind}
use Rattle.rb_code.specs.Instructions.Plain.{Code}
use Rattle.rb_code.specs.WordMachine.WordKind.{word_kind}
use Rattle.rb_code.specs.WordMachine.WordRun.{word_run}
use Rattle.rb_stuck.specs.Stuck.{standing_text}

abbrev pub tree_standing_text : Tree → List ℕ → List ℕ
tree_standing_text tree turns = standing_text (tree_kind tree) (naming_of tree) (length turns + 1) (run_of tree turns).0

abbrev pub word_standing_text : Code → List Membership → List ℕ → List ℕ
word_standing_text c groups turns = standing_text (word_kind c groups) c.names (length turns + 1) (word_run c groups turns).0
