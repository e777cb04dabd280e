-- The law of the generator's subject: there is code for every tree.
use Rattle.std.specs.Prelude.{List}
use Rattle.rb_syntax.specs.Tree.{Tree}
use Rattle.rb_syntax.specs.Numbered.{IsNumbered}
use Rattle.rb_scope.specs.InFrames.{Resolved}
use Rattle.rb_scope.specs.declared.slot.Slot.{Slot}
use Rattle.rb_code.specs.Instructions.Plain.{Code}
use Rattle.rb_code.specs.Agreement.StandsFor.{StandsFor}

-- some code stands for each tree whose names are resolved and whose recovery blocks are numbered
abbrev pub HasCode : Type 0
HasCode = (tree : Tree) (slots : List Slot) → Resolved tree slots → IsNumbered tree → (c : Code) × StandsFor tree slots c
