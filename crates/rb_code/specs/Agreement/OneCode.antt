-- The law that one code stands for a tree.
use Rattle.std.specs.Prelude.{◌≡◌, List}
use Rattle.rb_syntax.specs.Tree.{Tree}
use Rattle.rb_syntax.specs.Numbered.{IsNumbered}
use Rattle.rb_scope.specs.InFrames.{Resolved}
use Rattle.rb_scope.specs.Slots.{AreSlots}
use Rattle.rb_scope.specs.declared.slot.Slot.{Slot}
use Rattle.rb_code.specs.Instructions.Plain.{Code}
use Rattle.rb_code.specs.Agreement.StandsFor.{StandsFor}

-- Of a tree whose recovery blocks are numbered, with these slots, one code stands for it at the most.
abbrev pub OneCodeWithSlots : Type 0
OneCodeWithSlots = (tree : Tree) (slots : List Slot) (c d : Code) → IsNumbered tree → StandsFor tree slots c → StandsFor tree slots d → c ≡ d

-- So of one that is resolved, whatever the slots by which it is.
abbrev pub OneCodeStands : Type 0
OneCodeStands = (tree : Tree) (slots others : List Slot) (c d : Code) → IsNumbered tree → Resolved tree slots → Resolved tree others
    → AreSlots tree slots → AreSlots tree others → StandsFor tree slots c → StandsFor tree others d → c ≡ d
