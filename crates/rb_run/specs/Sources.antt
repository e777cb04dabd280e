-- What holds of the source of a machine's code.
use Rattle.std.specs.Prelude.{◌≡◌, ℕ, List}
use Rattle.rb_syntax.specs.Tree.{Tree}
use Rattle.rb_world.specs.Kind.{Membership}
use Rattle.rb_meaning.specs.Groups.{groups_of}
use Rattle.rb_scope.specs.InFrames.{Resolved}
use Rattle.rb_scope.specs.declared.slot.Slot.{Slot}
use Rattle.rb_judge.specs.Verdict.{IsAccepted}
use Rattle.rb_code.specs.Instructions.Plain.{Code}
use Rattle.rb_code.specs.Agreement.StandsFor.{StandsFor}

-- The tree of whatever accepted source code stands for, with its conversations, keeps this.
abbrev pub OfItsSource : Code → List Membership → (Tree → Type 0) → Type 0
OfItsSource c groups P = (source : List ℕ) (tree : Tree) (slots : List Slot) → IsAccepted source tree → Resolved tree slots
    → StandsFor tree slots c → groups ≡ groups_of tree → P tree
