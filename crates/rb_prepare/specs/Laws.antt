-- Laws of the code of accepted sources.
use Rattle.std.specs.Prelude.{◌≡◌, ℕ, List, length, slice_get, Some}
use Rattle.rb_base.specs.declared.names.Nested.{Nested}
use Rattle.rb_syntax.specs.Tree.{Tree}
use Rattle.rb_meaning.specs.Groups.{groups_of}
use Rattle.rb_scope.specs.InFrames.{Resolved}
use Rattle.rb_scope.specs.declared.slot.Slot.{Slot}
use Rattle.rb_nest.specs.Groups.{alternates}
use Rattle.rb_nest.specs.Nest.{IsNest}
use Rattle.rb_judge.specs.Verdict.{IsAccepted}
use Rattle.rb_code.specs.Instructions.Plain.{Block, Code}
use Rattle.rb_code.specs.Agreement.Laws.{Agrees}
use Rattle.rb_code.specs.Agreement.StandsFor.{StandsFor}
use Rattle.rb_code.specs.SoundCode.WellFormed.{IsSound}

-- whatever code stands for the tree of an accepted source keeps this
abbrev pub OfEveryCode : (Tree → Code → Type 0) → Type 0
OfEveryCode P = (source : List ℕ) (tree : Tree) (slots : List Slot) (c : Code) → IsAccepted source tree → Resolved tree slots
    → StandsFor tree slots c → P tree c

-- it is sound, with the conversations of the tree and the numbers of alternates that nesting counts
abbrev pub IsSoundForGroups : Tree → Code → Type 0
IsSoundForGroups tree c = (nested : Nested) → IsNest tree nested → IsSound c (groups_of tree) (alternates nested)

-- it agrees with the tree's meaning, over every list of turns
abbrev pub AlwaysAgrees : Tree → Code → Type 0
AlwaysAgrees tree c = (turns : List ℕ) → Agrees tree c turns

-- each of its recovery blocks has as many alternates as is counted for its conversation
abbrev pub HasCountsOfNest : Tree → Code → Type 0
HasCountsOfNest tree c = (nested : Nested) → IsNest tree nested → (b d : ℕ) (block : Block) → slice_get c.blocks b ≡ Some block
    → block.conversation ≡ Some d → slice_get (alternates nested) d ≡ Some (length block.alternates)
