-- The law that the code of an accepted tree is sound.
use Rattle.std.specs.Prelude.{◌≡◌, ℕ, List, []}
use Rattle.rb_syntax.specs.Tree.{Tree}
use Rattle.rb_syntax.specs.Numbered.{IsNumbered}
use Rattle.rb_meaning.specs.Groups.{groups_of}
use Rattle.rb_scope.specs.InFrames.{Resolved}
use Rattle.rb_scope.specs.Rules.{faults_of}
use Rattle.rb_scope.specs.Spelled.{IsSpelled}
use Rattle.rb_scope.specs.declared.slot.Slot.{Slot}
use Rattle.rb_nest.specs.Rules.{nesting_faults}
use Rattle.rb_code.specs.Instructions.Plain.{Code}
use Rattle.rb_code.specs.Agreement.RoomInTree.{FewOperands}
use Rattle.rb_code.specs.Agreement.StandsFor.{StandsFor}
use Rattle.rb_code.specs.SoundCode.WellFormed.{IsSound, IsWellFormed}
use Rattle.rb_code.specs.SoundCode.Reached.{IsInMainBody, Reached}
use Rattle.rb_nest.specs.Groups.{alternates}
use Rattle.rb_nest.specs.Nest.{IsNest}
use Rattle.rb_base.specs.declared.names.Nested.{Nested}
use Rattle.rb_judge.specs.HasAlternates.{HasAlternates}

-- What holds of whatever code stands for a tree that keeps the rules of scopes, limits and nesting, whose names are spelled as they may
-- be, whose recovery blocks are numbered in order and have alternates, and whose expressions find room for their operands.
abbrev pub OfCodeOfAcceptedTrees : (Tree → Code → Type 0) → Type 0
OfCodeOfAcceptedTrees P = (tree : Tree) (slots : List Slot) (c : Code) → Resolved tree slots → faults_of tree ≡ [] → nesting_faults tree ≡ []
    → IsSpelled tree → IsNumbered tree → HasAlternates tree → FewOperands tree → StandsFor tree slots c → P tree c

-- Its lists, and its conversations, are well formed.
abbrev pub CodeOfAcceptedTreesIsWellFormed : Type 0
CodeOfAcceptedTreesIsWellFormed = OfCodeOfAcceptedTrees (λ tree c. IsWellFormed c (groups_of tree))

-- And it is sound, with the numbers of alternates that nesting counts.
abbrev pub CodeOfAcceptedTreesIsSound : Type 0
CodeOfAcceptedTreesIsSound = OfCodeOfAcceptedTrees (λ tree c. (nested : Nested) → IsNest tree nested → IsSound c (groups_of tree) (alternates nested))

-- Each address of a main body is reached.
abbrev pub MainBodiesAreReached : Type 0
MainBodiesAreReached = OfCodeOfAcceptedTrees (λ tree c. (p a : ℕ) → IsInMainBody c p a → Reached c a)
