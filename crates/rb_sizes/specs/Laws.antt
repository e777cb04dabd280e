-- Laws of the sizes of what is compiled of an accepted source.
use Rattle.std.specs.Prelude.{◌≡◌, ℕ, ◌*◌, ◌≤◌, List, length, slice_get, Some, unwrap_or}
use Rattle.rb_base.specs.declared.limits.TheConstants.{MOST_BYTES}
use Rattle.rb_syntax.specs.Tree.{Tree}
use Rattle.rb_meaning.specs.Groups.{groups_of}
use Rattle.rb_meaning.specs.Nesting.{alternates_of}
use Rattle.rb_scope.specs.InFrames.{Resolved}
use Rattle.rb_scope.specs.Resolved.{IsResolved}
use Rattle.rb_scope.specs.declared.slot.Slot.{Slot}
use Rattle.rb_judge.specs.Verdict.{IsAccepted}
use Rattle.rb_code.specs.Instructions.Plain.{Code}
use Rattle.rb_code.specs.Agreement.StandsFor.{StandsFor}
use Rattle.rb_image.specs.Image.{image_of}
use Rattle.rb_image.specs.Laws.{IsImage}

-- The image of code that stands for an accepted source no longer than it may be, with the source's conversations and any numbers of
-- alternates, has at most sixteen bytes for each byte of the source.
abbrev pub ImagesAreShort : Type 0
ImagesAreShort =
    (source : List ℕ) (tree : Tree) (slots : List Slot) (c : Code) (counts : List ℕ) → length source ≤ MOST_BYTES → IsAccepted source tree
    → StandsFor tree slots c → length (image_of c (groups_of tree) counts) ≤ 16 * length source

-- There is a number for each conversation of a tree: that of its alternates, or 0 where nobody joins it.
pub record CountsAlternates (tree : Tree) (counts : List ℕ) : Type 0 where
  pub as_many : length counts ≡ length (groups_of tree)
  pub each : (d n : ℕ) → slice_get counts d ≡ Some n → n ≡ unwrap_or (alternates_of tree d) 0

-- Of code that stands for an accepted source no longer than it may be, and of the source's conversations with their numbers of alternates,
-- each number lies in the range that an image has room for: their image is one.
abbrev pub CompiledCodeIsInRanges : Type 0
CompiledCodeIsInRanges =
    (source : List ℕ) (tree : Tree) (slots : List Slot) (c : Code) (counts : List ℕ) → length source ≤ MOST_BYTES → IsAccepted source tree
    → IsResolved tree slots → Resolved tree slots → StandsFor tree slots c → CountsAlternates tree counts
    → IsImage (image_of c (groups_of tree) counts) c (groups_of tree) counts
