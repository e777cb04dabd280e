-- The numbers of the code of an accepted source, and of its conversations, lie in the ranges of an image.
use Rattle.std.proofs.Common.{◌≡◌, ◌≤◌, ℕ, zero, suc, ◌+◌, List, [], ◌∷◌, length, slice_get, Some, unwrap_or, refl, sym, ap, subst, ◌∙◌, arith}
use Rattle.rb_base.specs.declared.limits.TheConstants.{MOST_BYTES}
use Rattle.rb_syntax.specs.Tree.{Tree}
use Rattle.rb_world.specs.Kind.{Membership}
use Rattle.rb_world.proofs.ListFacts.{none_some, some_same}
use Rattle.rb_meaning.specs.Groups.{groups_of}
use Rattle.rb_meaning.specs.Nesting.{alternates_of}
use Rattle.rb_judge.specs.Verdict.{IsAccepted}
use Rattle.rb_code.specs.Instructions.Plain.{Code}
use Rattle.rb_image.specs.Ranges.{InRanges}
use Rattle.rb_sizes.specs.Laws.{CountsAlternates}
use Rattle.rb_sizes.proofs.Ranging.InRanges.{compiled_code_is_in_ranges}
use Rattle.rb_sizes.proofs.Short.{images_are_short}
use Rattle.rb_verdict.specs.Programs.{IsCodeFor, IsImageOf, counts_from}
use Rattle.rb_verdict.specs.declared.limits.TheConstants.{MOST_IMAGE}

-- the numbers of alternates of a tree's conversations
module _ (tree : Tree) where
  as_many_counts : (d : ℕ) (groups : List Membership) → length (counts_from tree d groups) ≡ length groups
  as_many_counts d [] = refl
  as_many_counts d (group ∷ groups) = ap suc (as_many_counts (d + 1) groups)

  each_count : (d : ℕ) (groups : List Membership) (i n : ℕ) → slice_get (counts_from tree d groups) i ≡ Some n
      → n ≡ unwrap_or (alternates_of tree (d + i)) 0
  each_count d [] i n at = absurd (none_some at)
  each_count d (group ∷ groups) zero n at =
      sym (some_same at) ∙ ap (λ (e : ℕ). unwrap_or (alternates_of tree e) 0) (omega arith)
  each_count d (group ∷ groups) (suc i) n at =
      each_count (d + 1) groups i n at ∙ ap (λ (e : ℕ). unwrap_or (alternates_of tree e) 0) (omega arith)

  counts_alternates : CountsAlternates tree (counts_from tree 0 (groups_of tree))
  counts_alternates = record {
    as_many = as_many_counts 0 (groups_of tree);
    each = λ d n at. each_count 0 (groups_of tree) d n at ∙ ap (λ (e : ℕ). unwrap_or (alternates_of tree e) 0) (omega arith);
  }

pub code_in_ranges : (source : List ℕ) (tree : Tree) (c : Code) → length source ≤ MOST_BYTES → IsAccepted source tree → IsCodeFor tree c
    → InRanges c (groups_of tree) (counts_from tree 0 (groups_of tree))
code_in_ranges source tree c short accepted made =
    (compiled_code_is_in_ranges source tree made.slots c (counts_from tree 0 (groups_of tree)) short accepted made.resolved made.frames made.stands
    (counts_alternates tree)).ranges

-- so what is compiled of it is no longer than an image may be
pub image_short : (source image : List ℕ) (tree : Tree) → length source ≤ MOST_BYTES → IsAccepted source tree → IsImageOf tree image
    → length image ≤ MOST_IMAGE
image_short source image tree short accepted made =
    let few = images_are_short source tree made.made.slots made.compiled (counts_from tree 0 (groups_of tree)) short accepted made.made.stands in
    subst (λ (bytes : List ℕ). length bytes ≤ MOST_IMAGE) (sym made.is_image.spelled) (omega (arith, few, short))
