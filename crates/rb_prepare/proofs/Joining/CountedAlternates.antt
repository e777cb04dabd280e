-- How many alternates each conversation has: the blocks of code that stands for an accepted tree have as many as nesting counted.
use Rattle.std.proofs.Common.{◌≡◌, ℕ, List, length, slice_get, Some, sym, ap, ◌∙◌, arith}
use Rattle.std.proofs.lemmas.List.{length-map}
use Rattle.rb_base.specs.declared.names.Group.{Group}
use Rattle.rb_base.specs.declared.names.Nested.{Nested}
use Rattle.rb_syntax.specs.Tree.{Tree}
use Rattle.rb_world.proofs.ListFacts.{slice_get-there, some_same}
use Rattle.rb_meaning.specs.Groups.{groups_of}
use Rattle.rb_scope.specs.declared.slot.Slot.{Slot}
use Rattle.rb_nest.specs.Groups.{alternates, membership}
use Rattle.rb_nest.specs.Nest.{IsNest}
use Rattle.rb_code.specs.Instructions.Plain.{Block, Code}
use Rattle.rb_prepare.proofs.AcceptedCode.{IsCodeOf}
use Rattle.rb_prepare.proofs.Forming.FormedCode.{alternates_known, block_formed}

-- each conversation has a count
pub as_many_counts : (tree : Tree) (nested : Nested) → IsNest tree nested → length (alternates nested) ≡ length (groups_of tree)
as_many_counts tree nested nest =
    length-map nested.conversations.items (λ (group : Group). group.alternates)
    ∙ sym (length-map nested.conversations.items membership)
    ∙ ap length nest.groups

module _ (tree : Tree) (slots : List Slot) (c : Code) (code : IsCodeOf tree slots c) (nested : Nested) (nest : IsNest tree nested) where
  pub counts_known : (b d : ℕ) (block : Block) → slice_get c.blocks b ≡ Some block → block.conversation ≡ Some d
      → slice_get (alternates nested) d ≡ Some (length block.alternates)
  counts_known b d block at is =
      let below = (block_formed tree slots c code b block at).conversation d is in
      let there = slice_get-there (alternates nested) d (omega (arith, below, as_many_counts tree nested nest)) in
      let same = some_same (sym (nest.counts d there.0 there.1) ∙ alternates_known tree slots c code b d block at is) in
      there.1 ∙ ap Some same
