-- The code of an accepted source is as the laws of traces ask.
use Rattle.std.proofs.Common.{ℕ, List, ◌∙◌}
use Rattle.std.proofs.lemmas.List.{length-map}
use Rattle.rb_base.specs.declared.names.Nested.{Nested}
use Rattle.rb_syntax.specs.Tree.{ConversationDeclaration, Tree}
use Rattle.rb_world.specs.Kind.{Membership}
use Rattle.rb_meaning.specs.Groups.{membership_of}
use Rattle.rb_scope.specs.InFrames.{Resolved}
use Rattle.rb_scope.specs.declared.slot.Slot.{Slot}
use Rattle.rb_scope.proofs.WithinLimits.{within_limits}
use Rattle.rb_nest.specs.Groups.{alternates}
use Rattle.rb_nest.specs.Nest.{IsNest}
use Rattle.rb_nest.proofs.Accepted.{accepted_are_nested}
use Rattle.rb_judge.specs.Verdict.{IsAccepted}
use Rattle.rb_judge.proofs.BlocksInOrder.{parsed_are_numbered}
use Rattle.rb_code.specs.Instructions.Plain.{Code}
use Rattle.rb_code.specs.Agreement.StandsFor.{StandsFor}
use Rattle.rb_prepare.specs.Laws.{OfEveryCode}
use Rattle.rb_prepare.proofs.Joining.CountedAlternates.{as_many_counts}
use Rattle.rb_prepare.proofs.Operands.RoomFound.{accepted_find_room}
use Rattle.rb_picture.specs.Laws.{AreCounts, IsCodeOf}
use Rattle.rb_picture.proofs.AsMeant.{trace_told_as_meant}
use Rattle.rb_view.specs.Laws.{TracesAsMeant}

accepted_code : (source : List ℕ) (tree : Tree) (slots : List Slot) (c : Code) → IsAccepted source tree → Resolved tree slots → StandsFor tree slots c
    → IsCodeOf tree slots c
accepted_code source tree slots c accepted resolved stands = record {
  resolved = resolved;
  limits = within_limits tree accepted.scoped;
  nested = accepted_are_nested tree accepted.nested;
  operands = accepted_find_room source tree accepted;
  numbered = parsed_are_numbered source tree accepted.derived;
  stands = stands;
}

-- how many alternates nesting counts
nest_counts : (tree : Tree) (nested : Nested) → IsNest tree nested → AreCounts tree (alternates nested)
nest_counts tree nested nest = record {
  as_many = as_many_counts tree nested nest ∙ length-map tree.conversations (membership_of tree);
  each = nest.counts;
}

pub traces_as_meant : OfEveryCode TracesAsMeant
traces_as_meant source tree slots c accepted resolved stands nested turns nest =
    trace_told_as_meant tree slots c (alternates nested) turns (accepted_code source tree slots c accepted resolved stands) (nest_counts tree nested nest)
