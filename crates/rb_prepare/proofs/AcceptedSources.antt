-- The laws of the code of accepted sources.
use Rattle.std.specs.Prelude.{ℕ, List}
use Rattle.rb_syntax.specs.Tree.{Tree}
use Rattle.rb_scope.specs.InFrames.{Resolved}
use Rattle.rb_scope.specs.declared.slot.Slot.{Slot}
use Rattle.rb_scope.proofs.WithinLimits.{within_limits}
use Rattle.rb_nest.proofs.Accepted.{accepted_are_nested}
use Rattle.rb_judge.specs.Verdict.{IsAccepted}
use Rattle.rb_judge.proofs.Alternates.{accepted_have_alternates}
use Rattle.rb_judge.proofs.BlocksInOrder.{parsed_are_numbered}
use Rattle.rb_judge.proofs.Spelling.{accepted_are_spelled}
use Rattle.rb_code.specs.Instructions.Plain.{Code}
use Rattle.rb_code.specs.Agreement.StandsFor.{StandsFor}
use Rattle.rb_code.proofs.Tables.CodeTables.{code_has_table}
use Rattle.rb_code.proofs.WholeRuns.CodeAgrees.{agrees_by_table}
use Rattle.rb_prepare.specs.Laws.{AlwaysAgrees, HasCountsOfNest, IsSoundForGroups, OfEveryCode}
use Rattle.rb_prepare.proofs.AcceptedCode.{IsCodeOf}
use Rattle.rb_prepare.proofs.Joining.CountedAlternates.{counts_known}
use Rattle.rb_prepare.proofs.Operands.RoomFound.{accepted_find_room}
use Rattle.rb_prepare.proofs.SoundCode.{code_is_sound}

accepted_code : (source : List ℕ) (tree : Tree) (slots : List Slot) (c : Code) → IsAccepted source tree → Resolved tree slots → StandsFor tree slots c
    → IsCodeOf tree slots c
accepted_code source tree slots c accepted resolved stands = record {
  resolved = resolved;
  scoped = accepted.scoped;
  nested = accepted.nested;
  spelled = accepted_are_spelled source tree accepted;
  numbered = parsed_are_numbered source tree accepted.derived;
  alternates = accepted_have_alternates source tree accepted;
  few = accepted_find_room source tree accepted;
  stands = stands;
}

pub accepted_code_is_sound : OfEveryCode IsSoundForGroups
accepted_code_is_sound source tree slots c accepted resolved stands nested nest =
    code_is_sound tree slots c (accepted_code source tree slots c accepted resolved stands) nested nest

pub accepted_code_has_counts : OfEveryCode HasCountsOfNest
accepted_code_has_counts source tree slots c accepted resolved stands nested nest b d block at is =
    counts_known tree slots c (accepted_code source tree slots c accepted resolved stands) nested nest b d block at is

pub accepted_code_agrees : OfEveryCode AlwaysAgrees
accepted_code_agrees source tree slots c accepted resolved stands turns =
    let limits = within_limits tree accepted.scoped in
    let nested = accepted_are_nested tree accepted.nested in
    let tabled = code_has_table c tree slots resolved limits nested (accepted_find_room source tree accepted) stands in
    agrees_by_table tree slots c tabled.0 resolved limits nested stands tabled.1 turns
