-- What `prepare` answers.
use Rattle.std.specs.Prelude.{ℕ, List}
use Rattle.rb_syntax.specs.Tree.{Tree}
use Rattle.rb_meaning.specs.Groups.{groups_of}
use Rattle.rb_scope.specs.InFrames.{Resolved}
use Rattle.rb_scope.specs.Resolved.{IsResolved}
use Rattle.rb_scope.specs.declared.slot.Slot.{Slot}
use Rattle.rb_nest.specs.Groups.{alternates}
use Rattle.rb_nest.specs.Nest.{IsNest}
use Rattle.rb_judge.specs.Verdict.{IsAccepted}
use Rattle.rb_code.specs.Instructions.Plain.{code}
use Rattle.rb_code.specs.Agreement.StandsFor.{StandsFor}
use Rattle.rb_code.specs.SoundCode.WellFormed.{IsSound}
use Rattle.rb_prepare.specs.declared.preparing.Prepared.{Prepared}

-- the code stands for a tree whose names have these slots
pub record IsCodeOf (tree : Tree) (slots : List Slot) (prepared : Prepared) : Type 0 where
  pub resolved : IsResolved tree slots
  pub frames : Resolved tree slots
  pub stands : StandsFor tree slots (code prepared.code)
  pub sound : IsSound (code prepared.code) (groups_of tree) (alternates prepared.nested)

-- An accepted source, with code that stands for its tree and is sound, and with its conversations.
pub record IsPrepared (source : List ℕ) (prepared : Prepared) : Type 0 where
  pub tree : Tree
  pub slots : List Slot
  pub accepted : IsAccepted source tree
  pub is_code : IsCodeOf tree slots prepared
  pub conversations : IsNest tree prepared.nested
