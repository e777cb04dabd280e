-- Erasure, and that no receipt stands whose message was taken back, for every kind that can be erased.
use Rattle.std.proofs.Common.{ℕ, List}
use Rattle.rb_world.specs.World.{Process, World}
use Rattle.rb_world.specs.Turn.{opening, run}
use Rattle.rb_world.proofs.Keeping.EachProcess.{KeepsEach}
use Rattle.rb_world.proofs.Erasing.ErasableKinds.{Nothing, Parts, whole, plain, IsErasable}
use Rattle.rb_world.proofs.Erasing.Stepping.StepKeepsErasure.{erased_goes}
use Rattle.rb_world.proofs.Erasing.Passing.EntryKeepsErasure.{erased_opens}
use Rattle.rb_world.proofs.Erasing.Passing.AcceptanceKeepsErasure.{erased_accepts}
use Rattle.rb_world.proofs.Erasing.Passing.ArrivalKeepsErasure.{erased_stands}
use Rattle.rb_world.proofs.Erasing.Passing.LeavingKeepsErasure.{erased_leaves}
use Rattle.rb_world.proofs.Erasing.Releasing.ReleaseKeepsErasure.{erased_releases}
use Rattle.rb_world.proofs.Erasing.ErasureIsInvariant.{ErasureIsKept, erased_under}
use Rattle.rb_world.proofs.Erasing.SurvivorsRunAlone.{OpensErasably, RunsAlone, erasure}
use Rattle.rb_world.proofs.Erasing.ReceiptsStand.{AreBetweenTwo, AreSeen, no_receipt_taken_back}

module _ {S E P : Type 0} {x : Parts S E P} {Known : ℕ → Process S S → Type 0} (keeps : KeepsEach (whole x) Known) (laws : IsErasable x Known) where
  -- every law of erasure
  erasure_kept : (start : World S P Nothing) → ErasureIsKept x Known start
  erasure_kept start = erased_under x Known laws start
      (erased_goes x Known laws keeps start) (erased_opens x Known laws keeps start) (erased_accepts x Known laws keeps start)
      (erased_stands x Known laws start) (erased_leaves x Known laws keeps start) (erased_releases laws start)

  -- What survived a run, run alone, is never stuck, ends in the same states, and releases the same lines.
  pub survivors_run_alone : {states : List S} → OpensErasably x Known states → (turns : List ℕ)
      → let end = run (whole x) 1 turns (opening (whole x) states tt) in RunsAlone x states end.1 end.0
  survivors_run_alone {states} opens turns = erasure keeps laws opens (erasure_kept (opening (plain x) states tt)) turns

  -- Each receiver has taken no more than it can see.
  pub receipts_stand : AreBetweenTwo x.channels → {states : List S} → OpensErasably x Known states → (turns : List ℕ)
      → AreSeen x (run (whole x) 1 turns (opening (whole x) states tt)).0
  receipts_stand two {states} opens turns = no_receipt_taken_back keeps laws two opens (erasure_kept (opening (plain x) states tt)) turns
