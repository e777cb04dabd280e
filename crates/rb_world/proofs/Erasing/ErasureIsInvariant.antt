-- The laws of erasure put together: those in which nothing is kept, with those in which a turn is kept as premises, under the
-- ground and under what falls need beside it.
use Rattle.std.proofs.Common.{ℕ}
use Rattle.rb_world.specs.World.{Process, World}
use Rattle.rb_world.proofs.Keeping.Invariant.{BothBetween, BothWithin, Goes, Opens, Accepts, Stands, Leaves, Releases, IsInvariant, IsInvariantUnder, both_kept}
use Rattle.rb_world.proofs.Erasing.ErasableKinds.{Nothing, Parts, whole, IsErasable}
use Rattle.rb_world.proofs.Erasing.Showing.ErasureInvariant.{GroundedBefore, GroundedDuring, GroundedAfter, ErasedBefore, ErasedWithin, ErasedAfter}
use Rattle.rb_world.proofs.Erasing.GoingBack.TurnsNotKept.{erased_rests, erased_uses, erased_overruns, erased_waits, erased_is_gone, erased_tries_next, erased_is_spent, erased_all_try_next, erased_all_are_spent}
use Rattle.rb_world.proofs.Erasing.GoingBack.BreakingKeepsErasure.{erased_breaks}
use Rattle.rb_world.proofs.Erasing.GoingBack.NoLevelNoLine.{away_kept}
use Rattle.rb_world.proofs.Erasing.GoingBack.WhoFails.{AwayBetween, AwayWithin, erased_falls}

-- what is shown under the ground and beside it
abbrev pub ErasureIsKept : {S E P : Type 0} → Parts S E P → (ℕ → Process S S → Type 0) → World S P Nothing → Type 0
ErasureIsKept x Known start = IsInvariantUnder (whole x)
    (BothBetween (GroundedBefore x Known) AwayBetween) (BothWithin (GroundedDuring x Known) AwayWithin)
    (BothBetween (GroundedAfter x Known) AwayBetween)
    (ErasedBefore x start) (ErasedWithin x start) (ErasedAfter x start)

module _ {S E P : Type 0} (x : Parts S E P) (Known : ℕ → Process S S → Type 0) (laws : IsErasable x Known) (start : World S P Nothing) where
  -- all laws of erasure, from those in which a turn is kept
  pub erased_under : Goes (whole x) (BothWithin (GroundedDuring x Known) (ErasedWithin x start)) (ErasedAfter x start)
      → Opens (whole x) (BothWithin (GroundedDuring x Known) (ErasedWithin x start)) (ErasedAfter x start)
      → Accepts (whole x) (BothWithin (GroundedDuring x Known) (ErasedWithin x start)) (ErasedAfter x start)
      → Stands (whole x) (BothWithin (GroundedDuring x Known) (ErasedWithin x start)) (ErasedAfter x start)
      → Leaves (whole x) (BothWithin (GroundedDuring x Known) (ErasedWithin x start)) (ErasedAfter x start)
      → Releases (whole x) (BothBetween (GroundedAfter x Known) (ErasedAfter x start)) (ErasedBefore x start)
      → ErasureIsKept x Known start
  erased_under goes opens accepts stands leaves releases = record {
    rests = λ t past w h. erased_rests x Known start t past w (h.0.0, h.1);
    uses = λ t past p q w h r. erased_uses x Known start t past p q w (h.0.0, h.1) r;
    overruns = λ t past p q w j h r e. erased_overruns x Known start t past p q w j (h.0.0, h.1) r e;
    waits = λ t past p q w h r e. erased_waits x Known start t past p q w (h.0.0, h.1) r e;
    goes = λ t past p q w a v s m h at e. goes t past p q w a v s m (h.0.0, h.1) at e;
    opens = λ t past p q w f a h at. opens t past p q w f a (h.0.0, h.1) at;
    accepts = λ t past p q w a v s l h at e y z. accepts t past p q w a v s l (h.0.0, h.1) at e y z;
    stands = λ t past p q w a v s l c h at e y z u. stands t past p q w a v s l c (h.0.0, h.1) at e y z u;
    leaves = λ t past p q w a v s l c h at e y z u. leaves t past p q w a v s l c (h.0.0, h.1) at e y z u;
    falls = λ t past p q w n c h r why. erased_falls x Known laws start t past p q w n c h r why;
    tries_next = λ t past p q w j l h r y z. erased_tries_next x Known start t past p q w j l (h.0.0, h.1) r y z;
    is_spent = λ t past p q w j l h r y z. erased_is_spent x Known start t past p q w j l (h.0.0, h.1) r y z;
    all_try_next = λ t past p q w j l c h r y z. erased_all_try_next x Known start t past p q w j l c (h.0.0, h.1) r y z;
    all_are_spent = λ t past p q w j l c d h r y z u. erased_all_are_spent x Known start t past p q w j l c d (h.0.0, h.1) r y z u;
    breaks = λ t past p q w j l c h r y z u. erased_breaks x Known laws start t past p q w j l c (h.0.0, h.1) r y z u;
    is_gone = λ t past p q w j h r e. erased_is_gone x Known start t past p q w j (h.0.0, h.1) r e;
    releases = λ t past w o h e. releases t past w o (h.0.0, h.1) e;
  }

  -- and so the whole invariant, from that of the ground
  pub erased_and_grounded : IsInvariant (whole x) (GroundedBefore x Known) (GroundedDuring x Known) (GroundedAfter x Known)
      → ErasureIsKept x Known start
      → IsInvariant (whole x) (BothBetween (BothBetween (GroundedBefore x Known) AwayBetween) (ErasedBefore x start))
      (BothWithin (BothWithin (GroundedDuring x Known) AwayWithin) (ErasedWithin x start))
      (BothBetween (BothBetween (GroundedAfter x Known) AwayBetween) (ErasedAfter x start))
  erased_and_grounded ground erased = both_kept (both_kept ground (away_kept x Known laws)) erased
