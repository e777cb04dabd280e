-- What is to be known of a process that fails, beside the ground of erasure: without a level it stands at no line, and the last
-- level that is left to it is private. It is an invariant of its own, under that ground.
use Rattle.std.proofs.Common.{◌≡◌, ℕ, false, [], ◌∷◌, slice_get, Some, None}
use Rattle.rb_base.specs.declared.event.Cause.{Cause}
use Rattle.rb_world.specs.World.{Level, Process, World}
use Rattle.rb_world.specs.Standing.{Each}
use Rattle.rb_world.proofs.TurnFacts.{MustFall, NoLevelLeft, Barred}
use Rattle.rb_world.proofs.Keeping.Invariant.{Between, Within, BothWithin, Falls}
use Rattle.rb_world.proofs.Erasing.ErasableKinds.{Nothing, Parts, whole, IsErasable}
use Rattle.rb_world.proofs.Erasing.Showing.ErasureInvariant.{IsSpentOut, NoLevel, OneSpent, GroundedWithin, GroundedDuring, ErasedWithin, ErasedAfter}
use Rattle.rb_world.proofs.Erasing.GoingBack.FailureKeepsErasure.{MayFall, Bare, Spent, erased_falls_of}

-- without a level a process stands at no line
abbrev pub IsAway : {S C : Type 0} → ℕ → Process S C → Type 0
IsAway r q = q.levels ≡ [] → q.at_line ≡ false

-- where no level is left to be put back, the one that a process has is private
abbrev pub IsLastPrivate : {S C : Type 0} → ℕ → Process S C → Type 0
IsLastPrivate {S} {C} left q = left ≡ 0 → (level : Level C) → q.levels ≡ level ∷ [] → level.facts.conversation ≡ None

-- the invariant, in the three forms
abbrev pub AwayBetween : {S C M : Type 0} → Between S C M
AwayBetween t past w = Each IsAway w.processes

abbrev pub AwayWithin : {S C M : Type 0} → Within S C M
AwayWithin {S} {C} {M} t past p left w = Each IsAway w.processes × ((q : Process S C) → slice_get w.processes p ≡ Some q → IsLastPrivate left q)

module _ {S E P : Type 0} (x : Parts S E P) (Known : ℕ → Process S S → Type 0) (laws : IsErasable x Known) where
  -- who falls may fail
  pub may_fall : (p left : ℕ) (q : Process S S) (w : World S S Nothing) (cause : Cause) → GroundedWithin x Known p left w
      → slice_get w.processes p ≡ Some q
      → IsAway p q → IsLastPrivate left q → MustFall (whole x) q w left cause → MayFall q
  may_fall p left q w cause ground there away private (NoLevelLeft none) = spent_falls (ground.spent q there none)
    where
      spent_falls : IsSpentOut q → MayFall q
      spent_falls (NoLevel bare) = Bare bare (away bare)
      spent_falls (OneSpent level one put) = Spent level one put (private none level one)
  may_fall p left q w cause ground there away private (Barred facts c talk line wants of_c at broken none is) =
      let bare : q.levels ≡ [] =
      laws.outermost p q facts c (ground.ground.each p q there).known line wants of_c (ground.ground.talks c talk at broken) in
      Bare bare (away bare)

  -- the law of falls, under the ground and this invariant
  pub erased_falls : (start : World S P Nothing)
      → Falls (whole x) (BothWithin (BothWithin (GroundedDuring x Known) AwayWithin) (ErasedWithin x start)) (ErasedAfter x start)
  erased_falls start t past p q w left cause h runs why =
      erased_falls_of x Known start t past p q w cause h.0.0.ground runs.there
      (may_fall p left q w cause h.0.0 runs.there (h.0.1.0 p q runs.there) (h.0.1.1 q runs.there) why) h.1

  -- the law of falls, where the ground itself says so
  pub erased_falls_if : (start : World S P Nothing)
      → ((p left : ℕ) (q : Process S S) (w : World S S Nothing) → GroundedWithin x Known p left w
      → slice_get w.processes p ≡ Some q → IsAway p q × IsLastPrivate left q)
      → Falls (whole x) (BothWithin (GroundedDuring x Known) (ErasedWithin x start)) (ErasedAfter x start)
  erased_falls_if start knows t past p q w left cause h runs why =
      let known = knows p left q w h.0 runs.there in
      erased_falls_of x Known start t past p q w cause h.0.ground runs.there (may_fall p left q w cause h.0 runs.there known.0 known.1 why) h.1
