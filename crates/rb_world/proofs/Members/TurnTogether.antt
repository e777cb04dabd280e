-- In every turn, for every conversation, those inside it keep their levels, or pass its test line together, or go back together, or
-- go out together.
use Rattle.std.proofs.Common.{◌≡◌, ℕ, zero, suc, true, false, List, [], ◌∷◌, ◌++◌, length, map, slice_get, Some, None, refl, sym, ap, ◌∙◌}
use Rattle.rb_base.specs.declared.event.Cause.TheVariants.{Broken}
use Rattle.rb_world.specs.Kind.{Enters, Facts, Kind}
use Rattle.rb_world.specs.World.{Level, Process, Talk, World, last_of, talk_at, with_process, without_last}
use Rattle.rb_world.specs.Reject.{fallen, reject}
use Rattle.rb_world.specs.Turn.{Moved, move, new_level, one_used, turn_used}
use Rattle.rb_world.specs.Standing.{HasSize}
use Rattle.rb_world.proofs.Keeping.Induction.{move-keeps}
use Rattle.rb_world.proofs.Keeping.StandingFacts.{size_kept}
use Rattle.rb_world.proofs.TurnFacts.{RunsAt}
use Rattle.rb_world.proofs.ListFacts.{length-change_at, none_some, some_same}
use Rattle.rb_world.proofs.Members.Outcomes.{Outcomes, counted, move-comes}
use Rattle.rb_world.proofs.Members.CascadeEnds.{reject-ends}
use Rattle.rb_world.proofs.Members.Together.{AllStay, Carries, IsOrdered, Keeps, Together}
use Rattle.rb_world.proofs.Members.CountedTurns.{carries_same, counted_keeps, counted_nested, counted_there, keeps_on, own_keeps}
use Rattle.rb_world.proofs.Members.RejectTogether.{reject_together}
use Rattle.rb_world.proofs.Members.PassTogether.{kept_without_last}
use Rattle.rb_world.proofs.Members.LineTogether.{pass_together}

module _ {C : Type 0} where
  -- an entry leaves the levels that were open
  there_before : (levels more : List (Level C)) (i : ℕ) (level : Level C) → slice_get levels i ≡ Some level
      → slice_get (levels ++ more) i ≡ Some level
  there_before [] more i level e = absurd (none_some e)
  there_before (x ∷ levels) more zero level e = e
  there_before (x ∷ levels) more (suc i) level e = there_before levels more i level e

  carries_more : (c : ℕ) (levels more : List (Level C)) → Carries c levels (levels ++ more)
  carries_more c levels more i at = (at.level, there_before levels more i at.level at.there, refl)

  -- and so does a private level that goes
  carries_accepted : (c : ℕ) (levels : List (Level C)) (level : Level C) → last_of levels ≡ Some level
      → level.facts.conversation ≡ None → Carries c levels (without_last levels)
  carries_accepted c levels level last alone i at = (
    at.level,
    kept_without_last levels i at.level at.there
        (λ e. none_some (sym alone ∙ (ap (λ (l : Level C). l.facts.conversation) (some_same (sym last ∙ e)) ∙ at.of_it))),
    refl,
  )

  -- nothing is to be kept of no levels
  carries_none : (c : ℕ) (levels later : List (Level C)) → levels ≡ [] → Carries c levels later
  carries_none c levels later e i at = absurd (none_some (ap (λ (xs : List (Level C)). slice_get xs i) (sym e) ∙ at.there))

module _ {S C M : Type 0} (k : Kind S C M) (c p : ℕ) (w : World S C M) (ordered : IsOrdered k w) where
  -- p alone was changed
  own_stays : (q now : Process S C) → RunsAt p q w → Carries c (turn_used q).levels now.levels → Keeps c w (with_process p (λ _. now) (counted p q w))
  own_stays q now runs carries =
      keeps_on c w (counted p q w) (with_process p (λ _. now) (counted p q w)) (counted_keeps c p q w runs)
      (own_keeps c p (turn_used q) (λ _. now) (counted p q w) (counted_there k p q w runs) carries)

  barred_stays : (q : Process S C) (facts : Facts) (d : ℕ) (talk : Talk) → RunsAt p q w → q.at_line ≡ false
      → k.want q.state ≡ Enters facts → facts.conversation ≡ Some d
      → talk_at w d ≡ Some talk → talk.is_broken ≡ true → Keeps c w (with_process p (fallen k Broken) (counted p q w))
  barred_stays q facts d talk runs away wants of_d at broken =
      let bare : q.levels ≡ [] = ordered.outermost p d q facts runs.there away wants of_d (ordered.broken d talk at broken) in
      keeps_on c w (counted p q w) (with_process p (fallen k Broken) (counted p q w)) (counted_keeps c p q w runs)
      (own_keeps c p (turn_used q) (fallen k Broken) (counted p q w) (counted_there k p q w runs)
      (carries_none c (map one_used q.levels) [] (ap (map one_used) bare)))

  -- no process comes or goes in the turn
  abbrev IfAsMany : Moved S C M → Type 0
  IfAsMany moved = length moved.world.processes ≡ length w.processes → Together k c p w moved

  together_outcomes : Outcomes k p w IfAsMany
  together_outcomes = record {
    idle = λ size. AllStay (λ r x here. (x, here, carries_same c x.levels));
    rested = λ q runs size. AllStay (counted_keeps c p q w runs);
    waited = λ q runs size. AllStay (counted_keeps c p q w runs);
    went = λ q s m runs size. AllStay (own_stays q _ runs (carries_same c (turn_used q).levels));
    entered = λ q facts alternate s m runs size. AllStay
        (own_stays q _ runs (carries_more c (turn_used q).levels (new_level k facts alternate s ∷ [])));
    accepts = λ q level s m runs last alone size. AllStay (own_stays q _ runs (carries_accepted c (turn_used q).levels level last alone));
    stands = λ q s m runs size. AllStay (own_stays q _ runs (carries_same c (turn_used q).levels));
    passes = λ q level d alternate s m runs last of_d all size. pass_together k p q w runs ordered s m c d alternate level last of_d all;
    barred = λ q facts d talk runs away wants of_d at broken size. AllStay (barred_stays q facts d talk runs away wants of_d at broken);
    rejects = λ q n cause runs within none size.
        reject_together k c p (turn_used q) (counted p q w) w (counted_there k p q w runs)
        (counted_nested k p q w runs ordered.nested) (counted_keeps c p q w runs)
        (reject k p n cause (counted p q w))
        (size ∙ sym (length-change_at p (λ _. turn_used q) w.processes))
        (reject-ends k p (turn_used q) (counted p q w) (counted_there k p q w runs) (counted_nested k p q w runs ordered.nested) n cause within none);
  }

  -- what becomes of the levels of a conversation in a turn, before lines are released
  pub move-together : (t : ℕ) → Together k c p w (move k t p w)
  move-together t =
      let size : HasSize (length w.processes) (length w.talks) (move k t p w).world =
      move-keeps (size_kept k (length w.processes) (length w.talks)) t [] p w (record { of_processes = refl; of_talks = refl }) in
      move-comes together_outcomes t size.of_processes
