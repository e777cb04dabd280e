-- The slots of a channel hold its messages in every world of a run: each of the ways in which a turn changes a world keeps them.
use Rattle.std.proofs.Common.{◌≡◌, ℕ, ℤ, Bool, true, false, cond, nat_eq, List, slice_get, Option, Some, refl, sym, ap, ◌∙◌, subst, eqb-true}
use Rattle.std.proofs.lemmas.Bool.{eq-eqb, eqb-false}
use Rattle.rb_world.specs.Kind.{Ends, Kind, Want, NothingLeft, SendsOn, ReceivesOn, MayReceiveOn, Enters, Starts, Acts}
use Rattle.rb_world.specs.World.{Process, Talk, World, settled, with_each, with_memory, with_process, with_talks}
use Rattle.rb_world.specs.Slots.{Slots, put_slot, slots_after, with_slots}
use Rattle.rb_world.proofs.ListFacts.{slice_get-change_other}
use Rattle.rb_world.proofs.TurnFacts.{StepsAt}
use Rattle.rb_world.proofs.Erasing.ErasableKinds.{Nothing, Parts, whole, sends_by, Moves, IsErasable}
use Rattle.rb_world.proofs.Slots.UnderSlots.{bare, steps-bare}
use Rattle.rb_world.proofs.Slots.SlotsKept.{stays_keeps}
use Rattle.rb_world.proofs.Slots.SlotsHold.{comes_changed, comes_mapped, HoldsOn, Keeping, holds_on}
use Rattle.rb_world.proofs.Slots.SlotsSteps.{room_for, sent_holds, set_holds, unsent}

module _ {S E P : Type 0} (x : Parts S E P) (Known : ℕ → Process S S → Type 0) (laws : IsErasable x Known) (c : ℕ)
    (ends : Ends) (declared : slice_get x.channels c ≡ Some ends) where
  -- the kind with slots, and its worlds
  abbrev slotted : Kind S S (Nothing × Slots)
  slotted = with_slots (whole x)

  abbrev SlotWorld : Type 0
  SlotWorld = World S S (Nothing × Slots)

  -- one process is changed, or each, and no slot is
  pub one_holds : (p : ℕ) (f : Process S S → Process S S) (w : SlotWorld) → HoldsOn x c ends w
      → ((q : Process S S) → slice_get w.processes p ≡ Some q → Keeping x c ends q (f q))
      → HoldsOn x c ends (with_process p f w)
  one_holds p f w holds keeps =
      holds_on x c ends w (with_process p f w) holds refl (comes_changed (Keeping x c ends) p f w.processes (λ r q e. stays_keeps x c q) keeps)

  pub each_holds : (f : Process S S → Process S S) (w : SlotWorld) → HoldsOn x c ends w
      → ((r : ℕ) (q : Process S S) → slice_get w.processes r ≡ Some q → Keeping x c ends q (f q))
      → HoldsOn x c ends (with_each f w)
  each_holds f w holds keeps = holds_on x c ends w (with_each f w) holds refl (comes_mapped (Keeping x c ends) f w.processes keeps)

  -- conversations have no slots
  pub talks_hold : (f : List Talk → List Talk) (w : SlotWorld) → HoldsOn x c ends w → HoldsOn x c ends (with_talks f w)
  talks_hold f w holds = record { rise = holds.rise; sized = holds.sized; lie = holds.lie }

  -- a step that went on, by what stood first
  same_other : (d : ℕ) (n : ℕ) (v : ℤ) (slots : Slots) → nat_eq d c ≡ false → slice_get (put_slot x.channels d n v slots) c ≡ slice_get slots c
  same_other d n v slots e = slice_get-change_other d _ slots c (λ same. eqb-false d c e (sym same))

  module _ (t p : ℕ) (q : Process S S) (w : SlotWorld) (alternate : ℕ) (message : Option ℤ) (s : S) (m : Nothing × Slots)
      (holds : HoldsOn x c ends w) (known : Known p q)
      (at : StepsAt slotted p q w alternate message) (moves : Moves x message q.state s)
      (slots : m.1 ≡ slots_after (whole x) m.0 (x.want q.state) q.state s w.memory.1) where
    abbrev after : Process S S
    after = settled slotted (x.keep t alternate s) q.levels

    quiet_holds : sends_by (x.want q.state) c ≡ 0 → slice_get m.1 c ≡ slice_get w.memory.1 c
        → HoldsOn x c ends (with_memory (m.0, m.1) (with_process p (λ _. after) w))
    quiet_holds none same = set_holds x Known laws c ends declared p q after w (m.0, m.1) holds at.acts.runs.there same
        (unsent x Known laws c ends declared t alternate message q s after.status moves none)

    send_holds : (d : ℕ) → x.want q.state ≡ SendsOn d → (here : Bool) → nat_eq d c ≡ here
        → HoldsOn x c ends (with_memory (m.0, m.1) (with_process p (λ _. after) w))
    send_holds d wants true e =
        let mine : x.want q.state ≡ SendsOn c = wants ∙ ap SendsOn (eqb-true d c e) in
        subst (λ (z : Slots). HoldsOn x c ends (with_memory (tt, z) (with_process p (λ _. after) w)))
        (sym (slots ∙ ap (λ (one : Want). slots_after (whole x) tt one q.state s w.memory.1) mine))
        (sent_holds x Known laws c ends declared t alternate message q s after.status w.memory.1 holds.sized moves
        (ap (λ (one : Want). sends_by one c) mine ∙ ap (λ (one : Bool). cond one 1 0) (eq-eqb c c refl))
        p w holds at.acts.runs.there refl (laws.sends p q c ends known mine declared)
        (room_for (whole x) q (bare w) message c (steps-bare (whole x) at).ready mine))
    send_holds d wants false e = quiet_holds
        (ap (λ (one : Want). sends_by one c) wants ∙ ap (λ (one : Bool). cond one 1 0) e)
        (ap (λ (z : Slots). slice_get z c) (slots ∙ ap (λ (one : Want). slots_after (whole x) tt one q.state s w.memory.1) wants)
        ∙ same_other d (x.sent q.state d) (x.message s d (x.sent q.state d)) w.memory.1 e)

    other_holds : (one : Want) → x.want q.state ≡ one → sends_by one c ≡ 0 → slots_after (whole x) tt one q.state s w.memory.1 ≡ w.memory.1
        → HoldsOn x c ends (with_memory (m.0, m.1) (with_process p (λ _. after) w))
    other_holds one wants none same = quiet_holds (ap (λ (z : Want). sends_by z c) wants ∙ none)
        (ap (λ (z : Slots). slice_get z c) (slots ∙ ap (λ (z : Want). slots_after (whole x) tt z q.state s w.memory.1) wants ∙ same))

    pub goes_hold : (one : Want) → x.want q.state ≡ one → HoldsOn x c ends (with_memory (m.0, m.1) (with_process p (λ _. after) w))
    goes_hold NothingLeft wants = other_holds NothingLeft wants refl refl
    goes_hold (SendsOn d) wants = send_holds d wants (nat_eq d c) refl
    goes_hold (ReceivesOn d) wants = other_holds (ReceivesOn d) wants refl refl
    goes_hold (MayReceiveOn d) wants = other_holds (MayReceiveOn d) wants refl refl
    goes_hold (Enters facts) wants = other_holds (Enters facts) wants refl refl
    goes_hold Starts wants = other_holds Starts wants refl refl
    goes_hold Acts wants = other_holds Acts wants refl refl
