-- Slots over whole runs: they hold all messages that may still be asked for; slots that are written beside the messages change nothing; and
-- a run whose messages are read from their slots is the same.
use Rattle.std.proofs.Common.{◌≡◌, ◌<◌, ℕ, pos, zero, suc, List, [], ◌∷◌, replicate, slice_get, option_map, Some, refl, sym, ap, ◌∙◌, subst, map-id, arith}
use Rattle.std.proofs.lemmas.Option.{slice_get-map}
use Rattle.std.proofs.lemmas.List.{length-replicate}
use Rattle.rb_world.specs.Kind.{Ends, Kind, Stepped, Trapped, Went, Held}
use Rattle.rb_world.specs.World.{Level, Process, World, settled}
use Rattle.rb_world.specs.Turn.{Told, opening, run}
use Rattle.rb_world.specs.Standing.{Each}
use Rattle.rb_world.specs.Slots.{Slots, AllLieInSlots, from_slots, slot_of, stepped_with_slots, with_slots, zero_slots}
use Rattle.rb_world.proofs.ListFacts.{none_some, some_same}
use Rattle.rb_world.proofs.Keeping.Invariant.{IsInvariant, both_kept}
use Rattle.rb_world.proofs.Keeping.Induction.{run-keeps}
use Rattle.rb_world.proofs.Keeping.EachProcess.{KeepsEach}
use Rattle.rb_world.proofs.Relating.Simulation.{Knowing, copies_of}
use Rattle.rb_world.proofs.Relating.RunsMeet.{KeepsKnown, WithPast, invariant_knows}
use Rattle.rb_world.proofs.Relating.Image.{IsImage, stepped_image}
use Rattle.rb_world.proofs.Relating.ImageRuns.{opening_run-image}
use Rattle.rb_world.proofs.Relating.Reread.{ReadsSame, run-reread}
use Rattle.rb_world.proofs.Erasing.ErasableKinds.{Nothing, Parts, whole, IsErasable}
use Rattle.rb_world.proofs.Erasing.Showing.ErasureInvariant.{Grounded, GroundedWithin, StillGrounded}
use Rattle.rb_world.proofs.Erasing.Grounding.Grounded.{grounded_kept, opening_grounded}
use Rattle.rb_world.proofs.Erasing.Releasing.SameLinesReleased.{IsImageAt, get_mapped}
use Rattle.rb_world.proofs.Slots.UnderSlots.{bare, under_slots}
use Rattle.rb_world.proofs.Slots.SlotsKept.{TakesRise}
use Rattle.rb_world.proofs.Slots.SlotsHold.{HoldsOn}
use Rattle.rb_world.proofs.Slots.SlotsInvariant.{holds_kept}
use Rattle.std.proofs.lemmas.Iterator.Adapters.{option_map_id}

-- opening states of which all is known, that hold no line, and have sent nothing
pub record OpensWithSlots {S E P : Type 0} (x : Parts S E P) (Known : ℕ → Process S S → Type 0) (states : List S) : Type 0 where
  pub known : Each (λ r s. Known r (settled (whole x) s [])) states
  pub held : Each (λ r s. x.held s ≡ []) states
  pub sent : Each (λ r s. (c : ℕ) → x.sent s c ≡ 0) states

-- slots beside a kind's messages are not seen
same_step_but_slots : {S C M : Type 0} (k : Kind S C M) (s : S) (slots : Slots) (one : Stepped S M)
    → one ≡ stepped_image (λ t. t) (λ m. m.0) (stepped_with_slots k s slots one)
same_step_but_slots k s slots (Trapped cause) = refl
same_step_but_slots k s slots (Went t m) = refl
same_step_but_slots k s slots (Held t) = refl

pub slots_image : {S C M : Type 0} (k : Kind S C M) → IsImage (with_slots k) k (λ s. s) (λ c. c) (λ m. m.0)
slots_image k = record {
  plain = record {
    channels = refl;
    groups = refl;
    want = λ s. refl;
    settle = λ c s. ap (λ x. k.settle x s) (option_map_id c);
    enter = λ s. refl;
    copy = λ s. refl;
    accept = λ s. refl;
    step = λ alternate c s message m. ap (λ x. k.step alternate x s message m.0) (option_map_id c)
        ∙ same_step_but_slots k s m.1 (k.step alternate c s message m.0);
    sent = λ s c. refl;
    taken = λ s c. refl;
    sent_then = λ s x c. refl;
    taken_then = λ s x c. refl;
    message = λ m s c i. refl;
    message_then = λ m s x c i. refl;
    held = λ s. refl;
    release = λ s. refl;
    keep = λ t alternate s m. refl;
  };
  restore = λ s c. refl;
  cut = λ n s. refl;
}

-- and tell nothing
pub slots_unseen : {S C M : Type 0} (k : Kind S C M) (turns : List ℕ) (states : List S) (m : M) (slots : Slots)
    → (run k 1 turns (opening k states m)).1 ≡ (run (with_slots k) 1 turns (opening (with_slots k) states (m, slots))).1
slots_unseen {S} {C} {M} k turns states m slots =
    ap (λ (list : List S). (run k 1 turns (opening k list m)).1) (sym (map-id states))
    ∙ ap (λ (end : World S C M × List Told). end.1) (opening_run-image (slots_image k) turns states (m, slots))

-- a copy's level
level_of : {S : Type 0} (levels : List (Level S)) (j : ℕ) (copy : S) → slice_get (copies_of levels) j ≡ Some copy
    → (level : Level S) × (slice_get levels j ≡ Some level) × (level.copy ≡ copy)
level_of [] j copy e = absurd (none_some e)
level_of (l ∷ ls) zero copy e = (l, refl, some_same e)
level_of (l ∷ ls) (suc j) copy e = level_of ls j copy e

module _ {S E P : Type 0} {x : Parts S E P} {Known : ℕ → Process S S → Type 0} (keeps : KeepsEach (whole x) Known)
    (laws : IsErasable x Known) {states : List S} (opens : OpensWithSlots x Known states) where
  abbrev pub slotted : Kind S S (Nothing × Slots)
  slotted = with_slots (whole x)

  abbrev pub slot_opening : World S S (Nothing × Slots)
  slot_opening = opening slotted states (tt, zero_slots x.channels)

  opening_holds : (c : ℕ) (ends : Ends) → slice_get x.channels c ≡ Some ends → HoldsOn x c ends slot_opening
  opening_holds c ends declared = record {
    rise = λ r q e.
        let from : IsImageAt _ states r q = get_mapped (λ s. settled slotted s []) states r q e in
        subst (TakesRise x c) from.same (record { now = omega arith; then = λ i level e'. absurd (none_some e') });
    sized = record {
      values = replicate ends.size (pos 0);
      there = slice_get-map (λ (one : Ends). replicate one.size (pos 0)) x.channels c
          ∙ ap (option_map (λ (one : Ends). replicate one.size (pos 0))) declared;
      many = length-replicate ends.size (pos 0);
    };
    lie = λ sender receiver there here.
        let from : IsImageAt _ states ends.sender sender = get_mapped (λ s. settled slotted s []) states ends.sender sender there in
        let none : x.sent sender.state c ≡ 0 =
        ap (λ (q : Process S S). x.sent q.state c) (sym from.same) ∙ (laws.settles from.origin).mail.sent c
        ∙ opens.sent ends.sender from.origin from.there c in
        record { fit = omega (arith, none); lie = λ n least below. absurd (omega (arith, none, below)) };
  }

  -- the ground and the slots of a channel
  abbrev pub HoldsBefore : ℕ → Ends → ℕ → List Told → World S S (Nothing × Slots) → Type 0
  HoldsBefore c ends t past w = Grounded x Known (bare w) × HoldsOn x c ends w

  holds_all : (c : ℕ) (ends : Ends) → slice_get x.channels c ≡ Some ends
      → IsInvariant slotted (HoldsBefore c ends)
      (λ t past p left w. GroundedWithin x Known p left (bare w) × HoldsOn x c ends w)
      (λ t past w. StillGrounded x Known (bare w) × HoldsOn x c ends w)
  holds_all c ends declared = both_kept (under_slots (whole x) (grounded_kept keeps laws)) (holds_kept x Known laws c ends declared)

  pub opening_both : (c : ℕ) (ends : Ends) → slice_get x.channels c ≡ Some ends → HoldsBefore c ends 1 [] slot_opening
  opening_both c ends declared =
      (opening_grounded keeps laws states opens.known (λ r s e. (laws.settles s).held ∙ opens.held r s e), opening_holds c ends declared)

  -- In every world of every run each message that may still be asked for lies in its slot.
  pub slots_stand : (turns : List ℕ) → AllLieInSlots (whole x) (run slotted 1 turns slot_opening).0
  slots_stand turns c ends sender receiver declared there here =
      (run-keeps (holds_all c ends declared) 1 [] turns slot_opening (opening_both c ends declared)).1.lie sender receiver there here

  -- what is known of a world in every turn
  abbrev pub SlotsKnown : Knowing S S (Nothing × Slots)
  SlotsKnown t p q w = (c : ℕ) (ends : Ends) → slice_get x.channels c ≡ Some ends → Grounded x Known (bare w) × HoldsOn x c ends w

  abbrev pub SlotsKept : ℕ → World S S (Nothing × Slots) → Type 0
  SlotsKept t w = (c : ℕ) (ends : Ends) → slice_get x.channels c ≡ Some ends → WithPast (HoldsBefore c ends) t w

  pub knows_slots : KeepsKnown slotted SlotsKnown SlotsKept
  knows_slots = record {
    knows = λ t p w holds q at may c ends declared.
        (invariant_knows {known = λ u r b v. Grounded x Known (bare v) × HoldsOn x c ends v} (holds_all c ends declared)
        (λ u past r b v h m. (h.0.ground, h.1))).knows t p w
        (holds c ends declared) q at may;
    stays = λ t p w holds c ends declared.
        (invariant_knows {known = λ u r b v. Grounded x Known (bare v) × HoldsOn x c ends v} (holds_all c ends declared)
        (λ u past r b v h m. (h.0.ground, h.1))).stays t p w
        (holds c ends declared);
  }

  pub reads_same : ReadsSame slotted (λ memory s c n. slot_of x.channels memory.1 c n)
      (λ memory s copy c n. slot_of x.channels memory.1 c n) SlotsKnown
  reads_same = record {
    now = λ t p q w c sender receiver acts receipt none less.
        let both = acts.knows c receipt.ends receipt.channel in
        sym ((both.1.lie sender receiver receipt.sends receipt.receives).lie (x.taken receiver.state c)
        (both.1.rise receipt.ends.receiver receiver receipt.receives).now less);
    before = λ t p q w c sender receiver j copy acts receipt some at less.
        let both = acts.knows c receipt.ends receipt.channel in
        let level = level_of sender.levels j copy at in
        let front = (both.0.each receipt.ends.sender sender receipt.sends).before_now j level.0 level.1 in
        let less' : x.taken receiver.state c < x.sent level.0.copy c = subst (λ (s : S). x.taken receiver.state c < x.sent s c) (sym level.2) less in
        ap (λ (s : S). x.message s c (x.taken receiver.state c)) (sym level.2)
        ∙ sym (front.same c (x.taken receiver.state c) less')
        ∙ sym ((both.1.lie sender receiver receipt.sends receipt.receives).lie (x.taken receiver.state c)
        (both.1.rise receipt.ends.receiver receiver receipt.receives).now
        (omega (arith, less', front.shorter c)));
  }

  -- A run whose messages are read from their slots is the run.
  pub slots_read : (turns : List ℕ) → run (from_slots (whole x)) 1 turns slot_opening ≡ run slotted 1 turns slot_opening
  slots_read turns = run-reread reads_same knows_slots 1 turns slot_opening (λ c ends declared. ([], opening_both c ends declared))
