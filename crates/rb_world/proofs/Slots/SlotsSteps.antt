-- A step that goes on leaves each message in its slot: a send puts its own, and another step sends none.
use Rattle.std.proofs.Common.{◌≡◌, ◌≢◌, ◌≤◌, ◌<◌, ◌+◌, ◌%◌, ℕ, ℤ, Bool, true, false, nat_eq, length, slice_get, slice_set, unwrap_or, option_map, Option, Some, refl, sym, ap, ap₂, ◌∙◌, subst, arith, ltb-true, eqb-true}
use Rattle.std.proofs.Math.Nat.{mod-lt}
use Rattle.std.proofs.lemmas.Bool.{eqb-false}
use Rattle.std.proofs.lemmas.List.{length-set}
use Rattle.rb_world.specs.Kind.{Ends, Kind, SendsOn, Stepped, Trapped, Went, Held}
use Rattle.rb_world.specs.World.{Process, ProcessStatus, World, with_memory, with_process}
use Rattle.rb_world.specs.Channels.{has_room, has_room_for, has_room_on, room_from}
use Rattle.rb_world.specs.Slots.{Slots, LieInSlots, put_slot, size_on, slot_of, slots_after, stepped_with_slots}
use Rattle.rb_world.proofs.ListFacts.{some_same, slice_get-change_at}
use Rattle.rb_world.proofs.TurnFacts.{IsReady, ToSend, ToReceive, ToReceiveIfThere, ToStart, ToAct}
use Rattle.rb_world.proofs.Erasing.ErasableKinds.{Nothing, Parts, whole, sends_by, SameMail, Moves, IsErasable}
use Rattle.rb_world.proofs.Slots.UnderSlots.{bare}
use Rattle.rb_world.proofs.Slots.SlotsRead.{mods_differ, put_other, put_read, put_sized}
use Rattle.rb_world.proofs.Slots.SlotsKept.{TakesRise, moved_keeps, moved_rises, room_over, stays_keeps}
use Rattle.rb_world.proofs.Slots.SlotsHold.{AreSized, comes_changed, HoldsOn, Keeping, holds_on}

-- the slots after a step that went on
abbrev pub SlotsOf : {S C M : Type 0} → Kind S C M → S → Slots → Stepped S (M × Slots) → Type 0
SlotsOf k s slots (Trapped cause) = Unit {0}
SlotsOf k s slots (Went later m) = m.1 ≡ slots_after k m.0 (k.want s) s later slots
SlotsOf k s slots (Held later) = Unit {0}

pub slots_of : {S C M : Type 0} (k : Kind S C M) (s : S) (slots : Slots) (one : Stepped S M) → SlotsOf k s slots (stepped_with_slots k s slots one)
slots_of k s slots (Trapped cause) = tt
slots_of k s slots (Went later m) = refl
slots_of k s slots (Held later) = tt

-- who is to send has room
wants_send : {c d : ℕ} → SendsOn c ≡ SendsOn d → c ≡ d
wants_send e = cc

pub room_for : {S C M : Type 0} (k : Kind S C M) (q : Process S C) (w : World S C M) (message : Option ℤ) (c : ℕ)
    → IsReady k q w message → k.want q.state ≡ SendsOn c → has_room k w c ≡ true
room_for k q w message c (ToSend d wants room none) e = subst (λ (n : ℕ). has_room k w n ≡ true) (wants_send (sym wants ∙ e)) room
room_for k q w message c (ToReceive d v wants there is) e = cc
room_for k q w message c (ToReceiveIfThere d wants is) e = cc
room_for k q w message c (ToStart wants none) e = cc
room_for k q w message c (ToAct wants none) e = cc

module _ {S E P : Type 0} (x : Parts S E P) (Known : ℕ → Process S S → Type 0) (laws : IsErasable x Known) (c : ℕ)
    (ends : Ends) (declared : slice_get x.channels c ≡ Some ends) where
  -- what becomes of a state that is kept and settles
  abbrev pub kept_state : ℕ → ℕ → S → S
  kept_state t alternate s = x.settle (x.keep t alternate s)

  pub kept_mail : (t alternate : ℕ) (s : S) → SameMail x s (kept_state t alternate s)
  kept_mail t alternate s =
      let one = laws.keeps_mail t alternate s in
      let other = (laws.settles (x.keep t alternate s)).mail in
      record {
        sent = λ d. other.sent d ∙ one.sent d;
        taken = λ d. other.taken d ∙ one.taken d;
        messages = λ d n. other.messages d n ∙ one.messages d n;
      }

  -- a process is replaced, and the slots of the channel are as they were
  pub set_holds : (p : ℕ) (q q' : Process S S) (w : World S S (Nothing × Slots)) (m : Nothing × Slots) → HoldsOn x c ends w
      → slice_get w.processes p ≡ Some q
      → slice_get m.1 c ≡ slice_get w.memory.1 c → Keeping x c ends q q' → HoldsOn x c ends (with_memory m (with_process p (λ _. q') w))
  set_holds p q q' w m holds there same keeps = holds_on x c ends w (with_memory m (with_process p (λ _. q') w)) holds same
      (comes_changed (Keeping x c ends) p (λ _. q') w.processes (λ r a e. stays_keeps x c a)
      (λ a e. subst (λ (b : Process S S). Keeping x c ends b q') (some_same (sym there ∙ e)) keeps))

  -- a step that sends nothing on the channel
  pub unsent : (t alternate : ℕ) (message : Option ℤ) (q : Process S S) (s : S) (status : ProcessStatus)
      → Moves x message q.state s → sends_by (x.want q.state) c ≡ 0
      → Keeping x c ends q (record { state = kept_state t alternate s; levels = q.levels; at_line = false; status = status })
  unsent t alternate message q s status moves none rise =
      let mail = kept_mail t alternate s in
      moved_keeps x c q (kept_state t alternate s) false status rise
      (record {
        shorter = omega (arith, mail.sent c, moves.sent c ends declared, none);
        same = λ n less. sym (moves.front.same c n (omega (arith, less, mail.sent c, moves.sent c ends declared, none))) ∙ sym (mail.messages c n);
      })
      (omega (arith, mail.taken c, moves.taken c ends declared))

  size_is : size_on x.channels c ≡ ends.size
  size_is = ap (λ (one : Option Ends). unwrap_or (option_map (λ (e : Ends). e.size) one) 0) declared

  -- a process has room for another message on the channel
  has_room_left : (w : World S S Nothing) (sender receiver : Process S S) → slice_get w.processes ends.sender ≡ Some sender
      → slice_get w.processes ends.receiver ≡ Some receiver
      → has_room (whole x) w c ≡ true → x.sent sender.state c < ends.size + room_from (whole x) receiver.state receiver.levels c
  has_room_left w sender receiver there here room =
      ltb-true (x.sent sender.state c) (ends.size + room_from (whole x) receiver.state receiver.levels c)
      (sym (ap₂ (λ (a b : Option (Process S S)). has_room_for (whole x) c ends a b) there here)
      ∙ sym (ap (λ (one : Option Ends). has_room_on (whole x) w c one) declared) ∙ room)

  -- the messages of a channel after one was put into its slot
  module _ (t alternate : ℕ) (message : Option ℤ) (q : Process S S) (s : S) (status : ProcessStatus) (slots : Slots) (sized : AreSized slots c ends.size)
      (moves : Moves x message q.state s) (one : sends_by (x.want q.state) c ≡ 1) where
    abbrev sent_now : ℕ
    sent_now = x.sent q.state c

    abbrev new_slots : Slots
    new_slots = put_slot x.channels c sent_now (x.message s c sent_now) slots

    abbrev after : Process S S
    after = record { state = kept_state t alternate s; levels = q.levels; at_line = false; status = status }

    sent_after : x.sent after.state c ≡ sent_now + 1
    sent_after = omega (arith, (kept_mail t alternate s).sent c, moves.sent c ends declared, one)

    lie_here : (receiver receiver' : Process S S) → x.sent q.state c < ends.size + room_from (whole x) receiver.state receiver.levels c
        → room_from (whole x) receiver.state receiver.levels c ≤ room_from (whole x) receiver'.state receiver'.levels c
        → LieInSlots (whole x) tt slots c ends q receiver
        → (n : ℕ) → room_from (whole x) receiver'.state receiver'.levels c ≤ n → n < x.sent after.state c → (last : Bool) → nat_eq n sent_now ≡ last
        → slot_of x.channels new_slots c n ≡ x.message after.state c n
    lie_here receiver receiver' room later lies n from below true e =
        subst (λ (k : ℕ). slot_of x.channels new_slots c k ≡ x.message after.state c k) (sym (eqb-true n sent_now e))
        (put_read x.channels slots c sent_now (x.message s c sent_now) sized.values sized.there
        (subst (λ (k : ℕ). sent_now % k < length sized.values) (sym size_is)
        (subst (λ (k : ℕ). sent_now % ends.size < k) (sym sized.many) (mod-lt sent_now (omega (arith, room, later, from, eqb-true n sent_now e)))))
        ∙ sym ((kept_mail t alternate s).messages c sent_now))
    lie_here receiver receiver' room later lies n from below false e =
        let less : n < sent_now = omega (arith, below, sent_after, λ (same : n ≡ sent_now). eqb-false n sent_now e same) in
        put_other x.channels slots c sent_now n (x.message s c sent_now) sized.values sized.there
        (subst (λ (k : ℕ). n % k ≢ sent_now % k) (sym size_is) (mods_differ ends.size n sent_now less (omega (arith, room, later, from))))
        ∙ lies.lie n (omega (arith, later, from)) less
        ∙ sym (moves.front.same c n less)
        ∙ sym ((kept_mail t alternate s).messages c n)

    -- the last of the messages was sent by process p
    pub sent_holds : (p : ℕ) (w : World S S (Nothing × Slots)) → HoldsOn x c ends w → slice_get w.processes p ≡ Some q
        → w.memory.1 ≡ slots → ends.sender ≡ p
        → has_room (whole x) (bare w) c ≡ true → HoldsOn x c ends (with_memory (tt, new_slots) (with_process p (λ _. after) w))
    sent_holds p w holds there same by room = record {
      rise = λ r a e.
          let come = comes_changed (λ a b. TakesRise x c a → TakesRise x c b) p (λ _. after) w.processes (λ n b _ h. h)
          (λ b here h. moved_rises x c q after.state false status
          (subst (λ (z : Process S S). TakesRise x c z) (some_same (sym here ∙ there)) h) taken_after) r a e in
          come.keeps (holds.rise r come.old come.there);
      sized = record {
        values = slice_set sized.values (sent_now % size_on x.channels c) (x.message s c sent_now);
        there = put_sized x.channels slots c sent_now (x.message s c sent_now) sized.values sized.there;
        many = length-set sized.values (sent_now % size_on x.channels c) (x.message s c sent_now) ∙ sized.many;
      };
      lie = λ a b here other.
          let come = comes_changed
          (λ d e. room_from (whole x) d.state d.levels c ≤ room_from (whole x) e.state e.levels c) p
          (λ _. after) w.processes (λ n d _. omega arith)
          (λ d e. subst
          (λ (z : Process S S). room_from (whole x) z.state z.levels c ≤ room_from (whole x) after.state after.levels c)
          (some_same (sym there ∙ e))
          (room_over x c q.state after.state q.levels taken_after)) ends.receiver b other in
          let sender_there : slice_get w.processes ends.sender ≡ Some q = subst (λ (n : ℕ). slice_get w.processes n ≡ Some q) (sym by) there in
          let roomy : sent_now < ends.size + room_from (whole x) come.old.state come.old.levels c =
          has_room_left (bare w) q come.old sender_there come.there room in
          subst (λ (z : Process S S). LieInSlots (whole x) tt new_slots c ends z b)
          (some_same (sym (slice_get-change_at p (λ _. after) w.processes ∙ ap (option_map (λ _. after)) there)
          ∙ subst (λ (n : ℕ). slice_get (with_process p (λ _. after) w).processes n ≡ Some a) by here))
          (record {
            fit = omega (arith, sent_after, roomy, come.keeps);
            lie = λ n from below. lie_here come.old b roomy come.keeps
                (subst (λ (z : Slots). LieInSlots (whole x) tt z c ends q come.old) same (holds.lie q come.old sender_there come.there))
                n from below (nat_eq n sent_now) refl;
          });
    }
      where
        taken_after : x.taken q.state c ≤ x.taken after.state c
        taken_after = omega (arith, (kept_mail t alternate s).taken c, moves.taken c ends declared)
