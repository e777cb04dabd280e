-- The slots of a channel hold its messages in every world of a run.
use Rattle.std.proofs.Common.{◌≡◌, ℕ, ℤ, Bool, true, false, cond, List, [], ◌∷◌, position, slice_get, option_map, Option, Some, None, refl, sym, ◌∙◌, subst, arith}
use Rattle.rb_base.specs.declared.event.Cause.TheVariants.{Inner}
use Rattle.rb_world.specs.Kind.{Ends, Kind, Stepped, Held}
use Rattle.rb_world.specs.World.{Level, Process, Running, ProcessStatus, World, change_at, is_inside, is_of, last_of, settled, status_at, with_each, with_memory, with_process, without_last, copy_of}
use Rattle.rb_world.specs.Reject.{all_back, at_place, broken_talk, fallen, fallen_inside, first_again, next_talk, put_back, raised, reset_below, where_inside}
use Rattle.rb_world.specs.Turn.{freed, leaves, stands_at, stands_now, turn_used}
use Rattle.rb_world.specs.Slots.{Slots, with_slots}
use Rattle.rb_world.proofs.TurnFacts.{StepsAt}
use Rattle.rb_world.proofs.Keeping.Invariant.{IsInvariantUnder}
use Rattle.rb_world.proofs.Erasing.ErasableKinds.{Nothing, Parts, whole, IsFront, SameMail, IsErasable}
use Rattle.rb_world.proofs.Erasing.Showing.ErasureInvariant.{Grounded, GroundedWithin, StillGrounded}
use Rattle.rb_world.proofs.Slots.UnderSlots.{bare, held_bare, put_back-bare, steps-bare, went_bare}
use Rattle.rb_world.proofs.Slots.SlotsKept.{KeepsSlots, fallen_keeps, left_keeps, moved_keeps, opened_keeps, put_back_keeps, raised_keeps, same_front, stays_keeps, used_keeps}
use Rattle.rb_world.proofs.Slots.SlotsHold.{HoldsOn, Keeping}
use Rattle.rb_world.proofs.Slots.SlotsSteps.{SlotsOf, kept_mail, set_holds, slots_of}
use Rattle.rb_world.proofs.Slots.SlotsStand.{each_holds, goes_hold, one_holds, talks_hold}

-- mail that two changes leave alone
both_mail : {S E P : Type 0} (x : Parts S E P) (s t u : S) → SameMail x s t → SameMail x t u → SameMail x s u
both_mail x s t u one other = record {
  sent = λ c. other.sent c ∙ one.sent c;
  taken = λ c. other.taken c ∙ one.taken c;
  messages = λ c n. other.messages c n ∙ one.messages c n;
}

module _ {S E P : Type 0} (x : Parts S E P) (Known : ℕ → Process S S → Type 0) (laws : IsErasable x Known) (c : ℕ)
    (ends : Ends) (declared : slice_get x.channels c ≡ Some ends) where
  abbrev slotted : Kind S S (Nothing × Slots)
  slotted = with_slots (whole x)

  abbrev SlotWorld : Type 0
  SlotWorld = World S S (Nothing × Slots)

  -- the messages of recovery points are the first of the present ones
  abbrev Before : Process S S → Type 0
  Before q = (i : ℕ) (one : Level S) → slice_get q.levels i ≡ Some one → IsFront x one.copy q.state

  mail_keeps : (q : Process S S) (t : S) (line : Bool) (status : ProcessStatus) → SameMail x q.state t
      → Keeping x c ends q (record { state = t; levels = q.levels; at_line = line; status = status })
  mail_keeps q t line status mail rise = moved_keeps x c q t line status rise (same_front x c q.state t mail) (omega (arith, mail.taken c))

  back_keeps : (j : ℕ) (q : Process S S) → Before q → Keeping x c ends q (put_back slotted j q)
  back_keeps j q before rise =
      subst (λ (r : Process S S). KeepsSlots x c q r) (sym (put_back-bare (whole x) j q)) (put_back_keeps x c j q rise before)

  at_place_keeps : (f : ℕ → Process S S → Process S S) (place : Option ℕ) (q : Process S S)
      → ((j : ℕ) → Keeping x c ends q (f j q)) → Keeping x c ends q (at_place f place q)
  at_place_keeps f None q keeps rise = stays_keeps x c q rise
  at_place_keeps f (Some j) q keeps rise = keeps j rise

  fallen_inside_keeps : (q : Process S S) (inside : Bool) → Keeping x c ends q (cond inside (fallen slotted Inner q) q)
  fallen_inside_keeps q true rise = fallen_keeps x c Inner q rise
  fallen_inside_keeps q false rise = stays_keeps x c q rise

  leaves_keeps : (q : Process S S) (there : Bool) → Keeping x c ends q (cond there (settled slotted q.state (without_last q.levels)) q)
  leaves_keeps q true rise = left_keeps x c q (x.settle q.state) false (status_at (x.want (x.settle q.state))) rise (laws.settles q.state).mail
  leaves_keeps q false rise = stays_keeps x c q rise

  freed_keeps : (s : S) (levels : List (Level S)) (line : Bool) (status : ProcessStatus)
      → Keeping x c ends (record { state = s; levels = levels; at_line = line; status = status })
      (freed slotted (record { state = s; levels = levels; at_line = line; status = status }))
  freed_keeps s [] line status rise =
      moved_keeps x c (record { state = s; levels = []; at_line = line; status = status }) (x.release s) line status rise
      (same_front x c s (x.release s) (laws.releases_mail s)) (omega (arith, (laws.releases_mail s).taken c))
  freed_keeps s (l ∷ ls) line status rise = stays_keeps x c (record { state = s; levels = l ∷ ls; at_line = line; status = status }) rise

  -- everyone inside a conversation is put back
  all_back_holds : (d : ℕ) (w : SlotWorld) → Grounded x Known (bare w) → HoldsOn x c ends w → HoldsOn x c ends (all_back slotted d w)
  all_back_holds d w ground holds =
      talks_hold x Known laws c ends declared (reset_below x.groups d) (with_each (where_inside (put_back slotted) d) w)
      (each_holds x Known laws c ends declared (where_inside (put_back slotted) d) w holds
      (λ r q e. at_place_keeps (put_back slotted) (position (is_of d) q.levels) q (λ j. back_keeps j q (ground.each r q e).before_now)))

  -- an acceptance test changes no mail
  held_mail : (p : ℕ) (q : Process S S) (w : SlotWorld) (alternate : ℕ) (message : Option ℤ) (s : S) → Grounded x Known (bare w)
      → StepsAt slotted p q w alternate message
      → slotted.step alternate (copy_of (last_of q.levels)) q.state message w.memory ≡ Held s → SameMail x q.state s
  held_mail p q w alternate message s ground at e =
      (laws.holds p q (bare w) alternate message s (ground.each p q at.acts.runs.there).known (steps-bare (whole x) at)
      (held_bare (whole x) q.state w.memory.1 (x.step alternate (option_map x.environment (copy_of (last_of q.levels))) q.state message) s e)).mail

  -- the member whose test held stands at the line
  stands_holds : (t p : ℕ) (q : Process S S) (w : SlotWorld) (alternate : ℕ) (message : Option ℤ) (s : S)
      → Grounded x Known (bare w) → HoldsOn x c ends w
      → StepsAt slotted p q w alternate message → slotted.step alternate (copy_of (last_of q.levels)) q.state message w.memory ≡ Held s
      → HoldsOn x c ends (with_memory w.memory (with_process p (λ _. stands_now (x.keep t alternate s) q.levels) w))
  stands_holds t p q w alternate message s ground holds at e =
      set_holds x Known laws c ends declared p q (stands_now (x.keep t alternate s) q.levels) w w.memory holds at.acts.runs.there refl
      (mail_keeps q (x.keep t alternate s) true Running
      (both_mail x q.state s (x.keep t alternate s) (held_mail p q w alternate message s ground at e) (laws.keeps_mail t alternate s)))

  -- the private level of one whose test held goes
  accepts_holds : (t p : ℕ) (q : Process S S) (w : SlotWorld) (alternate : ℕ) (message : Option ℤ) (s : S)
      → Grounded x Known (bare w) → HoldsOn x c ends w
      → StepsAt slotted p q w alternate message → slotted.step alternate (copy_of (last_of q.levels)) q.state message w.memory ≡ Held s
      → HoldsOn x c ends (with_memory w.memory (with_process p (λ _. settled slotted (x.keep t alternate s) (without_last q.levels)) w))
  accepts_holds t p q w alternate message s ground holds at e =
      set_holds x Known laws c ends declared p q
      (settled slotted (x.keep t alternate s) (without_last q.levels)) w w.memory holds at.acts.runs.there refl
      (λ rise. left_keeps x c q (x.settle (x.keep t alternate s)) false (status_at (x.want (x.settle (x.keep t alternate s)))) rise
      (both_mail x q.state s (x.settle (x.keep t alternate s)) (held_mail p q w alternate message s ground at e)
      (kept_mail x Known laws c ends declared t alternate s)))

  pub holds_kept : IsInvariantUnder slotted
      (λ t past w. Grounded x Known (bare w)) (λ t past p left w. GroundedWithin x Known p left (bare w)) (λ t past w. StillGrounded x Known (bare w))
      (λ t past w. HoldsOn x c ends w) (λ t past p left w. HoldsOn x c ends w) (λ t past w. HoldsOn x c ends w)
  holds_kept = record {
    rests = λ t past w h. h.1;
    uses = λ t past p q w h r. set_holds x Known laws c ends declared p q (turn_used q) w w.memory h.1 r.there refl (used_keeps x c q);
    overruns = λ t past p q w j h r e. h.1;
    waits = λ t past p q w h r e. h.1;
    goes = λ t past p q w a v s m h at e.
        let known = (h.0.ground.each p q at.acts.runs.there).known in
        let step = x.step a (option_map x.environment (copy_of (last_of q.levels))) q.state v in
        goes_hold x Known laws c ends declared t p q w a v s m h.1 known at
        (laws.goes p q (bare w) a v s known (steps-bare (whole x) at) (went_bare (whole x) q.state w.memory.1 step s m e))
        (subst (λ (one : Stepped S (Nothing × Slots)). SlotsOf (whole x) q.state w.memory.1 one) e (slots_of (whole x) q.state w.memory.1 step))
        (x.want q.state) refl;
    opens = λ t past p q w f a h at.
        let s = x.keep t 0 (x.enter q.state) in
        set_holds x Known laws c ends declared p q _ w w.memory h.1 at.acts.runs.there refl
        (λ rise. opened_keeps x c q s _ false _ rise
        (both_mail x q.state (x.enter q.state) s (laws.enters q.state).mail (laws.keeps_mail t 0 (x.enter q.state))) refl);
    accepts = λ t past p q w a v s l h at e some of_none. accepts_holds t p q w a v s h.0.ground h.1 at e;
    stands = λ t past p q w a v s l d h at e some of_d late. stands_holds t p q w a v s h.0.ground h.1 at e;
    leaves = λ t past p q w a v s l d h at e some of_d come.
        talks_hold x Known laws c ends declared (change_at d first_again) _
        (each_holds x Known laws c ends declared (leaves slotted d) _ (stands_holds t p q w a v s h.0.ground h.1 at e)
        (λ r q' e'. leaves_keeps q' (stands_at d q')));
    falls = λ t past p q w n cause h r why. one_holds x Known laws c ends declared p (fallen slotted cause) w h.1 (λ q' e. fallen_keeps x c cause q');
    tries_next = λ t past p q w j l h r none less.
        one_holds x Known laws c ends declared p (raised j) _
        (one_holds x Known laws c ends declared p (put_back slotted j) w h.1 (λ q' e. back_keeps j q' (h.0.ground.each p q' e).before_now))
        (λ q' e. raised_keeps x c j q');
    is_spent = λ t past p q w j l h r none spent.
        one_holds x Known laws c ends declared p (put_back slotted j) w h.1 (λ q' e. back_keeps j q' (h.0.ground.each p q' e).before_now);
    all_try_next = λ t past p q w j l d h r of_d less.
        talks_hold x Known laws c ends declared (change_at d next_talk) _
        (each_holds x Known laws c ends declared (where_inside raised d) _ (all_back_holds d w h.0.ground h.1)
        (λ n q' e. at_place_keeps raised (position (is_of d) q'.levels) q' (λ i. raised_keeps x c i q')));
    all_are_spent =
        λ t past p q w j l d parent h r of_d spent up. talks_hold x Known laws c ends declared (change_at d first_again) _
        (all_back_holds d w h.0.ground h.1);
    breaks = λ t past p q w j l d h r of_d spent up.
        talks_hold x Known laws c ends declared (change_at d broken_talk) _
        (each_holds x Known laws c ends declared (fallen_inside slotted d) _ (all_back_holds d w h.0.ground h.1)
        (λ n q' e. fallen_inside_keeps q' (is_inside d q')));
    is_gone = λ t past p q w j h r e. h.1;
    releases = λ t past w one h e. each_holds x Known laws c ends declared (freed slotted) w h.1
        (λ r q e'. freed_keeps q.state q.levels q.at_line q.status);
  }
