-- In a turn in which more is sent on a channel, the receiver stands as it stood: so room is counted from no later number than what was
-- sent before the turn.
use Rattle.std.proofs.Common.{◌≡◌, ◌≤◌, ◌⊎◌, inl, inr, ℕ, ℤ, suc, nat_eq, Bool, true, false, cond, List, [], ◌∷◌, ◌++◌, map, position, slice_get, take, Option, Some, None, refl, sym, ◌∙◌, subst, add-one, arith}
use Rattle.std.proofs.lemmas.Bool.{eqb-true, eqb-false}
use Rattle.rb_base.specs.declared.event.Cause.TheVariants.{Inner}
use Rattle.rb_world.specs.Kind.{Ends, Held}
use Rattle.rb_world.specs.World.{Level, Process, ProcessStatus, World, change_at, copy_of, goes_on, is_inside, is_of, last_of, settled, without_last}
use Rattle.rb_world.specs.Channels.{room_from}
use Rattle.rb_world.specs.Reject.{at_place, back_to, fallen, fallen_inside, put_back, raised, where_inside}
use Rattle.rb_world.specs.Slots.{Slots, with_slots}
use Rattle.rb_world.specs.Turn.{Told, freed, leaves, new_level, one_used, stands_at, stands_now, turn, turn_used}
use Rattle.rb_world.proofs.TurnFacts.{StepsAt}
use Rattle.rb_world.proofs.ListFacts.{end-not_empty, none_some, slice_get-change_other, some_same, tails_same}
use Rattle.rb_world.proofs.Keeping.Induction.{turn-keeps}
use Rattle.rb_world.proofs.Keeping.Invariant.{IsInvariantUnder, both_kept}
use Rattle.rb_world.proofs.Keeping.EachProcess.{KeepsEach}
use Rattle.rb_world.proofs.Erasing.ErasableKinds.{IsErasable, IsFront, Nothing, Parts, whole}
use Rattle.rb_world.proofs.Erasing.Showing.ErasureInvariant.{Grounded, GroundedWithin, StillGrounded}
use Rattle.rb_world.proofs.Erasing.Grounding.Grounded.{grounded_kept}
use Rattle.rb_world.proofs.Slots.SlotsHold.{comes_changed, comes_mapped}
use Rattle.rb_world.proofs.Slots.UnderSlots.{bare, under_slots}

not_empty : {A : Type 0} (x : A) (xs : List A) → [] ≡ x ∷ xs → ⊥
not_empty x xs e = cc

-- what was told before the only turn that was told
none_before : (past : List Told) (one two : Told) → past ++ one ∷ [] ≡ two ∷ [] → past ≡ []
none_before [] one two e = refl
none_before (x ∷ past) one two e = absurd (end-not_empty past one (tails_same e))

module _ {S E P : Type 0} (x : Parts S E P) (Known : ℕ → Process S S → Type 0) (laws : IsErasable x Known) (c : ℕ) (ends : Ends)
    (apart : ends.receiver ≡ ends.sender → ⊥) (bound : ℕ) where
  abbrev Here : Type 0
  Here = World S S Nothing

  -- a number of process r is at most the bound
  abbrev AtMost : (Process S S → ℕ) → ℕ → List (Process S S) → Type 0
  AtMost count r qs = (q : Process S S) → slice_get qs r ≡ Some q → count q ≤ bound

  abbrev sent_in : Process S S → ℕ
  sent_in q = x.sent q.state c

  abbrev room_in : Process S S → ℕ
  room_in q = room_from (whole x) q.state q.levels c

  abbrev pub SentAtMost : Here → Type 0
  SentAtMost w = AtMost sent_in ends.sender w.processes

  abbrev pub RoomAtMost : Here → Type 0
  RoomAtMost w = AtMost room_in ends.receiver w.processes

  pub record AsBefore (w : Here) : Type 0 where
    pub sent : SentAtMost w
    pub room : RoomAtMost w

  abbrev pub Either : Here → Type 0
  Either w = SentAtMost w ⊎ RoomAtMost w

  -- one process is changed, or each, and its number does not rise
  changed : (count : Process S S → ℕ) (r p : ℕ) (f : Process S S → Process S S) (qs : List (Process S S)) → AtMost count r qs
      → ((q : Process S S) → slice_get qs p ≡ Some q → count (f q) ≤ count q) → AtMost count r (change_at p f qs)
  changed count r p f qs most less q e =
      let from = comes_changed (λ (old : Process S S) (new : Process S S). count new ≤ count old) p f qs (λ i a _. omega arith) less r q e in
      omega (arith, from.keeps, most from.old from.there)

  mapped : (count : Process S S → ℕ) (r : ℕ) (f : Process S S → Process S S) (qs : List (Process S S)) → AtMost count r qs
      → ((i : ℕ) (q : Process S S) → slice_get qs i ≡ Some q → count (f q) ≤ count q) → AtMost count r (map f qs)
  mapped count r f qs most less q e =
      let from = comes_mapped (λ (old : Process S S) (new : Process S S). count new ≤ count old) f qs less r q e in
      omega (arith, from.keeps, most from.old from.there)

  put : (count : Process S S → ℕ) (r p : ℕ) (new old : Process S S) (qs : List (Process S S)) → slice_get qs p ≡ Some old → AtMost count r qs
      → count new ≤ count old → AtMost count r (change_at p (λ _. new) qs)
  put count r p new old qs there most less =
      changed count r p (λ _. new) qs most
      (λ q e. subst (λ (one : Process S S). count new ≤ count one) (some_same (sym there ∙ e)) less)

  -- turns are used
  used_room : (s : S) (levels : List (Level S)) → room_from (whole x) s (map one_used levels) c ≡ room_from (whole x) s levels c
  used_room s [] = refl
  used_room s (l ∷ ls) = refl

  -- a recovery point is put back
  abbrev Before : Process S S → Type 0
  Before q = (i : ℕ) (one : Level S) → slice_get q.levels i ≡ Some one → IsFront x one.copy q.state

  back_sent : (j : ℕ) (q : Process S S) (level : Option (Level S)) → slice_get q.levels j ≡ level → Before q
      → sent_in (back_to (whole x) j q level) ≤ sent_in q
  back_sent j q None e before = omega arith
  back_sent j q (Some level) e before = (before j level e).shorter c

  taken_room : (s t : S) (j : ℕ) (levels : List (Level S)) (level : Level S) → slice_get levels j ≡ Some level
      → room_from (whole x) t (take (suc j) levels) c ≡ room_from (whole x) s levels c
  taken_room s t j [] level e = absurd (none_some e)
  taken_room s t j (l ∷ ls) level e = refl

  back_room : (j : ℕ) (q : Process S S) (level : Option (Level S)) → slice_get q.levels j ≡ level
      → room_in (back_to (whole x) j q level) ≤ room_in q
  back_room j q None e = omega arith
  back_room j q (Some level) e =
      omega (
        arith,
        subst (λ (n : ℕ). room_from (whole x) level.copy (take n q.levels) c ≡ room_from (whole x) q.state q.levels c) (sym (add-one j))
            (taken_room q.state level.copy j q.levels level e),
      )

  placed : (count : Process S S → ℕ) (f : ℕ → Process S S → Process S S) (place : Option ℕ) (q : Process S S)
      → ((j : ℕ) → count (f j q) ≤ count q) → count (at_place f place q) ≤ count q
  placed count f None q less = omega arith
  placed count f (Some j) q less = less j

  fallen_sent : (q : Process S S) (inside : Bool) → sent_in (cond inside (fallen (whole x) Inner q) q) ≤ sent_in q
  fallen_sent q true = omega arith
  fallen_sent q false = omega arith

  leaves_sent : (q : Process S S) (there : Bool) → sent_in (cond there (settled (whole x) q.state (without_last q.levels)) q) ≤ sent_in q
  leaves_sent q true = omega (arith, (laws.settles q.state).mail.sent c)
  leaves_sent q false = omega arith

  freed_sent : (s : S) (levels : List (Level S)) (line : Bool) (status : ProcessStatus)
      → sent_in (freed (whole x) (record { state = s; levels = levels; at_line = line; status = status })) ≤ x.sent s c
  freed_sent s [] line status = omega (arith, (laws.releases_mail s).sent c)
  freed_sent s (l ∷ ls) line status = omega arith

  freed_room : (s : S) (levels : List (Level S)) (line : Bool) (status : ProcessStatus)
      → room_in (freed (whole x) (record { state = s; levels = levels; at_line = line; status = status })) ≤ room_from (whole x) s levels c
  freed_room s [] line status = omega (arith, (laws.releases_mail s).taken c)
  freed_room s (l ∷ ls) line status = omega arith

  -- everyone inside a conversation is put back
  abbrev AllBefore : List (Process S S) → Type 0
  AllBefore qs = (i : ℕ) (q : Process S S) → slice_get qs i ≡ Some q → Before q

  all_back_sent : (d : ℕ) (qs : List (Process S S)) → AllBefore qs → AtMost sent_in ends.sender qs
      → AtMost sent_in ends.sender (map (where_inside (put_back (whole x)) d) qs)
  all_back_sent d qs before most =
      mapped sent_in ends.sender (where_inside (put_back (whole x)) d) qs most
      (λ i q e. placed sent_in (put_back (whole x)) (position (is_of d) q.levels) q
      (λ j. back_sent j q (slice_get q.levels j) refl (before i q e)))

  all_back_room : (d : ℕ) (qs : List (Process S S)) → AtMost room_in ends.receiver qs
      → AtMost room_in ends.receiver (map (where_inside (put_back (whole x)) d) qs)
  all_back_room d qs most =
      mapped room_in ends.receiver (where_inside (put_back (whole x)) d) qs most
      (λ i q e. placed room_in (put_back (whole x)) (position (is_of d) q.levels) q (λ j. back_room j q (slice_get q.levels j) refl))

  all_raised_sent : (d : ℕ) (qs : List (Process S S)) → AtMost sent_in ends.sender qs → AtMost sent_in ends.sender (map (where_inside raised d) qs)
  all_raised_sent d qs most =
      mapped sent_in ends.sender (where_inside raised d) qs most
      (λ i q e. placed sent_in raised (position (is_of d) q.levels) q (λ j. omega arith))

  -- a step went on: it is the receiver's, and the sender stands as it stood; or it is another's
  goes_either : (p : ℕ) (new : Process S S) (qs : List (Process S S)) → AtMost sent_in ends.sender qs → AtMost room_in ends.receiver qs
      → (own : Bool) → nat_eq p ends.receiver ≡ own
      → AtMost sent_in ends.sender (change_at p (λ _. new) qs) ⊎ AtMost room_in ends.receiver (change_at p (λ _. new) qs)
  goes_either p new qs sent room true e =
      inl (λ q there. sent q (sym (slice_get-change_other p (λ _. new) qs ends.sender
      (λ same. apart (sym (eqb-true p ends.receiver e) ∙ sym same))) ∙ there))
  goes_either p new qs sent room false e =
      inr (λ q there. room q (sym (slice_get-change_other p (λ _. new) qs ends.receiver
      (λ same. eqb-false p ends.receiver e (sym same))) ∙ there))

  -- a state that is kept has sent as much
  kept_sent : (t alternate : ℕ) (s : S) → x.sent (x.keep t alternate s) c ≡ x.sent s c
  kept_sent t alternate s = (laws.keeps_mail t alternate s).sent c

  held_sent : (t p : ℕ) (q : Process S S) (w : Here) (alternate : ℕ) (message : Option ℤ) (s : S) → Grounded x Known w
      → StepsAt (whole x) p q w alternate message → (whole x).step alternate (copy_of (last_of q.levels)) q.state message w.memory ≡ Held s
      → x.sent (x.keep t alternate s) c ≡ x.sent q.state c
  held_sent t p q w alternate message s ground at e =
      kept_sent t alternate s
      ∙ (laws.holds p q w alternate message s (ground.each p q at.acts.runs.there).known at e).mail.sent c

  stood_sent : (t p : ℕ) (q : Process S S) (w : Here) (alternate : ℕ) (message : Option ℤ) (s : S) → Grounded x Known w → SentAtMost w
      → StepsAt (whole x) p q w alternate message → (whole x).step alternate (copy_of (last_of q.levels)) q.state message w.memory ≡ Held s
      → AtMost sent_in ends.sender (change_at p (λ _. stands_now (x.keep t alternate s) q.levels) w.processes)
  stood_sent t p q w alternate message s ground most at e =
      put sent_in ends.sender p (stands_now (x.keep t alternate s) q.levels) q w.processes at.acts.runs.there most
      (omega (arith, held_sent t p q w alternate message s ground at e))

  -- Told over the first turn alone.
  abbrev AtFirst : List Told → Here → Type 0
  AtFirst past w = (past ≡ [] → AsBefore w) × ((one : Told) → past ≡ one ∷ [] → Either w)

  one_turn_kept : IsInvariantUnder (whole x) (λ t past w. Grounded x Known w) (λ t past p left w. GroundedWithin x Known p left w)
      (λ t past w. StillGrounded x Known w) (λ t past w. AtFirst past w) (λ t past p left w. past ≡ [] → AsBefore w)
      (λ t past w. past ≡ [] → Either w)
  one_turn_kept = record {
    rests = λ t past w h none. inl (h.1.0 none).sent;
    uses = λ t past p q w h r none. record {
      sent = put sent_in ends.sender p (turn_used q) q w.processes r.there (h.1.0 none).sent (omega arith);
      room = put room_in ends.receiver p (turn_used q) q w.processes r.there (h.1.0 none).room (omega (arith, used_room q.state q.levels));
    };
    overruns = λ t past p q w j h r e. h.1;
    waits = λ t past p q w h r e none. inl (h.1 none).sent;
    goes = λ t past p q w a v s m h at e none.
        goes_either p (settled (whole x) (x.keep t a s) q.levels) w.processes (h.1 none).sent (h.1 none).room (nat_eq p ends.receiver) refl;
    opens = λ t past p q w f a h at none.
        let s = x.keep t 0 (x.enter q.state) in
        inl (put sent_in ends.sender p (goes_on (whole x) s (q.levels ++ new_level (whole x) f a s ∷ [])) q w.processes at.acts.runs.there
        (h.1 none).sent (omega (arith, kept_sent t 0 (x.enter q.state), (laws.enters q.state).mail.sent c)));
    accepts = λ t past p q w a v s l h at e some of_none none.
        inl (put sent_in ends.sender p (settled (whole x) (x.keep t a s) (without_last q.levels)) q w.processes at.acts.runs.there (h.1 none).sent
        (omega (arith, (laws.settles (x.keep t a s)).mail.sent c, held_sent t p q w a v s h.0.ground at e)));
    stands = λ t past p q w a v s l d h at e some of_d late none. inl (stood_sent t p q w a v s h.0.ground (h.1 none).sent at e);
    leaves = λ t past p q w a v s l d h at e some of_d come none.
        inl (mapped sent_in ends.sender (leaves (whole x) d) _ (stood_sent t p q w a v s h.0.ground (h.1 none).sent at e)
        (λ i q' e'. leaves_sent q' (stands_at d q')));
    falls = λ t past p q w n cause h r why none.
        inl (changed sent_in ends.sender p (fallen (whole x) cause) w.processes (h.1 none).sent (λ q' e. omega arith));
    tries_next = λ t past p q w j l h r alone less none.
        inl (changed sent_in ends.sender p (raised j) _
        (changed sent_in ends.sender p (put_back (whole x) j) w.processes (h.1 none).sent
        (λ q' e. back_sent j q' (slice_get q'.levels j) refl (h.0.ground.each p q' e).before_now)) (λ q' e. omega arith));
    is_spent = λ t past p q w j l h r alone spent none. record {
      sent = changed sent_in ends.sender p (put_back (whole x) j) w.processes (h.1 none).sent
          (λ q' e. back_sent j q' (slice_get q'.levels j) refl (h.0.ground.each p q' e).before_now);
      room = changed room_in ends.receiver p (put_back (whole x) j) w.processes (h.1 none).room
          (λ q' e. back_room j q' (slice_get q'.levels j) refl);
    };
    all_try_next = λ t past p q w j l d h r of_d less none.
        inl (all_raised_sent d _ (all_back_sent d w.processes (λ i q' e. (h.0.ground.each i q' e).before_now) (h.1 none).sent));
    all_are_spent = λ t past p q w j l d parent h r of_d spent up none. record {
      sent = all_back_sent d w.processes (λ i q' e. (h.0.ground.each i q' e).before_now) (h.1 none).sent;
      room = all_back_room d w.processes (h.1 none).room;
    };
    breaks = λ t past p q w j l d h r of_d spent up none.
        inl (mapped sent_in ends.sender (fallen_inside (whole x) d) _
        (all_back_sent d w.processes (λ i q' e. (h.0.ground.each i q' e).before_now) (h.1 none).sent)
        (λ n q' e. fallen_sent q' (is_inside d q')));
    is_gone = λ t past p q w j h r e none. inl (h.1 none).sent;
    releases = λ t past w one h e. (
      λ none. absurd (end-not_empty past one none),
      λ two same. all_released w.processes (h.1 (none_before past one two same)),
    );
  }
    where
      all_released : (qs : List (Process S S)) → AtMost sent_in ends.sender qs ⊎ AtMost room_in ends.receiver qs
          → AtMost sent_in ends.sender (map (freed (whole x)) qs) ⊎ AtMost room_in ends.receiver (map (freed (whole x)) qs)
      all_released qs (inl most) =
          inl (mapped sent_in ends.sender (freed (whole x)) qs most (λ i q e. freed_sent q.state q.levels q.at_line q.status))
      all_released qs (inr most) =
          inr (mapped room_in ends.receiver (freed (whole x)) qs most (λ i q e. freed_room q.state q.levels q.at_line q.status))

  -- Where at most so many were sent before a turn, and room was counted from no later number, one of both is so after it.
  pub turn_sends : KeepsEach (whole x) Known → (t p : ℕ) (w : World S S (Nothing × Slots)) → Grounded x Known (bare w)
      → AsBefore (bare w) → Either (bare (turn (with_slots (whole x)) t p w).0)
  turn_sends keeps t p w ground as_before =
      (turn-keeps (under_slots (whole x) (both_kept (grounded_kept keeps laws) one_turn_kept)) t [] p w
      (ground, (λ _. as_before, λ one e. absurd (not_empty one [] e)))).1.1 (turn (with_slots (whole x)) t p w).1 refl
