-- Slots beside a kind's messages change no world but for the slots: what is an invariant of the kind is one of the kind with slots.
use Rattle.std.proofs.Common.{◌≡◌, ℕ, ℤ, Bool, List, [], ◌∷◌, ◌++◌, map, position, slice_get, Option, Some, None, ◌+◌, nat_lt, refl, sym, ap, ap₂, ◌∙◌, subst}
use Rattle.rb_base.specs.declared.event.Cause.{Cause}
use Rattle.rb_world.specs.Kind.{Ends, Facts, Kind, Stepped, Trapped, Went, Held}
use Rattle.rb_world.specs.World.{Level, Process, ProcessStatus, World, change_at, is_of, last_of, with_process, with_each, with_talks, copy_of}
use Rattle.rb_world.specs.Channels.{has_room_on, has_room_for, message_on, message_between, first_message, room_from, seen_copy}
use Rattle.rb_world.specs.Reject.{all_back, at_place, back_to, broken_talk, fallen_inside, first_again, next_talk, put_back, raised, where_inside}
use Rattle.rb_world.specs.Turn.{freed, lines_freed}
use Rattle.rb_world.specs.Slots.{Slots, stepped_with_slots, with_slots}
use Rattle.rb_world.proofs.TurnFacts.{RunsAt, MayAct, IsReady, ToSend, ToReceive, ToReceiveIfThere, ToStart, ToAct, StepsAt, IsEntry, Alone, Joining, EntersAt, MustFall, NoLevelLeft, Barred, RejectsAt}
use Rattle.rb_world.proofs.Keeping.Invariant.{Between, Within, IsInvariant}

-- the world without its slots
abbrev pub bare : {S C M : Type 0} → World S C (M × Slots) → World S C M
bare w = record { processes = w.processes; talks = w.talks; memory = w.memory.0 }

-- what a step that went on came to, or something else
abbrev state_in : {S M : Type 0} → S → Stepped S M → S
state_in other (Trapped cause) = other
state_in other (Went s m) = s
state_in other (Held s) = other

abbrev memory_in : {S M : Type 0} → M → Stepped S M → M
memory_in other (Trapped cause) = other
memory_in other (Went s m) = m
memory_in other (Held s) = other

-- a step with slots is the step
pub went_bare : {S C M : Type 0} (k : Kind S C M) (s : S) (slots : Slots) (one : Stepped S M) (later : S) (m : M × Slots)
    → stepped_with_slots k s slots one ≡ Went later m → one ≡ Went later m.0
went_bare k s slots (Trapped cause) later m e = cc
went_bare {S} {C} {M} k s slots (Went t n) later m e =
    ap₂ Went (ap (λ (one : Stepped S (M × Slots)). state_in t one) e)
    (ap (λ (one : Stepped S (M × Slots)). (memory_in {M = M × Slots} (n, slots) one).0) e)
went_bare k s slots (Held t) later m e = cc

pub held_bare : {S C M : Type 0} (k : Kind S C M) (s : S) (slots : Slots) (one : Stepped S M) (later : S)
    → stepped_with_slots k s slots one ≡ Held later → one ≡ Held later
held_bare k s slots (Trapped cause) later e = cc
held_bare k s slots (Went t n) later e = cc
held_bare k s slots (Held t) later e = cc

module _ {S C M : Type 0} (k : Kind S C M) where
  room_from-bare : (s : S) (levels : List (Level C)) (c : ℕ) → room_from (with_slots k) s levels c ≡ room_from k s levels c
  room_from-bare s [] c = refl
  room_from-bare s (l ∷ ls) c = refl

  has_room_for-bare : (c : ℕ) (ends : Ends) (p q : Option (Process S C)) → has_room_for (with_slots k) c ends p q ≡ has_room_for k c ends p q
  has_room_for-bare c ends None q = refl
  has_room_for-bare c ends (Some p) None = refl
  has_room_for-bare c ends (Some p) (Some q) = ap (λ n. nat_lt (k.sent p.state c) (ends.size + n)) (room_from-bare q.state q.levels c)

  pub has_room-bare : (w : World S C (M × Slots)) (c : ℕ) (ends : Option Ends) → has_room_on (with_slots k) w c ends ≡ has_room_on k (bare w) c ends
  has_room-bare w c None = refl
  has_room-bare w c (Some ends) = has_room_for-bare c ends (slice_get w.processes ends.sender) (slice_get w.processes ends.receiver)

  first_message-bare : (m : M × Slots) (c : ℕ) (s : S) (copy : Option C) (taken : ℕ)
      → first_message (with_slots k) m c s copy taken ≡ first_message k m.0 c s copy taken
  first_message-bare m c s None taken = refl
  first_message-bare m c s (Some copy) taken = refl

  message_between-bare : (m : M × Slots) (c : ℕ) (p q : Option (Process S C)) → message_between (with_slots k) m c p q ≡ message_between k m.0 c p q
  message_between-bare m c None q = refl
  message_between-bare m c (Some p) None = refl
  message_between-bare m c (Some p) (Some q) = first_message-bare m c p.state (seen_copy p.levels q.levels) (k.taken q.state c)

  pub message-bare : (w : World S C (M × Slots)) (c : ℕ) (ends : Option Ends) → message_on (with_slots k) w c ends ≡ message_on k (bare w) c ends
  message-bare w c None = refl
  message-bare w c (Some ends) = message_between-bare w.memory c (slice_get w.processes ends.sender) (slice_get w.processes ends.receiver)

  back_to-bare : (j : ℕ) (q : Process S C) (level : Option (Level C)) → back_to (with_slots k) j q level ≡ back_to k j q level
  back_to-bare j q None = refl
  back_to-bare j q (Some level) = refl

  pub put_back-bare : (j : ℕ) (q : Process S C) → put_back (with_slots k) j q ≡ put_back k j q
  put_back-bare j q = back_to-bare j q (slice_get q.levels j)

  at_place-bare : (place : Option ℕ) (q : Process S C) → at_place (put_back (with_slots k)) place q ≡ at_place (put_back k) place q
  at_place-bare None q = refl
  at_place-bare (Some j) q = put_back-bare j q

  freed-bare : (s : S) (levels : List (Level C)) (line : Bool) (status : ProcessStatus)
      → freed (with_slots k) (record { state = s; levels = levels; at_line = line; status = status })
      ≡ freed k (record { state = s; levels = levels; at_line = line; status = status })
  freed-bare s [] line status = refl
  freed-bare s (l ∷ ls) line status = refl

  lines-bare-one : (s : S) (levels : List (Level C)) → lines_freed (with_slots k) s levels ≡ lines_freed k s levels
  lines-bare-one s [] = refl
  lines-bare-one s (l ∷ ls) = refl

  lines-bare : (qs : List (Process S C)) → map (λ q. lines_freed (with_slots k) q.state q.levels) qs ≡ map (λ q. lines_freed k q.state q.levels) qs
  lines-bare [] = refl
  lines-bare (q ∷ qs) = ap₂ ◌∷◌ (lines-bare-one q.state q.levels) (lines-bare qs)

  -- with another function that agrees
  each-bare : (f g : Process S C → Process S C) → ((q : Process S C) → f q ≡ g q) → (w : World S C M) → with_each f w ≡ with_each g w
  each-bare f g same w = ap (λ (h : Process S C → Process S C). with_each h w) (λ i q. same q i)

  one-bare : (f g : Process S C → Process S C) → ((q : Process S C) → f q ≡ g q) → (p : ℕ) (w : World S C M) → with_process p f w ≡ with_process p g w
  one-bare f g same p w = ap (λ (h : Process S C → Process S C). with_process p h w) (λ i q. same q i)

  pub all_back-bare : (c : ℕ) (w : World S C (M × Slots)) → bare (all_back (with_slots k) c w) ≡ all_back k c (bare w)
  all_back-bare c w = ap (λ (v : World S C M). record { processes = v.processes; talks = (all_back k c (bare w)).talks; memory = w.memory.0 })
      (each-bare (where_inside (put_back (with_slots k)) c) (where_inside (put_back k) c)
      (λ q. at_place-bare (position (is_of c) q.levels) q) (bare w))

  ready-bare : {q : Process S C} {w : World S C (M × Slots)} {message : Option ℤ} → IsReady (with_slots k) q w message → IsReady k q (bare w) message
  ready-bare {q} {w} (ToSend c wants room none) = ToSend c wants (sym (has_room-bare w c (slice_get k.channels c)) ∙ room) none
  ready-bare {q} {w} (ToReceive c v wants there is) = ToReceive c v wants (sym (message-bare w c (slice_get k.channels c)) ∙ there) is
  ready-bare {q} {w} (ToReceiveIfThere c wants is) = ToReceiveIfThere c wants (is ∙ message-bare w c (slice_get k.channels c))
  ready-bare (ToStart wants none) = ToStart wants none
  ready-bare (ToAct wants none) = ToAct wants none

  runs-bare : {p : ℕ} {q : Process S C} {w : World S C (M × Slots)} → RunsAt p q w → RunsAt p q (bare w)
  runs-bare runs = record { there = runs.there; running = runs.running }

  acts-bare : {p : ℕ} {q : Process S C} {w : World S C (M × Slots)} → MayAct p q w → MayAct p q (bare w)
  acts-bare acts = record { runs = runs-bare acts.runs; away = acts.away; none_over = acts.none_over }

  pub steps-bare : {p : ℕ} {q : Process S C} {w : World S C (M × Slots)} {alternate : ℕ} {message : Option ℤ}
      → StepsAt (with_slots k) p q w alternate message → StepsAt k p q (bare w) alternate message
  steps-bare at = record { acts = acts-bare at.acts; ready = ready-bare at.ready; at = at.at }

  entry-bare : {w : World S C (M × Slots)} {facts : Facts} {alternate : ℕ} → IsEntry w facts alternate → IsEntry (bare w) facts alternate
  entry-bare (Alone none is) = Alone none is
  entry-bare (Joining c talk of_c there whole is) = Joining c talk of_c there whole is

  enters-bare : {p : ℕ} {q : Process S C} {w : World S C (M × Slots)} {facts : Facts} {alternate : ℕ}
      → EntersAt (with_slots k) p q w facts alternate → EntersAt k p q (bare w) facts alternate
  enters-bare at = record { acts = acts-bare at.acts; wants = at.wants; few = at.few; entry = entry-bare at.entry }

  falls-bare : {q : Process S C} {w : World S C (M × Slots)} {left : ℕ} {cause : Cause}
      → MustFall (with_slots k) q w left cause → MustFall k q (bare w) left cause
  falls-bare (NoLevelLeft none) = NoLevelLeft none
  falls-bare (Barred facts c talk away wants of_c there broken left is) = Barred facts c talk away wants of_c there broken left is

  rejects-bare : {p : ℕ} {q : Process S C} {w : World S C (M × Slots)} {j : ℕ} {level : Level C} → RejectsAt p q w j level
      → RejectsAt p q (bare w) j level
  rejects-bare at = record { runs = runs-bare at.runs; place = at.place }

  -- an invariant, whatever the slots
  pub under_slots : {before : Between S C M} {during : Within S C M} {after : Between S C M} → IsInvariant k before during after
      → IsInvariant (with_slots k) (λ t past w. before t past (bare w)) (λ t past p left w. during t past p left (bare w))
      (λ t past w. after t past (bare w))
  under_slots {before} {during} {after} laws = record {
    rests = λ t past w h. laws.rests t past (bare w) h;
    uses = λ t past p q w h r. laws.uses t past p q (bare w) h (runs-bare r);
    overruns = λ t past p q w j h r e. laws.overruns t past p q (bare w) j h (runs-bare r) e;
    waits = λ t past p q w h r e. laws.waits t past p q (bare w) h (runs-bare r) e;
    goes = λ t past p q w a v s m h at e. laws.goes t past p q (bare w) a v s m.0 h (steps-bare at)
        (went_bare k q.state w.memory.1 (k.step a (copy_of (last_of q.levels)) q.state v w.memory.0) s m e);
    opens = λ t past p q w f a h at. laws.opens t past p q (bare w) f a h (enters-bare at);
    accepts = λ t past p q w a v s l h at e x y. laws.accepts t past p q (bare w) a v s l h (steps-bare at)
        (held_bare k q.state w.memory.1 (k.step a (copy_of (last_of q.levels)) q.state v w.memory.0) s e) x y;
    stands = λ t past p q w a v s l c h at e x y z. laws.stands t past p q (bare w) a v s l c h (steps-bare at)
        (held_bare k q.state w.memory.1 (k.step a (copy_of (last_of q.levels)) q.state v w.memory.0) s e) x y z;
    leaves = λ t past p q w a v s l c h at e x y z. laws.leaves t past p q (bare w) a v s l c h (steps-bare at)
        (held_bare k q.state w.memory.1 (k.step a (copy_of (last_of q.levels)) q.state v w.memory.0) s e) x y z;
    falls = λ t past p q w n c h r why. laws.falls t past p q (bare w) n c h (runs-bare r) (falls-bare why);
    tries_next = λ t past p q w j l h r x y.
        subst (λ (v : World S C M). after t past (with_process p (raised j) v))
        (sym (one-bare (put_back (with_slots k) j) (put_back k j) (put_back-bare j) p (bare w)))
        (laws.tries_next t past p q (bare w) j l h (rejects-bare r) x y);
    is_spent = λ t past p q w j l h r x y.
        subst (λ (v : World S C M). during t past p j v) (sym (one-bare (put_back (with_slots k) j) (put_back k j) (put_back-bare j) p (bare w)))
        (laws.is_spent t past p q (bare w) j l h (rejects-bare r) x y);
    all_try_next = λ t past p q w j l c h r x y.
        subst (λ (v : World S C M). after t past (with_talks (change_at c next_talk) (with_each (where_inside raised c) v))) (sym (all_back-bare c w))
        (laws.all_try_next t past p q (bare w) j l c h (rejects-bare r) x y);
    all_are_spent = λ t past p q w j l c d h r x y z.
        subst (λ (v : World S C M). during t past p j (with_talks (change_at c first_again) v)) (sym (all_back-bare c w))
        (laws.all_are_spent t past p q (bare w) j l c d h (rejects-bare r) x y z);
    breaks = λ t past p q w j l c h r x y z.
        subst (λ (v : World S C M). after t past (with_talks (change_at c broken_talk) (with_each (fallen_inside k c) v))) (sym (all_back-bare c w))
        (laws.breaks t past p q (bare w) j l c h (rejects-bare r) x y z);
    is_gone = λ t past p q w j h r e. laws.is_gone t past p q (bare w) j h (runs-bare r) e;
    releases = λ t past w o h e.
        subst (λ (v : World S C M). before (t + 1) (past ++ o ∷ []) v)
        (sym (each-bare (freed (with_slots k)) (freed k) (λ q. freed-bare q.state q.levels q.at_line q.status) (bare w)))
        (laws.releases t past (bare w) o h (e ∙ lines-bare w.processes));
  }
