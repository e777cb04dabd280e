-- A turn that was taken or undone changes more than turns used, where a state counts the turns that were taken.
use Rattle.std.proofs.Common.{◌≡◌, ℕ, suc, ◌+◌, ℤ, Bool, true, false, cond, List, [], ◌∷◌, ◌++◌, length, map, option_map, position, Option, Some, None, slice_get, refl, sym, ap, ap₂, ◌∙◌, subst, arith}
use Rattle.std.specs.Prelude.{nat_le}
use Rattle.std.proofs.lemmas.List.Quantifiers.{position-Some}
use Rattle.std.proofs.lemmas.Option.{slice_get-map}
use Rattle.rb_base.specs.declared.event.Cause.{Cause}
use Rattle.rb_base.specs.declared.event.Cause.TheVariants.{Overrun, Depth, Broken, Inner}
use Rattle.rb_base.specs.declared.event.Event.{Event}
use Rattle.rb_base.specs.declared.event.Event.TheVariants.{Reject, RejectAll, Pass}
use Rattle.rb_world.specs.Channels.{has_room, message_there}
use Rattle.rb_world.specs.Kind.{Facts, Kind, Want, NothingLeft, SendsOn, ReceivesOn, MayReceiveOn, Enters, Starts, Acts, Stepped, Trapped, Went, Held}
use Rattle.rb_world.specs.Reject.{Happened, after_event, fallen, reject, reject_at, reject_either}
use Rattle.rb_world.specs.Turn.{Moved, Told, accepted, accepted_at, acts, all_leave, all_stand, alternate_of, bounded, by_status, compared, done_at, enter_either, error_at, finishes, freed, is_over, join, leaves, most_levels, moves, moved_to, new_level, open_at, opened, passed, receives, runs, stands_at, stands_now, state_freed, stepped, steps, took, trapped, tried_at, turn_used, undone, waits}
use Rattle.rb_world.specs.World.{Level, Process, ProcessStatus, Running, Finished, FailedWith, Talk, World, change_at, copy_of, goes_on, last_of, levels_of, settled, talk_at, with_memory, with_process, without_last}
use Rattle.rb_world.proofs.ListFacts.{slice_get-change_at, slice_get-there, none_some, some_same}
use Rattle.rb_stuck.specs.Alike.{all_uncounted, uncounted}
use Rattle.rb_stuck.specs.Stuck.{ChangesMore, ChangesNoMore, is_still, stands_still}

-- a step leaves such a count as it is
abbrev pub CountsSame : {S M : Type 0} → (S → ℕ) → ℕ → Stepped S M → Type 0
CountsSame count n (Trapped cause) = Unit {0}
CountsSame count n (Went s m) = count s ≡ n
CountsSame count n (Held s) = count s ≡ n

-- How many turns were taken by a state: each that is taken is one more, and nothing else that a turn does changes it.
pub record CountsTaken {S C M : Type 0} (k : Kind S C M) (count : S → ℕ) : Type 0 where
  pub keeps : (t alternate : ℕ) (s : S) (m : M) → count (k.keep t alternate s m).0 ≡ count s + 1
  pub settles : (copy : Option C) (s : S) → count (k.settle copy s) ≡ count s
  pub enters : (s : S) → count (k.enter s) ≡ count s
  pub accepts : (s : S) → count (k.accept s) ≡ count s
  pub releases : (s : S) → count (k.release s) ≡ count s
  pub steps : (alternate : ℕ) (copy : Option C) (s : S) (message : Option ℤ) (m : M) → CountsSame count (count s) (k.step alternate copy s message m)

-- the turns that a process has taken, and its status
abbrev marked : {S C : Type 0} → (S → ℕ) → Process S C → ℕ × ProcessStatus
marked count q = (count q.state, q.status)

-- What a turn of process p came to differs from what was before: it tells a rejection, or the process has another mark.
data IsSeen {S C M : Type 0} (count : S → ℕ) (p : ℕ) (q : Process S C) (moved : Moved S C M) : Type 0 where
  Tells : (event : Event) (events : List Event) → moved.rejections ≡ event ∷ events → IsSeen count p q moved
  Differs : (r : Process S C) → slice_get moved.world.processes p ≡ Some r → (marked count r ≡ marked count q → ⊥) → IsSeen count p q moved

wrong : true ≡ false → ⊥
wrong e = cc

-- the level that is beyond its bound is one of them
over_there : {C : Type 0} (levels : List (Level C)) (j : ℕ) → position is_over levels ≡ Some j → (level : Level C) × (slice_get levels j ≡ Some level)
over_there [] j e = absurd (none_some e)
over_there (l ∷ levels) j e = slice_get-there (l ∷ levels) j (position-Some is_over (l ∷ levels) j l e).0

module _ {S C M : Type 0} (k : Kind S C M) (count : S → ℕ) (counts : CountsTaken k count) (t p : ℕ) (q : Process S C) (w : World S C M)
    (here : slice_get w.processes p ≡ Some q) (running : q.status ≡ Running) where
  abbrev Seen : Moved S C M → Type 0
  Seen moved = IsSeen count p q moved

  -- it is seen unless the turn was idle or waited
  abbrev SeenUnlessStill : Moved S C M → Type 0
  SeenUnlessStill moved = is_still moved.kind ≡ false → Seen moved

  put_there : (r : Process S C) → slice_get (change_at p (λ _. r) w.processes) p ≡ Some r
  put_there r = slice_get-change_at p (λ _. r) w.processes ∙ ap (option_map (λ (_ : Process S C). r)) here

  one_more : (r : Process S C) → count r.state ≡ count q.state + 1 → marked count r ≡ marked count q → ⊥
  one_more r more same =
      let as_before : count r.state ≡ count q.state = ap (λ (mark : ℕ × ProcessStatus). mark.0) same in absurd (omega (arith, more, as_before))

  waiting : (moved : Moved S C M) → is_still moved.kind ≡ true → SeenUnlessStill moved
  waiting moved still not = absurd (wrong (sym still ∙ not))

  either : (b : Bool) (one other : Moved S C M) → SeenUnlessStill one → SeenUnlessStill other → SeenUnlessStill (cond b one other)
  either true one other h i = h
  either false one other h i = i

  -- who fails has another status
  fails : (cause : Cause) → Seen (undone (with_process p (fallen k cause) w, []))
  fails cause =
      Differs (fallen k cause q) (slice_get-change_at p (fallen k cause) w.processes ∙ ap (option_map (fallen k cause)) here)
      (λ same. let status : FailedWith cause ≡ Running = ap (λ (mark : ℕ × ProcessStatus). mark.1) same ∙ running in cc)

  -- a rejection is told
  told : (event : Event) (happened : Happened S C M) → Seen (undone (after_event event happened))
  told event (after, events) = Tells event events refl

  rejects_either : (j : ℕ) (cause : Cause) (level : Level C) (conversation : Option ℕ) (outer : World S C M → Happened S C M)
      → Seen (undone (reject_either k p j cause level conversation w outer))
  rejects_either j cause level None outer = told (Reject p level.facts.line level.alternate cause) _
  rejects_either j cause level (Some c) outer = told (RejectAll c level.alternate p cause) _

  rejects : (j : ℕ) (cause : Cause) (level : Level C) → slice_get q.levels j ≡ Some level → Seen (undone (reject k p (suc j) cause w))
  rejects j cause level there =
      subst (λ (o : Option (Level C)). Seen (undone (reject_at k p j cause o w (λ outer. reject k p j Inner outer))))
      (sym (ap (λ (o : Option (Process S C)). slice_get (levels_of o) j) here ∙ there))
      (rejects_either j cause level level.facts.conversation (λ outer. reject k p j Inner outer))

  traps : (cause : Cause) → Seen (trapped k p cause w)
  traps cause =
      subst (λ n. Seen (undone (reject k p n cause w))) (sym (ap (λ (o : Option (Process S C)). length (levels_of o)) here)) (by q.levels refl)
    where
      by : (levels : List (Level C)) → q.levels ≡ levels → Seen (undone (reject k p (length levels) cause w))
      by [] e = fails cause
      by (l ∷ levels) e =
          let last = slice_get-there (l ∷ levels) (length levels) (omega arith) in
          rejects (length levels) cause last.0 (ap (λ (all : List (Level C)). slice_get all (length levels)) e ∙ last.1)

  opens : (facts : Facts) (alternate : ℕ) → Seen (open_at k t p facts alternate q w)
  opens facts alternate =
      by (k.keep t 0 (k.enter q.state) w.memory)
      (counts.keeps t 0 (k.enter q.state) w.memory ∙ ap (λ n. n + 1) (counts.enters q.state))
    where
      by : (after : S × M) → count after.0 ≡ count q.state + 1 → Seen (took (opened k p facts alternate q w after))
      by (s, m) more =
          let r : Process S C = goes_on k s (q.levels ++ new_level k facts alternate s ∷ []) in Differs r (put_there r) (one_more r more)

  joins : (facts : Facts) (talk : Option Talk) → SeenUnlessStill (join k t p facts q w talk)
  joins facts None = waiting (waits w) refl
  joins facts (Some talk) =
      either talk.is_broken (undone (with_process p (fallen k Broken) w, [])) (open_at k t p facts talk.alternate q w) (λ _. fails Broken)
      (λ _. opens facts talk.alternate)

  enters_either : (facts : Facts) (conversation : Option ℕ) → SeenUnlessStill (enter_either k t p facts conversation q w)
  enters_either facts None = λ _. opens facts 1
  enters_either facts (Some c) = joins facts (talk_at w c)

  -- who leaves a test line has taken as many turns
  leaves_same : (c : ℕ) (r : Process S C) → count (leaves k c r).state ≡ count r.state
  leaves_same c r = by (stands_at c r)
    where
      by : (b : Bool) → count (cond b (settled k (k.accept r.state) (without_last r.levels)) r).state ≡ count r.state
      by true = counts.settles (copy_of (last_of (without_last r.levels))) (k.accept r.state) ∙ counts.accepts r.state
      by false = refl

  accepts_at : (conversation : Option ℕ) (after : S × M) → count after.0 ≡ count q.state + 1
      → SeenUnlessStill (accepted_at k p q.levels conversation w after)
  accepts_at None (s, m) more =
      let r : Process S C = settled k (k.accept s) (without_last q.levels) in
      λ _. Differs r (put_there r)
      (one_more r (counts.settles (copy_of (last_of (without_last q.levels))) (k.accept s) ∙ counts.accepts s ∙ more))
  accepts_at (Some c) (s, m) more =
      let r : Process S C = stands_now s q.levels in
      let line : World S C M = with_memory m (with_process p (λ _. r) w) in
      either (all_stand k c line) (passed (Pass c (alternate_of (talk_at line c))) (all_leave k c line)) (took line)
      (λ _. Differs (leaves k c r)
      (slice_get-map (leaves k c) line.processes p ∙ ap (option_map (leaves k c)) (put_there r))
      (one_more (leaves k c r) (leaves_same c r ∙ more)))
      (λ _. Differs r (put_there r) (one_more r more))

  accepts : (last : Option (Level C)) (after : S × M) → count after.0 ≡ count q.state + 1 → SeenUnlessStill (accepted k p q.levels last w after)
  accepts None after more = waiting (waits w) refl
  accepts (Some level) after more = accepts_at level.facts.conversation after more

  steps_to : (alternate : ℕ) (came : Stepped S M) → CountsSame count (count q.state) came → SeenUnlessStill (stepped k t p alternate q.levels w came)
  steps_to alternate (Trapped cause) same = λ _. traps cause
  steps_to alternate (Went s m) same = λ _. by (k.keep t alternate s m) (counts.keeps t alternate s m ∙ ap (λ n. n + 1) same)
    where
      by : (after : S × M) → count after.0 ≡ count q.state + 1 → Seen (took (moved_to k p q.levels w after))
      by (s', m') more =
          let r : Process S C = settled k s' q.levels in
          Differs r (put_there r) (one_more r (counts.settles (copy_of (last_of q.levels)) s' ∙ more))
  steps_to alternate (Held s) same =
      accepts (last_of q.levels) (k.keep t alternate s w.memory) (counts.keeps t alternate s w.memory ∙ ap (λ n. n + 1) same)

  takes_step : (alternate : ℕ) (message : Option ℤ) → SeenUnlessStill (steps k t p alternate message q w)
  takes_step alternate message =
      steps_to alternate (k.step alternate (copy_of (last_of q.levels)) q.state message w.memory)
      (counts.steps alternate (copy_of (last_of q.levels)) q.state message w.memory)

  takes_message : (message : Option ℤ) → SeenUnlessStill (receives k t p q w message)
  takes_message None = waiting (waits w) refl
  takes_message (Some v) = takes_step 0 (Some v)

  does : (want : Want) → SeenUnlessStill (acts k t p q w want)
  does NothingLeft = λ not. absurd (wrong not)
  does (SendsOn c) = either (has_room k w c) (steps k t p 0 None q w) (waits w) (takes_step 0 None) (waiting (waits w) refl)
  does (ReceivesOn c) = takes_message (message_there k w c)
  does (MayReceiveOn c) = takes_step 0 (message_there k w c)
  does (Enters facts) =
      either (nat_le most_levels (length q.levels)) (trapped k p Depth w) (enter_either k t p facts facts.conversation q w) (λ _. traps Depth)
      (enters_either facts facts.conversation)
  does Starts = takes_step (tried_at (last_of q.levels)) None
  does Acts = takes_step 0 None

  runs_on : (over : Option ℕ) → position is_over q.levels ≡ over → SeenUnlessStill (bounded k t p q w over)
  runs_on (Some j) e =
      let over = over_there q.levels j e in
      λ _. subst (λ n. Seen (undone (reject k p n Overrun w))) {x = suc j} {y = j + 1} (omega arith) (rejects j Overrun over.0 over.1)
  runs_on None e = either q.at_line (waits w) (acts k t p q w (k.want q.state)) (waiting (waits w) refl) (does (k.want q.state))

module _ {S C M : Type 0} (k : Kind S C M) (count : S → ℕ) (counts : CountsTaken k count) (t p : ℕ) (w : World S C M) where
  freed_same : (s : S) (levels : List (Level C)) → count (state_freed k s levels) ≡ count s
  freed_same s [] = counts.releases s
  freed_same s (l ∷ levels) = refl

  -- what is seen is more than turns used
  seen_changes : (q : Process S C) (moved : Moved S C M) → slice_get w.processes p ≡ Some q → IsSeen count p (turn_used q) moved
      → ChangesNoMore w (finishes k w moved) → ⊥
  seen_changes q moved here (Tells event events told) no_more =
      let others : List Event = compared error_at 0 w.processes moved.world.processes
      ++ (moved.passes ++ compared done_at 0 w.processes moved.world.processes) in
      let none : moved.rejections ++ others ≡ [] = ap (λ (one : Told). one.events) no_more.0 in
      let some : moved.rejections ++ others ≡ event ∷ (events ++ others) = ap (λ (rejections : List Event). rejections ++ others) told in
      cc
  seen_changes q moved here (Differs r there differs) no_more =
      let after : slice_get (all_uncounted (map (freed k) moved.world.processes)) p ≡ Some (uncounted (freed k r)) =
      slice_get-map uncounted (map (freed k) moved.world.processes) p
      ∙ ap (option_map uncounted) (slice_get-map (freed k) moved.world.processes p ∙ ap (option_map (freed k)) there) in
      let before : slice_get (all_uncounted w.processes) p ≡ Some (uncounted q) =
      slice_get-map uncounted w.processes p ∙ ap (option_map uncounted) here in
      let same : uncounted (freed k r) ≡ uncounted q =
      some_same (sym after ∙ ap (λ (all : List (Process S C)). slice_get all p) no_more.1.processes ∙ before) in
      differs
      (ap₂ (λ (taken : ℕ) (status : ProcessStatus). (taken, status))
      (sym (freed_same r.state r.levels) ∙ ap (λ (one : Process S C). count one.state) same)
      (ap (λ (one : Process S C). one.status) same))

  by_its_status : (q : Process S C) (status : ProcessStatus) → slice_get w.processes p ≡ Some q → q.status ≡ status
      → is_still (by_status k t p q w status).kind ≡ false → ChangesNoMore w (finishes k w (by_status k t p q w status)) → ⊥
  by_its_status q Running here runs_now moves_on =
      let after : World S C M = with_process p (λ _. turn_used q) w in
      let there : slice_get after.processes p ≡ Some (turn_used q) =
      slice_get-change_at p (λ _. turn_used q) w.processes ∙ ap (option_map (λ (_ : Process S C). turn_used q)) here in
      seen_changes q (runs k t p (turn_used q) w) here
      (runs_on k count counts t p (turn_used q) after there runs_now (position is_over (turn_used q).levels) refl moves_on)
  by_its_status q Finished here done moves_on = absurd (wrong moves_on)
  by_its_status q (FailedWith cause) here failed moves_on = absurd (wrong moves_on)

  by_process : (o : Option (Process S C)) → slice_get w.processes p ≡ o → is_still (moves k t p w o).kind ≡ false
      → ChangesNoMore w (finishes k w (moves k t p w o)) → ⊥
  by_process None here moves_on = absurd (wrong moves_on)
  by_process (Some q) here moves_on = by_its_status q q.status here refl moves_on

  pub moving_changes : stands_still k t w p ≡ false → ChangesMore k t w p
  moving_changes moves_on = by_process (slice_get w.processes p) refl moves_on
