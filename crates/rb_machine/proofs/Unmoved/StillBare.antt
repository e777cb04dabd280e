-- A turn that is idle or waits leaves each process its levels, so who has none after it had none before; and a process that waits runs.
use Rattle.std.proofs.Common.{◌≡◌, ℕ, ◌+◌, ℤ, Bool, true, false, cond, List, [], ◌∷◌, length, map, position, Option, Some, None, slice_get, option_map, refl, ap, sym, ◌∙◌, subst}
use Rattle.std.specs.Prelude.{nat_le}
use Rattle.std.proofs.lemmas.Option.{slice_get-map}
use Rattle.rb_base.specs.declared.event.Cause.{Cause}
use Rattle.rb_base.specs.declared.event.Cause.TheVariants.{Overrun, Depth, Broken}
use Rattle.rb_base.specs.declared.event.Event.TheVariants.{Pass}
use Rattle.rb_base.specs.declared.event.TurnKind.TheVariants.{Wait}
use Rattle.rb_world.specs.Channels.{has_room, message_there}
use Rattle.rb_world.specs.Kind.{Facts, Kind, Membership, Want, NothingLeft, SendsOn, ReceivesOn, MayReceiveOn, Enters, Starts, Acts, Stepped, Trapped, Went, Held}
use Rattle.rb_world.specs.Reject.{Happened, fallen, reject}
use Rattle.rb_world.specs.Turn.{Moved, Told, accepted, accepted_at, acts, all_leave, all_stand, alternate_of, at_test_line, bounded, by_status, enter_either, enters, freed, is_over, join, most_levels, move, moves, one_used, open_at, passed, receives, runs, stands_now, stepped, steps, took, trapped, tried_at, turn, turn_used, undone, waits}
use Rattle.rb_world.specs.World.{Level, Process, ProcessStatus, Running, Finished, FailedWith, Talk, World, copy_of, last_of, process_levels, talk_at, with_memory, with_process}
use Rattle.rb_world.proofs.ListFacts.{slice_get-change_at}
use Rattle.rb_code.specs.Instructions.Plain.{Code}
use Rattle.rb_code.specs.WordMachine.WordKind.{word_kind}
use Rattle.rb_code.specs.WordMachine.WordRun.{WordWorld}
use Rattle.rb_machine.specs.Resting.{IsBare, is_still}

untrue : false ≡ true → ⊥
untrue e = cc

-- No more was done in a turn than to count it, for a process that is there and runs.
pub record OnlyCounted {S C M : Type 0} (p : ℕ) (there : Option (Process S C)) (w after : World S C M) : Type 0 where
  pub one : Process S C
  pub is : there ≡ Some one
  pub runs : one.status ≡ Running
  pub counted : after ≡ with_process p (λ _. turn_used one) w

none_used : {C : Type 0} (levels : List (Level C)) → map one_used levels ≡ [] → levels ≡ []
none_used [] e = refl
none_used (level ∷ levels) e = absurd (cc)

module _ {S C M : Type 0} (k : Kind S C M) (n p : ℕ) where
  -- if a turn is still it leaves the world that counted it
  abbrev Stays : World S C M → Moved S C M → Type 0
  Stays w one = is_still one.kind ≡ true → one.world ≡ w

  either : (b : Bool) (w : World S C M) (one other : Moved S C M) → Stays w one → Stays w other → Stays w (cond b one other)
  either true w one other h i = h
  either false w one other h i = i

  waits_stays : (w : World S C M) → Stays w (waits w)
  waits_stays w still = refl

  took_stays : (w v : World S C M) → Stays w (took v)
  took_stays w v still = absurd (untrue still)

  undone_stays : (w : World S C M) (happened : Happened S C M) → Stays w (undone happened)
  undone_stays w (after, events) still = absurd (untrue still)

  trapped_stays : (cause : Cause) (w : World S C M) → Stays w (trapped k p cause w)
  trapped_stays cause w = undone_stays w (reject k p (length (process_levels w p)) cause w)

  open_stays : (facts : Facts) (alternate : ℕ) (q : Process S C) (w : World S C M) → Stays w (open_at k n p facts alternate q w)
  open_stays facts alternate q w still = absurd (untrue still)

  join_stays : (facts : Facts) (q : Process S C) (w : World S C M) (talk : Option Talk) → Stays w (join k n p facts q w talk)
  join_stays facts q w None = waits_stays w
  join_stays facts q w (Some talk) =
      either talk.is_broken w (undone (with_process p (fallen k Broken) w, [])) (open_at k n p facts talk.alternate q w)
      (undone_stays w (with_process p (fallen k Broken) w, [])) (open_stays facts talk.alternate q w)

  entered_stays : (facts : Facts) (conversation : Option ℕ) (q : Process S C) (w : World S C M)
      → Stays w (enter_either k n p facts conversation q w)
  entered_stays facts None q w = open_stays facts 1 q w
  entered_stays facts (Some c) q w = join_stays facts q w (talk_at w c)

  enters_stays : (facts : Facts) (q : Process S C) (w : World S C M) → Stays w (enters k n p facts q w)
  enters_stays facts q w =
      either (nat_le most_levels (length q.levels)) w (trapped k p Depth w) (enter_either k n p facts facts.conversation q w)
      (trapped_stays Depth w) (entered_stays facts facts.conversation q w)

  line_stays : (c : ℕ) (w v : World S C M) → Stays w (at_test_line k c v)
  line_stays c w v =
      either (all_stand k c v) w (passed (Pass c (alternate_of (talk_at v c))) (all_leave k c v)) (took v)
      (λ still. absurd (untrue still)) (took_stays w v)

  held_at_stays : (levels : List (Level C)) (conversation : Option ℕ) (w : World S C M) (one : S × M)
      → Stays w (accepted_at k p levels conversation w one)
  held_at_stays levels None w (s, m) = λ still. absurd (untrue still)
  held_at_stays levels (Some c) w (s, m) = line_stays c w (with_memory m (with_process p (λ _. stands_now s levels) w))

  held_stays : (levels : List (Level C)) (last : Option (Level C)) (w : World S C M) (one : S × M) → Stays w (accepted k p levels last w one)
  held_stays levels None w one = waits_stays w
  held_stays levels (Some level) w one = held_at_stays levels level.facts.conversation w one

  stepped_stays : (alternate : ℕ) (levels : List (Level C)) (w : World S C M) (came : Stepped S M)
      → Stays w (stepped k n p alternate levels w came)
  stepped_stays alternate levels w (Trapped cause) = trapped_stays cause w
  stepped_stays alternate levels w (Went s after) = λ still. absurd (untrue still)
  stepped_stays alternate levels w (Held s) = held_stays levels (last_of levels) w (k.keep n alternate s w.memory)

  steps_stays : (alternate : ℕ) (message : Option ℤ) (q : Process S C) (w : World S C M) → Stays w (steps k n p alternate message q w)
  steps_stays alternate message q w =
      stepped_stays alternate q.levels w (k.step alternate (copy_of (last_of q.levels)) q.state message w.memory)

  receives_stays : (message : Option ℤ) (q : Process S C) (w : World S C M) → Stays w (receives k n p q w message)
  receives_stays None q w = waits_stays w
  receives_stays (Some v) q w = steps_stays 0 (Some v) q w

  acts_stays : (want : Want) (q : Process S C) (w : World S C M) → Stays w (acts k n p q w want)
  acts_stays NothingLeft q w = λ still. refl
  acts_stays (SendsOn c) q w = either (has_room k w c) w (steps k n p 0 None q w) (waits w) (steps_stays 0 None q w) (waits_stays w)
  acts_stays (ReceivesOn c) q w = receives_stays (message_there k w c) q w
  acts_stays (MayReceiveOn c) q w = steps_stays 0 (message_there k w c) q w
  acts_stays (Enters facts) q w = enters_stays facts q w
  acts_stays Starts q w = steps_stays (tried_at (last_of q.levels)) None q w
  acts_stays Acts q w = steps_stays 0 None q w

  bounded_stays : (over : Option ℕ) (q : Process S C) (w : World S C M) → Stays w (bounded k n p q w over)
  bounded_stays (Some j) q w = undone_stays w (reject k p (j + 1) Overrun w)
  bounded_stays None q w = either q.at_line w (waits w) (acts k n p q w (k.want q.state)) (waits_stays w) (acts_stays (k.want q.state) q w)

  by_status_bare : (status : ProcessStatus) (q : Process S C) (w : World S C M) → slice_get w.processes p ≡ Some q
      → is_still (by_status k n p q w status).kind ≡ true
      → IsBare (slice_get (by_status k n p q w status).world.processes p) → IsBare (Some q)
  by_status_bare Running q w here still bare =
      let used : Process S C = turn_used q in
      let counted : World S C M = with_process p (λ _. used) w in
      let same : (runs k n p used w).world ≡ counted = bounded_stays (position is_over used.levels) used counted still in
      let there : slice_get counted.processes p ≡ Some used =
      slice_get-change_at p (λ (_ : Process S C). used) w.processes ∙ ap (option_map (λ (_ : Process S C). used)) here in
      none_used q.levels (subst IsBare there (subst (λ (v : World S C M). IsBare (slice_get v.processes p)) same bare))
  by_status_bare Finished q w here still bare = subst IsBare here bare
  by_status_bare (FailedWith cause) q w here still bare = subst IsBare here bare

  moves_bare : (there : Option (Process S C)) (w : World S C M) → slice_get w.processes p ≡ there
      → is_still (moves k n p w there).kind ≡ true → IsBare (slice_get (moves k n p w there).world.processes p) → IsBare there
  moves_bare None w here still bare = tt
  moves_bare (Some q) w here still bare = by_status_bare q.status q w here still bare

  by_status_waits : (status : ProcessStatus) (q : Process S C) (w : World S C M) → q.status ≡ status
      → (by_status k n p q w status).kind ≡ Wait → OnlyCounted p (Some q) w (by_status k n p q w status).world
  by_status_waits Running q w is waits =
      let used : Process S C = turn_used q in
      record {
        one = q;
        is = refl;
        runs = is;
        counted = bounded_stays (position is_over used.levels) used (with_process p (λ _. used) w) (ap is_still waits);
      }
  by_status_waits Finished q w is waits = absurd (cc)
  by_status_waits (FailedWith cause) q w is waits = absurd (cc)

  moves_wait : (there : Option (Process S C)) (w : World S C M) → (moves k n p w there).kind ≡ Wait
      → OnlyCounted p there w (moves k n p w there).world
  moves_wait None w waits = absurd (cc)
  moves_wait (Some q) w waits = by_status_waits q.status q w refl waits

  -- no more is done in a turn that waits
  pub waits_counted : (w : World S C M) → (move k n p w).kind ≡ Wait → OnlyCounted p (slice_get w.processes p) w (move k n p w).world
  waits_counted w waits = moves_wait (slice_get w.processes p) w waits

  freed_bare : (there : Option (Process S C)) → IsBare (option_map (freed k) there) → IsBare there
  freed_bare None bare = tt
  freed_bare (Some q) bare = bare

-- who has no level after a still turn had none before it
pub bare_before : (c : Code) (groups : List Membership) (n p : ℕ) (w after : WordWorld) (told : Told)
    → (after, told) ≡ turn (word_kind c groups) n p w → is_still told.kind ≡ true
    → IsBare (slice_get after.processes p) → IsBare (slice_get w.processes p)
bare_before c groups n p w after told is still bare =
    let k = word_kind c groups in
    let moved = move k n p w in
    let ended = subst (λ (v : WordWorld). IsBare (slice_get v.processes p)) (ap (λ (pair : WordWorld × Told). pair.0) is) bare in
    moves_bare k n p (slice_get w.processes p) w refl
    (ap (λ (pair : WordWorld × Told). is_still pair.1.kind) (sym is) ∙ still)
    (freed_bare k n p (slice_get moved.world.processes p) (subst IsBare (slice_get-map (freed k) moved.world.processes p) ended))
