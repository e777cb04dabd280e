-- A turn of a process that neither takes anything back nor passes a test line changes no word of its variables but those that its address may
-- store.
use Rattle.std.proofs.Common.{◌≡◌, ℕ, zero, suc, ◌+◌, ◌-◌, ◌<◌, ◌≤◌, ◌^◌, ℤ, pos, Bool, true, false, cond, List, [], ◌∷◌, ◌++◌, drop, length, position, slice_get, slice_index_or, take, ltb-true, ltb-false, nat_lt, unwrap_or, option_map, Option, Some, None, refl, ap, sym, ◌∙◌, subst, arith}
use Rattle.std.specs.Prelude.{nat_le}
use Rattle.std.proofs.lemmas.Option.{slice_get-map, slice_get_past, unwrap_or-slice_get}
use Rattle.rb_base.specs.declared.event.Cause.{Cause}
use Rattle.rb_base.specs.declared.event.Cause.TheVariants.{Overrun, Depth, Broken}
use Rattle.rb_base.specs.declared.event.Event.{Event}
use Rattle.rb_base.specs.declared.event.Event.TheVariants.{Pass}
use Rattle.rb_base.specs.declared.event.TurnKind.TheVariants.{Undone}
use Rattle.rb_base.specs.Limits.{most_words}
use Rattle.rb_base.specs.declared.edition.Edition.{Edition}
use Rattle.rb_base.specs.declared.edition.Edition.TheVariants.{First, Second}
use Rattle.rb_world.specs.Channels.{has_room, message_there}
use Rattle.rb_world.specs.Kind.{Facts, Kind, Membership, Want, NothingLeft, SendsOn, ReceivesOn, MayReceiveOn, Enters, Starts, Acts, Stepped, Trapped, Went, Held}
use Rattle.rb_world.specs.Reject.{Happened, fallen, reject}
use Rattle.rb_world.specs.Turn.{Moved, accepted, accepted_at, acts, all_leave, all_stand, alternate_of, at_test_line, bounded, by_status, enter_either, enters, freed, is_over, join, most_levels, move, moved_to, moves, new_level, open_at, passed, receives, stands_now, stepped, steps, took, state_freed, trapped, tried_at, turn, turn_used, undone, waits}
use Rattle.rb_world.specs.World.{Level, Process, ProcessStatus, Running, Finished, FailedWith, Talk, copy_of, goes_on, last_of, process_levels, settled, talk_at, with_process, without_last}
use Rattle.rb_world.proofs.ListFacts.{none_some, slice_get-change_at, some_same}
use Rattle.rb_world.proofs.Members.PlaceFacts.{slice_get-take}
use Rattle.rb_code.specs.Instructions.Plain.{Code, Part}
use Rattle.rb_code.specs.WordMachine.Workspace.{held_place, no_part, part_of, variables_place}
use Rattle.rb_code.specs.WordMachine.Turn.{Common, Copy, Standing, step, want}
use Rattle.rb_code.specs.WordMachine.WordKind.{word_kind}
use Rattle.rb_code.specs.WordMachine.WordRun.{WordWorld, variable_words, word_run}
use Rattle.rb_code.specs.SoundCode.Sound.{HasTable, Table}
use Rattle.rb_code.specs.SoundCode.Stands.{ServedBut, Stands, StandsAfter}
use Rattle.rb_code.specs.SoundCode.StandsInRuns.{ProcessStands}
use Rattle.rb_code.specs.SoundCode.WellFormed.{IsPart, IsSound, ListsChannels}
use Rattle.rb_code.proofs.Executing.ProcessesStand.{processes_stand, stands_to_step}
use Rattle.rb_code.proofs.Executing.RunSteps.{run_step_stands}
use Rattle.rb_code.proofs.Executing.RunsStand.{runs_stand}
use Rattle.rb_code.proofs.WholeRuns.ProcessesBegin.{all_there}
use Rattle.rb_back.specs.declared.stores.Stores.{Stores}
use Rattle.rb_back.specs.Stores.{AreRanges, MayBeIn, StoresStay}
use Rattle.rb_back.proofs.Storing.StepStores.{HasKept, StepKeeps, place_in, rested_keeps, settling_keeps, step_keeps}
use Rattle.rb_back.proofs.Storing.WordStays.{set_elsewhere}

module _ (c : Code) (groups : List Membership) (t : Table) (has : HasTable c groups t) (lists : ListsChannels c) (ranges : List Stores)
    (are : AreRanges c ranges) (k : ℕ) (low : k < 2 ^ 32 - 1) where
  abbrev Words : Kind Standing Copy Common
  Words = word_kind c groups

  abbrev Kept : Standing → Standing → Type 0
  Kept = HasKept c groups t has lists ranges are k low

  same_kept : (s : Standing) → Kept s s
  same_kept s = record { process = refl; word = refl }

  -- what is kept of a state that has kept it
  then_kept : (s one other : Standing) → Kept s one → Kept one other → Kept s other
  then_kept s one other h i = record {
    process = i.process ∙ h.process;
    word = subst (λ p. slice_get other.words (variables_place (part_of c p) + k) ≡ slice_get one.words (variables_place (part_of c p) + k))
        h.process i.word
        ∙ h.word;
  }

  -- process number p, which counted its turn
  module _ (n p : ℕ) (q : Process Standing Copy) (stands : ProcessStands c t q) (inside : k < (part_of c q.state.process).words)
      (quiet : MayBeIn k (slice_get ranges q.state.at) → ⊥) where
    abbrev So : WordWorld → Type 0
    So w = (r : Process Standing Copy) → slice_get w.processes p ≡ Some r → Kept q.state r.state

    abbrev Stays : Moved Standing Copy Common → Type 0
    Stays moved = (moved.kind ≡ Undone → ⊥) → moved.passes ≡ [] → So moved.world

    either : (b : Bool) (one other : Moved Standing Copy Common) → Stays one → Stays other → Stays (cond b one other)
    either true one other h i = h
    either false one other h i = i

    changed_so : (one : Process Standing Copy) (w : WordWorld) → Kept q.state one.state → So (with_process p (λ _. one) w)
    changed_so one w h r there = by (slice_get w.processes p) (sym (slice_get-change_at p (λ _. one) w.processes) ∙ there)
      where
        by : (o : Option (Process Standing Copy)) → option_map (λ _. one) o ≡ Some r → Kept q.state r.state
        by None e = absurd (none_some e)
        by (Some old) e = subst (λ (x : Process Standing Copy). Kept q.state x.state) (some_same e) h

    undone_so : (happened : Happened Standing Copy Common) → Stays (undone happened)
    undone_so (w, events) other none = absurd (other refl)

    trapped_so : (cause : Cause) (w : WordWorld) → Stays (trapped Words p cause w)
    trapped_so cause w = undone_so (reject Words p (length (process_levels w p)) cause w)

    no_pass : (event : Event) → event ∷ [] ≡ [] → ⊥
    no_pass event e = cc

    -- an entry
    open_so : (facts : Facts) (alternate : ℕ) (w : WordWorld) → Stays (open_at Words n p facts alternate q w)
    open_so facts alternate w other none =
        let s = (Words.keep n 0 (Words.enter q.state) w.memory).0 in
        changed_so (goes_on Words s (q.levels ++ new_level Words facts alternate s ∷ [])) w (record { process = refl; word = refl })

    join_so : (facts : Facts) (w : WordWorld) (talk : Option Talk) → So w → Stays (join Words n p facts q w talk)
    join_so facts w None h = λ _ _. h
    join_so facts w (Some talk) h =
        either talk.is_broken (undone (with_process p (fallen Words Broken) w, [])) (open_at Words n p facts talk.alternate q w)
        (undone_so (with_process p (fallen Words Broken) w, [])) (open_so facts talk.alternate w)

    entered_so : (facts : Facts) (conversation : Option ℕ) (w : WordWorld) → So w → Stays (enter_either Words n p facts conversation q w)
    entered_so facts None w h = open_so facts 1 w
    entered_so facts (Some d) w h = join_so facts w (talk_at w d) h

    enters_so : (facts : Facts) (w : WordWorld) → So w → Stays (enters Words n p facts q w)
    enters_so facts w h =
        either (nat_le most_levels (length q.levels)) (trapped Words p Depth w) (enter_either Words n p facts facts.conversation q w)
        (trapped_so Depth w) (entered_so facts facts.conversation w h)

    -- a step
    module _ (running : q.status ≡ Running) (away : q.at_line ≡ false) (alternate : ℕ) (message : Option ℤ)
        (served : ServedBut (want c q.state) message) (w : WordWorld) (here : So w) where
      to_step : Stands c t q.state q.levels
      to_step = stands_to_step c groups t has lists q stands running away

      abbrev came : Stepped Standing Common
      came = step c alternate (copy_of (last_of q.levels)) q.state message w.memory

      went_so : (s : Standing) (m : Common) → StandsAfter c t q.state q.levels (Went s m) → StepKeeps c groups t has lists ranges are k low q.state (Went s m)
          → So (moved_to Words p q.levels w (Words.keep n alternate s m))
      went_so s m after h =
          changed_so (settled Words (record s { last_kept = n }) q.levels) w
          (then_kept q.state s _ h (rested_keeps c groups t has lists ranges are k low s n (copy_of (last_of q.levels)) after.rests))

      line_so : (d : ℕ) (v : WordWorld) → So v → Stays (at_test_line Words d v)
      line_so d v h =
          either (all_stand Words d v) (passed (Pass d (alternate_of (talk_at v d))) (all_leave Words d v)) (took v)
          (λ _ e. absurd (no_pass (Pass d (alternate_of (talk_at v d))) e)) (λ _ _. h)

      held_so : (s : Standing) → StandsAfter c t q.state q.levels (Held s) → StepKeeps c groups t has lists ranges are k low q.state (Held s)
          → (conversation : Option ℕ) → Stays (accepted_at Words p q.levels conversation w (Words.keep n alternate s w.memory))
      held_so s after h None other none =
          changed_so (settled Words (Words.accept (record s { last_kept = n })) (without_last q.levels)) w
          (then_kept q.state (Words.accept s) _
          (record { process = h.0.process; word = h.0.word })
          (settling_keeps c groups t has lists ranges are k low (Words.accept s) n (without_last q.levels) after.1
          (subst (λ x. k < (part_of c x).words) (sym h.0.process) inside) h.1))
      held_so s after h (Some d) other none =
          line_so d (record (with_process p (λ _. stands_now (record s { last_kept = n }) q.levels) w) { memory = (Words.keep n alternate s w.memory).1 })
          (changed_so (stands_now (record s { last_kept = n }) q.levels) w (record { process = h.0.process; word = h.0.word })) other none

      accepted_so : (s : Standing) → StandsAfter c t q.state q.levels (Held s) → StepKeeps c groups t has lists ranges are k low q.state (Held s)
          → (level : Option (Level Copy)) → Stays (accepted Words p q.levels level w (Words.keep n alternate s w.memory))
      accepted_so s after h None other none = here
      accepted_so s after h (Some level) other none = held_so s after h level.facts.conversation other none

      stepped_so : (o : Stepped Standing Common) → StandsAfter c t q.state q.levels o → StepKeeps c groups t has lists ranges are k low q.state o
          → Stays (stepped Words n p alternate q.levels w o)
      stepped_so (Trapped cause) after h = trapped_so cause w
      stepped_so (Went s m) after h = λ _ _. went_so s m after h
      stepped_so (Held s) after h = accepted_so s after h (last_of q.levels)

      steps_so : Stays (steps Words n p alternate message q w)
      steps_so =
          stepped_so came
          (run_step_stands c groups t has lists q.state q.levels to_step alternate message served w.memory)
          (step_keeps c groups t has lists ranges are k low q.state q.levels to_step inside quiet alternate message served w.memory)

    module _ (running : q.status ≡ Running) (away : q.at_line ≡ false) (w : WordWorld) (here : So w) where
      receives_so : (message : Option ℤ) → ((v : ℤ) → ServedBut (want c q.state) (Some v)) → Stays (receives Words n p q w message)
      receives_so None served = λ _ _. here
      receives_so (Some v) served = steps_so running away 0 (Some v) (served v) w here

      acts_so : (wants : Want) → want c q.state ≡ wants → Stays (acts Words n p q w wants)
      acts_so NothingLeft e = λ _ _. here
      acts_so (SendsOn channel) e =
          either (has_room Words w channel) (steps Words n p 0 None q w) (waits w)
          (steps_so running away 0 None (subst (λ x. ServedBut x None) (sym e) tt) w here) (λ _ _. here)
      acts_so (ReceivesOn channel) e =
          receives_so (message_there Words w channel) (λ v. subst (λ x. ServedBut x (Some v)) (sym e) tt)
      acts_so (MayReceiveOn channel) e =
          steps_so running away 0 (message_there Words w channel) (subst (λ x. ServedBut x (message_there Words w channel)) (sym e) tt) w here
      acts_so (Enters facts) e = enters_so facts w here
      acts_so Starts e =
          steps_so running away (tried_at (last_of q.levels)) None (subst (λ x. ServedBut x None) (sym e) tt) w here
      acts_so Acts e = steps_so running away 0 None (subst (λ x. ServedBut x None) (sym e) tt) w here

    at_line_so : q.status ≡ Running → (w : WordWorld) → So w → (line : Bool) → q.at_line ≡ line
        → Stays (cond line (waits w) (acts Words n p q w (want c q.state)))
    at_line_so running w here true e = λ _ _. here
    at_line_so running w here false e = acts_so running e w here (want c q.state) refl

    bounded_so : q.status ≡ Running → (w : WordWorld) → So w → (over : Option ℕ) → Stays (bounded Words n p q w over)
    bounded_so running w here (Some j) = undone_so (reject Words p (j + 1) Overrun w)
    bounded_so running w here None = at_line_so running w here q.at_line refl

  -- a turn of process number p, before held lines are released
  module _ (n p : ℕ) (w : WordWorld) (q : Process Standing Copy) (there : slice_get w.processes p ≡ Some q) (stands : ProcessStands c t q)
      (inside : k < (part_of c q.state.process).words) (quiet : MayBeIn k (slice_get ranges q.state.at) → ⊥) where
    abbrev Then : Moved Standing Copy Common → Type 0
    Then = Stays n p q stands inside quiet

    idle_so : So n p q stands inside quiet w
    idle_so r is = subst (λ (x : Process Standing Copy). Kept q.state x.state) (some_same (sym there ∙ is)) (same_kept q.state)

    status_so : (status : ProcessStatus) → q.status ≡ status → Then (by_status Words n p q w status)
    status_so Running e =
        let used = turn_used q in
        let counted = (processes_stand c groups t has lists).counts p q stands in
        bounded_so n p used counted inside quiet e (with_process p (λ _. used) w)
        (changed_so n p used counted inside quiet used w (same_kept q.state)) (position is_over used.levels)
    status_so Finished e = λ _ _. idle_so
    status_so (FailedWith cause) e = λ _ _. idle_so

    moves_so : (o : Option (Process Standing Copy)) → slice_get w.processes p ≡ o → Then (moves Words n p w o)
    moves_so None e = absurd (none_some (sym e ∙ there))
    moves_so (Some one) e =
        subst (λ (x : Process Standing Copy). Then (by_status Words n p x w x.status)) (some_same (sym there ∙ e)) (status_so q.status refl)

    pub moved_so : Then (move Words n p w)
    moved_so = moves_so (slice_get w.processes p) refl

    -- and once they were
    freed_kept : (s : Standing) (levels : List (Level Copy)) → Kept q.state s → Kept q.state (state_freed Words s levels)
    freed_kept s [] h = record {
      process = h.process;
      word = set_elsewhere s.words held_place (pos 0) (place_in c groups t has lists ranges are k low q.state.process) (λ e. omega (arith, e)) ∙ h.word;
    }
    freed_kept s (level ∷ levels) h = h

    pub turned_so : ((move Words n p w).kind ≡ Undone → ⊥) → (move Words n p w).passes ≡ [] → (r : Process Standing Copy)
        → slice_get (turn Words n p w).0.processes p ≡ Some r → Kept q.state r.state
    turned_so other none r is =
        by (slice_get (move Words n p w).world.processes p) refl (sym (slice_get-map (freed Words) (move Words n p w).world.processes p) ∙ is)
      where
        by : (o : Option (Process Standing Copy)) → slice_get (move Words n p w).world.processes p ≡ o → option_map (freed Words) o ≡ Some r
            → Kept q.state r.state
        by None e f = absurd (none_some f)
        by (Some one) e f =
            subst (λ (x : Process Standing Copy). Kept q.state x.state) (some_same f)
            (freed_kept one.state one.levels (moved_so other none one e))

-- variables of a process are all but the words before them and those behind
get_drop : (xs : List ℤ) (d n : ℕ) → slice_get (drop d xs) n ≡ slice_get xs (d + n)
get_drop xs zero n = ap (slice_get xs) {x = n} {y = 0 + n} (omega arith)
get_drop [] (suc d) n = refl
get_drop (x ∷ xs) (suc d) n = get_drop xs d n ∙ ap (slice_get (x ∷ xs)) {x = suc (d + n)} {y = suc d + n} (omega arith)

front_short : (many : ℕ) (xs : List ℤ) → length (take many xs) ≤ many
front_short zero xs = omega arith
front_short (suc many) [] = omega arith
front_short (suc many) (x ∷ xs) = omega (arith, front_short many xs)

same_words : (xs ys : List ℤ) (d many n : ℕ) → (n < many → slice_get ys (d + n) ≡ slice_get xs (d + n))
    → slice_index_or (take many (drop d xs)) n (pos 0) ≡ slice_index_or (take many (drop d ys)) n (pos 0)
same_words xs ys d many n same =
    sym (unwrap_or-slice_get (take many (drop d xs)) n (pos 0)) ∙ ap (λ (o : Option ℤ). unwrap_or o (pos 0)) (by (nat_lt n many) refl)
    ∙ unwrap_or-slice_get (take many (drop d ys)) n (pos 0)
  where
    front : n < many → (zs : List ℤ) → slice_get (take many (drop d zs)) n ≡ slice_get zs (d + n)
    front less zs = slice_get-take many (drop d zs) n less ∙ get_drop zs d n

    past : many ≤ n → (zs : List ℤ) → slice_get (take many (drop d zs)) n ≡ None
    past more zs = slice_get_past (take many (drop d zs)) n (omega (arith, more, front_short many (drop d zs)))

    by : (b : Bool) → nat_lt n many ≡ b → slice_get (take many (drop d xs)) n ≡ slice_get (take many (drop d ys)) n
    by true e = let less = ltb-true n many e in front less xs ∙ sym (same less) ∙ sym (front less ys)
    by false e = let more = ltb-false n many e in past more xs ∙ sym (past more ys)

few_words : (edition : Edition) (n : ℕ) → n ≤ most_words edition → n < 2 ^ 32 - 1
few_words First n few = omega (arith, few)
few_words Second n few = omega (arith, few)

-- no process has more words than 32 bits number
few_of : (c : Code) (groups : List Membership) (counts : List ℕ) → IsSound c groups counts → (p : ℕ) → (part_of c p).words < 2 ^ 32 - 1
few_of c groups counts sound p = by (slice_get c.processes p) refl
  where
    by : (o : Option Part) → slice_get c.processes p ≡ o → (unwrap_or o no_part).words < 2 ^ 32 - 1
    by None e = omega arith
    by (Some part) e = few_words c.edition part.words (all_there (IsPart c) c.processes p part sound.well.processes e).words

-- so a variable's word is the same
same_variable : (c : Code) (s later : Standing) (k : ℕ) → later.process ≡ s.process
    → slice_get later.words (variables_place (part_of c s.process) + k) ≡ slice_get s.words (variables_place (part_of c s.process) + k)
    → slice_index_or (variable_words c s) k (pos 0) ≡ slice_index_or (variable_words c later) k (pos 0)
same_variable c s later k process word =
    same_words s.words later.words (variables_place (part_of c s.process)) (part_of c s.process).words k (λ less. word)
    ∙ ap (λ p. slice_index_or (take (part_of c p).words (drop (variables_place (part_of c p)) later.words)) k (pos 0)) (sym process)

pub stores_stay : StoresStay
stores_stay c groups counts sound ranges are turns p q r there after other none k within quiet =
    let part = part_of c q.state.process in
    let inside : k < part.words =
    omega (arith, within, front_short part.words (drop (variables_place part) q.state.words)) in
    let low : k < 2 ^ 32 - 1 = let few = few_of c groups counts sound q.state.process in omega (arith, few, inside) in
    let kept = turned_so c groups sound.table sound.has sound.well.lists ranges are k low (length turns + 1) p (word_run c groups turns).0 q there
    (runs_stand c groups sound.table sound.has sound.well.lists turns p q there) inside quiet other none r after in
    same_variable c q.state r.state k kept.process kept.word
