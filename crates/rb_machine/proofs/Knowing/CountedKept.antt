-- Before turn number t every level has used fewer than t turns, every cursor is below t, and none has fallen since a level was entered: an
-- invariant, under one of each process by which it has its number and stands in the table.
use Rattle.std.proofs.Common.{◌≡◌, ℕ, ◌+◌, ℤ, Bool, true, false, cond, List, [], map, Option, refl, ap, sym, ◌∙◌, subst, arith}
use Rattle.rb_cache.specs.Copies.{accepted}
use Rattle.rb_world.specs.Kind.{Kind, Membership, Went, Held}
use Rattle.rb_world.specs.Reject.{fallen, fallen_inside, put_back, raised, where_inside}
use Rattle.rb_world.specs.Standing.{Each}
use Rattle.rb_world.specs.Turn.{freed, is_last_of, leaves, stands_at, stands_now, turn, turn_used}
use Rattle.rb_world.specs.World.{Level, Process, ProcessStatus, Running, Finished, FailedWith, change_at, copy_of, last_of, settled, status_at, without_last}
use Rattle.rb_world.proofs.Keeping.EachProcess.{KeepsEach, each_kept, settled_each}
use Rattle.rb_world.proofs.Keeping.Induction.{turn-keeps}
use Rattle.rb_world.proofs.Keeping.Invariant.{IsInvariantUnder, both_kept}
use Rattle.rb_world.proofs.ListFacts.{Each-change_at, Each-map, first_holds, none_some}
use Rattle.rb_world.proofs.TurnFacts.{IsReady, StepsAt, ToSend, ToReceive, ToReceiveIfThere, ToStart, ToAct}
use Rattle.rb_code.specs.WordMachine.Workspace.{body_place, cursor_place, part_of}
use Rattle.rb_code.specs.Instructions.Plain.{Code, Part}
use Rattle.rb_code.specs.SoundCode.Safe.{IsThere}
use Rattle.rb_code.specs.SoundCode.Sound.{HasTable, Table}
use Rattle.rb_code.specs.SoundCode.Stands.{ServedBut, Settles, Stands, StandsAfter}
use Rattle.rb_code.specs.SoundCode.StandsInRuns.{ProcessStands, StandsNow}
use Rattle.rb_code.specs.WordMachine.Turn.{Common, Copy, Standing, settle, step, want}
use Rattle.rb_code.specs.SoundCode.WellFormed.{ListsChannels}
use Rattle.rb_code.specs.WordMachine.WordKind.{entered_at, word_kind}
use Rattle.rb_code.specs.WordMachine.WordRun.{WordWorld, opening_of, opening_standing, opening_standings}
use Rattle.rb_code.proofs.Executing.ProcessesStand.{processes_stand, stands_to_step}
use Rattle.rb_code.proofs.Executing.RunSteps.{run_step_stands}
use Rattle.rb_code.proofs.Executing.SoundSteps.{standing_has_settled}
use Rattle.rb_code.proofs.Executing.StandsAgain.{opening_settles, settles_like, stands_like}
use Rattle.rb_code.proofs.WholeRuns.ProcessesBegin.{zero_there}
use Rattle.rb_meaning.specs.Environment.{natural}
use Rattle.rb_recovery.specs.Known.{CursorsBelow, IsBelow, IsCounted}
use Rattle.rb_recovery.specs.Rising.{NoneFalls, RiseAfter}
use Rattle.rb_machine.proofs.Knowing.CountsBelow.{back_below, cursors_same, entered_below, fallen_below, fallen_inside_below, freed_below, inside_below, left_below, moved_below, none_falls, none_rises, raised_below, same_falls, used_below, weaker}
use Rattle.rb_machine.proofs.Beginning.FirstProcesses.{opens_at}
use Rattle.rb_machine.proofs.Knowing.RunsRise.{run_step_rises}
use Rattle.rb_machine.proofs.Knowing.StepsRise.{settle_keeps}

module _ (c : Code) (groups : List Membership) (table : Table) (has : HasTable c groups table) (lists : ListsChannels c) where
  abbrev Words : Kind Standing Copy Common
  Words = word_kind c groups

  -- settling leaves cursors as they are
  settled_cursors : (p messages : ℕ) (s : Standing) (levels : List (Level Copy)) → s.process ≡ p → Settles c table s levels
      → CursorsBelow c p messages s.words → CursorsBelow c p messages (settle c (copy_of (last_of levels)) s).words
  settled_cursors p messages s levels number settles h =
      subst (λ n. CursorsBelow c n messages (settle c (copy_of (last_of levels)) s).words) number
      (cursors_same c s.process messages s.words (settle c (copy_of (last_of levels)) s).words
      (settle_keeps c groups table has lists s levels settles) (subst (λ n. CursorsBelow c n messages s.words) (sym number) h))

  settling_on : (p : ℕ) (s : Standing) (levels : List (Level Copy)) → s.process ≡ p → Settles c table s levels
      → NoneFalls c p s.words (settle c (copy_of (last_of levels)) s).words
  settling_on p s levels number settles =
      subst (λ n. NoneFalls c n s.words (settle c (copy_of (last_of levels)) s).words) number
      (same_falls c s.process s.words (settle c (copy_of (last_of levels)) s).words (settle_keeps c groups table has lists s levels settles))

  -- a world serves a step
  served : (q : Process Standing Copy) (w : WordWorld) (message : Option ℤ) → IsReady Words q w message → ServedBut (want c q.state) message
  served q w message (ToSend channel wants room none) = subst (λ one. ServedBut one message) (sym wants) tt
  served q w message (ToReceive channel v wants there is) =
      subst (λ one. ServedBut one message) (sym wants) (subst IsThere (sym is) tt)
  served q w message (ToReceiveIfThere channel wants is) = subst (λ one. ServedBut one message) (sym wants) tt
  served q w message (ToStart wants none) = subst (λ one. ServedBut one message) (sym wants) tt
  served q w message (ToAct wants none) = subst (λ one. ServedBut one message) (sym wants) tt

  -- a process steps in turn number n
  module _ (n p : ℕ) (q : Process Standing Copy) (w : WordWorld) (alternate : ℕ) (message : Option ℤ) (number : q.state.process ≡ p)
      (stands : ProcessStands c table q) (at : StepsAt Words p q w alternate message) (h : IsBelow c (n + 1) n p q) where
    here : Stands c table q.state q.levels
    here = stands_to_step c groups table has lists q stands at.acts.runs.running at.acts.away

    step_stands : StandsAfter c table q.state q.levels (step c alternate (copy_of (last_of q.levels)) q.state message w.memory)
    step_stands =
        run_step_stands c groups table has lists q.state q.levels here alternate message (served q w message at.ready) w.memory

    step_rises : RiseAfter c q.state (step c alternate (copy_of (last_of q.levels)) q.state message w.memory)
    step_rises = run_step_rises c groups table has lists q.state q.levels here alternate message (served q w message at.ready) w.memory

    later : IsBelow c (n + 1) (n + 1) p q
    later = weaker c (n + 1) (n + 1) n (n + 1) p q (omega arith) (omega arith) h

    -- it went on, and has settled
    went : (s : Standing) (m : Common) → step c alternate (copy_of (last_of q.levels)) q.state message w.memory ≡ Went s m
        → IsBelow c (n + 1) (n + 1) p (settled Words (record s { last_kept = n }) q.levels)
    went s m e =
        let kept : Standing = record s { last_kept = n } in
        let rests : Stands c table kept q.levels =
        stands_like c table s q.levels q.levels s.words n s.held s.touched refl refl refl
        (subst (StandsAfter c table q.state q.levels) e step_stands) in
        let same : settle c (copy_of (last_of q.levels)) kept ≡ kept =
        standing_has_settled c groups kept q.levels (record { table = table; has = has; lists = lists; stands = rests }) in
        let rise : RiseAfter c q.state (Went s m) = subst (RiseAfter c q.state) e step_rises in
        moved_below c groups (n + 1) (n + 1) p (settle c (copy_of (last_of q.levels)) kept) false
        (status_at (want c (settle c (copy_of (last_of q.levels)) kept))) q
        (subst (λ (x : Standing). CursorsBelow c p (n + 1) x.words) (sym same) (risen rise))
        (subst (λ (x : Standing). NoneFalls c p q.state.words x.words) (sym same) (onward rise)) later
      where
        risen : RiseAfter c q.state (Went s m) → CursorsBelow c p (n + 1) s.words
        risen rise = subst (λ i. CursorsBelow c i (n + 1) s.words) number
            (λ channel among. omega (arith, rise.0 channel among, subst (λ i. CursorsBelow c i n q.state.words) (sym number) h.cursors channel among))

        onward : RiseAfter c q.state (Went s m) → NoneFalls c p q.state.words s.words
        onward rise = subst (λ i. NoneFalls c i q.state.words s.words) number rise.1

    -- its acceptance test held
    module _ (s : Standing) (e : step c alternate (copy_of (last_of q.levels)) q.state message w.memory ≡ Held s) where
      same_words : CursorsBelow c p (n + 1) s.words
      same_words = subst (CursorsBelow c p (n + 1)) (sym (subst (RiseAfter c q.state) e step_rises)) later.cursors

      onward : NoneFalls c p q.state.words s.words
      onward = subst (NoneFalls c p q.state.words) (sym (subst (RiseAfter c q.state) e step_rises)) (λ channel among. omega arith)

      stood : IsBelow c (n + 1) (n + 1) p (stands_now (record s { last_kept = n }) q.levels)
      stood = moved_below c groups (n + 1) (n + 1) p (record s { last_kept = n }) true Running q same_words onward later

      accepted_below : IsBelow c (n + 1) (n + 1) p (settled Words (record s { last_kept = n; touched = accepted s.touched }) (without_last q.levels))
      accepted_below =
          let after : StandsAfter c table q.state q.levels (Held s) = subst (StandsAfter c table q.state q.levels) e step_stands in
          let kept : Standing = record s { last_kept = n; touched = accepted s.touched } in
          let settles : Settles c table kept (without_last q.levels) =
          settles_like c table (record s { touched = accepted s.touched }) (without_last q.levels) (without_last q.levels) s.words n s.held
          (accepted s.touched) refl refl refl after.1 in
          let state : Standing = settle c (copy_of (last_of (without_last q.levels))) kept in
          let own : kept.process ≡ p = ap (λ (x : Standing). x.process) after.0 ∙ number in
          left_below c groups (n + 1) (n + 1) p state false (status_at (want c state)) q
          (settled_cursors p (n + 1) kept (without_last q.levels) own settles same_words)
          (none_falls c p q.state.words s.words state.words onward (settling_on p kept (without_last q.levels) own settles)) later

  -- who stands at a test line leaves it
  leaves_below : (turns messages p d : ℕ) (q : Process Standing Copy) → q.state.process ≡ p → ProcessStands c table q → IsBelow c turns messages p q
      → (there : Bool) → stands_at d q ≡ there
      → IsBelow c turns messages p (cond there (settled Words (record q.state { touched = accepted q.state.touched }) (without_last q.levels)) q)
  leaves_below turns messages p d q number stands h false e = h
  leaves_below turns messages p d q number stands h true e =
      left_below c groups turns messages p state false (status_at (want c state)) q
      (settled_cursors p messages left (without_last q.levels) number settles h.cursors) (settling_on p left (without_last q.levels) number settles) h
    where
      left : Standing
      left = record q.state { touched = accepted q.state.touched }

      state : Standing
      state = settle c (copy_of (last_of (without_last q.levels))) left

      true_false : true ≡ false → ⊥
      true_false e = cc

      by : (one : ProcessStatus) → StandsNow c table one true q.state q.levels → Settles c table left (without_last q.levels)
      by Running k = k
      by Finished k = k
      by (FailedWith cause) k = absurd (true_false k)

      settles : Settles c table left (without_last q.levels)
      settles =
          by q.status
          (subst (λ line. StandsNow c table q.status line q.state q.levels)
          (first_holds q.at_line (is_last_of d (last_of q.levels)) e) stands.now)

  -- under an invariant by which each process has its number and stands
  module _ (P : ℕ → Process Standing Copy → Type 0)
      (known : (p : ℕ) (q : Process Standing Copy) → P p q → (q.state.process ≡ p) × ProcessStands c table q) where
    -- within turn number t, once its process has counted it
    abbrev pub Within : ℕ → ℕ → Process Standing Copy → Type 0
    Within t p q = IsBelow c (t + 1) t p q

    abbrev After : ℕ → ℕ → Process Standing Copy → Type 0
    After t p q = IsCounted c (t + 1) p q

    after_within : (t p : ℕ) (q : Process Standing Copy) → Within t p q → After t p q
    after_within t p q h = weaker c (t + 1) (t + 1) t (t + 1) p q (omega arith) (omega arith) h

    all_after : (t : ℕ) (w : WordWorld) → Each (Within t) w.processes → Each (After t) w.processes
    all_after t w h p q e = after_within t p q (h p q e)

    -- one process is changed, and all that are inside a conversation
    one_after : (t p : ℕ) (q : Process Standing Copy) (w : WordWorld) → Each (Within t) w.processes → After t p q
        → Each (After t) (change_at p (λ _. q) w.processes)
    one_after t p q w h new = Each-change_at (After t) p (λ _. q) w.processes (all_after t w h) (λ _ _. new)

    all_back_within : (t d : ℕ) (w : WordWorld) → Each (Within t) w.processes → Each (Within t) (map (where_inside (put_back Words) d) w.processes)
    all_back_within t d w h =
        Each-map (Within t) (where_inside (put_back Words) d) w.processes h
        (λ r q _. inside_below c groups (t + 1) t r (put_back Words) (back_below c groups (t + 1) t r) d q)

    -- all leave a test line
    all_leave_after : (t p d : ℕ) (q : Process Standing Copy) (w : WordWorld) (alternate : ℕ) (message : Option ℤ) (s : Standing)
        → Each P w.processes → Each (Within t) w.processes → StepsAt Words p q w alternate message
        → step c alternate (copy_of (last_of q.levels)) q.state message w.memory ≡ Held s
        → Each (After t) (map (leaves Words d) (change_at p (λ _. stands_now (record s { last_kept = t }) q.levels) w.processes))
    all_leave_after t p d q w alternate message s placed h at e =
        let there = at.acts.runs.there in
        let mine = known p q (placed p q there) in
        let new : Process Standing Copy = stands_now (record s { last_kept = t }) q.levels in
        let stands = (processes_stand c groups table has lists).stands t p q w alternate message s mine.1 at e in
        let own : new.state.process ≡ p =
        let held = subst (StandsAfter c table q.state q.levels) e (step_stands t p q w alternate message mine.0 mine.1 at (h p q there)) in
        ap (λ (x : Standing). x.process) held.0 ∙ mine.0 in
        let below = one_after t p new w h (stood t p q w alternate message mine.0 mine.1 at (h p q there) s e) in
        let known_there : Each (λ r x. (x.state.process ≡ r) × ProcessStands c table x) (change_at p (λ _. new) w.processes) =
        Each-change_at (λ r x. (x.state.process ≡ r) × ProcessStands c table x) p (λ _. new) w.processes (λ r x is. known r x (placed r x is))
        (λ _ _. (own, stands)) in
        Each-map (After t) (leaves Words d) (change_at p (λ _. new) w.processes) below
        (λ r x is after. let k = known_there r x is in leaves_below (t + 1) (t + 1) r d x k.0 k.1 after (stands_at d x) refl)

    -- all laws of the invariant
    pub counted_kept : IsInvariantUnder Words (λ _ _ w. Each P w.processes) (λ _ _ _ _ w. Each P w.processes) (λ _ _ w. Each P w.processes)
        (λ t _ w. Each (IsCounted c t) w.processes) (λ t _ _ _ w. Each (Within t) w.processes) (λ t _ w. Each (IsCounted c (t + 1)) w.processes)
    counted_kept = record {
      rests = λ t past w h p q e. weaker c t (t + 1) t (t + 1) p q (omega arith) (omega arith) (h.1 p q e);
      uses = λ t past p q w h r. Each-change_at (Within t) p (λ _. turn_used q) w.processes
          (λ i x e. weaker c t (t + 1) t t i x (omega arith) (omega arith) (h.1 i x e))
          (λ _ _. used_below c groups t t p q (h.1 p q r.there));
      overruns = λ t past p q w j h r e. h.1;
      waits = λ t past p q w h r e. all_after t w h.1;
      goes = λ t past p q w a v s m h at e.
          let there = at.acts.runs.there in
          let mine = known p q (h.0 p q there) in
          one_after t p (settled Words (record s { last_kept = t }) q.levels) w h.1 (went t p q w a v mine.0 mine.1 at (h.1 p q there) s m e);
      opens = λ t past p q w facts a h at.
          one_after t p _ w h.1 (entered_below c groups (t + 1) (t + 1) p (omega arith) (record (entered_at q.state) { last_kept = t }) facts a q refl
          (all_after t w h.1 p q at.acts.runs.there));
      accepts = λ t past p q w a v s l h at e _ _.
          let there = at.acts.runs.there in
          let mine = known p q (h.0 p q there) in
          one_after t p _ w h.1 (accepted_below t p q w a v mine.0 mine.1 at (h.1 p q there) s e);
      stands = λ t past p q w a v s l d h at e _ _ _.
          let there = at.acts.runs.there in
          let mine = known p q (h.0 p q there) in
          one_after t p (stands_now (record s { last_kept = t }) q.levels) w h.1 (stood t p q w a v mine.0 mine.1 at (h.1 p q there) s e);
      leaves = λ t past p q w a v s l d h at e _ _ _. all_leave_after t p d q w a v s h.0 h.1 at e;
      falls = λ t past p q w left cause h r why.
          Each-change_at (After t) p (fallen Words cause) w.processes (all_after t w h.1)
          (λ x e. fallen_below c groups (t + 1) (t + 1) p cause x (all_after t w h.1 p x e));
      tries_next = λ t past p q w j l h r x y.
          let back = Each-change_at (Within t) p (put_back Words j) w.processes h.1 (λ z e. back_below c groups (t + 1) t p j z (h.1 p z e)) in
          Each-change_at (After t) p (raised j) (change_at p (put_back Words j) w.processes)
          (λ i z e. after_within t i z (back i z e))
          (λ z e. raised_below c groups (t + 1) (t + 1) p (omega arith) j z (after_within t p z (back p z e)));
      is_spent = λ t past p q w j l h r x y.
          Each-change_at (Within t) p (put_back Words j) w.processes h.1 (λ z e. back_below c groups (t + 1) t p j z (h.1 p z e));
      all_try_next = λ t past p q w j l d h r x y i z e.
          after_within t i z
          (Each-map (Within t) (where_inside raised d) (map (where_inside (put_back Words) d) w.processes) (all_back_within t d w h.1)
          (λ r' u _. inside_below c groups (t + 1) t r' raised (raised_below c groups (t + 1) t r' (omega arith)) d u) i z e);
      all_are_spent = λ t past p q w j l d parent h r x y z. all_back_within t d w h.1;
      breaks = λ t past p q w j l d h r x y z i u e.
          after_within t i u
          (Each-map (Within t) (fallen_inside Words d) (map (where_inside (put_back Words) d) w.processes) (all_back_within t d w h.1)
          (λ r' o _. fallen_inside_below c groups (t + 1) t r' d o) i u e);
      is_gone = λ t past p q w j h r e. all_after t w h.1;
      releases = λ t past w one h e. Each-map (After t) (freed Words) w.processes h.1 (λ r q _. freed_below c groups (t + 1) (t + 1) r q);
    }

    -- so a turn keeps it, where a turn keeps what is known of each process
    pub counted_turn : KeepsEach Words P → (t p : ℕ) (w : WordWorld) → Each P w.processes → Each (IsCounted c t) w.processes
        → Each (IsCounted c (t + 1)) (turn Words t p w).0.processes
    counted_turn keeps t p w placed h = (turn-keeps (both_kept (each_kept keeps) counted_kept) t [] p w (placed, h)).1

  zero_below : (p : ℕ) (part : Part) → CursorsBelow c p 1 (opening_standing p part).words
  zero_below p part channel among =
      let is = ap natural (zero_there (body_place part) (cursor_place (part_of c p) channel)) in omega arith

  -- in the opening no level is open, and all cursors are 0
  pub opening_counted : Each (IsCounted c 1) (opening_of c groups).processes
  opening_counted =
      settled_each Words (IsCounted c 1) (opening_standings 0 c.processes)
      (λ r s e.
      let h = opens_at 0 r c.processes s e in
      let is : s ≡ opening_standing r h.0 = h.2 ∙ ap (λ n. opening_standing n h.0) (omega arith) in
      subst (λ (x : Standing). IsCounted c 1 r (settled Words x [])) (sym is) (record {
        used = λ i level none. absurd (none_some none);
        cursors = settled_cursors r 1 (opening_standing r h.0) [] refl (opening_settles c table groups has r h.0 h.1) (zero_below r h.0);
        copied = λ i level none. absurd (none_some none);
        rising = none_rises c r (settle c (copy_of (last_of [])) (opening_standing r h.0)).words;
      }))
