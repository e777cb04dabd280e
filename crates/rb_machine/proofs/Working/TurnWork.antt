-- The ticks of a turn: those of its move, and of the release behind it; and none at all of an entry that is kept.
use Rattle.std.proofs.Common.{◌≡◌, ◌+◌, ◌*◌, ◌≤◌, ℕ, Bool, true, false, cond, List, [], ◌∷◌, ◌++◌, length, map, position, slice_get, Option, Some, None, refl, ap, sym, ◌∙◌, true≢false, arith}
use Rattle.std.specs.Prelude.{nat_le}
use Rattle.std.proofs.lemmas.List.Sums.{sum_by-cons}
use Rattle.rb_base.specs.declared.event.Cause.TheVariants.{Broken, Depth, Overrun}
use Rattle.rb_base.specs.declared.event.TurnKind.{TurnKind}
use Rattle.rb_world.specs.Kind.{Facts, Kind, Membership, Want, NothingLeft, SendsOn, ReceivesOn, MayReceiveOn, Enters, Starts, Acts}
use Rattle.rb_world.specs.Reject.{Happened, fallen, reject}
use Rattle.rb_world.specs.Turn.{Moved, acts, bounded, by_status, enter_either, enters, freed_lines, is_over, join, lines_freed, most_levels, move, moves, new_level, one_used, open_at, opened, trapped, turn_used, undone, waits}
use Rattle.rb_world.specs.World.{Level, Process, ProcessStatus, Running, Finished, FailedWith, Talk, goes_on, process_levels, talk_at, with_process}
use Rattle.rb_world.proofs.ListFacts.{first_holds, second_holds}
use Rattle.rb_scope.proofs.EachSite.{all_at}
use Rattle.rb_code.specs.Instructions.Plain.{Code}
use Rattle.rb_code.specs.WordMachine.Turn.{Common, Copy, Standing, want}
use Rattle.rb_code.specs.WordMachine.WordKind.{word_kind}
use Rattle.rb_code.specs.WordMachine.WordRun.{WordWorld}
use Rattle.rb_machine.specs.Telling.{AreFreed, HoldsNone, IsFreed}
use Rattle.rb_recovery.specs.Work.{enters_there, is_entry, is_kept, looking, move_work, named_by_acts, named_by_status, named_in_turn, named_there, named_within, releases_some, releasing, turn_work, undoing}
use Rattle.rb_recovery.proofs.Changed.{all_changed}
use Rattle.rb_machine.proofs.Releasing.Finished.{no_lines}

-- the move and the release together
both : (work released lines first between last : ℕ) → between ≤ first + work → lines ≡ released → last ≤ between + 2 * lines
    → last ≤ first + (work + 4 * released)
both work released lines first between last moving are behind = omega (arith, moving, are, behind)

-- a turn that looks at nothing, names nothing, puts nothing back and releases nothing
costs_nothing : (entry : Bool) (named undone released : ℕ) → entry ≡ true → named ≡ 0 → undone ≡ 0 → released ≡ 0
    → looking entry + 3 * named + undone + 4 * released ≡ 0
costs_nothing entry named undone released looks names undoes releases = omega (arith, ap looking looks, names, undoes, releases)

-- who has a level more holds no line that is released
level_more : (levels : List (Level Copy)) (level : Level Copy) (s : Standing) → HoldsNone (levels ++ level ∷ []) s
level_more [] level s = tt
level_more (one ∷ levels) level s = tt

pub used_freed : (levels : List (Level Copy)) (s : Standing) → HoldsNone levels s → HoldsNone (map one_used levels) s
used_freed [] s none = none
used_freed (level ∷ levels) s none = tt

no_truth : false ≡ true → ⊥
no_truth e = true≢false (sym e)

module _ (c : Code) (groups : List Membership) where
  abbrev Words : Kind Standing Copy Common
  Words = word_kind c groups

  pub turn_costs : (t p : ℕ) (w : WordWorld) (lines : List (List (List ℕ))) (first between last : ℕ)
      → between ≤ first + move_work c groups t p w (move Words t p w) → lines ≡ freed_lines Words (move Words t p w).world
      → last ≤ between + 2 * releasing lines → last ≤ first + turn_work c groups t p w
  turn_costs t p w lines first between last moving are behind =
      both (move_work c groups t p w (move Words t p w)) (releasing (freed_lines Words (move Words t p w).world)) (releasing lines) first between last
      moving (ap releasing are) behind

  -- where who has no level holds no line, nobody releases any
  none_released : (qs : List (Process Standing Copy)) → AreFreed qs
      → releasing (map (λ (q : Process Standing Copy). lines_freed Words q.state q.levels) qs) ≡ 0
  none_released [] free = refl
  none_released (q ∷ qs) free =
      let lines : List (List (List ℕ)) = map (λ (q : Process Standing Copy). lines_freed Words q.state q.levels) qs in
      let here = ap releases_some (no_lines c groups q.levels q.state free.0) in
      omega (arith, sum_by-cons releases_some (lines_freed Words q.state q.levels) lines, here, none_released qs free.1)

  -- a move that names nothing, puts nothing back, and behind which nothing is released
  record IsFree (named : ℕ) (before : List (Process Standing Copy)) (moved : Moved Standing Copy Common) : Type 0 where
    names : named ≡ 0
    undoes : undoing moved.kind before moved.rejections moved.world.processes ≡ 0
    releases : releasing (freed_lines Words moved.world) ≡ 0

  -- So it is of an entry that is kept, by the cases of a move.
  module _ (t p : ℕ) (before : List (Process Standing Copy)) where
    abbrev Free : ℕ → Moved Standing Copy Common → Type 0
    Free named moved = is_kept moved.kind ≡ true → IsFree named before moved

    either : (b : Bool) (one other : Moved Standing Copy Common) → Free 0 one → Free 0 other → Free 0 (cond b one other)
    either true one other h i = h
    either false one other h i = i

    undone_free : (named : ℕ) (happened : Happened Standing Copy Common) → Free named (undone happened)
    undone_free named (w, events) e = absurd (no_truth e)

    opened_none : (facts : Facts) (alternate : ℕ) (q : Process Standing Copy) (w : WordWorld) (after : Standing × Common) → AreFreed w.processes
        → releasing (freed_lines Words (opened Words p facts alternate q w after)) ≡ 0
    opened_none facts alternate q w (s, m) free =
        let level : Level Copy = new_level Words facts alternate s in
        none_released _ (all_changed IsFreed p (λ _. goes_on Words s (q.levels ++ level ∷ [])) w.processes (λ _ _. level_more q.levels level s) free)

    open_free : (facts : Facts) (alternate : ℕ) (q : Process Standing Copy) (w : WordWorld) → AreFreed w.processes
        → Free 0 (open_at Words t p facts alternate q w)
    open_free facts alternate q w free = λ _. record {
      names = refl;
      undoes = refl;
      releases = opened_none facts alternate q w (Words.keep t 0 (Words.enter q.state) w.memory) free;
    }

    join_free : (facts : Facts) (q : Process Standing Copy) (w : WordWorld) (talk : Option Talk) → AreFreed w.processes
        → Free 0 (join Words t p facts q w talk)
    join_free facts q w None free = λ e. absurd (no_truth e)
    join_free facts q w (Some talk) free =
        either talk.is_broken (undone (with_process p (fallen Words Broken) w, [])) (open_at Words t p facts talk.alternate q w)
        (undone_free 0 (with_process p (fallen Words Broken) w, [])) (open_free facts talk.alternate q w free)

    entered_free : (facts : Facts) (conversation : Option ℕ) (q : Process Standing Copy) (w : WordWorld) → AreFreed w.processes
        → Free 0 (enter_either Words t p facts conversation q w)
    entered_free facts None q w free = open_free facts 1 q w free
    entered_free facts (Some x) q w free = join_free facts q w (talk_at w x) free

    enters_free : (facts : Facts) (q : Process Standing Copy) (w : WordWorld) → AreFreed w.processes → Free 0 (enters Words t p facts q w)
    enters_free facts q w free =
        either (nat_le most_levels (length q.levels)) (trapped Words p Depth w) (enter_either Words t p facts facts.conversation q w)
        (undone_free 0 (reject Words p (length (process_levels w p)) Depth w)) (entered_free facts facts.conversation q w free)

    acts_free : (want : Want) (q : Process Standing Copy) (w : WordWorld) → is_entry want ≡ true → AreFreed w.processes
        → Free (named_by_acts c groups t p q w want) (acts Words t p q w want)
    acts_free (Enters facts) q w entry free = enters_free facts q w free
    acts_free NothingLeft q w entry free = absurd (no_truth entry)
    acts_free (SendsOn channel) q w entry free = absurd (no_truth entry)
    acts_free (ReceivesOn channel) q w entry free = absurd (no_truth entry)
    acts_free (MayReceiveOn channel) q w entry free = absurd (no_truth entry)
    acts_free Starts q w entry free = absurd (no_truth entry)
    acts_free Acts q w entry free = absurd (no_truth entry)

    line_free : (at_line : Bool) (q : Process Standing Copy) (w : WordWorld) → is_entry (want c q.state) ≡ true → AreFreed w.processes
        → Free (cond at_line 0 (named_by_acts c groups t p q w (want c q.state))) (cond at_line (waits w) (acts Words t p q w (want c q.state)))
    line_free true q w entry free = λ e. absurd (no_truth e)
    line_free false q w entry free = acts_free (want c q.state) q w entry free

    bounded_free : (over : Option ℕ) (q : Process Standing Copy) (w : WordWorld) → is_entry (want c q.state) ≡ true → AreFreed w.processes
        → Free (named_within c groups t p q w over) (bounded Words t p q w over)
    bounded_free (Some j) q w entry free = undone_free 0 (reject Words p (j + 1) Overrun w)
    bounded_free None q w entry free = line_free q.at_line q w entry free

    status_free : (status : ProcessStatus) (q : Process Standing Copy) (w : WordWorld) → is_entry (want c q.state) ≡ true → IsFreed q → AreFreed w.processes
        → Free (named_by_status c groups t p q w status) (by_status Words t p q w status)
    status_free Running q w entry own free =
        bounded_free (position is_over (turn_used q).levels) (turn_used q) (with_process p (λ _. turn_used q) w) entry
        (all_changed IsFreed p (λ _. turn_used q) w.processes (λ _ _. used_freed q.levels q.state own) free)
    status_free Finished q w entry own free = λ e. absurd (no_truth e)
    status_free (FailedWith cause) q w entry own free = λ e. absurd (no_truth e)

    moves_free : (there : Option (Process Standing Copy)) (w : WordWorld) → slice_get w.processes p ≡ there → AreFreed w.processes
        → enters_there c (moves Words t p w there).kind there ≡ true → IsFree (named_there c groups t p w there) before (moves Words t p w there)
    moves_free None w is free e = absurd (no_truth e)
    moves_free (Some q) w is free e =
        let kept = is_kept (by_status Words t p q w q.status).kind in
        status_free q.status q w (first_holds (is_entry (want c q.state)) kept e) (all_at IsFreed w.processes p q free is) free
        (second_holds (is_entry (want c q.state)) kept e)

  -- an entry that is kept costs nothing
  pub entry_costs_nothing : (t p : ℕ) (w : WordWorld) → AreFreed w.processes
      → enters_there c (move Words t p w).kind (slice_get w.processes p) ≡ true → turn_work c groups t p w ≡ 0
  entry_costs_nothing t p w free e =
      let moved = moves_free t p w.processes (slice_get w.processes p) w refl free e in
      costs_nothing (enters_there c (move Words t p w).kind (slice_get w.processes p)) (named_in_turn c groups t p w)
      (undoing (move Words t p w).kind w.processes (move Words t p w).rejections (move Words t p w).world.processes)
      (releasing (freed_lines Words (move Words t p w).world)) e moved.names moved.undoes moved.releases

  pub entry_adds_nothing : (t p : ℕ) (w : WordWorld) (kind : TurnKind) (first last : ℕ) → AreFreed w.processes → kind ≡ (move Words t p w).kind
      → enters_there c kind (slice_get w.processes p) ≡ true → last ≤ first + turn_work c groups t p w → last ≤ first
  entry_adds_nothing t p w kind first last free is e work =
      let none = entry_costs_nothing t p w free (ap (λ (k : TurnKind). enters_there c k (slice_get w.processes p)) (sym is) ∙ e) in
      at_most none work
    where
      at_most : {n : ℕ} → n ≡ 0 → last ≤ first + n → last ≤ first
      at_most none work = omega (arith, none, work)
