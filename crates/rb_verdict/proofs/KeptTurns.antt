-- The kept turns of every world of a run are turns of the run, and none of them started an alternate of a greater number than its own: in
-- a turn each level goes on by one alternate at most.
use Rattle.std.proofs.Common.{◌≡◌, ◌≤◌, ◌<◌, ◌+◌, ℕ, zero, suc, ℤ, Bool, true, false, cond, List, [], ◌∷◌, ◌++◌, length, position, slice_get, Option, Some, None, refl, sym, subst, arith}
use Rattle.rb_base.specs.declared.event.Cause.{Cause}
use Rattle.rb_base.specs.declared.event.Cause.TheVariants.{Inner}
use Rattle.rb_syntax.specs.Tree.{Tree}
use Rattle.rb_world.specs.Kind.{Facts, Kind, Membership, Want, NothingLeft, SendsOn, ReceivesOn, MayReceiveOn, Enters, Starts, Acts, Went, Held}
use Rattle.rb_world.specs.Reject.{all_back, at_place, back_to, broken_talk, fallen, fallen_inside, first_again, is_below, next_alternate, next_talk, put_back, raised, reset_from, where_inside}
use Rattle.rb_world.specs.Standing.{Each}
use Rattle.rb_world.specs.Turn.{all_leave, freed, leaves, moved_to, new_level, one_used, opened, opening_talks, stands_at, stands_now, state_freed, tried_at, turn_used}
use Rattle.rb_world.specs.World.{Level, Process, Talk, change_at, copy_of, goes_on, is_inside, is_of, last_of, settled, with_memory, with_process, without_last}
use Rattle.rb_world.proofs.Keeping.EachProcess.{settled_each}
use Rattle.rb_world.proofs.Keeping.Induction.{run-keeps}
use Rattle.rb_world.proofs.Keeping.Invariant.{IsInvariant}
use Rattle.rb_world.proofs.LevelFacts.{IsOldOrNew, IsOld, IsNew, get_more, get_take, get_without_last}
use Rattle.rb_world.proofs.ListFacts.{Each-change_at, Each-map, none_some, some_same}
use Rattle.rb_world.proofs.TurnFacts.{IsEntry, Alone, Joining, StepsAt, all_broken, all_next, all_spent, alternate_for, come_to_stand}
use Rattle.rb_meaning.specs.Environment.{Environment}
use Rattle.rb_meaning.specs.Meaning.{TreeWorld, environment_of, opening_states, opening_world, run_of, tree_kind}
use Rattle.rb_meaning.specs.State.{State, with_kept}
use Rattle.rb_meaning.specs.Step.{Nothing, Result_of_step, enter, step, wants_first}
use Rattle.rb_meaning.proofs.Trees.MailOfSteps.{Posts, Quiet, Posted, Collected}
use Rattle.rb_meaning.proofs.Trees.StepsChangeMail.{IsPassed, steps_post}
use Rattle.rb_meaning.proofs.Nesting.StepsKeepRules.{StepsTo}
use Rattle.rb_meaning.proofs.Trees.TreeErasure.{each_opening}

-- a kept turn is before turn t, and started no alternate above its own number
pub record IsBefore (t : ℕ) (one : ℕ × ℕ) : Type 0 where
  pub turn : one.0 < t
  pub alternate : one.1 ≤ one.0

-- so is each of these
abbrev pub AreTurns : ℕ → List (ℕ × ℕ) → Type 0
AreTurns t kept = Each (λ _ one. IsBefore t one) kept

-- a level tries no alternate above t, and the kept turns of its recovery point are before turn t
pub record LevelBefore (t : ℕ) (level : Level State) : Type 0 where
  pub alternate : level.alternate ≤ t
  pub kept : AreTurns t level.copy.kept

-- so does each of these
abbrev pub AreLevels : ℕ → List (Level State) → Type 0
AreLevels t levels = Each (λ _ level. LevelBefore t level) levels

-- so it is of a process
pub record ProcessBefore (t : ℕ) (q : Process State State) : Type 0 where
  pub levels : AreLevels t q.levels
  pub kept : AreTurns t q.state.kept

abbrev pub AreProcesses : ℕ → List (Process State State) → Type 0
AreProcesses t processes = Each (λ _ q. ProcessBefore t q) processes

-- and no conversation tries an alternate above t
abbrev pub AreTalks : ℕ → List Talk → Type 0
AreTalks t talks = Each (λ _ talk. talk.alternate ≤ t) talks

-- a world before turn t
pub record WorldBefore (t : ℕ) (w : TreeWorld) : Type 0 where
  pub some : 0 < t
  pub processes : AreProcesses t w.processes
  pub talks : AreTalks t w.talks

-- ---- what is before turn t is before the next

turns_later : (t : ℕ) (kept : List (ℕ × ℕ)) → AreTurns t kept → AreTurns (t + 1) kept
turns_later t kept h i one e = let before = h i one e in record { turn = omega (arith, before.turn); alternate = before.alternate }

level_later : (t : ℕ) (level : Level State) → LevelBefore t level → LevelBefore (t + 1) level
level_later t level h = record { alternate = omega (arith, h.alternate); kept = turns_later t level.copy.kept h.kept }

process_later : (t : ℕ) (q : Process State State) → ProcessBefore t q → ProcessBefore (t + 1) q
process_later t q h = record { levels = λ i level e. level_later t level (h.levels i level e); kept = turns_later t q.state.kept h.kept }

talks_later : (t : ℕ) (talks : List Talk) → AreTalks t talks → AreTalks (t + 1) talks
talks_later t talks h i talk e = omega (arith, h i talk e)

world_later : (t : ℕ) (w : TreeWorld) → WorldBefore t w → WorldBefore (t + 1) w
world_later t w h = record {
  some = omega (arith, h.some);
  processes = λ p q e. process_later t q (h.processes p q e);
  talks = talks_later t w.talks h.talks;
}

-- a turn that is kept is one more
one_kept : (t a : ℕ) (kept : List (ℕ × ℕ)) → a ≤ t → AreTurns t kept → AreTurns (t + 1) (kept ++ (t, a) ∷ [])
one_kept t a kept few h i one e = by_place (get_more kept (t, a) i one e)
  where
    by_place : IsOldOrNew kept (t, a) i one → IsBefore (t + 1) one
    by_place (IsOld at) = turns_later t kept h i one at
    by_place (IsNew at this) = subst (IsBefore (t + 1)) this (record { turn = omega arith; alternate = few })

-- ---- levels

-- the alternate that the innermost level tries
tried_few : (t : ℕ) (levels : List (Level State)) → AreLevels t levels → tried_at (last_of levels) ≤ t
tried_few t [] h = omega arith
tried_few t (level ∷ []) h = (h zero level refl).alternate
tried_few t (level ∷ other ∷ levels) h = tried_few t (other ∷ levels) (λ i. h (suc i))

-- and the alternate at which a step is made
alternate_few : (t : ℕ) (want : Want) (levels : List (Level State)) → AreLevels t levels → alternate_for want (last_of levels) ≤ t
alternate_few t NothingLeft levels h = omega arith
alternate_few t (SendsOn c) levels h = omega arith
alternate_few t (ReceivesOn c) levels h = omega arith
alternate_few t (MayReceiveOn c) levels h = omega arith
alternate_few t (Enters facts) levels h = omega arith
alternate_few t Starts levels h = tried_few t levels h
alternate_few t Acts levels h = omega arith

module _ (t : ℕ) where
  used_before : (q : Process State State) → ProcessBefore t q → ProcessBefore t (turn_used q)
  used_before q h = record {
    levels = Each-map (λ _ level. LevelBefore t level) one_used q.levels h.levels
        (λ i level e one. record { alternate = one.alternate; kept = one.kept });
    kept = h.kept;
  }

  raised_before : (j : ℕ) (q : Process State State) → ProcessBefore t q → ProcessBefore (t + 1) (raised j q)
  raised_before j q h = record {
    levels = Each-change_at (λ _ level. LevelBefore (t + 1) level) j next_alternate q.levels (λ i level e. level_later t level (h.levels i level e))
        (λ level e. let one =
        h.levels j level e in record { alternate = omega (arith, one.alternate); kept = turns_later t level.copy.kept one.kept });
    kept = turns_later t q.state.kept h.kept;
  }

  without_before : (levels : List (Level State)) → AreLevels t levels → AreLevels t (without_last levels)
  without_before levels h i level e = h i level (get_without_last levels i level e)

module _ (tree : Tree) where
  abbrev Trees : Kind State State Nothing
  Trees = tree_kind tree

  -- ---- processes

  module _ (t : ℕ) where
    fallen_before : (cause : Cause) (q : Process State State) → ProcessBefore t q → ProcessBefore t (fallen Trees cause q)
    fallen_before cause q h = record { levels = λ i level e. absurd (none_some e); kept = h.kept }

    back_before : (j : ℕ) (q : Process State State) (o : Option (Level State)) → slice_get q.levels j ≡ o
        → ProcessBefore t q → ProcessBefore t (back_to Trees j q o)
    back_before j q None e h = h
    back_before j q (Some level) e h = record {
      levels = λ i other at. h.levels i other (get_take (j + 1) q.levels i other at).1;
      kept = (h.levels j level e).kept;
    }

    put_back_before : (j : ℕ) (q : Process State State) → ProcessBefore t q → ProcessBefore t (put_back Trees j q)
    put_back_before j q h = back_before j q (slice_get q.levels j) refl h

    freed_kept : (s : State) (levels : List (Level State)) → (state_freed Trees s levels).kept ≡ s.kept
    freed_kept s [] = refl
    freed_kept s (level ∷ levels) = refl

    freed_before : (q : Process State State) → ProcessBefore t q → ProcessBefore t (freed Trees q)
    freed_before q h = record { levels = h.levels; kept = subst (AreTurns t) (sym (freed_kept q.state q.levels)) h.kept }

    leaves_before : (q : Process State State) (there : Bool) → ProcessBefore t q
        → ProcessBefore t (cond there (settled Trees q.state (without_last q.levels)) q)
    leaves_before q false h = h
    leaves_before q true h = record { levels = without_before t q.levels h.levels; kept = h.kept }

    inside_before : (q : Process State State) (inside : Bool) → ProcessBefore t q → ProcessBefore t (cond inside (fallen Trees Inner q) q)
    inside_before q true h = fallen_before Inner q h
    inside_before q false h = h

  -- whoever is inside a conversation is changed
  placed_before : (t u : ℕ) (f : ℕ → Process State State → Process State State) (place : Option ℕ) (q : Process State State)
      → ((j : ℕ) → ProcessBefore u (f j q)) → ProcessBefore u q → ProcessBefore u (at_place f place q)
  placed_before t u f None q one h = h
  placed_before t u f (Some j) q one h = one j

  -- a step changes no kept turn
  went_kept : (a : ℕ) (prior : Option Environment) (s : State) (message : Option ℤ) (later : State)
      → step tree a prior s message ≡ Went later tt → later.kept ≡ s.kept
  went_kept a prior s message later e =
      posted (subst (λ (r : Result_of_step). StepsTo (Posts (wants_first tree s.items) message s) (IsPassed (wants_first tree s.items) s) r) e
      (steps_post tree a prior s message s.items))
    where
      posted : Posts (wants_first tree s.items) message s later → later.kept ≡ s.kept
      posted (Quiet sent taken kept sends takes) = kept
      posted (Posted d v wants sent taken kept) = kept
      posted (Collected d v receives given sent taken kept) = kept

  held_kept : (a : ℕ) (prior : Option Environment) (s : State) (message : Option ℤ) (later : State)
      → step tree a prior s message ≡ Held later → later.kept ≡ s.kept
  held_kept a prior s message later e =
      (subst (λ (r : Result_of_step). StepsTo (Posts (wants_first tree s.items) message s) (IsPassed (wants_first tree s.items) s) r) e
      (steps_post tree a prior s message s.items)).kept

  -- turn t of a process is kept
  module _ (t p : ℕ) (w : TreeWorld) (q : Process State State) (h : WorldBefore t w) (there : slice_get w.processes p ≡ Some q) where
    mine : ProcessBefore t q
    mine = h.processes p q there

    -- its new state, and levels of which this is known
    kept_before : (later : Process State State) → AreLevels (t + 1) later.levels → AreTurns (t + 1) later.state.kept
        → WorldBefore (t + 1) (with_memory tt (with_process p (λ _. later) w))
    kept_before later levels kept = record {
      some = omega (arith, h.some);
      processes = Each-change_at (λ _ x. ProcessBefore (t + 1) x) p (λ _. later) w.processes (λ r x e. process_later t x (h.processes r x e))
          (λ x e. record { levels = levels; kept = kept });
      talks = talks_later t w.talks h.talks;
    }

    levels_then : AreLevels (t + 1) q.levels
    levels_then i level e = level_later t level (mine.levels i level e)

    -- the kept turns of a state that a step came to
    turns_then : (a : ℕ) (s : State) → a ≤ t → s.kept ≡ q.state.kept → AreTurns (t + 1) (s.kept ++ (t, a) ∷ [])
    turns_then a s few same = one_kept t a s.kept few (subst (AreTurns t) (sym same) mine.kept)

    step_few : (a : ℕ) (message : Option ℤ) → StepsAt Trees p q w a message → a ≤ t
    step_few a message at = subst (λ (n : ℕ). n ≤ t) (sym at.at) (alternate_few t (wants_first tree q.state.items) q.levels mine.levels)

    went_before : (a : ℕ) (s : State) → a ≤ t → s.kept ≡ q.state.kept → WorldBefore (t + 1) (moved_to Trees p q.levels w (Trees.keep t a s tt))
    went_before a s few same = kept_before (settled Trees (with_kept (s.kept ++ (t, a) ∷ []) s) q.levels) levels_then (turns_then a s few same)

    stood_before : (a : ℕ) (s : State) → a ≤ t → s.kept ≡ q.state.kept → WorldBefore (t + 1) (come_to_stand p q.levels w (Trees.keep t a s w.memory))
    stood_before a s few same = kept_before (stands_now (with_kept (s.kept ++ (t, a) ∷ []) s) q.levels) levels_then (turns_then a s few same)

    entry_few : (facts : Facts) (a : ℕ) → IsEntry w facts a → a ≤ t
    entry_few facts a (Alone none first) = subst (λ (n : ℕ). n ≤ t) (sym first) (omega (arith, h.some))
    entry_few facts a (Joining c talk of_c at whole same) = subst (λ (n : ℕ). n ≤ t) (sym same) (h.talks c talk at)

    opened_before : (facts : Facts) (a : ℕ) → a ≤ t → WorldBefore (t + 1) (opened Trees p facts a q w (Trees.keep t 0 (enter q.state) w.memory))
    opened_before facts a few =
        let s : State = with_kept ((enter q.state).kept ++ (t, 0) ∷ []) (enter q.state) in
        let kept : AreTurns (t + 1) s.kept = turns_then 0 (enter q.state) (omega arith) refl in
        kept_before (goes_on Trees s (q.levels ++ new_level Trees facts a s ∷ [])) (levels_more s kept) kept
      where
        levels_more : (s : State) → AreTurns (t + 1) s.kept → AreLevels (t + 1) (q.levels ++ new_level Trees facts a s ∷ [])
        levels_more s kept i level e = by_place (get_more q.levels (new_level Trees facts a s) i level e)
          where
            by_place : IsOldOrNew q.levels (new_level Trees facts a s) i level → LevelBefore (t + 1) level
            by_place (IsOld at) = levels_then i level at
            by_place (IsNew at this) = subst (LevelBefore (t + 1)) this (record { alternate = omega (arith, few); kept = kept })

  -- ---- worlds

  module _ (t : ℕ) where
    -- conversations that return to their first alternate, go on, or are broken
    reset_before : (below : ℕ → Bool) (d : ℕ) (talks : List Talk) → 0 < t → AreTalks t talks → AreTalks t (reset_from below d talks)
    reset_before below d [] some h i one e = absurd (none_some e)
    reset_before below d (talk ∷ talks) some h zero one e = by_test (below d) (some_same e)
      where
        by_test : (b : Bool) → cond b (first_again talk) talk ≡ one → one.alternate ≤ t
        by_test true same = subst (λ (x : Talk). x.alternate ≤ t) same (omega (arith, some))
        by_test false same = subst (λ (x : Talk). x.alternate ≤ t) same (h zero talk refl)
    reset_before below d (talk ∷ talks) some h (suc i) one e = reset_before below (d + 1) talks some (λ n. h (suc n)) i one e

    first_before : (c : ℕ) (talks : List Talk) → 0 < t → AreTalks t talks → AreTalks t (change_at c first_again talks)
    first_before c talks some h = Each-change_at (λ _ talk. talk.alternate ≤ t) c first_again talks h (λ talk e. omega (arith, some))

    next_before : (c : ℕ) (talks : List Talk) → AreTalks t talks → AreTalks (t + 1) (change_at c next_talk talks)
    next_before c talks h =
        Each-change_at (λ _ talk. talk.alternate ≤ t + 1) c next_talk talks (talks_later t talks h) (λ talk e. omega (arith, h c talk e))

    broken_before : (c : ℕ) (talks : List Talk) → AreTalks t talks → AreTalks (t + 1) (change_at c broken_talk talks)
    broken_before c talks h = Each-change_at (λ _ talk. talk.alternate ≤ t + 1) c broken_talk talks (talks_later t talks h) (λ talk e. omega arith)

    -- all that are inside a conversation are put back
    all_back_before : (c : ℕ) (w : TreeWorld) → WorldBefore t w → WorldBefore t (all_back Trees c w)
    all_back_before c w h = record {
      some = h.some;
      processes = Each-map (λ _ q. ProcessBefore t q) (where_inside (put_back Trees) c) w.processes h.processes
          (λ r q _ one. placed_before t t (put_back Trees) (position (is_of c) q.levels) q (λ j. put_back_before t j q one) one);
      talks = reset_before (is_below Trees.groups (length Trees.groups) c) 0 w.talks h.some h.talks;
    }

    -- and go on to the next alternate, to a conversation around it, or fail
    all_next_before : (c : ℕ) (w : TreeWorld) → WorldBefore t w → WorldBefore (t + 1) (all_next Trees c w)
    all_next_before c w h =
        let back = all_back_before c w h in
        record {
          some = omega (arith, h.some);
          processes = Each-map (λ _ q. ProcessBefore (t + 1) q) (where_inside raised c) (all_back Trees c w).processes
              (world_later t (all_back Trees c w) back).processes
              (λ r q e one. placed_before t (t + 1) raised (position (is_of c) q.levels) q (λ j. raised_before t j q (back.processes r q e)) one);
          talks = next_before c (all_back Trees c w).talks back.talks;
        }

    all_spent_before : (c : ℕ) (w : TreeWorld) → WorldBefore t w → WorldBefore t (all_spent Trees c w)
    all_spent_before c w h =
        let back = all_back_before c w h in
        record { some = back.some; processes = back.processes; talks = first_before c (all_back Trees c w).talks back.some back.talks }

    all_broken_before : (c : ℕ) (w : TreeWorld) → WorldBefore t w → WorldBefore (t + 1) (all_broken Trees c w)
    all_broken_before c w h =
        let back = all_back_before c w h in
        let later = world_later t (all_back Trees c w) back in
        record {
          some = later.some;
          processes = Each-map (λ _ q. ProcessBefore (t + 1) q) (fallen_inside Trees c) (all_back Trees c w).processes later.processes
              (λ r q _ one. inside_before (t + 1) q (is_inside c q) one);
          talks = broken_before c (all_back Trees c w).talks back.talks;
        }

    -- all members leave a conversation
    all_leave_before : (c : ℕ) (w : TreeWorld) → WorldBefore t w → WorldBefore t (all_leave Trees c w)
    all_leave_before c w h = record {
      some = h.some;
      processes = Each-map (λ _ q. ProcessBefore t q) (leaves Trees c) w.processes h.processes (λ r q _ one. leaves_before t q (stands_at c q) one);
      talks = first_before c w.talks h.some h.talks;
    }

    -- one process is changed
    one_before : (p : ℕ) (f : Process State State → Process State State) (w : TreeWorld) → WorldBefore t w
        → ((q : Process State State) → ProcessBefore t q → ProcessBefore t (f q)) → WorldBefore t (with_process p f w)
    one_before p f w h one = record {
      some = h.some;
      processes = Each-change_at (λ _ q. ProcessBefore t q) p f w.processes h.processes (λ q e. one q (h.processes p q e));
      talks = h.talks;
    }

    next_alternate_before : (p j : ℕ) (w : TreeWorld) → WorldBefore t w → WorldBefore (t + 1) (with_process p (raised j) w)
    next_alternate_before p j w h = record {
      some = omega (arith, h.some);
      processes = Each-change_at (λ _ q. ProcessBefore (t + 1) q) p (raised j) w.processes (world_later t w h).processes
          (λ q e. raised_before t j q (h.processes p q e));
      talks = talks_later t w.talks h.talks;
    }

  -- all laws of the invariant
  before_kept : IsInvariant Trees (λ t _ w. WorldBefore t w) (λ t _ _ _ w. WorldBefore t w) (λ t _ w. WorldBefore (t + 1) w)
  before_kept = record {
    rests = λ t past w h. world_later t w h;
    uses = λ t past p q w h r. one_before t p (λ _. turn_used q) w h (λ x _. used_before t q (h.processes p q r.there));
    overruns = λ t past p q w j h r e. h;
    waits = λ t past p q w h r e. world_later t w h;
    goes = λ t past p q w a v s m h at e.
        let there = at.acts.runs.there in
        went_before t p w q h there a s (step_few t p w q h there a v at) (went_kept a (environment_of (copy_of (last_of q.levels))) q.state v s e);
    opens = λ t past p q w facts a h at.
        let there = at.acts.runs.there in
        opened_before t p w q h there facts a (entry_few t p w q h there facts a at.entry);
    accepts = λ t past p q w a v s l h at e _ _.
        let there = at.acts.runs.there in
        let few = step_few t p w q h there a v at in
        let same = held_kept a (environment_of (copy_of (last_of q.levels))) q.state v s e in
        kept_before t p w q h there (settled Trees (with_kept (s.kept ++ (t, a) ∷ []) s) (without_last q.levels))
        (without_before (t + 1) q.levels (levels_then t p w q h there)) (turns_then t p w q h there a s few same);
    stands = λ t past p q w a v s l d h at e _ _ _. stood t p a w q v s h at e;
    leaves = λ t past p q w a v s l d h at e _ _ _. all_leave_before (t + 1) d
        (come_to_stand p q.levels w (Trees.keep t a s w.memory)) (stood t p a w q v s h at e);
    falls = λ t past p q w left cause h r why. world_later t _ (one_before t p (fallen Trees cause) w h (fallen_before t cause));
    tries_next = λ t past p q w j l h r x y. next_alternate_before t p j _ (one_before t p (put_back Trees j) w h (put_back_before t j));
    is_spent = λ t past p q w j l h r x y. one_before t p (put_back Trees j) w h (put_back_before t j);
    all_try_next = λ t past p q w j l d h r x y. all_next_before t d w h;
    all_are_spent = λ t past p q w j l d parent h r x y z. all_spent_before t d w h;
    breaks = λ t past p q w j l d h r x y z. all_broken_before t d w h;
    is_gone = λ t past p q w j h r e. world_later t w h;
    releases = λ t past w one h e. record {
      some = h.some;
      processes = Each-map (λ _ q. ProcessBefore (t + 1) q) (freed Trees) w.processes h.processes (λ r q _ before. freed_before (t + 1) q before);
      talks = h.talks;
    };
  }
    where
      -- who came to a test line
      stood : (t p a : ℕ) (w : TreeWorld) (q : Process State State) (v : Option ℤ) (s : State) → WorldBefore t w → StepsAt Trees p q w a v
          → step tree a (environment_of (copy_of (last_of q.levels))) q.state v ≡ Held s
          → WorldBefore (t + 1) (come_to_stand p q.levels w (Trees.keep t a s w.memory))
      stood t p a w q v s h at e =
          let there = at.acts.runs.there in
          stood_before t p w q h there a s (step_few t p w q h there a v at) (held_kept a (environment_of (copy_of (last_of q.levels))) q.state v s e)

  -- at the opening nothing was kept, and each conversation is at its first alternate
  opening_before : WorldBefore 1 (opening_world tree)
  opening_before = record {
    some = omega arith;
    processes = settled_each Trees (λ _ q. ProcessBefore 1 q) (opening_states tree 0 tree.processes)
        (λ r s e. record {
          levels = λ i level none. absurd (none_some none);
          kept = let empty = each_opening tree (λ (x : State). x.kept ≡ []) (λ n process. refl) 0 tree.processes r s e in
              subst (AreTurns 1) (sym empty) (λ i one none. absurd (none_some none));
        });
    talks = first_talks Trees.groups;
  }
    where
      first_talks : (groups : List Membership) → AreTalks 1 (opening_talks groups)
      first_talks [] i talk e = absurd (none_some e)
      first_talks (group ∷ groups) zero talk e = subst (λ (x : Talk). x.alternate ≤ 1) (some_same e) (omega arith)
      first_talks (group ∷ groups) (suc i) talk e = first_talks groups i talk e

  -- so it is in the last world of every run
  pub run_before : (turns : List ℕ) → AreProcesses (1 + length turns) (run_of tree turns).0.processes
  run_before turns = (run-keeps before_kept 1 [] turns (opening_world tree) opening_before).processes
