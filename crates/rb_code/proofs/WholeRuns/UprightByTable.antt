-- Where code has a table, the machine stands upright: some levels with these copies stand in it.
use Rattle.std.proofs.Common.{◌≡◌, ℕ, ℤ, pos, ◌+◌, suc, Bool, true, false, List, [], ◌∷◌, ◌++◌, length, map, option_map, slice_get, slice_set, take, Option, Some, None, refl, sym, ap, ◌∙◌, subst, add-one}
use Rattle.std.proofs.lemmas.List.{length-set}
use Rattle.rb_cache.specs.Copies.{accepted}
use Rattle.rb_world.specs.Kind.{Facts, Membership, Want, NothingLeft, SendsOn, ReceivesOn, MayReceiveOn, Enters, Starts, Acts, Went, Held}
use Rattle.rb_world.specs.Slots.{Slots}
use Rattle.rb_world.specs.World.{Level, Process, Running, copy_of, last_of, without_last}
use Rattle.rb_world.specs.Reject.{back_to}
use Rattle.rb_world.proofs.ListFacts.{none_some, some_same}
use Rattle.rb_world.proofs.Relating.MarksMeet.{copies-front, copies-get, copies-last, copies-more, copies-take, last-front}
use Rattle.rb_world.proofs.Relating.Simulation.{copies_of}
use Rattle.rb_code.specs.Instructions.Plain.{Code}
use Rattle.rb_code.specs.WordMachine.Workspace.{held_place}
use Rattle.rb_code.specs.WordMachine.Act.{Accepts, Going, Outcome, Stopped, Trapped, Unfinished, execute}
use Rattle.rb_code.specs.SoundCode.Sound.{HasTable, Table}
use Rattle.rb_code.specs.SoundCode.Safe.{IsThere}
use Rattle.rb_code.specs.SoundCode.Stands.{ServedBut, Stands, StandsAfter, inside_out}
use Rattle.rb_code.specs.SoundCode.StandsInRuns.{AllRecover, ProcessStands, StandsNow}
use Rattle.rb_code.specs.WordMachine.Turn.{Common, Copy, Standing, memory_of, most_steps, settle, sight, step, want}
use Rattle.rb_code.specs.SoundCode.WellFormed.{ListsChannels}
use Rattle.rb_code.specs.WordMachine.WordKind.{copied, entered_at, restored, word_kind}
use Rattle.rb_code.specs.WordMachine.WordRun.{opening_standing}
use Rattle.rb_code.proofs.Agreeing.Leads.{IsFinished}
use Rattle.rb_code.proofs.Executing.ProcessesStand.{away_stands, processes_stand}
use Rattle.rb_code.proofs.Executing.RunSteps.{run_step_ends, run_step_stands}
use Rattle.rb_code.proofs.Executing.SoundSteps.{safe_ends, settling_is_safe}
use Rattle.rb_code.proofs.Executing.StandingSteps.{settle_stands}
use Rattle.rb_code.proofs.Executing.StandsAgain.{entered_stands, opening_settles, settles_like, stands_like}
use Rattle.rb_code.proofs.WholeRuns.Agreeing.{MayStep, accepted_touched, cut_touched, kept_last}
use Rattle.rb_code.proofs.WholeRuns.StandTogether.{IsUpright}

-- what is not unfinished is finished
finished_by : (o : Outcome) → (o ≡ Unfinished → ⊥) → IsFinished o
finished_by (Going at operands m) never = tt
finished_by (Stopped at m) never = tt
finished_by (Accepts at m) never = tt
finished_by (Trapped cause) never = tt
finished_by Unfinished never = absurd (never refl)

served_by : (w : Want) (message : Option ℤ) → MayStep w message → ServedBut w message
served_by NothingLeft message may = may
served_by (SendsOn channel) message may = tt
served_by (ReceivesOn channel) message may = subst IsThere (sym may.1) tt
served_by (MayReceiveOn channel) message may = tt
served_by (Enters facts) message may = may
served_by Starts message may = tt
served_by Acts message may = tt

-- the level of a copy
level_for : (levels : List (Level Copy)) (o : Option (Level Copy)) (j : ℕ) (y : Copy) → slice_get levels j ≡ o
    → option_map (λ (level : Level Copy). level.copy) o ≡ Some y
    → (level : Level Copy) × (slice_get levels j ≡ Some level) × (level.copy ≡ y)
level_for levels None j y e same = absurd (none_some same)
level_for levels (Some level) j y e same = (level, e, some_same same)

module _ (c : Code) (groups : List Membership) (t : Table) (has : HasTable c groups t) (lists : ListsChannels c) where
  -- a process that runs, with these levels
  abbrev running_at : Bool → Standing → List (Level Copy) → Process Standing Copy
  running_at line u levels = record { state = u; levels = levels; at_line = line; status = Running }

  pub record StandsInTable (line : Bool) (ds : List Copy) (u : Standing) : Type 0 where
    pub levels : List (Level Copy)
    pub copies_are : copies_of levels ≡ ds
    pub stands : ProcessStands c t (running_at line u levels)

  -- as many words, with other lines and another last kept turn
  like_now : (line : Bool) (u : Standing) (levels : List (Level Copy)) (ws : List ℤ) (n : ℕ) (hs : List (List ℕ)) → length ws ≡ length u.words
      → StandsNow c t Running line u levels → StandsNow c t Running line (record u { words = ws; last_kept = n; held = hs }) levels
  like_now false u levels ws n hs long h = stands_like c t u levels levels ws n hs u.touched long refl refl h
  like_now true u levels ws n hs long h =
      settles_like c t (record u { touched = accepted u.touched }) (without_last levels) (without_last levels) ws n hs
      (accepted u.touched) long refl refl h

  like : (line : Bool) (u : Standing) (levels : List (Level Copy)) (ws : List ℤ) (n : ℕ) (hs : List (List ℕ)) → length ws ≡ length u.words
      → ProcessStands c t (running_at line u levels) → ProcessStands c t (running_at line (record u { words = ws; last_kept = n; held = hs }) levels)
  like line u levels ws n hs long h =
      record { exists = h.exists; recovers = h.recovers; heights = h.heights; now = like_now line u levels ws n hs long h.now }

  away : (u : Standing) (ds : List Copy) (levels : List (Level Copy)) → copies_of levels ≡ ds → Stands c t u levels → StandsInTable false ds u
  away u ds levels e h = record { levels = levels; copies_are = e; stands = away_stands c groups t has lists u levels Running h }

  -- the copy that is seen
  seen : (ds : List Copy) (levels : List (Level Copy)) → copies_of levels ≡ ds → copy_of (last_of levels) ≡ last_of ds
  seen ds levels e = copies-last levels ∙ ap last_of e

  seen_front : (ds : List Copy) (levels : List (Level Copy)) → copies_of levels ≡ ds
      → copy_of (last_of (without_last levels)) ≡ last_of (without_last ds)
  seen_front ds levels e = last-front levels ∙ ap (λ (copies : List Copy). last_of (without_last copies)) e

  -- a step
  module _ (ds : List Copy) (u : Standing) (alternate : ℕ) (message : Option ℤ) (h : StandsInTable false ds u)
      (may : MayStep (want c u) message) where
    step_ends : (all : Slots) → IsFinished (execute c (sight u alternate (last_of ds) message) (most_steps c) (u.at + 1) [] (memory_of u all))
    step_ends all =
        subst
        (λ (copy : Option Copy). IsFinished (execute c (sight u alternate copy message) (most_steps c) (u.at + 1) [] (memory_of u all)))
        (seen ds h.levels h.copies_are)
        (finished_by _ (run_step_ends c groups t has lists u h.levels h.stands.now alternate message (served_by (want c u) message may) all))

    step_stands : (memory : Common) → StandsAfter c t u h.levels (step c alternate (last_of ds) u message memory)
    step_stands memory =
        subst (λ (copy : Option Copy). StandsAfter c t u h.levels (step c alternate copy u message memory)) (seen ds h.levels h.copies_are)
        (run_step_stands c groups t has lists u h.levels h.stands.now alternate message (served_by (want c u) message may) memory)

    step_went : (memory later : Common) (v : Standing) → step c alternate (last_of ds) u message memory ≡ Went v later → StandsInTable false ds v
    step_went memory later v e = away v ds h.levels h.copies_are (subst (StandsAfter c t u h.levels) e (step_stands memory))

    step_held : (memory : Common) (v : Standing) → step c alternate (last_of ds) u message memory ≡ Held v → StandsInTable true ds v
    step_held memory v e =
        let r = subst (StandsAfter c t u h.levels) e (step_stands memory) in
        record {
          levels = h.levels;
          copies_are = h.copies_are;
          stands = record {
            exists = subst (λ (x : Standing). IsThere (slice_get c.processes x.process)) (sym r.0) h.stands.exists;
            recovers = subst (λ (x : Standing). AllRecover c t x.process (inside_out h.levels)) (sym r.0) h.stands.recovers;
            heights = ap (λ (x : Standing). map (λ level. level.height) x.touched) r.0 ∙ h.stands.heights;
            now = r.1;
          };
        }

  enters_stands : (ds : List Copy) (u : Standing) (facts : Facts) (n : ℕ) → StandsInTable false ds u → want c u ≡ Enters facts
      → StandsInTable false (ds ++ copied (kept_last n (entered_at u)) ∷ []) (kept_last n (entered_at u))
  enters_stands ds u facts n h wants =
      let level : Level Copy = record { facts = facts; alternate = 1; used = 0; copy = copied (kept_last n (entered_at u)) } in
      away (kept_last n (entered_at u)) (ds ++ copied (kept_last n (entered_at u)) ∷ []) (h.levels ++ level ∷ [])
      (copies-more h.levels level ∙ ap (λ (copies : List Copy). copies ++ copied (kept_last n (entered_at u)) ∷ []) h.copies_are)
      (entered_stands c groups t has lists u h.levels h.stands.now facts wants n 1)

  settling_ends : (ds : List Copy) (u : Standing) → StandsInTable true ds u
      → IsFinished
      (execute c (sight (accepted_touched u) 0 (last_of (without_last ds)) None) (most_steps c) u.at [] (memory_of (accepted_touched u) []))
  settling_ends ds u h =
      subst (λ (copy : Option Copy). IsFinished
      (execute c (sight (accepted_touched u) 0 copy None) (most_steps c) u.at [] (memory_of (accepted_touched u) [])))
      (seen_front ds h.levels h.copies_are)
      (finished_by _
      (safe_ends c (sight (accepted_touched u) 0 (copy_of (last_of (without_last h.levels))) None) (λ m. ⊥)
      (most_steps c) u.at [] (memory_of (accepted_touched u) [])
      (settling_is_safe c groups (accepted_touched u) (without_last h.levels)
      (record { table = t; has = has; lists = lists; settles = h.stands.now }))))

  leaves_stands : (ds : List Copy) (u : Standing) → StandsInTable true ds u
      → StandsInTable false (without_last ds) (settle c (last_of (without_last ds)) (accepted_touched u))
  leaves_stands ds u h =
      subst (λ (copy : Option Copy). StandsInTable false (without_last ds) (settle c copy (accepted_touched u))) (seen_front ds h.levels h.copies_are)
      (away _ (without_last ds) (without_last h.levels) (copies-front h.levels ∙ ap without_last h.copies_are)
      (settle_stands c groups t has lists (accepted_touched u) (without_last h.levels) h.stands.now))

  back_stands : (line : Bool) (ds : List Copy) (u : Standing) (j : ℕ) (y : Copy) → StandsInTable line ds u → slice_get ds j ≡ Some y
      → StandsInTable false (take (suc j) ds) (restored (cut_touched (suc j) u) y)
  back_stands line ds u j y h at =
      let found = level_for h.levels (slice_get h.levels j) j y refl
      (sym (copies-get h.levels j) ∙ ap (λ (copies : List Copy). slice_get copies j) h.copies_are ∙ at) in
      let one : ProcessStands c t (back_to (word_kind c groups) j (running_at line u h.levels) (Some found.0)) =
      subst (λ (o : Option (Level Copy)). ProcessStands c t (back_to (word_kind c groups) j (running_at line u h.levels) o)) found.1
      ((processes_stand c groups t has lists).goes_back 0 j (running_at line u h.levels) h.stands) in
      let other : ProcessStands c t (running_at false (restored (cut_touched (suc j) u) found.0.copy) (take (suc j) h.levels)) =
      subst (λ (i : ℕ). ProcessStands c t (running_at false (restored (cut_touched i u) found.0.copy) (take i h.levels))) (add-one j) one in
      record {
        levels = take (suc j) h.levels;
        copies_are = copies-take (suc j) h.levels ∙ ap (take (suc j)) h.copies_are;
        stands = subst
            (λ (copy : Copy). ProcessStands c t
            (running_at false (restored (cut_touched (suc j) u) copy) (take (suc j) h.levels))) found.2 other;
      }

  falls_stands : (u : Standing) (levels : List (Level Copy)) → copies_of levels ≡ [] → ProcessStands c t (running_at false u levels)
      → StandsInTable false [] (cut_touched 0 u)
  falls_stands u [] e h =
      away (cut_touched 0 u) [] [] refl (stands_like c t u [] [] u.words u.last_kept u.held (take 0 u.touched) refl (sym h.heights) refl h.now)
  falls_stands u (level ∷ levels) e h = absurd cc

  -- So it stands upright.
  pub table_upright : IsUpright c StandsInTable
  table_upright = record {
    keeps = λ line ds u n h. record { levels = h.levels; copies_are = h.copies_are; stands = like line u h.levels u.words n u.held refl h.stands };
    finishes = λ ds u alternate message all h may at. step_ends ds u alternate message h may all;
    went = λ ds u alternate message memory later v h may at e. step_went ds u alternate message h may memory later v e;
    held = λ ds u alternate message memory v h may at e. step_held ds u alternate message h may memory v e;
    enters = λ ds u facts n h wants. enters_stands ds u facts n h wants;
    settles_finish = λ ds u h. settling_ends ds u h;
    leaves = λ ds u h. leaves_stands ds u h;
    releases = λ line u h. record {
      levels = h.levels;
      copies_are = h.copies_are;
      stands = like line u h.levels (slice_set u.words held_place (pos 0)) u.last_kept [] (length-set u.words held_place (pos 0)) h.stands;
    };
    back = λ line ds u j y h at. back_stands line ds u j y h at;
    falls = λ u h. falls_stands u h.levels h.copies_are h.stands;
    opens = λ p part e.
        away (settle c None (opening_standing p part)) [] [] refl
        (settle_stands c groups t has lists (opening_standing p part) [] (opening_settles c t groups has p part e));
  }
