-- Who stands in the table of sound code, told by the copies of its levels alone: a turn of it and its settling come to an end, and it
-- stands upright again.
use Rattle.std.proofs.Common.{◌≡◌, ℕ, ℤ, ◌+◌, pos, Bool, true, false, List, [], ◌∷◌, ◌++◌, length, map, take, slice_get, slice_set, Option, Some, None, option_map, refl, ap, sym, ◌∙◌, subst, arith}
use Rattle.std.specs.List.{take-map}
use Rattle.std.proofs.lemmas.List.{length-set, map-append}
use Rattle.std.proofs.lemmas.Option.{slice_get-map}
use Rattle.rb_cache.specs.Copies.{accepted}
use Rattle.rb_world.specs.Kind.{Facts, Membership, Enters, Stepped, Went, Held}
use Rattle.rb_world.specs.Slots.{Slots}
use Rattle.rb_world.specs.World.{Level, Running, copy_of, last_of, without_last}
use Rattle.rb_world.proofs.LastLevels.{last_of-map, without_last-map}
use Rattle.rb_world.proofs.ListFacts.{none_some, some_same}
use Rattle.rb_code.specs.Instructions.Plain.{Code, Part}
use Rattle.rb_code.specs.WordMachine.Workspace.{held_place}
use Rattle.rb_code.specs.WordMachine.Act.{Unfinished, execute}
use Rattle.rb_code.specs.WordMachine.Turn.{Common, Copy, Standing, memory_of, most_steps, settle, sight, step, want}
use Rattle.rb_code.specs.SoundCode.Sound.{HasTable, Table}
use Rattle.rb_code.specs.SoundCode.Safe.{IsThere}
use Rattle.rb_code.specs.SoundCode.Stands.{ServedBut, Stands, StandsAfter, inside_out}
use Rattle.rb_code.specs.SoundCode.StandsInRuns.{AllRecover, ProcessStands}
use Rattle.rb_code.specs.SoundCode.WellFormed.{ListsChannels}
use Rattle.rb_code.specs.WordMachine.WordKind.{copied, entered_at, released, restored}
use Rattle.rb_code.specs.WordMachine.WordRun.{opening_standing}
use Rattle.rb_code.proofs.Executing.ProcessesStand.{away_stands, copy_stands, like_stands}
use Rattle.rb_code.proofs.Executing.RunSteps.{run_step_ends, run_step_stands}
use Rattle.rb_code.proofs.Executing.SoundSteps.{safe_ends}
use Rattle.rb_code.proofs.Executing.StandingSteps as standing
use Rattle.rb_code.proofs.Executing.StandsAgain.{entered_stands, opening_settles, stands_like}

-- whether it stands at a test line, the copies of its levels from the outermost in, and what stands
pub record Upright (c : Code) (t : Table) (line : Bool) (ds : List Copy) (u : Standing) : Type 0 where
  pub levels : List (Level Copy)
  pub copies_are : map (λ level. level.copy) levels ≡ ds
  pub stands : ProcessStands c t (record { state = u; levels = levels; at_line = line; status = Running })

-- the innermost copy
last_copy : (levels : List (Level Copy)) (ds : List Copy) → map (λ level. level.copy) levels ≡ ds → copy_of (last_of levels) ≡ last_of ds
last_copy levels ds e = by (last_of levels) ∙ (sym (last_of-map (λ level. level.copy) levels) ∙ ap last_of e)
  where
    by : (o : Option (Level Copy)) → copy_of o ≡ option_map (λ level. level.copy) o
    by None = refl
    by (Some level) = refl

copies_before : (levels : List (Level Copy)) (ds : List Copy) → map (λ level. level.copy) levels ≡ ds
    → map (λ level. level.copy) (without_last levels) ≡ without_last ds
copies_before levels ds e = sym (without_last-map (λ level. level.copy) levels) ∙ ap without_last e

no_levels : (levels : List (Level Copy)) → map (λ level. level.copy) levels ≡ [] → levels ≡ []
no_levels [] e = refl
no_levels (level ∷ levels) e = absurd (let n = ap length e in omega arith)

module _ (c : Code) (groups : List Membership) (t : Table) (has : HasTable c groups t) (lists : ListsChannels c) where
  pub upright_keeps : (line : Bool) (ds : List Copy) (u : Standing) (n : ℕ) → Upright c t line ds u
      → Upright c t line ds (record u { last_kept = n })
  upright_keeps line ds u n h = record {
    levels = h.levels;
    copies_are = h.copies_are;
    stands = like_stands c groups t has lists (record { state = u; levels = h.levels; at_line = line; status = Running }) h.levels u.words n
        u.held refl refl h.stands;
  }

  pub upright_finishes : (ds : List Copy) (u : Standing) (alternate : ℕ) (message : Option ℤ) (slots : Slots) → Upright c t false ds u
      → ServedBut (want c u) message
      → execute c (sight u alternate (last_of ds) message) (most_steps c) (u.at + 1) [] (memory_of u slots) ≡ Unfinished → ⊥
  upright_finishes ds u alternate message slots h served =
      subst (λ copy. execute c (sight u alternate copy message) (most_steps c) (u.at + 1) [] (memory_of u slots) ≡ Unfinished → ⊥)
      (last_copy h.levels ds h.copies_are)
      (run_step_ends c groups t has lists u h.levels h.stands.now alternate message served slots)

  comes : (ds : List Copy) (u : Standing) (alternate : ℕ) (message : Option ℤ) (memory : Common) (o : Stepped Standing Common)
      → (h : Upright c t false ds u) → ServedBut (want c u) message → step c alternate (last_of ds) u message memory ≡ o
      → StandsAfter c t u h.levels o
  comes ds u alternate message memory o h served e =
      subst (StandsAfter c t u h.levels) (ap (λ copy. step c alternate copy u message memory) (last_copy h.levels ds h.copies_are) ∙ e)
      (run_step_stands c groups t has lists u h.levels h.stands.now alternate message served memory)

  pub upright_went : (ds : List Copy) (u : Standing) (alternate : ℕ) (message : Option ℤ) (memory later : Common) (v : Standing)
      → Upright c t false ds u → ServedBut (want c u) message → step c alternate (last_of ds) u message memory ≡ Went v later
      → Upright c t false ds v
  upright_went ds u alternate message memory later v h served e = record {
    levels = h.levels;
    copies_are = h.copies_are;
    stands = away_stands c groups t has lists v h.levels Running (comes ds u alternate message memory (Went v later) h served e);
  }

  pub upright_held : (ds : List Copy) (u : Standing) (alternate : ℕ) (message : Option ℤ) (memory : Common) (v : Standing)
      → Upright c t false ds u → ServedBut (want c u) message → step c alternate (last_of ds) u message memory ≡ Held v
      → Upright c t true ds v
  upright_held ds u alternate message memory v h served e =
      let r = comes ds u alternate message memory (Held v) h served e in
      record {
        levels = h.levels;
        copies_are = h.copies_are;
        stands = record {
          exists = subst (λ x. IsThere (slice_get c.processes x.process)) (sym r.0) h.stands.exists;
          recovers = subst (λ x. AllRecover c t x.process (inside_out h.levels)) (sym r.0) h.stands.recovers;
          heights = ap (λ x. map (λ level. level.height) x.touched) r.0 ∙ h.stands.heights;
          now = r.1;
        };
      }

  pub upright_enters : (ds : List Copy) (u : Standing) (facts : Facts) (n : ℕ) → Upright c t false ds u → want c u ≡ Enters facts
      → Upright c t false (ds ++ copied (record (entered_at u) { last_kept = n }) ∷ []) (record (entered_at u) { last_kept = n })
  upright_enters ds u facts n h wants =
      let new : Standing = record (entered_at u) { last_kept = n } in
      let level : Level Copy = record { facts = facts; alternate = 1; used = 0; copy = copied new } in
      record {
        levels = h.levels ++ level ∷ [];
        copies_are = map-append (λ level. level.copy) h.levels (level ∷ []) ∙ ap (λ l. l ++ copied new ∷ []) h.copies_are;
        stands = away_stands c groups t has lists new (h.levels ++ level ∷ []) Running
            (entered_stands c groups t has lists u h.levels h.stands.now facts wants n 1);
      }

  pub upright_settling_finishes : (ds : List Copy) (u : Standing) → Upright c t true ds u
      → execute c (sight (record u { touched = accepted u.touched }) 0 (last_of (without_last ds)) None) (most_steps c) u.at []
      (memory_of (record u { touched = accepted u.touched }) []) ≡ Unfinished → ⊥
  upright_settling_finishes ds u h =
      let later : Standing = record u { touched = accepted u.touched } in
      let inner = without_last h.levels in
      subst (λ copy. execute c (sight later 0 copy None) (most_steps c) u.at [] (memory_of later []) ≡ Unfinished → ⊥)
      (last_copy inner (without_last ds) (copies_before h.levels ds h.copies_are))
      (safe_ends c (sight later 0 (copy_of (last_of inner)) None) (λ m. ⊥) (most_steps c) u.at [] (memory_of later [])
      (standing.settle_safe c groups t has lists later inner h.stands.now))

  pub upright_leaves : (ds : List Copy) (u : Standing) → Upright c t true ds u
      → Upright c t false (without_last ds) (settle c (last_of (without_last ds)) (record u { touched = accepted u.touched }))
  upright_leaves ds u h =
      let later : Standing = record u { touched = accepted u.touched } in
      let inner = without_last h.levels in
      let copies = copies_before h.levels ds h.copies_are in
      record {
        levels = inner;
        copies_are = copies;
        stands = away_stands c groups t has lists (settle c (last_of (without_last ds)) later) inner Running
            (subst (λ copy. Stands c t (settle c copy later) inner) (last_copy inner (without_last ds) copies)
            (standing.settle_stands c groups t has lists later inner h.stands.now));
      }

  pub upright_releases : (line : Bool) (ds : List Copy) (u : Standing) → Upright c t line ds u → Upright c t line ds (released u)
  upright_releases line ds u h = record {
    levels = h.levels;
    copies_are = h.copies_are;
    stands = like_stands c groups t has lists (record { state = u; levels = h.levels; at_line = line; status = Running }) h.levels
        (slice_set u.words held_place (pos 0)) u.last_kept [] (length-set u.words held_place (pos 0)) refl h.stands;
  }

  pub upright_back : (line : Bool) (ds : List Copy) (u : Standing) (j : ℕ) (y : Copy) → Upright c t line ds u → slice_get ds j ≡ Some y
      → Upright c t false (take (j + 1) ds) (restored (record u { touched = take (j + 1) u.touched }) y)
  upright_back line ds u j y h there = by (slice_get h.levels j) refl
    where
      by : (o : Option (Level Copy)) → slice_get h.levels j ≡ o
          → Upright c t false (take (j + 1) ds) (restored (record u { touched = take (j + 1) u.touched }) y)
      by None e =
          absurd (none_some (sym (slice_get-map (λ level. level.copy) h.levels j ∙ ap (option_map (λ level. level.copy)) e)
          ∙ (ap (λ l. slice_get l j) h.copies_are ∙ there)))
      by (Some level) e =
          let same : level.copy ≡ y =
          some_same (sym (slice_get-map (λ level. level.copy) h.levels j ∙ ap (option_map (λ level. level.copy)) e)
          ∙ (ap (λ l. slice_get l j) h.copies_are ∙ there)) in
          record {
            levels = take (j + 1) h.levels;
            copies_are = sym (take-map (λ level. level.copy) (j + 1) h.levels) ∙ ap (take (j + 1)) h.copies_are;
            stands = away_stands c groups t has lists (restored (record u { touched = take (j + 1) u.touched }) y) (take (j + 1) h.levels) Running
                (subst (λ x. Stands c t (restored (record u { touched = take (j + 1) u.touched }) x) (take (j + 1) h.levels)) same
                (copy_stands c groups t has lists (record { state = u; levels = h.levels; at_line = line; status = Running }) j level e h.stands));
          }

  pub upright_falls : (u : Standing) → Upright c t false [] u → Upright c t false [] (record u { touched = take 0 u.touched })
  upright_falls u h =
      let none = no_levels h.levels h.copies_are in
      let now : Stands c t u [] = subst (Stands c t u) none h.stands.now in
      record {
        levels = [];
        copies_are = refl;
        stands = away_stands c groups t has lists (record u { touched = take 0 u.touched }) [] Running
            (stands_like c t u [] [] u.words u.last_kept u.held (take 0 u.touched) refl (sym now.layout.heights) refl now);
      }

  pub upright_opens : (p : ℕ) (part : Part) → slice_get c.processes p ≡ Some part
      → Upright c t false [] (settle c None (opening_standing p part))
  upright_opens p part there = record {
    levels = [];
    copies_are = refl;
    stands = away_stands c groups t has lists (settle c None (opening_standing p part)) [] Running
        (standing.settle_stands c groups t has lists (opening_standing p part) [] (opening_settles c t groups has p part there));
  }
