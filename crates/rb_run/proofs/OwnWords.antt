-- In every run of sound code each process, failed or not, knows its number and has at least the words of its cursors and variables.
use Rattle.std.proofs.Common.{◌≡◌, ℕ, ℤ, zero, suc, ◌+◌, ◌≤◌, pos, Bool, true, false, List, [], ◌∷◌, length, drop, slice_get, Option, Some, None, refl, ap, sym, ◌∙◌, subst, true≢false, arith}
use Rattle.std.proofs.lemmas.List.{length-drop, length-set, length-take-le}
use Rattle.rb_cache.specs.Copies.{accepted}
use Rattle.rb_world.specs.Kind.{Kind, Membership, Went, Held}
use Rattle.rb_world.specs.Reject.{back_to}
use Rattle.rb_world.specs.Slots.{zero_slots}
use Rattle.rb_world.specs.Standing.{Each, is_failed}
use Rattle.rb_world.specs.Turn.{freed, stands_now}
use Rattle.rb_world.specs.World.{Level, Process, ProcessStatus, Running, Finished, FailedWith, copy_of, goes_on, last_of, settled, without_last}
use Rattle.rb_world.proofs.Keeping.EachProcess.{KeepsEach, each_opening_run}
use Rattle.rb_world.proofs.ListFacts.{none_some, some_same}
use Rattle.rb_world.proofs.Keeping.StandingFacts.{status_at-whole}
use Rattle.rb_code.specs.WordMachine.Workspace.{body_place, part_of, variables_place}
use Rattle.rb_code.specs.Instructions.Plain.{Code, Part}
use Rattle.rb_code.specs.SoundCode.Sound.{HasTable, Table}
use Rattle.rb_code.specs.SoundCode.Stands.{IsLaidOut, Levels, Settles, Stands, inside_out}
use Rattle.rb_code.specs.SoundCode.StandsInRuns.{ProcessStands, StandsNow}
use Rattle.rb_code.specs.WordMachine.Turn.{Common, Copy, Standing, step}
use Rattle.rb_code.specs.SoundCode.WellFormed.{IsSound, ListsChannels}
use Rattle.rb_code.specs.WordMachine.WordKind.{entered_at, word_kind}
use Rattle.rb_code.specs.WordMachine.WordRun.{opening_standing, opening_standings, variable_words, word_run}
use Rattle.rb_code.proofs.Executing.OpenLevels.{bases_rise}
use Rattle.rb_code.proofs.Executing.ProcessesStand.{copy_stands, processes_stand, settled_stands}
use Rattle.rb_code.proofs.Executing.StandsAgain.{opening_settles}
use Rattle.rb_code.proofs.WholeRuns.MachineSteps.{LeavesLinks, settle_same, step_leaves}

-- at least the words of the cursors and of the variables
abbrev pub AreOwn : Code → Standing → Type 0
AreOwn c s = body_place (part_of c s.process) ≤ length s.words

pub record HasOwnWords (c : Code) (p : ℕ) (q : Process Standing Copy) : Type 0 where
  pub number : q.state.process ≡ p
  pub own : AreOwn c q.state

module _ (c : Code) (t : Table) where
  laid_own : (s : Standing) (levels : Levels) (entry : _) → IsLaidOut c t s.process levels entry s.words s.calls s.touched → AreOwn c s
  laid_own s levels entry h =
      let up = bases_rise c t s.process s.calls entry.within entry.blocks levels h.body in
      omega (arith, up, h.words_are)

  stands_own : (s : Standing) (levels : List (Level Copy)) → Stands c t s levels → AreOwn c s
  stands_own s levels h = laid_own s (inside_out levels) h.entry h.layout

  settles_own : (s : Standing) (levels : List (Level Copy)) → Settles c t s levels → AreOwn c s
  settles_own s levels h = laid_own s (inside_out levels) h.entry h.layout

  -- who stands and has not failed has its own words
  now_own : (status : ProcessStatus) (at_line : Bool) (s : Standing) (levels : List (Level Copy)) → is_failed status ≡ false
      → StandsNow c t status at_line s levels → AreOwn c s
  now_own (FailedWith cause) at_line s levels whole h = absurd (true≢false whole)
  now_own Running false s levels whole h = stands_own s levels h
  now_own Finished false s levels whole h = stands_own s levels h
  now_own Running true s levels whole h = settles_own (record s { touched = accepted s.touched }) (without_last levels) h
  now_own Finished true s levels whole h = settles_own (record s { touched = accepted s.touched }) (without_last levels) h

-- what is kept: who stands, with its own words
record Keeps (c : Code) (t : Table) (p : ℕ) (q : Process Standing Copy) : Type 0 where
  stands : ProcessStands c t q
  has : HasOwnWords c p q

module _ (c : Code) (groups : List Membership) (t : Table) (has : HasTable c groups t) (lists : ListsChannels c) where
  abbrev Words : Kind Standing Copy Common
  Words = word_kind c groups

  laws : KeepsEach Words (λ p q. ProcessStands c t q)
  laws = processes_stand c groups t has lists

  -- who has not failed
  whole : (p : ℕ) (q : Process Standing Copy) → is_failed q.status ≡ false → q.state.process ≡ p → ProcessStands c t q → Keeps c t p q
  whole p q e number h = record {
    stands = h;
    has = record { number = number; own = now_own c t q.status q.at_line q.state q.levels e h.now };
  }

  -- a step is one of the same process
  went_same : (alternate : ℕ) (copy : Option Copy) (u v : Standing) (message : Option ℤ) (memory later : Common)
      → step c alternate copy u message memory ≡ Went v later → v.process ≡ u.process
  went_same alternate copy u v message memory later e =
      (subst (LeavesLinks u memory) e (step_leaves c alternate copy u message memory)).0.process

  held_same : (alternate : ℕ) (copy : Option Copy) (u v : Standing) (message : Option ℤ) (memory : Common)
      → step c alternate copy u message memory ≡ Held v → v.process ≡ u.process
  held_same alternate copy u v message memory e =
      (subst (LeavesLinks u memory) e (step_leaves c alternate copy u message memory)).process

  settled_whole : (p : ℕ) (s : Standing) (levels : List (Level Copy)) → s.process ≡ p → ProcessStands c t (settled Words s levels)
      → Keeps c t p (settled Words s levels)
  settled_whole p s levels number h =
      whole p (settled Words s levels) (status_at-whole _) ((settle_same c (copy_of (last_of levels)) s).process ∙ number) h

  freed_keeps : (p : ℕ) (s : Standing) (levels : List (Level Copy)) (at_line : Bool) (status : ProcessStatus)
      → Keeps c t p (record { state = s; levels = levels; at_line = at_line; status = status })
      → Keeps c t p (freed Words (record { state = s; levels = levels; at_line = at_line; status = status }))
  freed_keeps p s [] at_line status h = record {
    stands = laws.is_freed p (record { state = s; levels = []; at_line = at_line; status = status }) h.stands;
    has = record {
      number = h.has.number;
      own = (let same = length-set s.words 0 (pos 0) in let own = h.has.own in omega arith);
    };
  }
  freed_keeps p s (level ∷ levels) at_line status h = h

  back_keeps : (p j : ℕ) (q : Process Standing Copy) → Keeps c t p q → (o : Option (Level Copy)) → slice_get q.levels j ≡ o
      → HasOwnWords c p (back_to Words j q o)
  back_keeps p j q h None e = h.has
  back_keeps p j q h (Some level) e = record {
    number = h.has.number;
    own = stands_own c t _ _ (copy_stands c groups t has lists q j level e h.stands);
  }

  keeps : KeepsEach Words (Keeps c t)
  keeps = record {
    counts = λ p q h. record { stands = laws.counts p q h.stands; has = record { number = h.has.number; own = h.has.own } };
    goes = λ n p q w alternate message s m h at e.
        settled_whole p (record s { last_kept = n }) q.levels
        (went_same alternate (copy_of (last_of q.levels)) q.state s message w.memory m e ∙ h.has.number)
        (laws.goes n p q w alternate message s m h.stands at e);
    opens = λ n p q w facts alternate h at.
        whole p (goes_on Words (record (entered_at q.state) { last_kept = n }) _) (status_at-whole _) h.has.number
        (laws.opens n p q w facts alternate h.stands at);
    accepts = λ n p q w alternate message s h at e.
        settled_whole p (record s { last_kept = n; touched = accepted s.touched }) (without_last q.levels)
        (held_same alternate (copy_of (last_of q.levels)) q.state s message w.memory e ∙ h.has.number)
        (laws.accepts n p q w alternate message s h.stands at e);
    stands = λ n p q w alternate message s h at e.
        whole p (stands_now (record s { last_kept = n }) q.levels) refl
        (held_same alternate (copy_of (last_of q.levels)) q.state s message w.memory e ∙ h.has.number)
        (laws.stands n p q w alternate message s h.stands at e);
    leaves = λ p d q h e.
        settled_whole p (record q.state { touched = accepted q.state.touched }) (without_last q.levels) h.has.number
        (laws.leaves p d q h.stands e);
    falls = λ p q cause h. record {
      stands = laws.falls p q cause h.stands;
      has = record { number = h.has.number; own = h.has.own };
    };
    goes_back = λ p j q h. record {
      stands = laws.goes_back p j q h.stands;
      has = back_keeps p j q h (slice_get q.levels j) refl;
    };
    rises = λ p j q h. record { stands = laws.rises p j q h.stands; has = record { number = h.has.number; own = h.has.own } };
    is_freed = λ p q h. freed_keeps p q.state q.levels q.at_line q.status h;
  }

  -- a process before the first turn
  opens_with : (p r : ℕ) (parts : List Part) (s : Standing) → slice_get (opening_standings p parts) r ≡ Some s
      → (part : Part) × (slice_get parts r ≡ Some part) × (s ≡ opening_standing (p + r) part)
  opens_with p r [] s e = absurd (none_some e)
  opens_with p zero (part ∷ parts) s e =
      (part, refl, sym (some_same e) ∙ ap (λ n. opening_standing n part) (omega arith))
  opens_with p (suc r) (part ∷ parts) s e =
      let h = opens_with (p + 1) r parts s e in
      (h.0, h.1, h.2 ∙ ap (λ n. opening_standing n h.0) (omega arith))

  first_keeps : (r : ℕ) (s : Standing) → slice_get (opening_standings 0 c.processes) r ≡ Some s → Keeps c t r (settled Words s [])
  first_keeps r s e =
      let h = opens_with 0 r c.processes s e in
      let is : s ≡ opening_standing r h.0 = h.2 ∙ ap (λ n. opening_standing n h.0) (omega arith) in
      subst (λ x. Keeps c t r (settled Words x [])) (sym is)
      (settled_whole r (opening_standing r h.0) [] refl
      (settled_stands c groups t has lists (opening_standing r h.0) [] (opening_settles c t groups has r h.0 h.1)))

  runs_keep : (turns : List ℕ) → Each (Keeps c t) (word_run c groups turns).0.processes
  runs_keep turns =
      each_opening_run keeps turns (opening_standings 0 c.processes) (record { slots = zero_slots c.channels; links = [] }) first_keeps

-- so it is in every run
pub runs_own : (c : Code) (groups : List Membership) (counts : List ℕ) → IsSound c groups counts → (turns : List ℕ)
    → Each (HasOwnWords c) (word_run c groups turns).0.processes
runs_own c groups counts sound turns r q e = (runs_keep c groups sound.table sound.has sound.well.lists turns r q e).has

-- then the words of the variables are as many as the code says
pub variables_long : (c : Code) (s : Standing) → AreOwn c s → length (variable_words c s) ≡ (part_of c s.process).words
variables_long c s own =
    let part = part_of c s.process in
    let left = length-drop (variables_place part) s.words in
    length-take-le part.words (drop (variables_place part) s.words) (omega arith)
