-- Whatever a turn does to a process of sound code, the process stands again.
use Rattle.std.proofs.Common.{◌≡◌, ℕ, ℤ, ◌+◌, pos, Bool, true, false, List, [], ◌∷◌, length, map, reverse, take, drop, slice_get, slice_set, Option, Some, None, refl, ap, sym, ◌∙◌, subst}
use Rattle.std.proofs.lemmas.List.{length-set}
use Rattle.rb_base.specs.declared.event.Cause.{Cause}
use Rattle.rb_cache.specs.Copies.{accepted}
use Rattle.rb_world.specs.Kind.{Kind, Membership, Went, Held}
use Rattle.rb_world.specs.World.{Level, Process, ProcessStatus, Running, Finished, FailedWith, World, change_at, copy_of, goes_on, last_of, settled, status_at, without_last}
use Rattle.rb_world.specs.Reject.{back_to, fallen, next_alternate, put_back, raised}
use Rattle.rb_world.specs.Turn.{freed, is_last_of, stands_at, stands_now, turn_used, one_used}
use Rattle.rb_world.proofs.ListFacts.{first_holds}
use Rattle.rb_world.proofs.TurnFacts.{IsReady, StepsAt, ToSend, ToReceive, ToReceiveIfThere, ToStart, ToAct}
use Rattle.rb_world.proofs.Keeping.EachProcess.{KeepsEach}
use Rattle.rb_code.specs.Instructions.Plain.{Code}
use Rattle.rb_code.specs.WordMachine.Workspace.{held_place}
use Rattle.rb_code.specs.WordMachine.Turn.{Common, Copy, Standing, memory_of, most_steps, settle, settled_by, sight, step, want}
use Rattle.rb_code.specs.SoundCode.Sound.{HasTable, Table}
use Rattle.rb_code.specs.SoundCode.Safe.{IsThere}
use Rattle.rb_code.specs.SoundCode.Stands.{BodyFits, RestsAt, ServedBut, Settles, Stands, StandsAfter, height_of, inside_out, opened}
use Rattle.rb_code.specs.SoundCode.StandsInRuns.{AllRecover, ProcessStands, Recovers, StandsNow}
use Rattle.rb_code.specs.SoundCode.WellFormed.{ListsChannels}
use Rattle.rb_code.specs.WordMachine.WordKind.{entered_at, restored, word_kind}
use Rattle.rb_code.proofs.Executing.InsideOut.{heights_out, heights_taken, heights_untouched, inside_split, inside_taken, raised_same, used_same, without_last_same}
use Rattle.rb_code.proofs.Executing.Recovering.{all_recover, outer_recover}
use Rattle.rb_code.proofs.Executing.RunSteps.{run_step_stands}
use Rattle.rb_code.proofs.Executing.SoundSteps.{some_steps, stops_at_once}
use Rattle.rb_code.proofs.Executing.StandingSteps.{settle_stands}
use Rattle.rb_code.proofs.Executing.StandsAgain.{entered_stands, settles_like, stands_like}

module _ (c : Code) (groups : List Membership) (t : Table) (has : HasTable c groups t) (lists : ListsChannels c) where
  abbrev Words : Kind Standing Copy Common
  Words = word_kind c groups

  -- who stands away from a line
  pub away_stands : (s : Standing) (levels : List (Level Copy)) (status : ProcessStatus) → Stands c t s levels
      → ProcessStands c t (record { state = s; levels = levels; at_line = false; status = status })
  away_stands s levels status h = record {
    exists = h.exists;
    recovers = all_recover c t s.process s.calls h.entry.within h.entry.blocks (inside_out levels) h.layout.body h.layout.calls_few;
    heights = h.layout.heights;
    now = by status;
  }
    where
      by : (one : ProcessStatus) → StandsNow c t one false s levels
      by Running = h
      by Finished = h
      by (FailedWith cause) = refl

  -- who settles
  pub settled_stands : (s : Standing) (levels : List (Level Copy)) → Settles c t s levels → ProcessStands c t (settled Words s levels)
  settled_stands s levels h =
      away_stands (settle c (copy_of (last_of levels)) s) levels (status_at (want c (settle c (copy_of (last_of levels)) s)))
      (settle_stands c groups t has lists s levels h)

  -- who has settled already
  has_settled : (s : Standing) (levels : List (Level Copy)) → Stands c t s levels → settle c (copy_of (last_of levels)) s ≡ s
  has_settled s levels h =
      ap (settled_by s) (stops_at_once c (sight s 0 (copy_of (last_of levels)) None) (most_steps c) s.at (memory_of s []) (some_steps c) h.rests)

  rested_stands : (s : Standing) (levels : List (Level Copy)) → Stands c t s levels → ProcessStands c t (settled Words s levels)
  rested_stands s levels h =
      subst (λ x. ProcessStands c t (goes_on Words x levels)) (sym (has_settled s levels h)) (away_stands s levels (status_at (want c s)) h)

  -- who runs away from a line stands between two turns
  pub stands_to_step : (q : Process Standing Copy) → ProcessStands c t q → q.status ≡ Running → q.at_line ≡ false → Stands c t q.state q.levels
  stands_to_step q h running away =
      subst (λ one. StandsNow c t one false q.state q.levels) running
      (subst (λ line. StandsNow c t q.status line q.state q.levels) away h.now)

  -- a world serves a step
  served : (q : Process Standing Copy) (w : World Standing Copy Common) (message : Option ℤ) → IsReady Words q w message
      → ServedBut (want c q.state) message
  served q w message (ToSend channel wants room none) = subst (λ one. ServedBut one message) (sym wants) tt
  served q w message (ToReceive channel v wants there is) =
      subst (λ one. ServedBut one message) (sym wants) (subst IsThere (sym is) tt)
  served q w message (ToReceiveIfThere channel wants is) = subst (λ one. ServedBut one message) (sym wants) tt
  served q w message (ToStart wants none) = subst (λ one. ServedBut one message) (sym wants) tt
  served q w message (ToAct wants none) = subst (λ one. ServedBut one message) (sym wants) tt

  -- what a step comes to
  step_comes : (p : ℕ) (q : Process Standing Copy) (w : World Standing Copy Common) (alternate : ℕ) (message : Option ℤ)
      → ProcessStands c t q → StepsAt Words p q w alternate message
      → StandsAfter c t q.state q.levels (step c alternate (copy_of (last_of q.levels)) q.state message w.memory)
  step_comes p q w alternate message h at =
      run_step_stands c groups t has lists q.state q.levels
      (stands_to_step q h at.acts.runs.running at.acts.away) alternate message (served q w message at.ready) w.memory

  -- levels that know the same, and as many words
  like_now : (status : ProcessStatus) (at_line : Bool) (s : Standing) (levels more : List (Level Copy)) (ws : List ℤ) (n : ℕ) (hs : List (List ℕ))
      → length ws ≡ length s.words → map opened more ≡ map opened levels → StandsNow c t status at_line s levels
      → StandsNow c t status at_line (record s { words = ws; last_kept = n; held = hs }) more
  like_now (FailedWith cause) at_line s levels more ws n hs long e h = h
  like_now Running false s levels more ws n hs long e h = stands_like c t s levels more ws n hs s.touched long refl (ap reverse e) h
  like_now Finished false s levels more ws n hs long e h = stands_like c t s levels more ws n hs s.touched long refl (ap reverse e) h
  like_now Running true s levels more ws n hs long e h =
      settles_like c t (record s { touched = accepted s.touched }) (without_last levels) (without_last more) ws n hs (accepted s.touched) long
      refl (without_last_same levels more e) h
  like_now Finished true s levels more ws n hs long e h =
      settles_like c t (record s { touched = accepted s.touched }) (without_last levels) (without_last more) ws n hs (accepted s.touched) long
      refl (without_last_same levels more e) h

  pub like_stands : (q : Process Standing Copy) (more : List (Level Copy)) (ws : List ℤ) (n : ℕ) (hs : List (List ℕ))
      → length ws ≡ length q.state.words → map opened more ≡ map opened q.levels → ProcessStands c t q
      → ProcessStands c t (record {
        state = record q.state { words = ws; last_kept = n; held = hs };
        levels = more;
        at_line = q.at_line;
        status = q.status;
      })
  like_stands q more ws n hs long e h = record {
    exists = h.exists;
    recovers = subst (AllRecover c t q.state.process) (sym (ap reverse e)) h.recovers;
    heights = h.heights ∙ ap (λ ls. reverse (map height_of ls)) (sym (ap reverse e));
    now = like_now q.status q.at_line q.state q.levels more ws n hs long e h.now;
  }

  counts : (p : ℕ) (q : Process Standing Copy) → ProcessStands c t q → ProcessStands c t (turn_used q)
  counts p q h = like_stands q (map one_used q.levels) q.state.words q.state.last_kept q.state.held refl (used_same q.levels) h

  rises : (p j : ℕ) (q : Process Standing Copy) → ProcessStands c t q → ProcessStands c t (raised j q)
  rises p j q h =
      like_stands q (change_at j next_alternate q.levels) q.state.words q.state.last_kept q.state.held refl (raised_same j q.levels) h

  frees : (p : ℕ) (s : Standing) (levels : List (Level Copy)) (at_line : Bool) (status : ProcessStatus)
      → ProcessStands c t (record { state = s; levels = levels; at_line = at_line; status = status })
      → ProcessStands c t (freed Words (record { state = s; levels = levels; at_line = at_line; status = status }))
  frees p s [] at_line status h =
      like_stands (record { state = s; levels = []; at_line = at_line; status = status }) [] (slice_set s.words held_place (pos 0))
      s.last_kept [] (length-set s.words held_place (pos 0)) refl h
  frees p s (level ∷ levels) at_line status h = h

  goes : (n p : ℕ) (q : Process Standing Copy) (w : World Standing Copy Common) (alternate : ℕ) (message : Option ℤ) (s : Standing) (m : Common)
      → ProcessStands c t q → StepsAt Words p q w alternate message
      → step c alternate (copy_of (last_of q.levels)) q.state message w.memory ≡ Went s m
      → ProcessStands c t (settled Words (record s { last_kept = n }) q.levels)
  goes n p q w alternate message s m h at e =
      rested_stands (record s { last_kept = n }) q.levels
      (stands_like c t s q.levels q.levels s.words n s.held s.touched refl refl refl
      (subst (StandsAfter c t q.state q.levels) e (step_comes p q w alternate message h at)))

  -- an acceptance test held
  held : (n p : ℕ) (q : Process Standing Copy) (w : World Standing Copy Common) (alternate : ℕ) (message : Option ℤ) (s : Standing)
      → ProcessStands c t q → StepsAt Words p q w alternate message
      → step c alternate (copy_of (last_of q.levels)) q.state message w.memory ≡ Held s
      → (s ≡ record q.state { at = s.at }) × Settles c t (record s { last_kept = n; touched = accepted s.touched }) (without_last q.levels)
  held n p q w alternate message s h at e =
      let r = subst (StandsAfter c t q.state q.levels) e (step_comes p q w alternate message h at) in (
        r.0,
        settles_like c t (record s { touched = accepted s.touched }) (without_last q.levels) (without_last q.levels) s.words n s.held
            (accepted s.touched) refl refl refl r.1,
      )

  comes_to_line : (n p : ℕ) (q : Process Standing Copy) (w : World Standing Copy Common) (alternate : ℕ) (message : Option ℤ) (s : Standing)
      → ProcessStands c t q → StepsAt Words p q w alternate message
      → step c alternate (copy_of (last_of q.levels)) q.state message w.memory ≡ Held s
      → ProcessStands c t (stands_now (record s { last_kept = n }) q.levels)
  comes_to_line n p q w alternate message s h at e =
      let r = held n p q w alternate message s h at e in
      record {
        exists = subst (λ x. IsThere (slice_get c.processes x.process)) (sym r.0) h.exists;
        recovers = subst (λ x. AllRecover c t x.process (inside_out q.levels)) (sym r.0) h.recovers;
        heights = ap (λ x. map (λ level. level.height) x.touched) r.0 ∙ h.heights;
        now = r.1;
      }

  leaves_line : (p d : ℕ) (q : Process Standing Copy) → ProcessStands c t q → stands_at d q ≡ true
      → ProcessStands c t (settled Words (record q.state { touched = accepted q.state.touched }) (without_last q.levels))
  leaves_line p d q h e =
      settled_stands (record q.state { touched = accepted q.state.touched }) (without_last q.levels)
      (by q.status (subst (λ line. StandsNow c t q.status line q.state q.levels) (first_holds q.at_line (is_last_of d (last_of q.levels)) e) h.now))
    where
      true_false : true ≡ false → ⊥
      true_false e = cc

      by : (one : ProcessStatus) → StandsNow c t one true q.state q.levels
          → Settles c t (record q.state { touched = accepted q.state.touched }) (without_last q.levels)
      by Running k = k
      by Finished k = k
      by (FailedWith cause) k = absurd (true_false k)

  falls : (p : ℕ) (q : Process Standing Copy) (cause : Cause) → ProcessStands c t q → ProcessStands c t (fallen Words cause q)
  falls p q cause h = record { exists = h.exists; recovers = tt; heights = refl; now = refl }

  -- a copy is put back
  pub copy_stands : (q : Process Standing Copy) (j : ℕ) (level : Level Copy) → slice_get q.levels j ≡ Some level → ProcessStands c t q
      → Stands c t (restored (record q.state { touched = take (j + 1) q.state.touched }) level.copy) (take (j + 1) q.levels)
  copy_stands q j level e h =
      let left = inside_out (take (j + 1) q.levels) in
      let is : left ≡ opened level ∷ inside_out (take j q.levels) = inside_taken q.levels j level e in
      let all : AllRecover c t q.state.process left =
      outer_recover c t q.state.process (inside_out (drop (j + 1) q.levels)) left
      (subst (AllRecover c t q.state.process) (inside_split q.levels (j + 1)) h.recovers) in
      let r : Recovers c t q.state.process (inside_out (take j q.levels)) (opened level) = (subst (AllRecover c t q.state.process) is all).0 in
      record {
        exists = h.exists;
        rests = subst RestsAt (sym r.restart) tt;
        entry = r.entry;
        there = r.there;
        layout = record {
          words_are = r.words_are;
          calls_few = r.calls_few;
          body = subst (BodyFits c t q.state.process level.copy.calls r.entry.within r.entry.blocks) (sym is) r.body;
          heights = heights_untouched (take (j + 1) q.state.touched)
              ∙ (heights_taken (j + 1) q.state.touched q.levels (h.heights ∙ heights_out q.levels) ∙ sym (heights_out (take (j + 1) q.levels)));
        };
      }

  goes_back : (p j : ℕ) (q : Process Standing Copy) → ProcessStands c t q → ProcessStands c t (put_back Words j q)
  goes_back p j q h = by (slice_get q.levels j) refl
    where
      by : (o : Option (Level Copy)) → slice_get q.levels j ≡ o → ProcessStands c t (back_to Words j q o)
      by None e = h
      by (Some level) e =
          away_stands (restored (record q.state { touched = take (j + 1) q.state.touched }) level.copy) (take (j + 1) q.levels) q.status
          (copy_stands q j level e h)

  pub processes_stand : KeepsEach Words (λ p q. ProcessStands c t q)
  processes_stand = record {
    counts = counts;
    goes = λ n p q w alternate message s m h at e. goes n p q w alternate message s m h at e;
    opens = λ n p q w facts alternate h at.
        away_stands (record (entered_at q.state) { last_kept = n }) _ (status_at (want c (record (entered_at q.state) { last_kept = n })))
        (entered_stands c groups t has lists q.state q.levels (stands_to_step q h at.acts.runs.running at.acts.away) facts
        at.wants n alternate);
    accepts = λ n p q w alternate message s h at e.
        settled_stands (record s { last_kept = n; touched = accepted s.touched }) (without_last q.levels)
        (held n p q w alternate message s h at e).1;
    stands = λ n p q w alternate message s h at e. comes_to_line n p q w alternate message s h at e;
    leaves = leaves_line;
    falls = falls;
    goes_back = goes_back;
    rises = rises;
    is_freed = λ p q h. frees p q.state q.levels q.at_line q.status h;
  }
