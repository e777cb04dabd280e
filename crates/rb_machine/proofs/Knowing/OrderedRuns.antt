-- Every world of a run of sound code is ordered, as the laws of turns ask: levels are nested, and are those of members; an outermost
-- conversation is entered with no level; a conversation that is broken lies in no other; and no line is left to release.
use Rattle.std.proofs.Common.{◌≡◌, ℕ, ◌+◌, ℤ, pos, true, false, List, [], ◌∷◌, slice_get, slice_set, Option, Some, None, refl, sym, ap, subst}
use Rattle.rb_world.specs.Kind.{Enters, Facts, Kind, Membership}
use Rattle.rb_world.specs.Reject.{parent_of}
use Rattle.rb_world.specs.Standing.{Each, is_failed}
use Rattle.rb_world.specs.Turn.{freed, move, run, state_freed, turn}
use Rattle.rb_world.specs.World.{Level, Process, ProcessStatus, Running, Finished, FailedWith, settled}
use Rattle.rb_world.proofs.Keeping.EachProcess.{settled_each}
use Rattle.rb_world.proofs.ListFacts.{none_some}
use Rattle.rb_world.proofs.Members.PassTogether.{map_found}
use Rattle.rb_world.proofs.Members.Together.{IsOrdered}
use Rattle.rb_code.specs.Instructions.Plain.{Code}
use Rattle.rb_code.specs.WordMachine.Workspace.{held_place}
use Rattle.rb_code.specs.SoundCode.Sound.{HasTable, Table}
use Rattle.rb_code.specs.SoundCode.Stands.{Stands}
use Rattle.rb_code.specs.SoundCode.StandsInRuns.{StandsNow}
use Rattle.rb_code.specs.WordMachine.Turn.{Common, Copy, Standing, want}
use Rattle.rb_code.specs.SoundCode.WellFormed.{IsSound, ListsChannels}
use Rattle.rb_code.specs.WordMachine.WordKind.{copied, released, word_kind}
use Rattle.rb_code.specs.WordMachine.WordRun.{WordWorld, opening_of, opening_standings, word_run}
use Rattle.rb_recovery.specs.Known.{IsKnown, IsPlaced}
use Rattle.rb_machine.proofs.Knowing.BrokenTalks.{AllOuterIfBroken, opening_outer, turn_outer}
use Rattle.rb_machine.proofs.Knowing.FirstHeld.{opening_holds_none}
use Rattle.rb_machine.proofs.Knowing.KnownTurns.{known_opening, known_turn}
use Rattle.rb_machine.proofs.Knowing.Placed.Behind.{IsBusy, behind, behind_may}
use Rattle.rb_machine.proofs.Knowing.Placed.NewLevel.{EndIn, MayOpen, entry_opens}

set_again : (words : List ℤ) → slice_set (slice_set words held_place (pos 0)) held_place (pos 0) ≡ slice_set words held_place (pos 0)
set_again [] = refl
set_again (x ∷ words) = refl

module _ (c : Code) (groups : List Membership) where
  abbrev Words : Kind Standing Copy Common
  Words = word_kind c groups

  -- no line is left to release
  abbrev IsQuiet : ℕ → Process Standing Copy → Type 0
  IsQuiet r q = freed Words q ≡ q

  -- once lines were released there are none
  released_again : (s : Standing) → released (released s) ≡ released s
  released_again s = ap (λ (words : List ℤ). record s { held = []; words = words }) (set_again s.words)

  freed_again : (s : Standing) (levels : List (Level Copy)) → state_freed Words (state_freed Words s levels) levels ≡ state_freed Words s levels
  freed_again s [] = released_again s
  freed_again s (level ∷ levels) = refl

  turn_quiet : (t p : ℕ) (w : WordWorld) → Each IsQuiet (turn Words t p w).0.processes
  turn_quiet t p w r q e =
      let found = map_found (freed Words) (move Words t p w).world.processes r q e in
      let x : Process Standing Copy = found.0 in
      subst (λ (y : Process Standing Copy). freed Words y ≡ y) found.2
      (ap (λ (s : Standing). record { state = s; levels = x.levels; at_line = x.at_line; status = x.status }) (freed_again x.state x.levels))

module _ (c : Code) (groups : List Membership) (t : Table) (has : HasTable c groups t) (lists : ListsChannels c) where
  opening_quiet : Each (IsQuiet c groups) (opening_of c groups).processes
  opening_quiet =
      settled_each (word_kind c groups) (IsQuiet c groups) (opening_standings 0 c.processes)
      (λ r s e.
      let q : Process Standing Copy = settled (word_kind c groups) s [] in
      ap (λ (s : Standing). record { state = s; levels = []; at_line = false; status = q.status })
      (opening_holds_none c groups t has lists r s e).0)

  -- Who enters a conversation at no line has the levels that its block asks for, unless it has failed, when it has none.
  enters_open : (p : ℕ) (q : Process Standing Copy) (new : Level Copy) → IsPlaced c groups t p q → Stands c t q.state q.levels
      → want c q.state ≡ Enters new.facts → MayOpen c groups p q.levels new
  enters_open p q new placed stands wants =
      let one = behind c groups t has lists q.state q.levels stands (subst IsBusy (sym wants) tt) in
      subst (λ (n : ℕ). MayOpen c groups n q.levels new) placed.number
      (entry_opens c groups t q.state.process q.state.calls one.entry q.levels new one.body
      (behind_may c groups t has lists q.state q.levels stands (Enters new.facts) wants one))

  enters_bare : (p d : ℕ) (q : Process Standing Copy) (facts : Facts) → IsPlaced c groups t p q → Stands c t q.state q.levels
      → want c q.state ≡ Enters facts → facts.conversation ≡ Some d → parent_of (slice_get groups d) ≡ None → q.levels ≡ []
  enters_bare p d q facts placed stands wants of_d alone =
      let new : Level Copy = record { facts = facts; alternate = 0; used = 0; copy = copied q.state } in
      outermost (parent_of (slice_get groups d)) alone ((enters_open p q new placed stands wants).inside d of_d)
    where
      outermost : (parent : Option ℕ) → parent ≡ None → EndIn parent q.levels → q.levels ≡ []
      outermost None alone none = none
      outermost (Some d) alone inner = absurd (none_some (sym alone))

  bare_or_stands : (status : ProcessStatus) (s : Standing) (levels : List (Level Copy)) → StandsNow c t status false s levels
      → (is_failed status ≡ true → levels ≡ []) → (Stands c t s levels → levels ≡ []) → levels ≡ []
  bare_or_stands Running s levels stands bare rest = rest stands
  bare_or_stands Finished s levels stands bare rest = rest stands
  bare_or_stands (FailedWith cause) s levels stands bare rest = bare refl

module _ (c : Code) (groups : List Membership) (counts : List ℕ) (sound : IsSound c groups counts) where
  -- what is known of a world between two turns
  record IsOrderly (t : ℕ) (w : WordWorld) : Type 0 where
    known : IsKnown c groups counts sound.table t w
    broken : AllOuterIfBroken groups w.talks
    quiet : Each (IsQuiet c groups) w.processes

  turn_orderly : (t p : ℕ) (w : WordWorld) → IsOrderly t w → IsOrderly (t + 1) (turn (word_kind c groups) t p w).0
  turn_orderly t p w h = record {
    known = known_turn c groups counts sound t p w h.known;
    broken = turn_outer (word_kind c groups) t p w h.broken;
    quiet = turn_quiet c groups t p w;
  }

  opening_orderly : IsOrderly 1 (opening_of c groups)
  opening_orderly = record {
    known = known_opening c groups counts sound;
    broken = opening_outer groups;
    quiet = opening_quiet c groups sound.table sound.has sound.well.lists;
  }

  run_orderly : (t : ℕ) (turns : List ℕ) (w : WordWorld) → IsOrderly t w
      → (n : ℕ) × IsOrderly n (run (word_kind c groups) t turns w).0
  run_orderly t [] w h = (t, h)
  run_orderly t (p ∷ turns) w h =
      run_orderly (t + 1) turns (turn (word_kind c groups) t p w).0 (turn_orderly t p w h)

  orderly_ordered : (t : ℕ) (w : WordWorld) → IsOrderly t w → IsOrdered (word_kind c groups) w
  orderly_ordered t w h = record {
    nested = λ r q e. (h.known.placed r q e).nested;
    members = λ r i d q e at. (h.known.placed r q e).members i d at;
    outermost = λ r d q facts e away wants of_d alone.
        let placed = h.known.placed r q e in
        bare_or_stands c groups sound.table sound.has sound.well.lists q.status q.state q.levels
        (subst (λ line. StandsNow c sound.table q.status line q.state q.levels) away placed.stands.now) (h.known.bare r q e)
        (λ stands. enters_bare c groups sound.table sound.has sound.well.lists r d q facts placed stands wants of_d alone);
    broken = h.broken;
    quiet = h.quiet;
  }

  -- so it is after every list of turns
  pub runs_ordered : (turns : List ℕ) → IsOrdered (word_kind c groups) (word_run c groups turns).0
  runs_ordered turns =
      let after = run_orderly 1 turns (opening_of c groups) opening_orderly in
      orderly_ordered after.0 (word_run c groups turns).0 after.1
