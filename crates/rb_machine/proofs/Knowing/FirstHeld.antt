-- Before the first turn no process holds a line, so that none has anything to release.
use Rattle.std.proofs.Common.{◌≡◌, ℕ, ℤ, pos, List, [], ◌∷◌, map, slice_get, slice_set, Some, None, refl, sym, ap, ◌∙◌, subst, arith}
use Rattle.std.specs.List.{AllByRecursion}
use Rattle.rb_world.specs.Kind.{Membership}
use Rattle.rb_code.specs.Instructions.Plain.{Code, Part}
use Rattle.rb_code.specs.WordMachine.Workspace.{body_place, held_place, word_at}
use Rattle.rb_code.specs.SoundCode.Sound.{HasTable, Table}
use Rattle.rb_code.specs.WordMachine.Turn.{Standing, settle}
use Rattle.rb_code.specs.SoundCode.WellFormed.{ListsChannels}
use Rattle.rb_code.specs.WordMachine.WordRun.{opening_standing, opening_standings}
use Rattle.rb_code.proofs.Executing.StandsAgain.{opening_settles}
use Rattle.rb_code.proofs.WholeRuns.ProcessesBegin.{zero_there}
use Rattle.rb_machine.specs.Loading.{first_seen}
use Rattle.rb_machine.specs.Telling.{AreFreed, HoldsNone}
use Rattle.rb_recovery.specs.Worlds.{processes_of}
use Rattle.rb_recovery.proofs.Changed.{all_of_each}
use Rattle.rb_machine.proofs.Beginning.FirstProcesses.{opens_at}
use Rattle.rb_machine.proofs.Knowing.HeldWhileSettling.{Holds, settling_holds}

-- the first word of those whose first word is 0 is set to 0
set_zero : (words : List ℤ) → word_at words held_place ≡ pos 0 → slice_set words held_place (pos 0) ≡ words
set_zero [] e = refl
set_zero (x ∷ words) e = ap (λ (y : ℤ). y ∷ words) (sym e)

-- who holds no line has none to release
none_held : (s : Standing) → Holds [] (pos 0) s.held s.words → HoldsNone [] s
none_held s h = (
  ap (λ (words : List ℤ). record s { held = []; words = words }) (set_zero s.words h.1)
      ∙ ap (λ (lines : List (List ℕ)). record s { held = lines }) (sym h.0),
  h.0,
)

module _ (c : Code) (groups : List Membership) (t : Table) (has : HasTable c groups t) (lists : ListsChannels c) where
  opening_holds : (r : ℕ) (part : Part) → slice_get c.processes r ≡ Some part
      → Holds [] (pos 0) (settle c None (opening_standing r part)).held (settle c None (opening_standing r part)).words
  opening_holds r part e =
      let h = settling_holds c groups t has lists (opening_standing r part) [] (opening_settles c t groups has r part e) in
      (h.0, h.1 ∙ zero_there (body_place part) held_place)

  -- a process that has come to its first turn holds none
  pub opening_holds_none : (r : ℕ) (s : Standing) → slice_get (opening_standings 0 c.processes) r ≡ Some s → HoldsNone [] (settle c None s)
  opening_holds_none r s e =
      let h = opens_at 0 r c.processes s e in
      let is : s ≡ opening_standing r h.0 = h.2 ∙ ap (λ n. opening_standing n h.0) (omega arith) in
      subst (λ (x : Standing). HoldsNone [] (settle c None x)) (sym is)
      (none_held (settle c None (opening_standing r h.0)) (opening_holds r h.0 h.1))

  first_freed : (states : List Standing) → AllByRecursion (λ (s : Standing). HoldsNone [] (settle c None s)) states
      → AreFreed (processes_of (map (first_seen c) states))
  first_freed [] all = tt
  first_freed (s ∷ states) all = (all.0, first_freed states all.1)

  -- so it is of all of them
  pub opening_freed : AreFreed (processes_of (map (first_seen c) (opening_standings 0 c.processes)))
  opening_freed =
      first_freed (opening_standings 0 c.processes)
      (all_of_each (λ (s : Standing). HoldsNone [] (settle c None s)) (opening_standings 0 c.processes) opening_holds_none)
