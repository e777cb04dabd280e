-- Who has entered a block stands at the `turn` of its restart, inside a level: it goes on, and releases nothing.
use Rattle.std.proofs.Common.{◌≡◌, ℕ, ◌+◌, List, [], ◌∷◌, ◌++◌, Option, Some, None, option_map, slice_get, refl, ap, sym, ◌∙◌, subst, arith}
use Rattle.rb_world.specs.Kind.{Facts, Membership, Want, Enters}
use Rattle.rb_world.specs.Slots.{Slots}
use Rattle.rb_world.specs.World.{Level, Running, change_at, status_at}
use Rattle.rb_world.proofs.ListFacts.{slice_get-change_at, some_same}
use Rattle.rb_code.specs.Instructions.Plain.{Code}
use Rattle.rb_code.specs.WordMachine.Turn.{Copy, Standing, want, wants_by, wants_there}
use Rattle.rb_code.specs.SoundCode.Sound.{Entry, Fine, HasTable, Table}
use Rattle.rb_code.specs.SoundCode.Stands.{Stands}
use Rattle.rb_code.specs.SoundCode.WellFormed.{ListsChannels}
use Rattle.rb_code.specs.declared.instr.Instr.{Instr}
use Rattle.rb_code.specs.declared.instr.Instr.TheVariants.{Turn, Enter}
use Rattle.rb_conv.specs.Conversations.{Conversation, memberships}
use Rattle.rb_proc.specs.Entries.{entered_process, state_entered}
use Rattle.rb_proc.specs.Executable.{RestartsAt}
use Rattle.rb_proc.specs.Process.{Seen}
use Rattle.rb_proc.proofs.Landing.{turn_runs}
use Rattle.rb_machine.specs.AtWork.{IsAtWork, MayActNow}
use Rattle.rb_recovery.specs.Rejections.{changed}
use Rattle.rb_machine.specs.Telling.{GoesOn, HoldsNone}
use Rattle.rb_recovery.specs.declared.links.Link.{Link}
use Rattle.rb_machine.proofs.Knowing.KnownHere.{process_there}
use Rattle.rb_machine.proofs.Knowing.Placed.Behind.{IsBusy, behind}
use Rattle.rb_machine.proofs.Knowing.Placed.Wants.{placed_stands}
use Rattle.rb_machine.proofs.Releasing.Finished.{freed_same}

-- who has a level releases nothing, whatever it holds
none_released : (levels : List (Level Copy)) (level : Level Copy) (s : Standing) → HoldsNone (levels ++ level ∷ []) s
none_released [] level s = tt
none_released (first ∷ levels) level s = tt

abbrev IsEntry : Want → Type 0
IsEntry (Enters facts) = Unit {0}
IsEntry _ = ⊥

module _ (c : Code) (groups : List Membership) (t : Table) where
  -- behind an instruction that enters a block stands a `turn`
  fine_entry : (instr : Instr) (a : ℕ) (e : Entry) → IsEntry (wants_by c instr) → Fine c groups t instr a e
      → slice_get c.instrs (a + 1) ≡ Some Turn
  fine_entry (Enter b) a e is fine = fine.3
  fine_entry _ a e is fine = absurd is

  restart_there : HasTable c groups t → ListsChannels c → (s : Standing) (levels : List (Level Copy)) → Stands c t s levels → (facts : Facts)
      → want c s ≡ Enters facts → slice_get c.instrs (s.at + 2) ≡ Some Turn
  restart_there has lists s levels stands facts wants =
      let one = behind c groups t has lists s levels stands (subst IsBusy (sym wants) tt) in
      let two : (s.at + 1) + 1 ≡ s.at + 2 = omega arith in
      subst (λ (a : ℕ). slice_get c.instrs a ≡ Some Turn) two
      (fine_entry one.instr (s.at + 1) one.entry (subst IsEntry (sym wants ∙ one.wants) tt) one.fine)

module _ (c : Code) (t : ℕ) (procs : List Seen) (table : List Conversation) (slots : Slots) (links : List Link)
    (work : IsAtWork c t procs table slots links) (p : ℕ) (one : Seen) (here : slice_get procs p ≡ Some one) (acts : MayActNow one)
    (facts : Facts) (wants : want c one.process.state ≡ Enters facts) where
  -- so it is of who enters in its turn
  pub restarts_at_work : RestartsAt c (one.process.state.at + 2)
  restarts_at_work =
      let sound = work.sound in
      let placed = work.known.placed p one.process (process_there procs p one here) in
      let stands = placed_stands c (memberships table) sound.table sound.has sound.well.lists p one.process placed acts.running acts.away in
      restart_there c (memberships table) sound.table sound.has sound.well.lists one.process.state one.process.levels stands facts wants

  module _ (alternate turn : ℕ) where
    entered_runs : status_at (want c (state_entered turn one.process.state)) ≡ Running
    entered_runs =
        let to : ℕ = one.process.state.at + 2 in
        ap (λ (o : Option Instr). status_at (wants_there c o (slice_get c.instrs (to + 1)))) restarts_at_work
        ∙ turn_runs c (slice_get c.instrs (to + 1))

    pub entered_goes_on : (procs' : List Seen) → procs' ≡ change_at p (changed (entered_process c facts alternate turn)) procs
        → (later : Seen) → slice_get procs' p ≡ Some later → GoesOn later
    entered_goes_on procs' opens later found =
        let enter = changed (entered_process c facts alternate turn) in
        let is : enter one ≡ later =
        some_same (sym (ap (λ (xs : List Seen). slice_get xs p) opens ∙ (slice_get-change_at p enter procs ∙ ap (option_map enter) here)) ∙ found) in
        subst GoesOn is (record {
          running = entered_runs;
          same = λ code. sym (freed_same code (record (enter one) { waiting = [] })
              (none_released one.process.levels _ (state_entered turn one.process.state)) refl);
        })
