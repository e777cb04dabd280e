-- The work of a step of process number p: the words that it names, and those that are named behind it where its test held.
use Rattle.std.proofs.Common.{◌≡◌, ℕ, ◌+◌, ◌*◌, ◌≤◌, ℤ, List, slice_get, Option, Some, None, refl, ap, sym, ◌∙◌, arith}
use Rattle.rb_world.specs.Kind.{Stepped}
use Rattle.rb_world.specs.Slots.{Slots}
use Rattle.rb_world.specs.Turn.{stands_now}
use Rattle.rb_world.specs.World.{Level, Process, change_at, copy_of, last_of}
use Rattle.rb_code.specs.Instructions.Plain.{Code}
use Rattle.rb_code.specs.WordMachine.Turn.{Common, Copy, Standing, step, want}
use Rattle.rb_code.specs.WordMachine.WordRun.{WordWorld}
use Rattle.rb_conv.specs.Conversations.{Conversation, memberships, talks}
use Rattle.rb_proc.specs.Process.{Seen, alternate_for, step_of}
use Rattle.rb_proc.specs.Work.{named_in_step}
use Rattle.rb_proc.specs.declared.answers.Outcome.TheVariants as outcome
use Rattle.rb_machine.specs.Stepping.{HasDoneAt, turn_kept}
use Rattle.rb_machine.specs.Ends.{named_by_test, named_yet}
use Rattle.rb_recovery.specs.Parts.{world}
use Rattle.rb_recovery.specs.Work.{named_accepted, named_accepted_at, named_at_line, named_behind, named_by_steps}
use Rattle.rb_recovery.specs.Worlds.{memory_of, processes_of, world_of}
use Rattle.rb_recovery.specs.declared.links.Link.{Link as Linked}
use Rattle.rb_machine.specs.declared.moves.Move.{Move}
use Rattle.rb_machine.specs.declared.moves.Move.TheVariants as did
use Rattle.rb_recovery.specs.declared.parts.Parts.{Parts}
use Rattle.rb_recovery.proofs.Changed.{change_twice}
use Rattle.rb_machine.proofs.Knowing.KnownHere.{process_there}
use Rattle.rb_machine.proofs.Turning.StepFacts.{HeldTest, relinked, step_relinked}
use Rattle.rb_machine.proofs.Turning.StepTaken.{AtStep}
use Rattle.rb_machine.proofs.Turning.StepTaken as known
use Rattle.rb_machine.proofs.Turning.TakenSteps.{HasStepped}
use Rattle.rb_machine.proofs.Turning.TakenSteps as taken

-- a step that names n words, with others behind it that are named later, or not at all
kept_within : (start stepped n others later : ℕ) → stepped ≤ start + 3 * n → later ≡ others
    → stepped + 3 * later ≤ start + 3 * (n + others)
kept_within start stepped n others later counted is = omega (arith, counted, is)

ended_within : (start stepped n others : ℕ) → stepped ≤ start + 3 * n → stepped + 3 * 0 ≤ start + 3 * (n + others)
ended_within start stepped n others counted = omega (arith, counted)

-- what an acceptance names does not depend on slots and links
named_anywhere : (c : Code) (table : List Conversation) (p : ℕ) (levels : List (Level Copy)) (m m' : Common) (s : Standing)
    (qs : List (Process Standing Copy)) (o : Option (Level Copy))
    → named_accepted c (memberships table) p levels o (record { processes = qs; talks = talks table; memory = m }) s
    ≡ named_accepted c (memberships table) p levels o (record { processes = qs; talks = talks table; memory = m' }) s
named_anywhere c table p levels m m' s qs None = refl
named_anywhere c table p levels m m' s qs (Some level) = by level.facts.conversation
  where
    by : (o : Option ℕ)
        → named_accepted_at c (memberships table) p levels o (record { processes = qs; talks = talks table; memory = m }) s
        ≡ named_accepted_at c (memberships table) p levels o (record { processes = qs; talks = talks table; memory = m' }) s
    by None = refl
    by (Some d) = refl

-- what an acceptance names is the same, whatever state the process was left in
named_again : (c : Code) (table : List Conversation) (p : ℕ) (levels : List (Level Copy)) (memory : Common) (s : Standing) (q : Process Standing Copy)
    (qs : List (Process Standing Copy)) (o : Option (Level Copy))
    → named_accepted c (memberships table) p levels o (record { processes = change_at p (λ _. q) qs; talks = talks table; memory = memory }) s
    ≡ named_accepted c (memberships table) p levels o (record { processes = qs; talks = talks table; memory = memory }) s
named_again c table p levels memory s q qs None = refl
named_again c table p levels memory s q qs (Some level) = by level.facts.conversation
  where
    by : (o : Option ℕ)
        → named_accepted_at c (memberships table) p levels o (record { processes = change_at p (λ _. q) qs; talks = talks table; memory = memory }) s
        ≡ named_accepted_at c (memberships table) p levels o (record { processes = qs; talks = talks table; memory = memory }) s
    by None = refl
    by (Some d) =
        ap (λ (ps : List (Process Standing Copy)). named_at_line c (memberships table) d
        (record { processes = ps; talks = talks table; memory = memory }))
        (change_twice p (λ _. q) (stands_now s levels) qs)

module _ {c : Code} {turn p : ℕ} {message : Option ℤ} {procs : List Seen} {table : List Conversation} {slots : Slots} {links : List Linked}
    (at : AtStep c turn p message procs table slots links) (one : Seen) (here : slice_get procs p ≡ Some one) where
  abbrev alternate : ℕ
  alternate = alternate_for (want c one.process.state) one.process.levels

  abbrev before : WordWorld
  before = world_of procs table (memory_of slots links)

  abbrev Behind : Stepped Standing Common → ℕ
  Behind o = named_behind c (memberships table) turn p alternate one.process.levels before o

  -- the words that the step names, with those behind it
  abbrev Named : ℕ
  Named = named_by_steps c (memberships table) turn p alternate message one.process before

  -- a step that names so many words
  abbrev Counted : ℕ → ℕ → Type 0
  Counted start stepped = stepped ≤ start + 3 * named_in_step c one.process slots message

  -- what was told of the parts that were lent
  pub counted_here : (procs0 : List Seen) (start stepped : ℕ) → procs0 ≡ procs
      → ((x : Seen) → slice_get procs0 p ≡ Some x → stepped ≤ start + 3 * named_in_step c x.process slots message) → Counted start stepped
  counted_here procs0 start stepped e h = h one (ap (λ (xs : List Seen). slice_get xs p) e ∙ here)

  -- a step behind which nothing is named later
  pub ended_work : (start stepped : ℕ) → Counted start stepped → stepped + 3 * 0 ≤ start + 3 * Named
  ended_work start stepped counted =
      ended_within start stepped (named_in_step c one.process slots message)
      (Behind (step c alternate (copy_of (last_of one.process.levels)) one.process.state message before.memory)) counted

  -- its acceptance test held
  module _ (slots' : Slots) (procs1 procs2 procs3 procs4 : List Seen) (stepping : HasStepped c message p one outcome.Accepts slots slots' procs procs1)
      (same : procs2 ≡ procs1) (kept : procs3 ≡ change_at p (turn_kept turn) procs2) (again : procs4 ≡ procs3) where
    kept1 : procs4 ≡ change_at p (turn_kept turn) procs1
    kept1 = known.kept1 at one here slots' procs1 procs2 procs3 procs4 stepping same kept again

    abbrev holder : Seen
    holder = turn_kept turn (taken.calm stepping.later)

    abbrev held : HeldTest one.process slots (step_of c one.process slots message) stepping.later slots'
    held = taken.held c table slots links message turn p one procs here (known.may at one here)
        (known.number at one here) slots' procs1 procs4 stepping kept1

    abbrev at_test : Standing
    at_test = record held.later { last_kept = turn }

    -- what is named behind the step is what the acceptance names
    behind_is : Behind (step c alternate (copy_of (last_of one.process.levels)) one.process.state message before.memory)
        ≡ named_accepted c (memberships table) p one.process.levels (last_of one.process.levels) before at_test
    behind_is = ap Behind (step_relinked c one.process slots message before.memory.links ∙ ap (relinked before.memory.links) held.is)

    -- so what the acceptance names later is what is named behind the step
    held_names : (memory : Common)
        → named_accepted c (memberships table) p holder.process.levels (last_of holder.process.levels) (world_of procs4 table memory)
        holder.process.state
        ≡ Behind (step c alternate (copy_of (last_of one.process.levels)) one.process.state message before.memory)
    held_names memory =
        ap (λ (x : Process Standing Copy). named_accepted c (memberships table) p x.levels (last_of x.levels) (world_of procs4 table memory) x.state)
        (taken.holder_is c table slots links message turn p one procs here (known.may at one here)
        (known.number at one here) slots' procs1 procs4 stepping kept1)
        ∙ (ap (λ (qs : List (Process Standing Copy)). named_accepted c (memberships table) p one.process.levels (last_of one.process.levels)
        (record { processes = qs; talks = talks table; memory = memory }) at_test)
        (ap processes_of
        (taken.put_held c table slots links message turn p one procs here (known.may at one here)
        (known.number at one here) slots' procs1 procs4 stepping kept1)
        ∙ taken.processes_put p holder procs)
        ∙ (named_again c table p one.process.levels memory at_test holder.process (processes_of procs) (last_of one.process.levels)
        ∙ (named_anywhere c table p one.process.levels memory before.memory at_test (processes_of procs) (last_of one.process.levels)
        ∙ sym behind_is)))

    pub held_work : (start stepped : ℕ) (memory : Common) → Counted start stepped
        → stepped
        + 3 * named_by_test c (memberships table) p (world_of procs4 table memory) (slice_get (processes_of procs4) p)
        ≤ start + 3 * Named
    held_work start stepped memory counted =
        kept_within start stepped (named_in_step c one.process slots message)
        (Behind (step c alternate (copy_of (last_of one.process.levels)) one.process.state message before.memory)) _ counted
        (ap (named_by_test c (memberships table) p (world_of procs4 table memory))
        (process_there procs4 p holder
        (taken.holder_there c table slots links message turn p one procs here (known.may at one here)
        (known.number at one here) slots' procs1 procs4 stepping kept1))
        ∙ held_names memory)

-- the words that a step names, with those that are named at the end of its turn
module _ {L : Type 0} {c : Code} {turn p : ℕ} {message : Option ℤ} {procs : List Seen} {slots : Slots} {links : List Linked} (after : Parts L)
    (at : AtStep c turn p message procs after.table slots links) (one : Seen) (here : slice_get procs p ≡ Some one) where
  pub step_names : (m : Move) → HasDoneAt c turn message p one m slots after.mails procs after.procs.items → (start stepped : ℕ)
      → Counted at one here start stepped
      → stepped + 3 * named_yet c (memberships after.table) p (world after) m ≤ start + 3 * Named at one here
  step_names did.Went done start stepped counted = ended_work at one here start stepped counted
  step_names did.Tells done start stepped counted = ended_work at one here start stepped counted
  step_names (did.Rejects left cause) done start stepped counted = ended_work at one here start stepped counted
  step_names did.Accepts done start stepped counted =
      let k = done.does in
      held_work at one here after.mails (known.calm_at after at one here k.later) (known.calm_at after at one here k.later) after.procs.items
      after.procs.items (known.stepping after at one here outcome.Accepts k.later k.comes) refl
      (known.kept_at after at one here outcome.Accepts done.later k done.processes) refl start stepped
      (memory_of after.mails after.links.items) counted
  step_names did.Rests done start stepped counted = absurd done.does
  step_names did.Waits done start stepped counted = absurd done.does
  step_names (did.Enters b) done start stepped counted = absurd done.does
