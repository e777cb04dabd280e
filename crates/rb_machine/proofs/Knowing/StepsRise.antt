-- A step of a process that stands raises each cursor by at most one, and lowers none; settling leaves each as it is.
use Rattle.std.proofs.Common.{◌≡◌, ℕ, ◌+◌, ◌≤◌, ℤ, pos, ◌+ℤ◌, List, [], slice_get, Option, Some, None, refl, ap, sym, subst, arith}
use Rattle.rb_world.specs.Kind.{Membership}
use Rattle.rb_world.specs.World.{Level, copy_of, last_of}
use Rattle.rb_meaning.specs.Environment.{natural}
use Rattle.rb_code.specs.Instructions.Plain.{Code}
use Rattle.rb_code.specs.WordMachine.Workspace.{Workspace, cursor_place, part_of, word_at}
use Rattle.rb_code.specs.WordMachine.Act.{Accepts, Going, Outcome, Sight, Stopped, Trapped as Trap, Unfinished, execute}
use Rattle.rb_code.specs.WordMachine.Turn.{Common, Copy, Standing, came_to, memory_of, most_steps, settle, settled_by, sight, step}
use Rattle.rb_code.specs.SoundCode.Sound.{HasTable, Table}
use Rattle.rb_code.specs.SoundCode.Stands.{IsAmong, IsMet, Settles, Stands, StandsAfter, inside_out}
use Rattle.rb_code.specs.SoundCode.WellFormed.{ListsChannels}
use Rattle.rb_code.specs.declared.instr.Instr.TheVariants.{Turn}
use Rattle.rb_code.proofs.Executing.LastOf.{former_is}
use Rattle.rb_code.proofs.Executing.Served.{is_turn, met}
use Rattle.rb_code.proofs.Executing.StandingSteps as standing
use Rattle.rb_code.proofs.Executing.Staying.{settling_fits}
use Rattle.rb_code.proofs.Executing.Weaker.{rank}
use Rattle.rb_recovery.specs.Rising.{RiseAfter, SoundSettlingKeeps, SoundStepsRaise, StaySame}
use Rattle.rb_machine.proofs.Knowing.Rising.{KnownIn, comes_known}
use Rattle.rb_machine.proofs.WordsKept.{natural_kept, natural_risen}

module _ (c : Code) (groups : List Membership) (t : Table) (has : HasTable c groups t) (lists : ListsChannels c) where
  -- a step of a process at a `turn`, where the instruction behind it gets what it asks for
  module _ (s : Standing) (levels : List (Level Copy)) (stands : Stands c t s levels) (turn : slice_get c.instrs s.at ≡ Some Turn)
      (alternate : ℕ) (message : Option ℤ)
      (is_met : IsMet c (sight s alternate (copy_of (last_of levels)) message) (slice_get c.instrs (s.at + 1))) where
    abbrev see : Sight
    see = sight s alternate (copy_of (last_of levels)) message

    -- the cursor of the beginning, or one more
    abbrev AtMostOneMore : ℕ → ℤ → Type 0
    AtMostOneMore channel x =
        (natural x ≤ natural (word_at s.words (cursor_place (part_of c s.process) channel)) + 1)
        × (natural (word_at s.words (cursor_place (part_of c s.process) channel)) ≤ natural x)

    one_more : (m : Workspace) → m.words ≡ s.words → (channel : ℕ) → IsAmong channel (part_of c s.process).channels
        → AtMostOneMore channel (word_at m.words (cursor_place (part_of c s.process) channel) +ℤ pos 1)
    one_more m same channel among =
        subst (λ ws. AtMostOneMore channel (word_at ws (cursor_place (part_of c s.process) channel) +ℤ pos 1)) (sym same) (
          natural_risen (word_at s.words (cursor_place (part_of c s.process) channel)),
          natural_kept (word_at s.words (cursor_place (part_of c s.process) channel)),
        )

    step_known : (memory : Common)
        → KnownIn c see AtMostOneMore (execute c see (most_steps c) (s.at + 1) [] (memory_of s memory.slots))
    step_known memory =
        let m = memory_of s memory.slots in
        let x = standing.behind c groups t has lists s levels stands turn memory.slots see refl is_met in
        comes_known c groups t see (inside_out levels) (λ later. later.words ≡ s.words) (λ later pieces counters k. k) has lists
        stands.exists (former_is levels) AtMostOneMore one_more (s.at + 1) x.entry [] m x.there x.fits (λ k. refl)
        (λ channel among. (omega arith, omega arith))

    pub step_rises : (memory : Common) → RiseAfter c s (step c alternate (copy_of (last_of levels)) s message memory)
    step_rises memory =
        by (execute c see (most_steps c) (s.at + 1) [] (memory_of s memory.slots)) (step_known memory)
        (standing.step_stands c groups t has lists s levels stands turn alternate message is_met memory)
      where
        by : (o : Outcome) → KnownIn c see AtMostOneMore o → StandsAfter c t s levels (came_to s memory o) → RiseAfter c s (came_to s memory o)
        by (Stopped at later) known after = (λ channel among. (known channel among).0, λ channel among. (known channel among).1)
        by (Accepts at later) known after = ap (λ (x : Standing). x.words) after.0
        by (Trap cause) known after = tt
        by (Going at xs later) known after = tt
        by Unfinished known after = tt

  -- settling
  module _ (s : Standing) (levels : List (Level Copy)) (settles : Settles c t s levels) where
    abbrev see_settling : Sight
    see_settling = sight s 0 (copy_of (last_of levels)) None

    abbrev AsBefore : ℕ → ℤ → Type 0
    AsBefore channel x = x ≡ word_at s.words (cursor_place (part_of c s.process) channel)

    settle_known : KnownIn c see_settling AsBefore (execute c see_settling (most_steps c) s.at [] (memory_of s []))
    settle_known =
        comes_known c groups t see_settling (inside_out levels) (λ later. ⊥) (λ later pieces counters k. k) has lists settles.exists
        (former_is levels) AsBefore (λ m none channel among. absurd none) s.at settles.entry [] (memory_of s []) settles.there
        (settling_fits c t s levels see_settling refl settles) (λ k. absurd (let e = ap rank settles.mode_is in omega arith))
        (λ channel among. refl)

    pub settle_keeps : StaySame c s.process s.words (settle c (copy_of (last_of levels)) s).words
    settle_keeps = by (execute c see_settling (most_steps c) s.at [] (memory_of s [])) settle_known
      where
        by : (o : Outcome) → KnownIn c see_settling AsBefore o → StaySame c s.process s.words (settled_by s o).words
        by (Stopped at later) known channel among = ap natural (known channel among)
        by (Accepts at later) known channel among = refl
        by (Trap cause) known channel among = refl
        by (Going at xs later) known channel among = refl
        by Unfinished known channel among = refl

pub steps_raise : SoundStepsRaise
steps_raise c groups s levels alternate message memory h serves =
    step_rises c groups h.table h.has h.lists s levels h.stands
    (is_turn c groups h.table h.has h.lists s levels h.stands alternate message serves) alternate message
    (met c groups h.table h.has h.lists s levels h.stands alternate message serves) memory

pub settling_keeps : SoundSettlingKeeps
settling_keeps c groups s levels h = settle_keeps c groups h.table h.has h.lists s levels h.settles
