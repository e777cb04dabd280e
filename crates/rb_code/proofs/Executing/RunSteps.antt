-- What a step of a run comes to stands, whatever alternate it is given: a start at one that its block does not have traps.
use Rattle.std.proofs.Common.{◌≡◌, ◌⊎◌, inl, inr, ℕ, zero, suc, ◌+◌, ◌<◌, ℤ, List, [], slice_get, Option, Some, None, refl, ap, sym, ◌∙◌, subst, arith}
use Rattle.rb_base.specs.declared.event.Cause.TheVariants.{Fail as FailCause}
use Rattle.rb_world.specs.Kind.{Membership, Want, NothingLeft, SendsOn, ReceivesOn, MayReceiveOn, Enters, Starts, Acts}
use Rattle.rb_world.specs.Slots.{Slots}
use Rattle.rb_world.specs.World.{Level, copy_of, last_of}
use Rattle.rb_code.specs.Instructions.Plain.{Block, Code}
use Rattle.rb_code.specs.WordMachine.Workspace.{Workspace}
use Rattle.rb_code.specs.WordMachine.Act.{Going, Outcome, Sight, Trapped as Trap, Unfinished, act_at, alternate_address, execute, if_there, then_go}
use Rattle.rb_code.specs.WordMachine.Turn.{Common, Copy, Standing, came_to, enters, memory_of, most_steps, sight, step, want, wants_behind, wants_there}
use Rattle.rb_code.specs.SoundCode.Sound.{HasTable, Table}
use Rattle.rb_code.specs.SoundCode.Safe.{IsThere}
use Rattle.rb_code.specs.SoundCode.Stands.{IsMet, RestsAt, ServedBut, Serves, Stands, StandsAfter}
use Rattle.rb_code.specs.SoundCode.WellFormed.{ListsChannels}
use Rattle.rb_code.specs.declared.instr.Instr.{Instr}
use Rattle.rb_code.specs.declared.instr.Instr.TheVariants.{Turn, Enter, Start, Done}
use Rattle.rb_code.proofs.Executing.Served.{is_turn, met}
use Rattle.rb_code.proofs.Executing.SoundSteps.{safe_ends, some_steps}
use Rattle.rb_code.proofs.Executing.StandingSteps as standing

-- a want is a start or not
abbrev IsStart : Want → Type 0
IsStart Starts = Unit {0}
IsStart other = ⊥

start_or_served : (w : Want) (alternate : ℕ) (message : Option ℤ) (levels : List (Level Copy)) → ServedBut w message
    → IsStart w ⊎ Serves w alternate message levels
start_or_served NothingLeft alternate message levels h = inr h
start_or_served (SendsOn channel) alternate message levels h = inr h
start_or_served (ReceivesOn channel) alternate message levels h = inr h
start_or_served (MayReceiveOn channel) alternate message levels h = inr h
start_or_served (Enters facts) alternate message levels h = inr h
start_or_served Starts alternate message levels h = inl tt
start_or_served Acts alternate message levels h = inr h

-- a start without its alternate traps
start_traps : (c : Code) (see : Sight) (n a b : ℕ) (m : Workspace) → 0 < n → slice_get c.instrs a ≡ Some (Start b)
    → alternate_address (slice_get c.blocks b) see.alternate ≡ None → execute c see n a [] m ≡ Trap FailCause
start_traps c see zero a b m some at none = absurd (omega arith)
start_traps c see (suc n) a b m some at none =
    ap (λ o. then_go (act_at c see o a [] m) (execute c see n)) at
    ∙ ap (λ o. then_go (if_there o (λ x. Going x [] m)) (execute c see n)) none

module _ (c : Code) (groups : List Membership) (t : Table) (has : HasTable c groups t) (lists : ListsChannels c) (s : Standing)
    (levels : List (Level Copy)) (stands : Stands c t s levels) (alternate : ℕ) (message : Option ℤ) where
  -- where it starts an alternate
  record StartsHere : Type 0 where
    turn : slice_get c.instrs s.at ≡ Some Turn
    block : ℕ
    at : slice_get c.instrs (s.at + 1) ≡ Some (Start block)

  starts_here : IsStart (want c s) → StartsHere
  starts_here h = by (slice_get c.instrs s.at) refl stands.rests h
    where
      none_entered : (b : ℕ) (o : Option Block) → IsStart (enters b o) → StartsHere
      none_entered b None h = absurd h
      none_entered b (Some block) h = absurd h

      behind : slice_get c.instrs s.at ≡ Some Turn → (o : Option Instr) → slice_get c.instrs (s.at + 1) ≡ o → IsStart (wants_behind c o)
          → StartsHere
      behind turn None e h = absurd h
      behind turn (Some (Start b)) e h = record { turn = turn; block = b; at = e }
      behind turn (Some (Enter b)) e h = none_entered b (slice_get c.blocks b) h
      behind turn (Some i) e h = absurd h

      by : (o : Option Instr) → slice_get c.instrs s.at ≡ o → RestsAt o → IsStart (wants_there c o (slice_get c.instrs (s.at + 1)))
          → StartsHere
      by None e r h = absurd r
      by (Some Turn) e r h = behind e (slice_get c.instrs (s.at + 1)) refl h
      by (Some Done) e r h = absurd h
      by (Some i) e r h = absurd r

  started_stands : StartsHere → (memory : Common) → StandsAfter c t s levels (step c alternate (copy_of (last_of levels)) s message memory)
  started_stands h memory = by (alternate_address (slice_get c.blocks h.block) alternate) refl
    where
      see : Sight
      see = sight s alternate (copy_of (last_of levels)) message

      by : (o : Option ℕ) → alternate_address (slice_get c.blocks h.block) alternate ≡ o
          → StandsAfter c t s levels (step c alternate (copy_of (last_of levels)) s message memory)
      by None e =
          subst (λ o. StandsAfter c t s levels (came_to s memory o))
          (sym (start_traps c see (most_steps c) (s.at + 1) h.block (memory_of s memory.slots) (some_steps c) h.at e)) tt
      by (Some x) e =
          standing.step_stands c groups t has lists s levels stands h.turn alternate message
          (subst (IsMet c see) (sym h.at) (subst IsThere (sym e) tt)) memory

  pub run_step_stands : ServedBut (want c s) message → (memory : Common)
      → StandsAfter c t s levels (step c alternate (copy_of (last_of levels)) s message memory)
  run_step_stands h memory = by (start_or_served (want c s) alternate message levels h)
    where
      by : IsStart (want c s) ⊎ Serves (want c s) alternate message levels
          → StandsAfter c t s levels (step c alternate (copy_of (last_of levels)) s message memory)
      by (inl start) = started_stands (starts_here start) memory
      by (inr serves) =
          standing.step_stands c groups t has lists s levels stands (is_turn c groups t has lists s levels stands alternate message serves)
          alternate message (met c groups t has lists s levels stands alternate message serves) memory

  -- and it comes to an end
  started_ends : StartsHere → (slots : Slots)
      → execute c (sight s alternate (copy_of (last_of levels)) message) (most_steps c) (s.at + 1) [] (memory_of s slots) ≡ Unfinished → ⊥
  started_ends h slots = by (alternate_address (slice_get c.blocks h.block) alternate) refl
    where
      see : Sight
      see = sight s alternate (copy_of (last_of levels)) message

      trapped : (o : Outcome) → o ≡ Unfinished → o ≡ Trap FailCause → ⊥
      trapped o e f = cc

      by : (o : Option ℕ) → alternate_address (slice_get c.blocks h.block) alternate ≡ o
          → execute c see (most_steps c) (s.at + 1) [] (memory_of s slots) ≡ Unfinished → ⊥
      by None e u = trapped _ u (start_traps c see (most_steps c) (s.at + 1) h.block (memory_of s slots) (some_steps c) h.at e)
      by (Some x) e u =
          safe_ends c see _ (most_steps c) (s.at + 1) [] (memory_of s slots)
          (standing.step_safe c groups t has lists s levels stands h.turn alternate message
          (subst (IsMet c see) (sym h.at) (subst IsThere (sym e) tt)) slots) u

  pub run_step_ends : ServedBut (want c s) message → (slots : Slots)
      → execute c (sight s alternate (copy_of (last_of levels)) message) (most_steps c) (s.at + 1) [] (memory_of s slots) ≡ Unfinished → ⊥
  run_step_ends h slots = by (start_or_served (want c s) alternate message levels h)
    where
      by : IsStart (want c s) ⊎ Serves (want c s) alternate message levels
          → execute c (sight s alternate (copy_of (last_of levels)) message) (most_steps c) (s.at + 1) [] (memory_of s slots) ≡ Unfinished → ⊥
      by (inl start) = started_ends (starts_here start) slots
      by (inr serves) =
          safe_ends c (sight s alternate (copy_of (last_of levels)) message) _ (most_steps c) (s.at + 1) [] (memory_of s slots)
          (standing.step_safe c groups t has lists s levels stands (is_turn c groups t has lists s levels stands alternate message serves)
          alternate message (met c groups t has lists s levels stands alternate message serves) slots)
