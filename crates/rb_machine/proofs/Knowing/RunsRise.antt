-- A step of a run raises each cursor by at most one and lowers none, whatever alternate it is given.
use Rattle.std.proofs.Common.{◌≡◌, ◌⊎◌, inl, inr, ℕ, zero, suc, ◌+◌, ◌<◌, ℤ, List, [], slice_get, Option, Some, None, refl, ap, sym, subst, arith}
use Rattle.rb_base.specs.declared.event.Cause.TheVariants.{Fail as FailCause}
use Rattle.rb_world.specs.Kind.{Membership}
use Rattle.rb_world.specs.World.{Level, copy_of, last_of}
use Rattle.rb_code.specs.Instructions.Plain.{Block, Code}
use Rattle.rb_code.specs.WordMachine.Workspace.{Workspace}
use Rattle.rb_code.specs.WordMachine.Act.{Going, Sight, Trapped as Trap, act_at, alternate_address, execute, if_there, move, then_go}
use Rattle.rb_code.specs.WordMachine.Turn.{Common, Copy, Standing, came_to, enters, memory_of, most_steps, sight, step, want, wants_behind, wants_there}
use Rattle.rb_code.specs.SoundCode.Sound.{HasTable, Table}
use Rattle.rb_code.specs.SoundCode.Safe.{IsThere}
use Rattle.rb_code.specs.SoundCode.Stands.{IsMet, RestsAt, ServedBut, Stands}
use Rattle.rb_code.specs.SoundCode.WellFormed.{ListsChannels}
use Rattle.rb_code.specs.declared.instr.Instr.{Instr}
use Rattle.rb_code.specs.declared.instr.Instr.TheVariants.{Turn, There, Enter, Start, Done}
use Rattle.rb_code.proofs.Executing.SoundSteps.{some_steps}
use Rattle.rb_recovery.specs.Rising.{RiseAfter}
use Rattle.rb_machine.proofs.Knowing.StepsRise.{step_rises}

-- an execution whose first instruction traps
traps_at_once : (c : Code) (see : Sight) (n a : ℕ) (m : Workspace) → 0 < n → move c see a [] m ≡ Trap FailCause
    → execute c see n a [] m ≡ Trap FailCause
traps_at_once c see zero a m some e = absurd (omega arith)
traps_at_once c see (suc n) a m some e = ap (λ o. then_go o (execute c see n)) e

-- the instruction at an address traps
abbrev TrapsAt : Code → Sight → ℕ → Option Instr → Type 0
TrapsAt c see a o = (m : Workspace) → act_at c see o a [] m ≡ Trap FailCause

module _ (c : Code) (see : Sight) (a : ℕ) where
  -- a start finds its alternate, or traps
  start_met : (b : ℕ) (o : Option ℕ) → alternate_address (slice_get c.blocks b) see.alternate ≡ o
      → IsMet c see (Some (Start b)) ⊎ TrapsAt c see a (Some (Start b))
  start_met b None e = inr (λ m. ap (λ p. if_there p (λ at. Going at [] m)) e)
  start_met b (Some x) e = inl (subst IsThere (sym e) tt)

  entry_traps : (b : ℕ) (o : Option Block) → ServedBut (enters b o) see.message → TrapsAt c see a (Some (Enter b))
  entry_traps b None h m = refl
  entry_traps b (Some block) h m = absurd h

  -- what is served gets what it asks for, or traps
  met_or_traps : (o : Option Instr) → ServedBut (wants_behind c o) see.message → IsMet c see o ⊎ TrapsAt c see a o
  met_or_traps None h = inl tt
  met_or_traps (Some (There channel)) h = inl h
  met_or_traps (Some (Start b)) h = start_met b (alternate_address (slice_get c.blocks b) see.alternate) refl
  met_or_traps (Some (Enter b)) h = inr (entry_traps b (slice_get c.blocks b) h)
  met_or_traps (Some i) h = inl tt

module _ (c : Code) (groups : List Membership) (t : Table) (has : HasTable c groups t) (lists : ListsChannels c) (s : Standing)
    (levels : List (Level Copy)) (stands : Stands c t s levels) (alternate : ℕ) (message : Option ℤ) (serves : ServedBut (want c s) message) where
  abbrev see : Sight
  see = sight s alternate (copy_of (last_of levels)) message

  at_turn : slice_get c.instrs s.at ≡ Some Turn
  at_turn = by (slice_get c.instrs s.at) refl stands.rests serves
    where
      by : (o : Option Instr) → slice_get c.instrs s.at ≡ o → RestsAt o
          → ServedBut (wants_there c o (slice_get c.instrs (s.at + 1))) message → slice_get c.instrs s.at ≡ Some Turn
      by None e r h = absurd r
      by (Some Turn) e r h = e
      by (Some Done) e r h = absurd h
      by (Some i) e r h = absurd r

  pub run_step_rises : (memory : Common) → RiseAfter c s (step c alternate (copy_of (last_of levels)) s message memory)
  run_step_rises memory =
      by (met_or_traps c see (s.at + 1) (slice_get c.instrs (s.at + 1))
      (subst (λ o. ServedBut (wants_there c o (slice_get c.instrs (s.at + 1))) message) at_turn serves))
    where
      by : IsMet c see (slice_get c.instrs (s.at + 1)) ⊎ TrapsAt c see (s.at + 1) (slice_get c.instrs (s.at + 1))
          → RiseAfter c s (step c alternate (copy_of (last_of levels)) s message memory)
      by (inl met) = step_rises c groups t has lists s levels stands at_turn alternate message met memory
      by (inr traps) =
          subst (λ o. RiseAfter c s (came_to s memory o))
          (sym (traps_at_once c see (most_steps c) (s.at + 1) (memory_of s memory.slots) (some_steps c) (traps (memory_of s memory.slots)))) tt
