-- A step of a process, and what settles behind it, change no word but those that its address may store.
use Rattle.std.proofs.Common.{◌≡◌, ◌⊎◌, inl, inr, ℕ, zero, suc, ◌+◌, ◌-◌, ◌<◌, ◌^◌, ℤ, List, [], slice_get, Option, Some, None, refl, sym, subst}
use Rattle.rb_world.specs.Kind.{Membership, Stepped, Trapped, Went, Held}
use Rattle.rb_world.specs.Slots.{Slots}
use Rattle.rb_world.specs.World.{Level, copy_of, last_of}
use Rattle.rb_code.specs.Instructions.Plain.{Code}
use Rattle.rb_code.specs.WordMachine.Workspace.{Workspace, part_of, variables_place}
use Rattle.rb_code.specs.WordMachine.Act.{Accepts, Going, Outcome, Sight, Stopped, Trapped as Trap, Unfinished, act_at, alternate_address, execute, if_there, then_go}
use Rattle.rb_code.specs.WordMachine.Turn.{Common, Copy, Standing, came_to, memory_of, most_steps, settle, settled_by, sight, step, want, wants_behind, wants_there}
use Rattle.rb_code.specs.SoundCode.Safe.{IsThere}
use Rattle.rb_code.specs.SoundCode.Sound.{HasTable, Table}
use Rattle.rb_code.specs.SoundCode.Stands.{IsMet, RestsAt, ServedBut, Settles, Stands, inside_out}
use Rattle.rb_code.specs.SoundCode.WellFormed.{ListsChannels}
use Rattle.rb_code.specs.declared.instr.Instr.{Instr}
use Rattle.rb_code.specs.declared.instr.Instr.TheVariants.{Turn, There, Enter, Start, Done}
use Rattle.rb_code.proofs.Executing.SoundSteps.{some_steps, stops_at_once}
use Rattle.rb_code.proofs.Executing.StandingSteps.{behind}
use Rattle.rb_code.proofs.Executing.Staying.{settling_fits}
use Rattle.rb_back.specs.declared.stores.Stores.{Stores}
use Rattle.rb_back.specs.Stores.{AreRanges, MayBeIn, MayStoreFrom}
use Rattle.rb_back.proofs.Storing.Bounds.{none_small}
use Rattle.rb_back.proofs.Storing.WordsKept.{IsLeft, from}

module _ (c : Code) (groups : List Membership) (t : Table) (has : HasTable c groups t) (lists : ListsChannels c) (ranges : List Stores)
    (are : AreRanges c ranges) (k : ℕ) (low : k < 2 ^ 32 - 1) where
  -- where word number k of the variables of a process is
  abbrev pub place_in : ℕ → ℕ
  place_in p = variables_place (part_of c p) + k

  -- a process has the word as before
  pub record HasKept (before after : Standing) : Type 0 where
    pub process : after.process ≡ before.process
    pub word : slice_get after.words (place_in before.process) ≡ slice_get before.words (place_in before.process)

  -- what a step comes to has
  abbrev pub StepKeeps : Standing → Stepped Standing Common → Type 0
  StepKeeps s (Trapped cause) = Unit {0}
  StepKeeps s (Went later memory) = HasKept s later
  StepKeeps s (Held later) = HasKept s later × (MayStoreFrom c ranges later.at k → ⊥)

  module _ (s : Standing) (levels : List (Level Copy)) (stands : Stands c t s levels) (inside : k < (part_of c s.process).words)
      (quiet : MayBeIn k (slice_get ranges s.at) → ⊥) (alternate : ℕ) (message : Option ℤ) (served : ServedBut (want c s) message) where
    abbrev see : Sight
    see = sight s alternate (copy_of (last_of levels)) message

    abbrev Left : Outcome → Type 0
    Left = IsLeft c groups t has lists ranges are see stands.exists (inside_out levels) k inside low s.words

    -- it stands at a `turn`
    at_turn : slice_get c.instrs s.at ≡ Some Turn
    at_turn = by (slice_get c.instrs s.at) refl stands.rests served
      where
        by : (o : Option Instr) → slice_get c.instrs s.at ≡ o → RestsAt o → ServedBut (wants_there c o (slice_get c.instrs (s.at + 1))) message
            → slice_get c.instrs s.at ≡ Some Turn
        by None e h w = absurd h
        by (Some Turn) e h w = e
        by (Some Done) e h w = absurd w
        by (Some i) e h w = absurd h

    served_behind : ServedBut (wants_behind c (slice_get c.instrs (s.at + 1))) message
    served_behind = subst (λ o. ServedBut (wants_there c o (slice_get c.instrs (s.at + 1))) message) at_turn served

    module _ (slots : Slots) where
      abbrev m : Workspace
      m = memory_of s slots

      -- the instruction behind the `turn` traps
      abbrev Traps : Option Instr → Type 0
      Traps o = (n : ℕ) → Left (then_go (act_at c see o (s.at + 1) [] m) (execute c see n))

      start_met : (b : ℕ) (o : Option ℕ) → alternate_address (slice_get c.blocks b) alternate ≡ o
          → IsMet c see (Some (Start b)) ⊎ Traps (Some (Start b))
      start_met b None e = inr (λ n. subst (λ p. Left (then_go (if_there p (λ at. Going at [] m)) (execute c see n))) (sym e) tt)
      start_met b (Some at) e = inl (subst IsThere (sym e) tt)

      met_or_traps : (o : Option Instr) → ServedBut (wants_behind c o) message → IsMet c see o ⊎ Traps o
      met_or_traps None h = inl tt
      met_or_traps (Some (There channel)) h = inl h
      met_or_traps (Some (Start b)) h = start_met b (alternate_address (slice_get c.blocks b) alternate) refl
      met_or_traps (Some (Enter b)) h = inr (λ n. tt)
      met_or_traps (Some i) h = inl tt

      trapped : (n : ℕ) → Traps (slice_get c.instrs (s.at + 1)) → Left (execute c see n (s.at + 1) [] m)
      trapped zero h = tt
      trapped (suc n) h = h n

      executed : Left (execute c see (most_steps c) (s.at + 1) [] m)
      executed = by (met_or_traps (slice_get c.instrs (s.at + 1)) served_behind)
        where
          by : IsMet c see (slice_get c.instrs (s.at + 1)) ⊎ Traps (slice_get c.instrs (s.at + 1))
              → Left (execute c see (most_steps c) (s.at + 1) [] m)
          by (inr traps) = trapped (most_steps c) traps
          by (inl met) =
              let x = behind c groups t has lists s levels stands at_turn slots see refl met in
              from c groups t has lists ranges are see stands.exists (inside_out levels) k inside low (most_steps c) (s.at + 1) x.entry [] m
              x.there x.fits (none_small are.most x.entry.operands x.fits.operands_fit)
              (λ h. quiet ((are.each s.at).behind Turn (s.at + 1) k at_turn (inl refl) low h))

    pub step_keeps : (memory : Common) → StepKeeps s (step c alternate (copy_of (last_of levels)) s message memory)
    step_keeps memory = by (execute c see (most_steps c) (s.at + 1) [] (memory_of s memory.slots)) (executed memory.slots)
      where
        by : (o : Outcome) → Left o → StepKeeps s (came_to s memory o)
        by (Stopped at later) h = record { process = refl; word = h }
        by (Accepts at later) h = (record { process = refl; word = h.0 }, h.1)
        by (Trap cause) h = tt
        by (Going at xs later) h = tt
        by Unfinished h = tt

  -- what rests has settled
  pub rested_keeps : (s : Standing) (n : ℕ) (copy : Option Copy) → RestsAt (slice_get c.instrs s.at)
      → HasKept s (settle c copy (record s { last_kept = n }))
  rested_keeps s n copy rests =
      subst (λ o. HasKept s (settled_by (record s { last_kept = n }) o))
      (sym (stops_at_once c (sight s 0 copy None) (most_steps c) s.at (memory_of s []) (some_steps c) rests))
      (record { process = refl; word = refl })

  -- what settles
  pub settling_keeps : (s : Standing) (n : ℕ) (levels : List (Level Copy)) → Settles c t s levels → k < (part_of c s.process).words
      → (MayStoreFrom c ranges s.at k → ⊥) → HasKept s (settle c (copy_of (last_of levels)) (record s { last_kept = n }))
  settling_keeps s n levels settles inside quiet =
      let see = sight s 0 (copy_of (last_of levels)) None in
      let fits = settling_fits c t s levels see refl settles in
      by (execute c see (most_steps c) s.at [] (memory_of s []))
      (from c groups t has lists ranges are see settles.exists (inside_out levels) k inside low (most_steps c) s.at settles.entry []
      (memory_of s []) settles.there fits (none_small are.most settles.entry.operands fits.operands_fit) quiet)
    where
      by : (o : Outcome) → IsLeft c groups t has lists ranges are (sight s 0 (copy_of (last_of levels)) None) settles.exists (inside_out levels) k inside low s.words o
          → HasKept s (settled_by (record s { last_kept = n }) o)
      by (Stopped at later) h = record { process = refl; word = h }
      by (Accepts at later) h = record { process = refl; word = refl }
      by (Trap cause) h = record { process = refl; word = refl }
      by (Going at xs later) h = record { process = refl; word = refl }
      by Unfinished h = record { process = refl; word = refl }
