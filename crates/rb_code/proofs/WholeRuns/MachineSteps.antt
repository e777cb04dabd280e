-- What each step of the word machine leaves alone, and that settling changes nothing where the machine is at rest.
use Rattle.std.proofs.Common.{◌≡◌, ◌≤◌, inl, inr, ℕ, ◌+◌, zero, suc, [], slice_get, Option, Some, None, refl, ap, ◌∙◌, arith}
use Rattle.std.specs.Prelude.{ℤ}
use Rattle.rb_world.specs.Kind.{Stepped, Trapped, Went, Held}
use Rattle.rb_code.specs.Instructions.Plain.{Code}
use Rattle.rb_code.specs.WordMachine.Act.{Accepts, Going, Outcome, Sight, Stopped, Trapped as Trap, Unfinished, act, act_at, execute, then_go}
use Rattle.rb_code.specs.WordMachine.Turn.{Common, Copy, Standing, came_to, memory_of, most_steps, settle, settled_by, sight, step}
use Rattle.rb_code.specs.declared.instr.Instr.{Instr}
use Rattle.rb_code.specs.declared.instr.Instr.TheVariants.{Done, Turn}
use Rattle.rb_code.proofs.WholeRuns.Agreeing.{IsAtRest}

-- v is the same process as u, with the same last kept turn
pub record IsSameProcess (u v : Standing) : Type 0 where
  pub process : v.process ≡ u.process
  pub last_kept : v.last_kept ≡ u.last_kept

-- and a step leaves the links as they were
abbrev pub LeavesLinks : Standing → Common → Stepped Standing Common → Type 0
LeavesLinks u memory (Trapped cause) = Unit {0}
LeavesLinks u memory (Went v later) = IsSameProcess u v × (later.links ≡ memory.links)
LeavesLinks u memory (Held v) = IsSameProcess u v

came_leaves : (u : Standing) (memory : Common) (o : Outcome) → LeavesLinks u memory (came_to u memory o)
came_leaves u memory (Going at operands m) = tt
came_leaves u memory (Stopped at m) = (record { process = refl; last_kept = refl }, refl)
came_leaves u memory (Accepts at m) = record { process = refl; last_kept = refl }
came_leaves u memory (Trap cause) = tt
came_leaves u memory Unfinished = tt

pub step_leaves : (c : Code) (alternate : ℕ) (copy : Option Copy) (u : Standing) (message : Option ℤ) (memory : Common)
    → LeavesLinks u memory (step c alternate copy u message memory)
step_leaves c alternate copy u message memory =
    came_leaves u memory (execute c (sight u alternate copy message) (most_steps c) (u.at + 1) [] (memory_of u memory.slots))

-- settling keeps the process and its last kept turn
settled_same : (u : Standing) (o : Outcome) → IsSameProcess u (settled_by u o)
settled_same u (Going at operands m) = record { process = refl; last_kept = refl }
settled_same u (Stopped at m) = record { process = refl; last_kept = refl }
settled_same u (Accepts at m) = record { process = refl; last_kept = refl }
settled_same u (Trap cause) = record { process = refl; last_kept = refl }
settled_same u Unfinished = record { process = refl; last_kept = refl }

pub settle_same : (c : Code) (copy : Option Copy) (u : Standing) → IsSameProcess u (settle c copy u)
settle_same c copy u = settled_same u (execute c (sight u 0 copy None) (most_steps c) u.at [] (memory_of u []))

-- there is always a step
one_more : (n : ℕ) → 1 ≤ n → (k : ℕ) × (n ≡ suc k)
one_more zero some = absurd (omega (arith, some))
one_more (suc k) some = (k, refl)

pub some_steps : (c : Code) → (k : ℕ) × (most_steps c ≡ suc k)
some_steps c = one_more (most_steps c) (omega arith)

module _ (c : Code) (see : Sight) where
  stops : (k : ℕ) (u : Standing) (instr : Instr) → slice_get c.instrs u.at ≡ Some instr
      → act c see instr u.at [] (memory_of u []) ≡ Stopped u.at (memory_of u [])
      → settled_by u (execute c see (suc k) u.at [] (memory_of u [])) ≡ u
  stops k u instr there stop =
      ap (λ (o : Option Instr). settled_by u (then_go (act_at c see o u.at [] (memory_of u [])) (execute c see k))) there
      ∙ ap (λ (o : Outcome). settled_by u (then_go o (execute c see k))) stop

  stays : (k : ℕ) (u : Standing) → IsAtRest c u → settled_by u (execute c see (suc k) u.at [] (memory_of u [])) ≡ u
  stays k u (inl turn) = stops k u Turn turn refl
  stays k u (inr done) = stops k u Done done refl

-- at rest settling changes nothing
pub settle_at_rest : (c : Code) (copy : Option Copy) (u : Standing) → IsAtRest c u → settle c copy u ≡ u
settle_at_rest c copy u rest =
    let some = some_steps c in
    ap (λ (n : ℕ). settled_by u (execute c (sight u 0 copy None) n u.at [] (memory_of u []))) some.1
    ∙ stays c (sight u 0 copy None) some.0 u rest
