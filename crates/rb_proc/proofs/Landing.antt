-- A jump to a `turn` is all that settling carries out where it stands.
use Rattle.std.proofs.Common.{◌≡◌, ℕ, zero, suc, ◌+◌, ℤ, false, List, [], Option, Some, None, slice_get, refl, ap, sym, ◌∙◌, subst}
use Rattle.rb_world.specs.Kind.{Membership}
use Rattle.rb_world.specs.World.{Level, ProcessStatus, Running, copy_of, goes_on, last_of, settled, status_at}
use Rattle.rb_code.specs.Instructions.Plain.{Block, Code}
use Rattle.rb_code.specs.WordMachine.Workspace.{Workspace}
use Rattle.rb_code.specs.WordMachine.Act.{Outcome, Sight, Stopped, act_at, execute, then_go}
use Rattle.rb_code.specs.WordMachine.Turn.{Copy, Standing, enters, memory_of, most_steps, settled_by, sight, wants_by, wants_there}
use Rattle.rb_code.specs.SoundCode.Safe.{Safe, SafeOn}
use Rattle.rb_code.specs.SoundCode.Stands.{SettlesSoundly}
use Rattle.rb_code.proofs.Executing.SoundSteps.{settling_is_safe}
use Rattle.rb_code.specs.declared.instr.Instr.{Instr}
use Rattle.rb_code.specs.declared.instr.Instr.TheVariants.{Enter, Turn}
use Rattle.rb_proc.specs.Executable.{LandsAt}
use Rattle.rb_proc.specs.Process.{kind_of}

pub entry_runs : (b : ℕ) (block : Option Block) → status_at (enters b block) ≡ Running
entry_runs b None = refl
entry_runs b (Some block) = refl

pub next_runs : (c : Code) (i : Instr) → status_at (wants_by c i) ≡ Running
next_runs c (Enter b) = entry_runs b (slice_get c.blocks b)
next_runs c _ = refl

-- who stands at a `turn` runs
pub turn_runs : (c : Code) (next : Option Instr) → status_at (wants_there c (Some Turn) next) ≡ Running
turn_runs c None = refl
turn_runs c (Some i) = next_runs c i

lands : (c : Code) (see : Sight) (P : Workspace → Type 0) (n a to : ℕ) (xs : List ℤ) (m : Workspace) → LandsAt c a to → Safe c see P n a xs m
    → execute c see n a xs m ≡ Stopped to m
lands c see P zero a to xs m h safe = absurd safe
lands c see P (suc zero) a to xs m h safe = absurd (subst (λ (o : Option Instr). SafeOn c see P m (act_at c see o a xs m) (Safe c see P zero)) h.0 safe.1)
lands c see P (suc (suc n)) a to xs m h safe =
    ap (λ (o : Option Instr). then_go (act_at c see o a xs m) (execute c see (suc n))) h.0
    ∙ ap (λ (o : Option Instr). then_go (act_at c see o to xs m) (execute c see n)) h.1

-- so the process stands at that `turn`, and nothing else has changed
pub landed : (c : Code) (groups : List Membership) (s : Standing) (levels : List (Level Copy)) (to : ℕ) → SettlesSoundly c groups s levels
    → LandsAt c s.at to
    → record { state = record s { at = to }; levels = levels; at_line = false; status = Running } ≡ settled (kind_of c) s levels
landed c groups s levels to settles h =
    ap (λ (status : ProcessStatus). record { state = record s { at = to }; levels = levels; at_line = false; status = status })
    (sym (turn_runs c (slice_get c.instrs (to + 1))) ∙ ap (λ (o : Option Instr). status_at (wants_there c o (slice_get c.instrs (to + 1)))) (sym h.1))
    ∙ ap (λ (o : Outcome). goes_on (kind_of c) (settled_by s o) levels)
    (sym (lands c (sight s 0 (copy_of (last_of levels)) None) _ (most_steps c) s.at to [] (memory_of s []) h (settling_is_safe c groups s levels settles)))
