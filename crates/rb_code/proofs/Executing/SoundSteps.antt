-- The laws of sound code, from those of one table.
use Rattle.std.proofs.Common.{◌≡◌, ℕ, zero, suc, ◌+◌, ◌*◌, ◌<◌, ◌≤◌, ℤ, List, [], length, slice_get, Option, Some, None, refl, ap, arith}
use Rattle.std.proofs.Math.Nat.{mul-le-mul_right}
use Rattle.rb_world.specs.Kind.{Stepped, Trapped, Went, Held}
use Rattle.rb_world.specs.World.{copy_of, last_of}
use Rattle.rb_code.specs.Instructions.Plain.{Code}
use Rattle.rb_code.specs.WordMachine.Workspace.{Workspace}
use Rattle.rb_code.specs.WordMachine.Act.{Accepts, Going, Outcome, Sight, Stopped, Trapped as Trap, Unfinished, act_at, execute, then_go}
use Rattle.rb_code.specs.WordMachine.Turn.{Common, Standing, memory_of, most_places, most_steps, settled_by, sight, step}
use Rattle.rb_code.specs.SoundCode.Safe.{Safe, SafeOn}
use Rattle.rb_code.specs.SoundCode.Stands.{StandsSoundlyAfter, RestsAt, StandsAfter}
use Rattle.rb_code.specs.SoundCode.SoundLaws.{SoundStepsAreSafe, SoundStepsEnd, SoundStepsStand, SoundSettlingIsSafe, SoundSettlingStands, StandingHasSettled}
use Rattle.rb_code.specs.declared.instr.Instr.{Instr}
use Rattle.rb_code.specs.declared.instr.Instr.TheVariants.{Turn, Done}
use Rattle.rb_code.proofs.Executing.Served.{is_turn, met}
use Rattle.rb_code.proofs.Executing.StandingSteps as standing

-- what is safe comes to an end
pub safe_ends : (c : Code) (see : Sight) (P : Workspace → Type 0) (n a : ℕ) (xs : List ℤ) (m : Workspace) → Safe c see P n a xs m
    → execute c see n a xs m ≡ Unfinished → ⊥
safe_ends c see P zero a xs m safe e = safe
safe_ends c see P (suc n) a xs m safe e = by (safe_ends c see P n) (act_at c see (slice_get c.instrs a) a xs m) safe.1 e
  where
    ended : (o : Outcome) (b : ℕ) (later : Workspace) → o ≡ Unfinished → o ≡ Stopped b later → ⊥
    ended o b later e f = cc

    accepted : (o : Outcome) (b : ℕ) (later : Workspace) → o ≡ Unfinished → o ≡ Accepts b later → ⊥
    accepted o b later e f = cc

    by : ((b : ℕ) (ys : List ℤ) (later : Workspace) → Safe c see P n b ys later → execute c see n b ys later ≡ Unfinished → ⊥)
        → (o : Outcome) → SafeOn c see P m o (Safe c see P n) → then_go o (execute c see n) ≡ Unfinished → ⊥
    by next (Going b ys later) h e = next b ys later h e
    by next (Stopped b later) h e = ended (Stopped b later) b later e refl
    by next (Accepts b later) h e = accepted (Accepts b later) b later e refl
    by next (Trap cause) h e = trapped (Trap cause) e refl
      where
        trapped : (o : Outcome) → o ≡ Unfinished → o ≡ Trap cause → ⊥
        trapped o e f = cc
    by next Unfinished h e = h

pub steps_are_safe : SoundStepsAreSafe
steps_are_safe c groups s levels alternate message slots h serves =
    standing.step_safe c groups h.table h.has h.lists s levels h.stands
    (is_turn c groups h.table h.has h.lists s levels h.stands alternate message serves) alternate message
    (met c groups h.table h.has h.lists s levels h.stands alternate message serves) slots

pub steps_end : SoundStepsEnd
steps_end c groups s levels alternate message slots h serves =
    safe_ends c (sight s alternate (copy_of (last_of levels)) message) _ (most_steps c) (s.at + 1) [] (memory_of s slots)
    (steps_are_safe c groups s levels alternate message slots h serves)

pub steps_stand : SoundStepsStand
steps_stand c groups s levels alternate message memory h serves =
    by (step c alternate (copy_of (last_of levels)) s message memory)
    (standing.step_stands c groups h.table h.has h.lists s levels h.stands
    (is_turn c groups h.table h.has h.lists s levels h.stands alternate message serves) alternate message
    (met c groups h.table h.has h.lists s levels h.stands alternate message serves) memory)
  where
    by : (o : Stepped Standing Common) → StandsAfter c h.table s levels o → StandsSoundlyAfter c groups s levels o
    by (Trapped cause) k = tt
    by (Went later memory) k = record { table = h.table; has = h.has; lists = h.lists; stands = k }
    by (Held later) k = (k.0, record { table = h.table; has = h.has; lists = h.lists; settles = k.1 })

pub settling_is_safe : SoundSettlingIsSafe
settling_is_safe c groups s levels h = standing.settle_safe c groups h.table h.has h.lists s levels h.settles

pub settling_stands : SoundSettlingStands
settling_stands c groups s levels h = record {
  table = h.table;
  has = h.has;
  lists = h.lists;
  stands = standing.settle_stands c groups h.table h.has h.lists s levels h.settles;
}

product_some : (x y : ℕ) → 0 < x → 0 < y → 0 < x * y
product_some x y a b = let m : 1 * y ≤ x * y = mul-le-mul_right y a in omega arith

pub some_steps : (c : Code) → 0 < most_steps c
some_steps c =
    let n = length c.instrs + 1 in
    product_some _ (most_places n) (omega arith)
    (product_some n _ (omega arith) (product_some _ _ (omega arith) (product_some n _ (omega arith) (product_some _ n (omega arith) (omega arith)))))

-- at a `turn` or `done` an execution has come to its end
pub stops_at_once : (c : Code) (see : Sight) (n a : ℕ) (m : Workspace) → 0 < n → RestsAt (slice_get c.instrs a) → execute c see n a [] m ≡ Stopped a m
stops_at_once c see zero a m some h = absurd (omega arith)
stops_at_once c see (suc n) a m some h = by (slice_get c.instrs a) h
  where
    by : (o : Option Instr) → RestsAt o → then_go (act_at c see o a [] m) (execute c see n) ≡ Stopped a m
    by None h = absurd h
    by (Some Turn) h = refl
    by (Some Done) h = refl
    by (Some i) h = absurd h

pub standing_has_settled : StandingHasSettled
standing_has_settled c groups s levels h =
    ap (settled_by s) (stops_at_once c (sight s 0 (copy_of (last_of levels)) None) (most_steps c) s.at (memory_of s []) (some_steps c) h.stands.rests)
