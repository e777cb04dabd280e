-- A script that is followed over a session.
use Rattle.std.specs.Prelude.{◌≡◌, ◌≤◌, ℕ, List, ◌++◌, length, Option, Result, Ok, Err}
use Rattle.rb_outside.specs.Outside.{Faults, WrotePart}
use Rattle.rb_outside.specs.Puts.{Puts}
use Rattle.rb_sched.specs.Schedule.{Plan}
use Rattle.rb_back.specs.Course.{Course}
use Rattle.rb_back.specs.declared.showing.Stopped.{Stopped}
use Rattle.rb_back.specs.declared.showing.Stopped.TheVariants.{WriteFault, Memory}

-- The turns that a session took are the first of a schedule, and the others are left; it may take them all.
pub record GoesOver (s : Course) (schedule : Plan) : Type 0 where
  pub splits : s.ran ++ schedule.left ≡ schedule.all
  pub few : length schedule.all ≤ s.turns

-- A session stands at a position, and is as before in all but the turns that it took of the same schedule.
pub record HasMoved (s : Course) (schedule : Plan) (position : ℕ) (later : Course) (rest : Plan) : Type 0 where
  pub code : later.code ≡ s.code
  pub groups : later.groups ≡ s.groups
  pub turns : later.turns ≡ s.turns
  pub all : rest.all ≡ schedule.all
  pub goes : GoesOver later rest
  pub at : later.position ≡ position
  pub taken : position ≤ length later.ran

-- One text was written; or a write failed, with a front of it written; or memory was wanting, with nothing written and no fault.
abbrev pub ShowsOne : List ℕ → Option (List ℕ) → Option (List ℕ) → Faults → Faults → Result (Unit {0}) Stopped → Type 0
ShowsOne text old new before after (Ok done) = Puts {T = Unit {0}} {E = Stopped} text old new before after (Ok done)
ShowsOne text old new before after (Err WriteFault) = Puts {T = Unit {0}} {E = Stopped} text old new before after (Err WriteFault)
ShowsOne text old new before after (Err Memory) = (new ≡ old) × (after ≡ before)

-- All texts were written; or a write failed, with a front of them written; or memory was wanting, with a front of them written and no fault.
abbrev pub Shows : List ℕ → Option (List ℕ) → Option (List ℕ) → Faults → Faults → Result (Unit {0}) Stopped → Type 0
Shows text old new before after (Ok done) = Puts {T = Unit {0}} {E = Stopped} text old new before after (Ok done)
Shows text old new before after (Err WriteFault) = Puts {T = Unit {0}} {E = Stopped} text old new before after (Err WriteFault)
Shows text old new before after (Err Memory) = WrotePart old new text × (after.count ≡ before.count)
