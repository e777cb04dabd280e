-- A process of the machine as contracts see it: the process of the word machine, with a whole copy at the entry of each open level, and
-- the released lines that wait. What each call does is told in the words of the turn of a world.
use Rattle.std.specs.Prelude.{◌≡◌, ℕ, ℤ, cond, Bool, List, [], Option}
use Rattle.rb_world.specs.Kind.{Kind, Want, NothingLeft, SendsOn, ReceivesOn, MayReceiveOn, Enters, Starts, Acts, Stepped, Trapped, Went, Held}
use Rattle.rb_world.specs.World.{Level, ProcessStatus, Running, Finished, FailedWith, Process, copy_of, last_of, goes_on}
use Rattle.rb_world.specs.Slots.{Slots}
use Rattle.rb_world.specs.Turn.{tried_at}
use Rattle.rb_code.specs.Instructions.Plain.{Code}
use Rattle.rb_code.specs.WordMachine.Turn.{Common, Copy, Standing, step, want}
use Rattle.rb_code.specs.WordMachine.WordKind.{word_kind}
use Rattle.rb_proc.specs.declared.answers.Wanted.{Wanted}
use Rattle.rb_proc.specs.declared.answers.Wanted.TheVariants as wanted
use Rattle.rb_proc.specs.declared.answers.Outcome.{Outcome}
use Rattle.rb_proc.specs.declared.answers.Outcome.TheVariants as outcome

-- the process, and its released lines that wait
pub record Seen : Type 0 where
  pub process : Process Standing Copy
  pub waiting : List (List ℕ)

-- the kind of state; conversations are the machine's, and no process asks for them
abbrev pub kind_of : Code → Kind Standing Copy Common
kind_of c = word_kind c []

-- what a process wants that runs, and stands at no test line
abbrev pub wanted_by : Want → Wanted
wanted_by NothingLeft = wanted.Idle
wanted_by (SendsOn channel) = wanted.Room channel
wanted_by (ReceivesOn channel) = wanted.Message channel
wanted_by (MayReceiveOn channel) = wanted.Maybe channel
wanted_by (Enters facts) = wanted.Entry facts.number
wanted_by Starts = wanted.Start
wanted_by Acts = wanted.Step

-- what a process wants
abbrev pub wanted_now : Code → ProcessStatus → Bool → Standing → Wanted
wanted_now c Running at_line s = cond at_line wanted.Line (wanted_by (want c s))
wanted_now c Finished at_line s = wanted.Idle
wanted_now c (FailedWith cause) at_line s = wanted.Idle

abbrev pub wanted_of : Code → Process Standing Copy → Wanted
wanted_of c q = wanted_now c q.status q.at_line q.state

-- the alternate that a step is given: that of the innermost level for a start, and else 0
abbrev pub alternate_for : Want → List (Level Copy) → ℕ
alternate_for Starts levels = tried_at (last_of levels)
alternate_for NothingLeft levels = 0
alternate_for (SendsOn channel) levels = 0
alternate_for (ReceivesOn channel) levels = 0
alternate_for (MayReceiveOn channel) levels = 0
alternate_for (Enters facts) levels = 0
alternate_for Acts levels = 0

-- the step of the word machine that a process takes, with this message or none
abbrev pub step_of : Code → Process Standing Copy → Slots → Option ℤ → Stepped Standing Common
step_of c q slots message =
    step c (alternate_for (want c q.state) q.levels) (copy_of (last_of q.levels)) q.state message (record { slots = slots; links = [] })

-- What a step answers, and what it leaves: where it went on, the process goes on from there, and a send has written its slot; where an
-- acceptance test held it stands behind the test; where it trapped nothing is changed.
abbrev pub StepsTo : Code → Process Standing Copy → Slots → Stepped Standing Common → Outcome → Process Standing Copy → Slots → Type 0
StepsTo c q slots (Went later memory) outcome.Went r after = (r ≡ goes_on (kind_of c) later q.levels) × (after ≡ memory.slots)
StepsTo c q slots (Held later) outcome.Accepts r after = (r ≡ record q { state = later }) × (after ≡ slots)
StepsTo c q slots (Trapped cause) (outcome.Trap trap) r after = (trap ≡ cause) × (r ≡ q) × (after ≡ slots)
StepsTo c q slots stepped answer r after = ⊥
