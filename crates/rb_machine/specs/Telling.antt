-- What is told of a turn: who has failed in it and who is done, by who ran before it.
use Rattle.std.specs.Prelude.{◌≡◌, ℕ, zero, suc, ◌+◌, ◌<◌, Bool, true, false, cond, List, [], ◌∷◌, ◌++◌, length, map, slice_get, Option, Some}
use Rattle.std.specs.List.{AllByRecursion}
use Rattle.rb_base.specs.declared.event.Event.{Event}
use Rattle.rb_base.specs.declared.event.TurnKind.{TurnKind}
use Rattle.rb_base.specs.declared.event.TurnKind.TheVariants.{Idle, Wait, Took, Undone}
use Rattle.rb_world.specs.Turn.{compared, done_at, error_at, freed, lines_freed}
use Rattle.rb_world.specs.World.{Level, Process, ProcessStatus, Running, Finished, FailedWith}
use Rattle.rb_code.specs.Instructions.Plain.{Code}
use Rattle.rb_code.specs.WordMachine.Turn.{Copy, Standing}
use Rattle.rb_code.specs.WordMachine.WordKind.{released}
use Rattle.rb_proc.specs.Process.{Seen, kind_of}
use Rattle.rb_recovery.specs.TestLines.{passes_of}
use Rattle.rb_machine.specs.declared.came.Came.{Came}
use Rattle.rb_machine.specs.declared.telling.Ending.{Ending}
use Rattle.rb_machine.specs.declared.telling.Ending.TheVariants as ending

-- who runs
abbrev pub is_running : ProcessStatus → Bool
is_running Running = true
is_running Finished = false
is_running (FailedWith cause) = false

abbrev pub running_of : List (Process Standing Copy) → List Bool
running_of processes = map (λ (q : Process Standing Copy). is_running q.status) processes

-- the events of a turn behind its rejections: errors, a pass, and who is done
abbrev pub ends_told : List (Process Standing Copy) → List (Process Standing Copy) → Option Event → List Event
ends_told before after pass =
    compared error_at 0 before after ++ (passes_of pass ++ compared done_at 0 before after)

-- what is told of one kind of ending, by the status of a process before a turn and after it
abbrev pub ended_at : Ending → ℕ → ProcessStatus → ProcessStatus → List Event
ended_at ending.Failed = error_at
ended_at ending.Done = done_at

-- the same by whether the process ran before the turn
abbrev pub ended_if : Ending → ℕ → Bool → ProcessStatus → List Event
ended_if one p ran after = cond ran (ended_at one p Running after) []

-- what is told of the processes from number p on, by who ran before the turn
abbrev pub ended_by : Ending → ℕ → List Bool → List (Process Standing Copy) → List Event
ended_by one p [] after = []
ended_by one p (ran ∷ others) [] = []
ended_by one p (ran ∷ others) (q ∷ qs) = ended_if one p ran q.status ++ ended_by one (p + 1) others qs

-- a turn that takes nothing back and passes no test line touches no process but its own
abbrev pub takes_nothing_back : TurnKind → Bool
takes_nothing_back Idle = true
takes_nothing_back Wait = true
takes_nothing_back Took = true
takes_nothing_back Undone = false

abbrev pub is_alone : TurnKind → List Event → Bool
is_alone kind [] = takes_nothing_back kind
is_alone kind (pass ∷ passes) = false

-- lists that are alike but at one number
abbrev pub SameBut : {A : Type 0} → ℕ → List A → List A → Type 0
SameBut p [] [] = Unit {0}
SameBut p [] (y ∷ ys) = ⊥
SameBut p (x ∷ xs) [] = ⊥
SameBut zero (x ∷ xs) (y ∷ ys) = xs ≡ ys
SameBut (suc p) (x ∷ xs) (y ∷ ys) = (x ≡ y) × SameBut p xs ys

-- who has no level holds no line
abbrev pub HoldsNone : List (Level Copy) → Standing → Type 0
HoldsNone [] s = (released s ≡ s) × (s.held ≡ [])
HoldsNone (level ∷ levels) s = Unit {0}

abbrev pub IsFreed : Process Standing Copy → Type 0
IsFreed q = HoldsNone q.levels q.state

abbrev pub AreFreed : List (Process Standing Copy) → Type 0
AreFreed processes = AllByRecursion IsFreed processes

-- Process number p alone was touched since it was noted who runs, and who had no level then held no line.
pub record WasAlone (p : ℕ) (running : List Bool) (after : List (Process Standing Copy)) : Type 0 where
  pub before : List (Process Standing Copy)
  pub ran : running ≡ running_of before
  pub freed : AreFreed before
  pub same : SameBut p before after

-- a process that has released its held lines, if it has no level
abbrev pub freed_one : Code → Seen → Seen
freed_one c one = record {
  process = freed (kind_of c) one.process;
  waiting = lines_freed (kind_of c) one.process.state one.process.levels;
}

-- a process goes on, and a release would change nothing
pub record GoesOn (one : Seen) : Type 0 where
  pub running : one.process.status ≡ Running
  pub same : (c : Code) → freed_one c one ≡ record one { waiting = [] }

-- Process number p goes on after a turn that took nothing back and passed no test line: there is nothing to tell and nothing to release.
pub record IsQuiet (came : Came) (procs : List Seen) (p : ℕ) : Type 0 where
  pub kind : takes_nothing_back came.kind ≡ true
  pub none : passes_of came.pass ≡ []
  pub goes_on : (one : Seen) → slice_get procs p ≡ Some one → GoesOn one

-- process number p ran before its turn and goes on
pub record GoesOnThere (running : List Bool) (procs : List Seen) (p : ℕ) : Type 0 where
  pub there : p < length procs
  pub ran : slice_get running p ≡ Some true
  pub goes_on : (one : Seen) → slice_get procs p ≡ Some one → GoesOn one
