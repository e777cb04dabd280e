-- What a kept turn makes of its process alone.
use Rattle.std.specs.Prelude.{◌≡◌, ℤ, nat_lt, false, List, [], ◌∷◌, ◌++◌, length, Option, Some, None, Result, Ok, Err}
use Rattle.rb_base.specs.declared.event.Cause.{Cause}
use Rattle.rb_syntax.specs.Tree.{Tree, Command, RecoveryBlock}
use Rattle.rb_world.specs.World.{Level as Open, Process as Seen, goes_on, settled}
use Rattle.rb_world.specs.Turn.{most_levels, new_level}
use Rattle.rb_base.specs.declared.kept.Kept.{Kept}
use Rattle.rb_world.specs.Plain.{has_alternate, when}
use Rattle.rb_meaning.specs.Environment.{rest_of}
use Rattle.rb_meaning.specs.State.{State, continue_with}
use Rattle.rb_meaning.specs.Step.{alternate_number, alternates_in, enter, performs, starts_body}
use Rattle.rb_meaning.specs.Groups.{facts_of}
use Rattle.rb_meaning.specs.PlainRun.{EntryPoint}
use Rattle.rb_walk.specs.declared.halt.Halt.{Halt}
use Rattle.rb_walk.specs.declared.halt.Halt.TheVariants.{Stuck, Memory}
use Rattle.rb_levels.specs.declared.process.Process.{Process}
use Rattle.rb_levels.specs.Worlds.{unkept_kind}

-- a process of a plain run, as its world has it
abbrev pub PlainProcess : Type 0
PlainProcess = Seen State EntryPoint

-- what came of a process: it is this one, or the turn is stuck; want of memory says nothing
abbrev pub Becomes : {A : Type 0} → Option PlainProcess → PlainProcess → Result A Halt → Type 0
Becomes moved new (Ok _) = moved ≡ Some new
Becomes moved new (Err Stuck) = moved ≡ None
Becomes moved new (Err Memory) = Unit {0}

-- a process goes on from what a step came to; a trap leaves the turn stuck
abbrev pub gone_on : Tree → List (Open EntryPoint) → Result State Cause → Option PlainProcess
gone_on tree levels (Ok s) = Some (settled (unkept_kind tree) s levels)
gone_on tree levels (Err cause) = None

-- the process after a statement that stands first, with the message that it takes
abbrev pub performed_by : Tree → Option ℤ → Command → PlainProcess → Option PlainProcess
performed_by tree message command q =
    gone_on tree q.levels (performs tree message q.state (rest_of q.state.items) command)

-- the process after the start of the alternate that the record gives, if its block has it
abbrev pub started_by : Tree → Kept → RecoveryBlock → PlainProcess → Option PlainProcess
started_by tree kept block q =
    when (has_alternate kept q)
    (gone_on tree q.levels
    (starts_body tree.edition block (rest_of q.state.items) q.state (alternate_number kept.alternate (alternates_in block))))

-- the process once a level is opened, where fewer than the most are open
abbrev pub entered_by : Tree → RecoveryBlock → PlainProcess → Option PlainProcess
entered_by tree block q =
    when (nat_lt (length q.levels) most_levels)
    (Some (goes_on (unkept_kind tree) (enter q.state) (q.levels ++ new_level (unkept_kind tree) (facts_of tree block) 0 (enter q.state) ∷ [])))

-- the state once what stands first is done
abbrev pub skipped : State → State
skipped s = continue_with (rest_of s.items) s

-- a process that runs, away from every test line
pub record IsReady (process : Process) : Type 0 where
  pub runs : process.is_done ≡ false
  pub away : process.at_line ≡ false
