-- The world of a plain run, as memory keeps it: processes with their levels, each with what its recovery point keeps.
use Rattle.std.specs.Prelude.{◌≡◌, ℕ, Bool, true, false, List, map, slice_get, Option, Some, None, option_map, Result, Ok, Err}
use Rattle.rb_syntax.specs.Tree.{Tree, RecoveryBlock, Recovers}
use Rattle.rb_syntax.specs.Plain.{recovery_block}
use Rattle.rb_world.specs.Kind.{Facts, Kind}
use Rattle.rb_world.specs.World.{Level as Open, ProcessStatus, Running, Finished, Process as Seen}
use Rattle.rb_world.specs.Turn.{opening_talks}
use Rattle.rb_base.specs.declared.kept.Kept.{Kept}
use Rattle.rb_world.specs.Plain.{plain_moves}
use Rattle.rb_meaning.specs.Environment.{natural}
use Rattle.rb_meaning.specs.State.{State}
use Rattle.rb_meaning.specs.Step.{Nothing}
use Rattle.rb_meaning.specs.Groups.{count_alternates, groups_of}
use Rattle.rb_meaning.specs.PlainRun.{EntryPoint, PlainWorld, plain_kind}
use Rattle.rb_walk.specs.declared.halt.Halt.{Halt}
use Rattle.rb_walk.specs.declared.halt.Halt.TheVariants.{Stuck, Memory}
use Rattle.rb_walk.specs.declared.items.First.{First}
use Rattle.rb_walk.specs.declared.items.First.TheVariants as first
use Rattle.rb_walk.specs.States.{state_of}
use Rattle.rb_levels.specs.declared.process.Level.{Level}
use Rattle.rb_levels.specs.declared.process.Process.{Process}

-- The kind of state of a plain run whose turns are not noted: who reads a record has them already.
abbrev pub unkept_kind : Tree → Kind State EntryPoint Nothing
unkept_kind tree = record (plain_kind tree) { keep = λ t alternate s memory. (s, memory) }

-- what is known of a recovery block whose conversation has this number, if it has one
abbrev pub facts_with : Option ℕ → RecoveryBlock → Facts
facts_with conversation (Recovers number name place test bound alternates) = record {
  number = number;
  line = place.line;
  conversation = conversation;
  bound = natural bound.value;
  alternates = count_alternates alternates;
}

-- an open level in memory; which alternate it tries, and how many turns it used, no plain run asks
abbrev pub level_of : Level → Open EntryPoint
level_of level = record {
  facts = facts_with level.conversation (recovery_block level.block.now);
  alternate = 0;
  used = 0;
  copy = record { sent = level.sent.items; taken = level.taken.items; environment = level.environment };
}

-- whether a process is done; none fails in a plain run
abbrev pub status_of : Bool → ProcessStatus
status_of true = Finished
status_of false = Running

-- a process in memory
abbrev pub process_of : Process → Seen State EntryPoint
process_of process = record {
  state = state_of process.state;
  levels = map level_of process.levels.items;
  at_line = process.at_line;
  status = status_of process.is_done;
}

-- the world of processes in memory; conversations stay as they are at the opening
abbrev pub world_of : Tree → List Process → PlainWorld
world_of tree processes = record { processes = map process_of processes; talks = opening_talks (groups_of tree); memory = tt }

-- the world that a kept turn moves another to, before held lines are released; none where it is stuck
abbrev pub moved_world : Tree → Kept → PlainWorld → Option PlainWorld
moved_world tree kept w = option_map (λ moved. moved.world) (plain_moves (unkept_kind tree) kept w (slice_get w.processes kept.process))

-- nothing stands first
abbrev pub is_nothing_left : First → Bool
is_nothing_left first.Nothing = true
is_nothing_left (first.Statement statement) = false
is_nothing_left (first.Start block) = false
is_nothing_left (first.Test block) = false
is_nothing_left first.BlockEnd = false
is_nothing_left first.CallEnd = false

-- What came of a kept turn: the world after it, or that it is stuck. Want of memory says nothing.
abbrev pub MovesTo : {A : Type 0} → Option PlainWorld → PlainWorld → Result A Halt → Type 0
MovesTo moved new (Ok _) = moved ≡ Some new
MovesTo moved new (Err Stuck) = moved ≡ None
MovesTo moved new (Err Memory) = Unit {0}
