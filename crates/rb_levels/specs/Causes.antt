-- Why the turn of a process that is there can't be taken.
use Rattle.std.specs.Prelude.{ℕ, ℤ, Bool, true, false, cond, List, ◌∷◌, Option, Some, None}
use Rattle.rb_base.specs.declared.kept.Kept.{Kept}
use Rattle.rb_syntax.specs.Tree.{Tree}
use Rattle.rb_world.specs.Kind.{Want, NothingLeft, SendsOn, ReceivesOn, MayReceiveOn, Enters, Starts, Acts}
use Rattle.rb_world.specs.World.{ProcessStatus, Running, Finished, FailedWith, last_of}
use Rattle.rb_world.specs.Channels.{has_room, message_there}
use Rattle.rb_world.specs.Plain.{alternates_of, has_alternate, no_alternate}
use Rattle.rb_meaning.specs.State.{Item, TestOf}
use Rattle.rb_meaning.specs.Step.{wants_first}
use Rattle.rb_meaning.specs.PlainRun.{PlainWorld}
use Rattle.rb_levels.specs.declared.cause.StuckCause.{StuckCause}
use Rattle.rb_levels.specs.declared.cause.StuckCause.TheVariants as causes
use Rattle.rb_levels.specs.Moves.{PlainProcess}
use Rattle.rb_levels.specs.Worlds.{unkept_kind}

-- an acceptance test stands first
abbrev pub is_test : List Item → Bool
is_test (TestOf block ∷ rest) = true
is_test items = false

-- a turn that gives an alternate where none starts is stuck for that, whatever else there is
abbrev pub unless_given : Kept → StuckCause → StuckCause
unless_given kept cause = cond (no_alternate kept) cause causes.NothingStarts

-- a send lacks room, or traps
abbrev pub send_cause : ℕ → Bool → StuckCause
send_cause channel true = causes.Traps
send_cause channel false = causes.NoRoom channel

-- a receipt lacks its message, or traps
abbrev pub receipt_cause : ℕ → Option ℤ → StuckCause
receipt_cause channel None = causes.NoMessage channel
receipt_cause channel (Some message) = causes.Traps

-- what acts is the acceptance test, or traps
abbrev pub act_cause : Bool → StuckCause
act_cause true = causes.TestFails
act_cause false = causes.Traps

-- a start is given no alternate that its block has, or the block traps as it begins
abbrev pub start_cause : Kept → PlainProcess → StuckCause
start_cause kept q = cond (has_alternate kept q) causes.Traps (causes.OtherAlternate (alternates_of (last_of q.levels)))

-- why the turn of a running process can't be taken, by what stands first
abbrev pub cause_of_want : Tree → Kept → PlainProcess → PlainWorld → Want → StuckCause
cause_of_want tree kept q w NothingLeft = causes.Ended
cause_of_want tree kept q w (SendsOn c) = unless_given kept (send_cause c (has_room (unkept_kind tree) w c))
cause_of_want tree kept q w (ReceivesOn c) = unless_given kept (receipt_cause c (message_there (unkept_kind tree) w c))
cause_of_want tree kept q w (MayReceiveOn c) = unless_given kept causes.Traps
cause_of_want tree kept q w (Enters facts) = unless_given kept causes.TooDeep
cause_of_want tree kept q w Starts = start_cause kept q
cause_of_want tree kept q w Acts = unless_given kept (act_cause (is_test q.state.items))

-- the same of a process that may stand at its test line, or have ended
abbrev pub cause_of_process : Tree → Kept → PlainProcess → PlainWorld → ProcessStatus → StuckCause
cause_of_process tree kept q w Running = cond q.at_line causes.AtLine (cause_of_want tree kept q w (wants_first tree q.state.items))
cause_of_process tree kept q w Finished = causes.Ended
cause_of_process tree kept q w (FailedWith cause) = causes.Ended
