-- The world that the machine's parts stand for: processes, conversations, slots and links.
use Rattle.std.specs.Prelude.{◌≡◌, ℕ, ◌<◌, ◌-◌, ◌^◌, List, [], map, reverse}
use Rattle.std.specs.List.{AllByRecursion}
use Rattle.rb_world.specs.Kind.{Kind}
use Rattle.rb_world.specs.Slots.{Slots}
use Rattle.rb_world.specs.World.{Level, Process}
use Rattle.rb_code.specs.Instructions.Plain.{Code}
use Rattle.rb_code.specs.WordMachine.Turn.{Common, Copy, Link, Standing}
use Rattle.rb_code.specs.WordMachine.WordKind.{word_kind}
use Rattle.rb_code.specs.WordMachine.WordRun.{WordWorld}
use Rattle.rb_conv.specs.Conversations.{Conversation, memberships, talks}
use Rattle.rb_proc.specs.Process.{Seen}
use Rattle.rb_recovery.specs.declared.links.Link.{Link as Held}

-- the processes of the word machine, and the lines of each that wait
abbrev pub processes_of : List Seen → List (Process Standing Copy)
processes_of procs = map (λ (one : Seen). one.process) procs

abbrev pub lines_of : List Seen → List (List (List ℕ))
lines_of procs = map (λ (one : Seen). one.waiting) procs

-- no released line waits
abbrev pub NoneWaits : List Seen → Type 0
NoneWaits procs = AllByRecursion (λ (one : Seen). one.waiting ≡ []) procs

-- the kind of state of the code, with the conversations of the table
abbrev pub kind_with : Code → List Conversation → Kind Standing Copy Common
kind_with c table = word_kind c (memberships table)

abbrev pub world_of : List Seen → List Conversation → Common → WordWorld
world_of procs table memory = record { processes = processes_of procs; talks = talks table; memory = memory }

-- links are kept with the newest last, and the word machine has the newest first
abbrev pub link_of : Held → Link
link_of one = record { turn = one.turn; process = one.process; alternate = one.alternate; before = one.before }

abbrev pub memory_of : Slots → List Held → Common
memory_of slots links = record { slots = slots; links = reverse (map link_of links) }

-- how many alternates each conversation has
abbrev pub counts_of : List Conversation → List ℕ
counts_of table = map (λ (one : Conversation). one.alternates) table

-- the alternate of every level can rise
abbrev pub CanRise : Seen → Type 0
CanRise one = AllByRecursion (λ (level : Level Copy). level.alternate < 2 ^ 32 - 1) one.process.levels
