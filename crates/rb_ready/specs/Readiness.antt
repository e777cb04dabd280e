-- What a process is ready for in its turn, by what stands first in it.
use Rattle.std.specs.Prelude.{◌≡◌, ℕ, ℤ, List, slice_get, Option, Some}
use Rattle.rb_world.specs.Kind.{Want, NothingLeft, SendsOn, ReceivesOn, MayReceiveOn, Enters, Starts, Acts, Membership}
use Rattle.rb_world.specs.Slots.{Slots}
use Rattle.rb_world.specs.World.{Process}
use Rattle.rb_code.specs.Instructions.Plain.{Code}
use Rattle.rb_code.specs.SoundCode.Safe.{IsThere}
use Rattle.rb_conv.specs.Conversations.{Conversation, memberships}
use Rattle.rb_proc.specs.Process.{Seen, alternate_for}
use Rattle.rb_recovery.specs.Worlds.{world_of}
use Rattle.rb_world.specs.Turn.{acts, idles, steps, waits}
use Rattle.rb_code.specs.SoundCode.Sound.{IsReceiver}
use Rattle.rb_code.specs.WordMachine.Turn.{Copy, Link, Standing, want}
use Rattle.rb_code.specs.WordMachine.WordKind.{word_kind}
use Rattle.rb_code.specs.WordMachine.WordRun.{WordWorld}
use Rattle.rb_proc.specs.Entries.{WantsBlock}
use Rattle.rb_recovery.specs.Work.{named_by_acts, named_by_steps}
use Rattle.rb_ready.specs.declared.readiness.ReadyFor.{ReadyFor}
use Rattle.rb_ready.specs.declared.readiness.ReadyFor.TheVariants as ready

-- what stands first is a step, and where it waits for a message it is given one
abbrev pub IsStep : Option ℤ → Want → Type 0
IsStep message NothingLeft = ⊥
IsStep message (SendsOn channel) = Unit {0}
IsStep message (ReceivesOn channel) = IsThere message
IsStep message (MayReceiveOn channel) = Unit {0}
IsStep message (Enters facts) = ⊥
IsStep message Starts = Unit {0}
IsStep message Acts = Unit {0}

-- What process number p does in its turn, by what it is ready for: it idles, waits, enters a block, or steps, with this message or without
-- one; and a step names the words that count for what stands first.
abbrev pub IsReadyFor : Code → List Membership → ℕ → ℕ → Process Standing Copy → WordWorld → ReadyFor → Type 0
IsReadyFor c groups t p q w ready.Idle = acts (word_kind c groups) t p q w (want c q.state) ≡ idles w
IsReadyFor c groups t p q w ready.Waits = acts (word_kind c groups) t p q w (want c q.state) ≡ waits w
IsReadyFor c groups t p q w (ready.Enters b) = WantsBlock b (want c q.state)
IsReadyFor c groups t p q w (ready.Steps message) =
    IsStep message (want c q.state)
    × (acts (word_kind c groups) t p q w (want c q.state)
    ≡ steps (word_kind c groups) t p (alternate_for (want c q.state) q.levels) message q w)
    × (named_by_acts c groups t p q w (want c q.state)
    ≡ named_by_steps c groups t p (alternate_for (want c q.state) q.levels) message q w)

-- the same of whoever stands at that number, with these slots, in every turn and with every table
abbrev pub IsReadyAt : Code → List Seen → Slots → ℕ → ReadyFor → Type 0
IsReadyAt c procs slots p one =
    (x : Seen) (table : List Conversation) (links : List Link) (t : ℕ) → slice_get procs p ≡ Some x
    → IsReadyFor c (memberships table) t p x.process (world_of procs table (record { slots = slots; links = links })) one

-- it is ready for an entry
abbrev pub IsEntryReady : ReadyFor → Type 0
IsEntryReady (ready.Enters b) = Unit {0}
IsEntryReady ready.Idle = ⊥
IsEntryReady ready.Waits = ⊥
IsEntryReady (ready.Steps message) = ⊥

-- where process number p takes a message of a channel it is the receiver
abbrev pub IsReceiverIf : Code → ℕ → Want → Type 0
IsReceiverIf c p (ReceivesOn channel) = IsReceiver (slice_get c.channels channel) p
IsReceiverIf c p (MayReceiveOn channel) = IsReceiver (slice_get c.channels channel) p
IsReceiverIf c p NothingLeft = Unit {0}
IsReceiverIf c p (SendsOn channel) = Unit {0}
IsReceiverIf c p (Enters facts) = Unit {0}
IsReceiverIf c p Starts = Unit {0}
IsReceiverIf c p Acts = Unit {0}

abbrev pub ReceivesThere : Code → List Seen → ℕ → Type 0
ReceivesThere c procs p = (one : Seen) → slice_get procs p ≡ Some one → IsReceiverIf c p (want c one.process.state)
