-- The machine as contracts see it: its code and its conversations, the world of the word machine that it stands for, the released lines
-- that wait, whether the links of kept turns are held, so that survivors may be asked for, how many turns it has taken, and how many it
-- may take.
use Rattle.std.specs.Prelude.{◌≡◌, ◌<◌, ◌≤◌, ◌+◌, ◌-◌, ◌^◌, ℕ, Bool, true, false, List, [], ◌∷◌, length, replicate, slice_get}
use Rattle.rb_world.specs.Kind.{Membership}
use Rattle.rb_world.specs.Turn.{Told, turn}
use Rattle.rb_code.specs.Instructions.Plain.{Code}
use Rattle.rb_code.specs.WordMachine.WordKind.{word_kind}
use Rattle.rb_code.specs.WordMachine.WordRun.{WordWorld, opening_of, word_run}
use Rattle.rb_conv.specs.Conversations.{memberships}
use Rattle.rb_machine.specs.AtWork.{IsAtWork}
use Rattle.rb_recovery.specs.Parts.{world}
use Rattle.rb_machine.specs.Resting.{AllRest, AreNoted, AreTallied}
use Rattle.rb_machine.specs.Telling.{AreFreed, running_of}
use Rattle.rb_recovery.specs.Work.{enters_there}
use Rattle.rb_recovery.specs.Worlds.{NoneWaits, lines_of, processes_of}
use Rattle.rb_recovery.specs.declared.parts.Parts.{Parts}
use Rattle.rb_machine.specs.declared.rests.Resting.{Resting}

pub record Seen : Type 0 where
  pub code : Code
  pub groups : List Membership
  pub world : WordWorld
  pub waiting : List (List (List ℕ))
  pub keeps : Bool
  pub taken : ℕ
  pub most : ℕ

abbrev pub seen : {L : Type 0} → Code → Parts L → ℕ → ℕ → Seen
seen c parts taken most = record {
  code = c;
  groups = memberships parts.table;
  world = world parts;
  waiting = lines_of parts.procs.items;
  keeps = parts.links.held;
  taken = taken;
  most = most;
}

-- What ties the parts: they stand for a world of a run, before the next turn; it is known who runs; who has no level holds no
-- line; it is known where no released line waits; there is room for the links of all turns that may come; who was noted to rest does, and is counted.
pub record IsTied {L : Type 0} (c : Code) (parts : Parts L) (running : List Bool) (taken most : ℕ) (released : Bool)
    (resting : Resting) : Type 0 where
  pub work : IsAtWork c (taken + 1) parts.procs.items parts.table parts.mails parts.links.items
  pub running_is : running ≡ running_of (processes_of parts.procs.items)
  pub freed : AreFreed (processes_of parts.procs.items)
  pub none_waits : released ≡ false → NoneWaits parts.procs.items
  pub links_room : most ≤ taken + parts.links.room
  pub taken_few : taken ≤ most
  pub most_few : most < 2 ^ 32 - 1
  pub noted : AreNoted c (memberships parts.table) (world parts) resting.rests.items resting.changed taken
  pub tallied : AreTallied (length (world parts).processes) resting.rests.items resting.changed resting.noted taken

-- before the first turn
abbrev pub opening_seen : Code → List Membership → Bool → ℕ → Seen
opening_seen c groups keeps most = record {
  code = c;
  groups = groups;
  world = opening_of c groups;
  waiting = replicate (length c.processes) [];
  keeps = keeps;
  taken = 0;
  most = most;
}

-- what is told of a turn that has come to this world
abbrev pub turned : Seen → ℕ → WordWorld × Told
turned m p = turn (word_kind m.code m.groups) (m.taken + 1) p m.world

-- A turn of process number p: the world is that after the same turn of the word machine, and its report and the released lines are what
-- that turn tells.
pub record HasTurned (old : Seen) (p : ℕ) (new : Seen) (told : Told) : Type 0 where
  pub machine : new ≡ record old { world = (turned old p).0; waiting = (turned old p).1.released; taken = old.taken + 1 }
  pub told_is : told ≡ (turned old p).1

-- such a turn is an entry that is kept
abbrev pub IsKeptEntry : Seen → ℕ → Type 0
IsKeptEntry m p = enters_there m.code (turned m p).1.kind (slice_get m.world.processes p) ≡ true

-- no turn changes, tells or releases anything any more, whosever it is
abbrev pub IsOver : Seen → Type 0
IsOver m = AllRest m.code m.groups m.world

-- Turns of these processes, one after another, lead from one machine to another, and this is told of them; before each turn the lines that
-- the turns before it released were taken.
abbrev pub HasRun : Seen → List ℕ → List Told → Seen → Type 0
HasRun old [] all new = (new ≡ old) × (all ≡ [])
HasRun old (p ∷ ps) all new =
    (next : Seen) × (one : Told) × (others : List Told) × HasTurned old p next one × (all ≡ one ∷ others)
    × HasRun (record next { waiting = replicate (length next.world.processes) [] }) ps others new

-- Over every list of turns a loaded machine comes to the world of the word machine, and tells what that tells.
abbrev pub MachineIsWordMachine : Type 0
MachineIsWordMachine = (c : Code) (groups : List Membership) (keeps : Bool) (most : ℕ) (new : Seen) (ps : List ℕ) (all : List Told)
    → HasRun (opening_seen c groups keeps most) ps all new → (new.world, all) ≡ word_run c groups ps
