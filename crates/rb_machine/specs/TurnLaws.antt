-- The laws of the word machine's turns, over sound code and every list of turns. That members of a conversation pass its test line together
-- and go back together is Randell's (1975); that an alternate which fails leaves no trace is from Horning, Lauer, Melliar-Smith, Randell
-- (1974).
use Rattle.std.specs.Prelude.{◌+◌, ℕ, List, length}
use Rattle.rb_world.specs.Kind.{Membership}
use Rattle.rb_world.specs.Turn.{Told, turn}
use Rattle.rb_world.specs.Together.{GoTogether, LeavesOutsiders}
use Rattle.rb_code.specs.Instructions.Plain.{Code}
use Rattle.rb_code.specs.SoundCode.WellFormed.{IsSound}
use Rattle.rb_code.specs.WordMachine.WordKind.{word_kind}
use Rattle.rb_code.specs.WordMachine.WordRun.{WordWorld, word_run}

-- each sound code keeps this, with its conversations
abbrev pub OfSoundCode : (Code → List Membership → Type 0) → Type 0
OfSoundCode P = (c : Code) (groups : List Membership) (counts : List ℕ) → IsSound c groups counts → P c groups

-- the world after these turns
abbrev pub world_after : Code → List Membership → List ℕ → WordWorld
world_after c groups turns = (word_run c groups turns).0

-- the turn of process p that comes after these turns
abbrev pub next_turn : Code → List Membership → List ℕ → ℕ → WordWorld × Told
next_turn c groups turns p = turn (word_kind c groups) (length turns + 1) p (world_after c groups turns)

-- A turn that is undone changes no other process than those inside the outermost conversation that it rejects; where it rejects
-- none, no other at all.
abbrev pub KeepsRejectionsInside : Code → List Membership → Type 0
KeepsRejectionsInside c groups = (turns : List ℕ) (p : ℕ) → LeavesOutsiders p (world_after c groups turns) (next_turn c groups turns p)

abbrev pub RejectionsStayInside : Type 0
RejectionsStayInside = OfSoundCode KeepsRejectionsInside

-- Members pass the test line together, and go back together: what is copied of who goes back is what was copied at its entry, its words,
-- its address, its calls and its last kept turn.
abbrev pub PassesTogether : Code → List Membership → Type 0
PassesTogether c groups = (turns : List ℕ) (d p : ℕ)
    → GoTogether (word_kind c groups) d p (world_after c groups turns) (next_turn c groups turns p).0 (next_turn c groups turns p).1.events

abbrev pub PassedTogether : Type 0
PassedTogether = OfSoundCode PassesTogether
