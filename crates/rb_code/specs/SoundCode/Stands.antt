-- When a process stands in the table of sound code: between two turns with its open levels, while it settles, and within a turn.
use Rattle.std.specs.Prelude.{◌≡◌, ℕ, ◌+◌, ◌<◌, ◌≤◌, ℤ, pos, ◌-ℤ◌, List, [], ◌∷◌, length, map, reverse, slice_get, Option, Some, None}
use Rattle.rb_base.specs.declared.limits.TheConstants.{MOST_QUANTIFIED}
use Rattle.rb_meaning.specs.Environment.{natural}
use Rattle.rb_meaning.specs.Step.{most_calls}
use Rattle.rb_world.specs.Kind.{Facts, Membership, Want, NothingLeft, SendsOn, ReceivesOn, MayReceiveOn, Enters, Starts, Acts, Stepped, Trapped, Went, Held}
use Rattle.rb_world.specs.World.{Level, last_of, without_last}
use Rattle.rb_cache.specs.Copies.{Level as Touched, accepted}
use Rattle.rb_code.specs.Instructions.Plain.{Block, Code}
use Rattle.rb_code.specs.WordMachine.Workspace.{Counting, Workspace, OpenCall, base_of, body_place, part_of, place_among}
use Rattle.rb_code.specs.WordMachine.Act.{Sight, alternate_address, counter_at, here}
use Rattle.rb_code.specs.WordMachine.Turn.{Common, Copy, Standing, block_facts}
use Rattle.rb_code.specs.SoundCode.Sound.{Entry, HasTable, IsOfProcedure, IsSet, Loop, Mode, Fresh, MayPut, MayTake, Begun, Free, Changed, OpenBlock, Table, Within}
use Rattle.rb_code.specs.SoundCode.Safe.{IsThere}
use Rattle.rb_code.specs.SoundCode.WellFormed.{ListsChannels}
use Rattle.rb_code.specs.declared.instr.Instr.{Instr}
use Rattle.rb_code.specs.declared.instr.Instr.TheVariants.{Turn, There, Enter, Start, Done}

-- an operand is what is known of it
abbrev pub OperandFits : Option ℕ → ℤ → Type 0
OperandFits None x = Unit {0}
OperandFits (Some n) x = (k : ℕ) × (x ≡ pos k) × (k < n)

abbrev pub OperandsFit : List (Option ℕ) → List ℤ → Type 0
OperandsFit [] [] = Unit {0}
OperandsFit [] (x ∷ xs) = ⊥
OperandsFit (o ∷ os) [] = ⊥
OperandsFit (o ∷ os) (x ∷ xs) = OperandFits o x × OperandsFit os xs

-- of an open level what its block and its entry fix: the facts of the block, and the copy
pub record Opened : Type 0 where
  pub facts : Facts
  pub copy : Copy

abbrev pub opened : Level Copy → Opened
opened level = record { facts = level.facts; copy = level.copy }

-- the open levels from the innermost out
abbrev pub Levels : Type 0
Levels = List Opened

abbrev pub inside_out : List (Level Copy) → Levels
inside_out levels = reverse (map opened levels)

-- how many words there were at the entry of a level
abbrev pub height_of : Opened → ℕ
height_of level = length level.copy.words

-- the table has an `enter` of the block in this body
pub record EntersWithin (c : Code) (t : Table) (within : Within) (number : ℕ) : Type 0 where
  pub at : ℕ
  pub instr : slice_get c.instrs at ≡ Some (Enter number)
  pub entry : Entry
  pub there : t at ≡ Some entry
  pub within_is : entry.within ≡ within

-- A level is one of this open block, which was entered in this body. Its copy has so many words and these calls, and stands at the `turn`
-- before the `start` of the block, where the table knows the block and those around it.
pub record LevelFits (c : Code) (t : Table) (within : Within) (block : OpenBlock) (around : List OpenBlock) (words : ℕ)
    (calls : List OpenCall) (level : Opened) : Type 0 where
  pub one : Block
  pub is_block : slice_get c.blocks block.number ≡ Some one
  pub facts : level.facts ≡ block_facts block.number one
  pub words_are : height_of level ≡ words
  pub calls_are : level.copy.calls ≡ calls
  pub restart : slice_get c.instrs level.copy.at ≡ Some Turn
  pub entry : Entry
  pub there : t level.copy.at ≡ Some entry
  pub within_is : entry.within ≡ within
  pub above_base : entry.words ≡ block.words
  pub blocks_are : entry.blocks ≡ block ∷ around
  pub entered : EntersWithin c t within block.number

-- the open blocks of a body are the innermost levels, and the others are around these
abbrev pub LevelsFit : Code → Table → Within → ℕ → List OpenCall → List OpenBlock → Levels → (Levels → Type 0) → Type 0
LevelsFit c t within base calls [] levels Around = Around levels
LevelsFit c t within base calls (block ∷ around) [] Around = ⊥
LevelsFit c t within base calls (block ∷ around) (level ∷ levels) Around =
    LevelFits c t within block around (base + block.words) calls level × LevelsFit c t within base calls around levels Around

-- a call goes back to where nothing but words and blocks is open, and the mode is changed
abbrev pub ReturnsTo : Option Entry → (Entry → Type 0) → Type 0
ReturnsTo None P = ⊥
ReturnsTo (Some e) P = (e.operands ≡ []) × (e.pieces ≡ 0) × (e.loops ≡ []) × (e.mode ≡ Changed) × P e

-- The running call is in a body of the process with these open blocks, and so are those behind it, out to the main body. All levels
-- belong to one of them.
abbrev pub BodyFits : Code → Table → ℕ → List OpenCall → Within → List OpenBlock → Levels → Type 0
BodyFits c t p [] within blocks levels =
    (within ≡ record { process = p; procedure = None })
    × LevelsFit c t within (body_place (part_of c p)) [] blocks levels (λ others. others ≡ [])
BodyFits c t p (call ∷ calls) within blocks levels =
    (within.process ≡ p) × IsOfProcedure within.procedure
    × LevelsFit c t within call.base (call ∷ calls) blocks levels (λ others.
    ReturnsTo (t call.back) (λ e. (call.base ≡ base_of (part_of c p) calls + e.words) × BodyFits c t p calls e.within e.blocks others))

-- what the words, the calls and the levels of process p are at an entry
pub record IsLaidOut (c : Code) (t : Table) (p : ℕ) (levels : Levels) (e : Entry) (words : List ℤ) (calls : List OpenCall)
    (touched : List Touched) : Type 0 where
  pub words_are : length words ≡ base_of (part_of c p) calls + e.words
  pub calls_few : length calls ≤ most_calls
  pub body : BodyFits c t p calls e.within e.blocks levels
  pub heights : map (λ level. level.height) touched ≡ reverse (map height_of levels)

-- a counter is set, and still goes on fewer times than a quantified expression may
abbrev pub Counts : Option Counting → Type 0
Counts None = ⊥
Counts (Some counter) = natural (counter.end -ℤ counter.now) < MOST_QUANTIFIED

-- each of the loops began before an address
abbrev pub BeganBefore : ℕ → List Loop → Type 0
BeganBefore a [] = Unit {0}
BeganBefore a (loop ∷ around) = (loop.first < a) × BeganBefore a around

-- the counters of open loops count, each loop has its own, and an inner loop began after those around it
abbrev pub LoopsFit : Workspace → List Loop → Type 0
LoopsFit m [] = Unit {0}
LoopsFit m (loop ∷ around) =
    (loop.counter < 2) × Counts (counter_at loop.counter m) × (IsSet loop.counter around → ⊥) × BeganBefore loop.first around
    × LoopsFit m around

-- a channel is among these
abbrev pub IsAmong : ℕ → List ℕ → Type 0
IsAmong channel channels = place_among channel channels < length channels

module _ (c : Code) (see : Sight) where
  -- the instruction behind a `turn` gets what it asks for: it is no entry, a message is there, or the block has the alternate
  abbrev pub IsMet : Option Instr → Type 0
  IsMet (Some (There channel)) = IsThere see.message
  IsMet (Some (Start b)) = IsThere (alternate_address (slice_get c.blocks b) see.alternate)
  IsMet (Some (Enter b)) = ⊥
  IsMet _ = Unit {0}

  -- how far the turn has come, at an address
  abbrev pub ModeFits : ℕ → Mode → Type 0
  ModeFits a Fresh = IsMet (slice_get c.instrs a)
  ModeFits a (MayPut channel) = IsAmong channel (here c see).channels
  ModeFits a (MayTake channel) = IsAmong channel (here c see).channels × IsThere see.message
  ModeFits a Begun = Unit {0}
  ModeFits a Free = Unit {0}
  ModeFits a Changed = Unit {0}

-- within a turn a process stands at an address with an entry
pub record Fits (c : Code) (t : Table) (see : Sight) (levels : Levels) (a : ℕ) (e : Entry) (operands : List ℤ) (m : Workspace) : Type 0 where
  pub operands_fit : OperandsFit e.operands operands
  pub layout : IsLaidOut c t see.process levels e m.words m.calls m.touched
  pub pieces_are : length m.pieces ≡ e.pieces
  pub counters_two : length m.counters ≡ 2
  pub loops_fit : LoopsFit m e.loops
  pub mode_fits : ModeFits c see a e.mode

-- a process rests at a `turn`, and where it is done
abbrev pub RestsAt : Option Instr → Type 0
RestsAt (Some Turn) = Unit {0}
RestsAt (Some Done) = Unit {0}
RestsAt _ = ⊥

-- Between two turns a process stands in a table, with its open levels from the outermost in.
pub record Stands (c : Code) (t : Table) (s : Standing) (levels : List (Level Copy)) : Type 0 where
  pub exists : IsThere (slice_get c.processes s.process)
  pub rests : RestsAt (slice_get c.instrs s.at)
  pub entry : Entry
  pub there : t s.at ≡ Some entry
  pub layout : IsLaidOut c t s.process (inside_out levels) entry s.words s.calls s.touched

-- before the first turn, and once a level was accepted, it may stand at another instruction, and settles
pub record Settles (c : Code) (t : Table) (s : Standing) (levels : List (Level Copy)) : Type 0 where
  pub exists : IsThere (slice_get c.processes s.process)
  pub entry : Entry
  pub there : t s.at ≡ Some entry
  pub operands_none : entry.operands ≡ []
  pub pieces_none : entry.pieces ≡ 0
  pub loops_none : entry.loops ≡ []
  pub mode_is : entry.mode ≡ Changed
  pub layout : IsLaidOut c t s.process (inside_out levels) entry s.words s.calls s.touched

-- an alternate is one that the block of a level has
abbrev pub IsAlternate : ℕ → Option (Level Copy) → Type 0
IsAlternate alternate None = Unit {0}
IsAlternate alternate (Some level) = (1 ≤ alternate) × (alternate ≤ level.facts.alternates)

-- a step gets what the process wants: it is neither done nor enters, a message that it waits for is there, and the block of its
-- innermost level has the alternate that it starts
abbrev pub Serves : Want → ℕ → Option ℤ → List (Level Copy) → Type 0
Serves NothingLeft alternate message levels = ⊥
Serves (SendsOn channel) alternate message levels = Unit {0}
Serves (ReceivesOn channel) alternate message levels = IsThere message
Serves (MayReceiveOn channel) alternate message levels = Unit {0}
Serves (Enters facts) alternate message levels = ⊥
Serves Starts alternate message levels = IsAlternate alternate (last_of levels)
Serves Acts alternate message levels = Unit {0}

-- the same but for the alternate
abbrev pub ServedBut : Want → Option ℤ → Type 0
ServedBut NothingLeft message = ⊥
ServedBut (SendsOn channel) message = Unit {0}
ServedBut (ReceivesOn channel) message = IsThere message
ServedBut (MayReceiveOn channel) message = Unit {0}
ServedBut (Enters facts) message = ⊥
ServedBut Starts message = Unit {0}
ServedBut Acts message = Unit {0}

-- What a step comes to stands: where it went on, with the same levels; and where its acceptance test held it is only at another address,
-- and settles once its innermost level is accepted.
abbrev pub StandsAfter : Code → Table → Standing → List (Level Copy) → Stepped Standing Common → Type 0
StandsAfter c t s levels (Trapped cause) = Unit {0}
StandsAfter c t s levels (Went later memory) = Stands c t later levels
StandsAfter c t s levels (Held later) =
    (later ≡ record s { at = later.at }) × Settles c t (record later { touched = accepted later.touched }) (without_last levels)

-- There is a table of the code in which the process stands, or settles.
pub record StandsSoundly (c : Code) (groups : List Membership) (s : Standing) (levels : List (Level Copy)) : Type 0 where
  pub table : Table
  pub has : HasTable c groups table
  pub lists : ListsChannels c
  pub stands : Stands c table s levels

pub record SettlesSoundly (c : Code) (groups : List Membership) (s : Standing) (levels : List (Level Copy)) : Type 0 where
  pub table : Table
  pub has : HasTable c groups table
  pub lists : ListsChannels c
  pub settles : Settles c table s levels

-- the same of what a step comes to
abbrev pub StandsSoundlyAfter : Code → List Membership → Standing → List (Level Copy) → Stepped Standing Common → Type 0
StandsSoundlyAfter c groups s levels (Trapped cause) = Unit {0}
StandsSoundlyAfter c groups s levels (Went later memory) = StandsSoundly c groups later levels
StandsSoundlyAfter c groups s levels (Held later) =
    (later ≡ record s { at = later.at })
    × SettlesSoundly c groups (record later { touched = accepted later.touched }) (without_last levels)
