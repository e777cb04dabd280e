-- Sound code: there is a table that says for each address that is reached what is known there, and each instruction keeps the rule of
-- its kind. These are facts of code alone; no tree is spoken of.
use Rattle.std.specs.Prelude.{◌≡◌, ◌⊎◌, ℕ, ◌+◌, ◌-◌, ◌<◌, ◌≤◌, ◌&&◌, nat_eq, nat_le, Bool, false, cond, List, [], ◌∷◌, drop, filter, length, slice_get, Option, Some, None}
use Rattle.rb_base.specs.declared.limits.TheConstants.{MOST_ITEMS, MOST_OPERANDS}
use Rattle.rb_world.specs.Kind.{Ends, Membership}
use Rattle.rb_world.specs.Reject.{parent_of}
use Rattle.rb_world.specs.Turn.{members_of}
use Rattle.rb_code.specs.Instructions.Plain.{Block, Code, Part, Procedure}
use Rattle.rb_code.specs.WordMachine.Workspace.{part_of}
use Rattle.rb_code.specs.declared.instr.Spot.{Spot}
use Rattle.rb_code.specs.declared.instr.Spot.TheVariants.{Global, Local}
use Rattle.rb_code.specs.declared.instr.Instr.{Instr}
use Rattle.rb_code.specs.declared.instr.Instr.TheVariants.{Turn, Push, Load, Prior, Bound, LoadAt, PriorAt, Store, StoreAt, Add, Sub, Mul, Div, Rem, Eq, Ne, Lt, Le, Gt, Ge, Neg, Not, Bool as ToBool, Jump, JumpZero, Frame, Drop, Text, Item, Print, Room, Put, There, Take, Call, Return, Fail, Enter, Start, Test, Done, Range, Again, Counter, Absent}

-- How far a turn has come: right behind its `turn`; behind a `room`, a `there` or an `absent` of a channel that found what it asks for;
-- behind the start of an alternate; behind other instructions that changed nothing; or behind one that changed something, after
-- which nothing may trap.
pub data Mode : Type 0 where
  Fresh : Mode
  MayPut : (channel : ℕ) → Mode
  MayTake : (channel : ℕ) → Mode
  Begun : Mode
  Free : Mode
  Changed : Mode

-- the body that an address is in: the main body of a process, or one procedure of it, which its first address tells
pub record Within : Type 0 where
  pub process : ℕ
  pub procedure : Option ℕ

abbrev pub IsMain : Within → Type 0
IsMain within = within.procedure ≡ None

abbrev pub IsOfProcedure : Option ℕ → Type 0
IsOfProcedure None = ⊥
IsOfProcedure (Some start) = Unit {0}

-- an open recovery block, with the words of the running call at its entry
pub record OpenBlock : Type 0 where
  pub number : ℕ
  pub words : ℕ

-- an open loop over a counter: from its first address to its `again`
pub record Loop : Type 0 where
  pub counter : ℕ
  pub first : ℕ
  pub last : ℕ

-- What is known at an address: the body; the operands, each plain or below some number, the top first; the words above the base of the
-- running call; the open blocks and the open loops, the innermost first; the pieces of the line; and the mode.
pub record Entry : Type 0 where
  pub within : Within
  pub operands : List (Option ℕ)
  pub words : ℕ
  pub blocks : List OpenBlock
  pub loops : List Loop
  pub pieces : ℕ
  pub mode : Mode

-- a table is a function, so that a clause can say that there is one
abbrev pub Table : Type 0
Table = ℕ → Option Entry

-- a plain operand is weaker than one that is below some number
abbrev pub WeakerOperand : Option ℕ → Option ℕ → Type 0
WeakerOperand o None = Unit {0}
WeakerOperand None (Some n) = ⊥
WeakerOperand (Some k) (Some n) = k ≡ n

abbrev pub WeakerOperands : List (Option ℕ) → List (Option ℕ) → Type 0
WeakerOperands [] [] = Unit {0}
WeakerOperands [] (o ∷ os) = ⊥
WeakerOperands (o ∷ os) [] = ⊥
WeakerOperands (o ∷ os) (p ∷ ps) = WeakerOperand o p × WeakerOperands os ps

-- changed is weaker than any mode
abbrev pub WeakerMode : Mode → Mode → Type 0
WeakerMode mode Changed = Unit {0}
WeakerMode mode other = mode ≡ other

-- the second entry says no more than the first
pub record IsWeaker (e g : Entry) : Type 0 where
  pub within : g.within ≡ e.within
  pub operands : WeakerOperands e.operands g.operands
  pub words : g.words ≡ e.words
  pub blocks : g.blocks ≡ e.blocks
  pub loops : g.loops ≡ e.loops
  pub pieces : g.pieces ≡ e.pieces
  pub mode : WeakerMode e.mode g.mode

-- an address is in a loop
abbrev pub is_in : ℕ → Loop → Bool
is_in a loop = nat_le loop.first a && nat_le a loop.last

-- the entry without the loops that are left at an address, whose counters go
abbrev pub at_address : ℕ → Entry → Entry
at_address a e = record e { loops = filter (is_in a) e.loops }

-- the table has this entry, or a weaker one
abbrev pub Has : Option Entry → Entry → Type 0
Has None e = ⊥
Has (Some g) e = IsWeaker e g

-- what leaves the memory as it is makes fresh into free
abbrev pub freed : Mode → Mode
freed Fresh = Free
freed mode = mode

-- the entry with other operands, behind an instruction that leaves the memory as it is
abbrev pub with_operands : List (Option ℕ) → Entry → Entry
with_operands operands e = record e { operands = operands; mode = freed e.mode }

-- the entry with other operands and words, behind one that changed something
abbrev pub changed : List (Option ℕ) → ℕ → Entry → Entry
changed operands words e = record e { operands = operands; words = words; mode = Changed }

-- a trap may come here
abbrev pub MayTrap : Mode → Type 0
MayTrap Begun = ⊥
MayTrap Changed = ⊥
MayTrap _ = Unit {0}

-- and the trap `stack` of a `frame`
abbrev pub MayFrame : Mode → Type 0
MayFrame Changed = ⊥
MayFrame _ = Unit {0}

-- n words from a place on are among those of the process, or of the running call
abbrev pub InRange : ℕ → ℕ → Spot → ℕ → Type 0
InRange globals words (Global k) n = k + n ≤ globals
InRange globals words (Local k) n = k + n ≤ words

-- the top operand, which is there, keeps this with the operands below it
abbrev pub TopIs : List (Option ℕ) → (Option ℕ → List (Option ℕ) → Type 0) → Type 0
TopIs [] P = ⊥
TopIs (o ∷ os) P = P o os

-- an operand is below some number, which keeps this
abbrev pub IsBelow : Option ℕ → (ℕ → Type 0) → Type 0
IsBelow None P = ⊥
IsBelow (Some n) P = P n

-- the innermost open block, which is there, keeps this with the blocks around it
abbrev pub InnermostIs : List OpenBlock → (OpenBlock → List OpenBlock → Type 0) → Type 0
InnermostIs [] P = ⊥
InnermostIs (block ∷ around) P = P block around

-- words never fall below those at the entry of the innermost open block
abbrev pub IsAbove : List OpenBlock → ℕ → Type 0
IsAbove [] words = Unit {0}
IsAbove (block ∷ around) words = block.words ≤ words

-- A loop is among these. That is what an `again` asks of its own: a loop that began inside it may be open there too, and is left on the
-- way back.
abbrev pub IsOpen : Loop → List Loop → Type 0
IsOpen loop [] = ⊥
IsOpen loop (inner ∷ around) = (inner ≡ loop) ⊎ IsOpen loop around

-- a counter is set, or it is not
abbrev pub IsSet : ℕ → List Loop → Type 0
IsSet k [] = ⊥
IsSet k (loop ∷ around) = (loop.counter ≡ k) ⊎ IsSet k around

-- whether an instruction is the way back of a loop over a counter to an address
abbrev pub goes_back : ℕ → ℕ → Instr → Bool
goes_back k first (Again j b) = nat_eq j k && nat_eq b first
goes_back k first _ = false

-- the first such instruction of these, which stand from address a on
abbrev pub first_from : ℕ → ℕ → ℕ → List Instr → Option ℕ
first_from k first a [] = None
first_from k first a (instr ∷ instrs) = cond (goes_back k first instr) (Some a) (first_from k first (a + 1) instrs)

-- The end of a loop over a counter is the first way back to its first address that stands there or behind it, whether it is reached or not.
abbrev pub end_of_loop : Code → ℕ → ℕ → Option ℕ
end_of_loop c k first = first_from k first first (drop first c.instrs)

-- a loop has an end, which keeps this
abbrev pub EndIs : Option ℕ → (ℕ → Type 0) → Type 0
EndIs None P = ⊥
EndIs (Some last) P = P last

-- each of these addresses keeps this
abbrev pub Each : List ℕ → (ℕ → Type 0) → Type 0
Each [] P = Unit {0}
Each (a ∷ others) P = P a × Each others P

-- the addresses of a block's alternates
abbrev pub alternates_at : Option Block → List ℕ
alternates_at None = []
alternates_at (Some block) = block.alternates

abbrev pub RestartIs : Option Block → ℕ → Type 0
RestartIs None a = ⊥
RestartIs (Some block) a = block.restart ≡ a

-- the procedure of a process at an address begins with its words and nothing else
abbrev pub BeginsAs : Option Entry → ℕ → ℕ → ℕ → Type 0
BeginsAs None process start words = ⊥
BeginsAs (Some g) process start words =
    g ≡ record {
      within = record { process = process; procedure = Some start };
      operands = [];
      words = words;
      blocks = [];
      loops = [];
      pieces = 0;
      mode = Changed;
    }

-- an address is the first one of a procedure of the process
abbrev pub IsProcedureAt : List Procedure → ℕ → Type 0
IsProcedureAt [] a = ⊥
IsProcedureAt (one ∷ others) a = (one.start ≡ a) ⊎ IsProcedureAt others a

-- a process is this end of a channel
abbrev pub IsSender : Option Ends → ℕ → Type 0
IsSender None p = ⊥
IsSender (Some ends) p = ends.sender ≡ p

abbrev pub IsReceiver : Option Ends → ℕ → Type 0
IsReceiver None p = ⊥
IsReceiver (Some ends) p = ends.receiver ≡ p

-- the conversation of a block, if it has one
abbrev pub conversation_of : Option Block → Option ℕ
conversation_of None = None
conversation_of (Some block) = block.conversation

-- a number is among these, as that of a process among members
abbrev pub IsMember : ℕ → List ℕ → Type 0
IsMember p [] = ⊥
IsMember p (m ∷ members) = (m ≡ p) ⊎ IsMember p members

module _ (c : Code) (groups : List Membership) (t : Table) where
  -- what lies around a block is its conversation's parent, or nothing where this has none
  abbrev pub LiesIn : Option ℕ → List OpenBlock → Type 0
  LiesIn None [] = Unit {0}
  LiesIn None (block ∷ around) = ⊥
  LiesIn (Some parent) [] = ⊥
  LiesIn (Some parent) (block ∷ around) = conversation_of (slice_get c.blocks block.number) ≡ Some parent

  -- a conversation's block stands in the main body of a member, right inside a block of its parent
  abbrev pub MayEnter : Option ℕ → Entry → Type 0
  MayEnter None e = Unit {0}
  MayEnter (Some d) e =
      IsMain e.within × IsMember e.within.process (members_of (slice_get groups d))
      × LiesIn (parent_of (slice_get groups d)) e.blocks

  -- the entry that an instruction leads to at an address
  abbrev pub LeadsTo : ℕ → Entry → Type 0
  LeadsTo a e = Has (t a) (at_address a e)

  -- a jump goes on, or to a `turn`
  abbrev pub IsAhead : ℕ → ℕ → Type 0
  IsAhead a b = (a < b) ⊎ (slice_get c.instrs b ≡ Some Turn)

  -- the words of the variables of the process
  abbrev pub globals : Entry → ℕ
  globals e = (part_of c e.within.process).words

  -- two operands become one, with a trap or without
  abbrev pub Takes2 : ℕ → Entry → Type 0
  Takes2 a e = TopIs e.operands (λ o os. TopIs os (λ p ps. LeadsTo (a + 1) (with_operands (None ∷ ps) e)))

  -- one operand more
  abbrev pub Pushes : ℕ → Entry → Type 0
  Pushes a e = (length e.operands < MOST_OPERANDS) × LeadsTo (a + 1) (with_operands (None ∷ e.operands) e)

  -- the rule of an instruction at its address, with the entry there
  abbrev pub Fine : Instr → ℕ → Entry → Type 0
  Fine Turn a e =
      (e.operands ≡ []) × (e.pieces ≡ 0) × (e.loops ≡ []) × LeadsTo (a + 1) (record e { mode = Fresh })
  Fine (Push n) a e = Pushes a e
  Fine (Load v) a e = InRange (globals e) e.words v 1 × Pushes a e
  Fine (Prior v) a e = InnermostIs e.blocks (λ block around. InRange (globals e) block.words v 1) × Pushes a e
  Fine (Bound n) a e = MayTrap e.mode × TopIs e.operands (λ o os. LeadsTo (a + 1) (with_operands (Some n ∷ os) e))
  Fine (LoadAt v) a e =
      TopIs e.operands (λ o os. IsBelow o (λ n. InRange (globals e) e.words v n) × LeadsTo (a + 1) (with_operands (None ∷ os) e))
  Fine (PriorAt v) a e =
      TopIs e.operands (λ o os. InnermostIs e.blocks (λ block around. IsBelow o (λ n. InRange (globals e) block.words v n))
      × LeadsTo (a + 1) (with_operands (None ∷ os) e))
  Fine (Store v) a e = TopIs e.operands (λ o os. InRange (globals e) e.words v 1 × LeadsTo (a + 1) (changed os e.words e))
  Fine (StoreAt v) a e =
      TopIs e.operands (λ o os. TopIs os (λ p ps. IsBelow p (λ n. InRange (globals e) e.words v n) × LeadsTo (a + 1) (changed ps e.words e)))
  Fine Add a e = MayTrap e.mode × Takes2 a e
  Fine Sub a e = MayTrap e.mode × Takes2 a e
  Fine Mul a e = MayTrap e.mode × Takes2 a e
  Fine Div a e = MayTrap e.mode × Takes2 a e
  Fine Rem a e = MayTrap e.mode × Takes2 a e
  Fine Eq a e = Takes2 a e
  Fine Ne a e = Takes2 a e
  Fine Lt a e = Takes2 a e
  Fine Le a e = Takes2 a e
  Fine Gt a e = Takes2 a e
  Fine Ge a e = Takes2 a e
  Fine Neg a e = MayTrap e.mode × TopIs e.operands (λ o os. LeadsTo (a + 1) (with_operands (None ∷ os) e))
  Fine Not a e = TopIs e.operands (λ o os. LeadsTo (a + 1) (with_operands (None ∷ os) e))
  Fine ToBool a e = TopIs e.operands (λ o os. LeadsTo (a + 1) (with_operands (None ∷ os) e))
  Fine (Jump b) a e = IsAhead a b × LeadsTo b (with_operands e.operands e)
  Fine (JumpZero b) a e =
      TopIs e.operands (λ o os. IsAhead a b × LeadsTo b (with_operands os e) × LeadsTo (a + 1) (with_operands os e))
  Fine (Frame n) a e = MayFrame e.mode × LeadsTo (a + 1) (changed e.operands (e.words + n) e)
  Fine (Drop n) a e = (n ≤ e.words) × IsAbove e.blocks (e.words - n) × LeadsTo (a + 1) (changed e.operands (e.words - n) e)
  Fine (Text k) a e =
      (k < length c.texts) × (e.pieces < MOST_ITEMS) × LeadsTo (a + 1) (record (with_operands e.operands e) { pieces = e.pieces + 1 })
  Fine Item a e =
      (e.pieces < MOST_ITEMS) × TopIs e.operands (λ o os. LeadsTo (a + 1) (record (with_operands os e) { pieces = e.pieces + 1 }))
  Fine Print a e = MayTrap e.mode × LeadsTo (a + 1) (record (changed e.operands e.words e) { pieces = 0 })
  Fine (Room channel) a e =
      (e.mode ≡ Fresh) × IsMain e.within × IsSender (slice_get c.channels channel) e.within.process
      × LeadsTo (a + 1) (record e { mode = MayPut channel })
  Fine (There channel) a e =
      (e.mode ≡ Fresh) × IsMain e.within × IsReceiver (slice_get c.channels channel) e.within.process
      × LeadsTo (a + 1) (record e { mode = MayTake channel })
  Fine (Absent channel b) a e =
      (e.mode ≡ Fresh) × IsMain e.within × IsReceiver (slice_get c.channels channel) e.within.process
      × IsAhead a b × LeadsTo b (record e { mode = Free }) × LeadsTo (a + 1) (record e { mode = MayTake channel })
  Fine (Put channel) a e = (e.mode ≡ MayPut channel) × TopIs e.operands (λ o os. LeadsTo (a + 1) (changed os e.words e))
  Fine (Take channel) a e =
      (e.mode ≡ MayTake channel) × (length e.operands < MOST_OPERANDS) × LeadsTo (a + 1) (changed (None ∷ e.operands) e.words e)
  Fine (Call b p n) a e =
      MayTrap e.mode × (length e.operands ≡ p) × (e.pieces ≡ 0) × (e.loops ≡ [])
      × IsProcedureAt (part_of c e.within.process).procedures b × BeginsAs (t b) e.within.process b (p + n)
      × LeadsTo (a + 1) (changed [] e.words e)
  Fine Return a e = IsOfProcedure e.within.procedure × (e.operands ≡ []) × (e.pieces ≡ 0) × (e.blocks ≡ [])
  Fine Fail a e = MayTrap e.mode × LeadsTo (a + 1) e
  Fine (Enter b) a e =
      (e.mode ≡ Fresh) × (e.operands ≡ []) × RestartIs (slice_get c.blocks b) (a + 1) × (slice_get c.instrs (a + 1) ≡ Some Turn)
      × MayEnter (conversation_of (slice_get c.blocks b)) e
      × LeadsTo (a + 1) (record (changed [] e.words e) { blocks = record { number = b; words = e.words } ∷ e.blocks })
  Fine (Start b) a e =
      (e.mode ≡ Fresh) × (e.operands ≡ [])
      × InnermostIs e.blocks (λ block around. (block.number ≡ b) × (block.words ≡ e.words))
      × Each (alternates_at (slice_get c.blocks b)) (λ x. LeadsTo x (record e { mode = Begun }))
  Fine (Test b) a e =
      MayTrap e.mode × (e.pieces ≡ 0) × (e.loops ≡ []) × TopIs e.operands (λ o os. (os ≡ [])
      × InnermostIs e.blocks (λ block around. (block.number ≡ b) × (block.words ≡ e.words)
      × LeadsTo (a + 1) (record (changed [] e.words e) { blocks = around })))
  Fine Done a e = IsMain e.within × (e.operands ≡ []) × (e.pieces ≡ 0) × (e.blocks ≡ [])
  Fine (Range k b) a e =
      MayTrap e.mode × (k < 2) × (IsSet k e.loops → ⊥) × TopIs e.operands (λ o os. TopIs os (λ p ps. IsAhead a b
      × LeadsTo b (with_operands ps e)
      × EndIs (end_of_loop c k (a + 1)) (λ last.
      LeadsTo (a + 1) (record (with_operands ps e) { loops = record { counter = k; first = a + 1; last = last } ∷ e.loops }))))
  Fine (Again k b) a e =
      (b ≤ a) × IsOpen (record { counter = k; first = b; last = a }) e.loops × LeadsTo b (with_operands e.operands e)
      × LeadsTo (a + 1) (with_operands e.operands e)
  Fine (Counter k) a e = IsSet k e.loops × Pushes a e

  abbrev pub FineAt : Option Instr → ℕ → Entry → Type 0
  FineAt None a e = ⊥
  FineAt (Some instr) a e = Fine instr a e

  -- the main body of a process begins with nothing
  abbrev pub MainBegins : ℕ → Part → Type 0
  MainBegins p part =
      t part.start ≡ Some (record {
        within = record { process = p; procedure = None };
        operands = [];
        words = 0;
        blocks = [];
        loops = [];
        pieces = 0;
        mode = Changed;
      })

  -- What is known at an address holds together: words are above those of open blocks, loops lie around it, and each instruction keeps
  -- its rule.
  pub record IsSoundAt (a : ℕ) (e : Entry) : Type 0 where
    pub fine : FineAt (slice_get c.instrs a) a e
    pub above : IsAbove e.blocks e.words
    pub around : filter (is_in a) e.loops ≡ e.loops

  -- The table of a sound code.
  pub record HasTable : Type 0 where
    pub mains : (p : ℕ) (part : Part) → slice_get c.processes p ≡ Some part → MainBegins p part
    pub each : (a : ℕ) (e : Entry) → t a ≡ Some e → IsSoundAt a e
