-- What an image can hold: each number lies in the range of its field's type, and each length is one that memory can have.
use Rattle.std.specs.Prelude.{◌≡◌, ℕ, ◌<◌, ◌^◌, List, length, Option, IfSome, FitsSigned}
use Rattle.std.specs.List.{AllByRecursion}
use Rattle.std.specs.Int.{w64}
use Rattle.rb_world.specs.Kind.{Ends, Membership}
use Rattle.rb_world.specs.Text.{Naming, ProcessNaming, VariableNaming}
use Rattle.rb_code.specs.Instructions.Plain.{Block, Code, Part, Procedure}
use Rattle.rb_code.specs.declared.instr.Spot.{Spot}
use Rattle.rb_code.specs.declared.instr.Spot.TheVariants.{Global, Local}
use Rattle.rb_code.specs.declared.instr.Instr.{Instr}
use Rattle.rb_code.specs.declared.instr.Instr.TheVariants.{Push, Load, Prior, Bound, LoadAt, PriorAt, Store, StoreAt, Jump, JumpZero, Frame, Drop, Text, Room, Put, There, Take, Call, Enter, Start, Test, Range, Again, Counter, Absent}

-- a number of 32 bits
abbrev pub IsNatural : ℕ → Type 0
IsNatural n = n < 2 ^ 32

abbrev pub IsOptional : Option ℕ → Type 0
IsOptional number = IfSome number IsNatural

-- a text, of a length that 64 bits count
abbrev pub IsText : List ℕ → Type 0
IsText bytes = length bytes < 2 ^ 64

-- a list of what fits, of a length that 64 bits count
abbrev pub Are : {X : Type 0} → (X → Type 0) → List X → Type 0
Are fits items = (length items < 2 ^ 64) × AllByRecursion fits items

-- the same, where each item has a number of 32 bits
abbrev pub AreFew : {X : Type 0} → (X → Type 0) → List X → Type 0
AreFew fits items = Are fits items × (length items < 2 ^ 32)

abbrev pub IsSpot : Spot → Type 0
IsSpot (Global k) = IsNatural k
IsSpot (Local k) = IsNatural k

-- the operands of an instruction lie in their ranges
abbrev pub IsInstr : Instr → Type 0
IsInstr (Push n) = FitsSigned w64 n
IsInstr (Load v) = IsSpot v
IsInstr (Prior v) = IsSpot v
IsInstr (Bound n) = IsNatural n
IsInstr (LoadAt v) = IsSpot v
IsInstr (PriorAt v) = IsSpot v
IsInstr (Store v) = IsSpot v
IsInstr (StoreAt v) = IsSpot v
IsInstr (Jump a) = IsNatural a
IsInstr (JumpZero a) = IsNatural a
IsInstr (Frame n) = IsNatural n
IsInstr (Drop n) = IsNatural n
IsInstr (Text k) = IsNatural k
IsInstr (Room c) = IsNatural c
IsInstr (Put c) = IsNatural c
IsInstr (There c) = IsNatural c
IsInstr (Take c) = IsNatural c
IsInstr (Call a p n) = IsNatural a × (IsNatural p × IsNatural n)
IsInstr (Enter b) = IsNatural b
IsInstr (Start b) = IsNatural b
IsInstr (Test b) = IsNatural b
IsInstr (Range k a) = IsNatural k × IsNatural a
IsInstr (Again k a) = IsNatural k × IsNatural a
IsInstr (Counter k) = IsNatural k
IsInstr (Absent c a) = IsNatural c × IsNatural a
IsInstr other = Unit {0}

pub record IsProcedure (one : Procedure) : Type 0 where
  pub name : IsText one.name
  pub start : IsNatural one.start

pub record IsProcess (one : Part) : Type 0 where
  pub start : IsNatural one.start
  pub words : IsNatural one.words
  pub channels : Are IsNatural one.channels
  pub procedures : Are IsProcedure one.procedures

pub record IsBlock (one : Block) : Type 0 where
  pub line : IsNatural one.line
  pub conversation : IsOptional one.conversation
  pub bound : IsNatural one.bound
  pub restart : IsNatural one.restart
  pub test : IsNatural one.test
  pub alternates : Are IsNatural one.alternates

pub record IsChannel (one : Ends) : Type 0 where
  pub sender : IsNatural one.sender
  pub receiver : IsNatural one.receiver
  pub size : IsNatural one.size

pub record IsVariable (one : VariableNaming) : Type 0 where
  pub name : IsText one.name
  pub at : IsNatural one.at
  pub size : IsOptional one.size

pub record AreProcessNames (one : ProcessNaming) : Type 0 where
  pub name : IsText one.name
  pub variables : Are IsVariable one.variables

pub record AreNames (names : Naming) : Type 0 where
  pub processes : AreFew AreProcessNames names.processes
  pub channels : AreFew IsText names.channels
  pub conversations : AreFew IsText names.conversations

pub record IsGroup (one : Membership) : Type 0 where
  pub members : Are IsNatural one.members
  pub parent : IsOptional one.parent

pub record IsCode (c : Code) : Type 0 where
  pub instrs : Are IsInstr c.instrs
  pub processes : Are IsProcess c.processes
  pub blocks : Are IsBlock c.blocks
  pub channels : Are IsChannel c.channels
  pub texts : Are IsText c.texts
  pub names : AreNames c.names

-- a code, conversations, and how many alternates each of these has
pub record InRanges (c : Code) (groups : List Membership) (counts : List ℕ) : Type 0 where
  pub lists : IsCode c
  pub as_many : length counts ≡ length groups
  pub few : length groups < 2 ^ 32
  pub conversations : AllByRecursion IsGroup groups
  pub alternates : AllByRecursion IsNatural counts
