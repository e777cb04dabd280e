-- Sound code: what its lists and its conversations are, and that there is a table for its instructions.
use Rattle.std.specs.Prelude.{◌≡◌, ℕ, zero, suc, ◌+◌, ◌<◌, ◌≤◌, nat_eq, Bool, false, List, ◌++◌, length, map, slice_get, Option, Some, None}
use Rattle.std.specs.List.{All, IsDistinct, count_by}
use Rattle.rb_base.specs.Limits.{most_processes, most_words}
use Rattle.rb_base.specs.declared.edition.Edition.{Edition}
use Rattle.rb_base.specs.declared.limits.TheConstants.{MOST_CHANNEL_SIZE, MOST_CONNECTIONS, MOST_ELEMENTS, MOST_NESTED, MOST_TURNS}
use Rattle.rb_meaning.specs.Environment.{same_name}
use Rattle.rb_world.specs.Kind.{Ends, Membership}
use Rattle.rb_world.specs.Reject.{parent_of}
use Rattle.rb_world.specs.Text.{Naming, ProcessNaming, VariableNaming}
use Rattle.rb_scope.specs.Spelled.{IsNaming, IsQuotable}
use Rattle.rb_code.specs.Instructions.Plain.{Block, Code, Part, Procedure}
use Rattle.rb_code.specs.SoundCode.Reached.{Reached}
use Rattle.rb_code.specs.SoundCode.Sound.{Entry, HasTable, IsMember, IsOpen, Table, end_of_loop}
use Rattle.rb_code.specs.Agreement.StandsFor.{channels_from}
use Rattle.rb_code.specs.declared.instr.Instr.{Instr}
use Rattle.rb_code.specs.declared.instr.Instr.TheVariants.{Text, Jump, JumpZero, Room, Put, There, Take, Call, Enter, Start, Test, Range, Again, Counter, Absent}

-- the list of channels of each process has exactly those of which it is an end, in order
abbrev pub ListsChannels : Code → Type 0
ListsChannels c = (p : ℕ) (part : Part) → slice_get c.processes p ≡ Some part → part.channels ≡ channels_from p 0 c.channels

-- a number from 1 to a greatest
abbrev pub IsWithin : ℕ → ℕ → Type 0
IsWithin most n = (1 ≤ n) × (n ≤ most)

-- what is printed of a process: names, and no array with too many elements
pub record NamesVariable (edition : Edition) (variable : VariableNaming) : Type 0 where
  pub name : IsNaming edition variable.name
  pub size : (n : ℕ) → variable.size ≡ Some n → n ≤ MOST_ELEMENTS

pub record NamesProcess (edition : Edition) (process : ProcessNaming) : Type 0 where
  pub name : IsNaming edition process.name
  pub variables : All (NamesVariable edition) process.variables

-- the names that a source declares outside its processes' bodies: those of processes, of channels and of conversations
abbrev pub outer_names : Naming → List (List ℕ)
outer_names names = map (λ process. process.name) names.processes ++ names.channels ++ names.conversations

-- Names: one for each process, channel and conversation, and no two of these alike.
pub record IsNamed (c : Code) (groups : List Membership) : Type 0 where
  pub processes_each : length c.names.processes ≡ length c.processes
  pub channels_each : length c.names.channels ≡ length c.channels
  pub conversations_each : length c.names.conversations ≡ length groups
  pub processes : All (NamesProcess c.edition) c.names.processes
  pub channels : All (IsNaming c.edition) c.names.channels
  pub conversations : All (IsNaming c.edition) c.names.conversations
  pub procedures : All (λ (part : Part). All (λ (one : Procedure). IsNaming c.edition one.name) part.procedures) c.processes
  pub differ : IsDistinct same_name (outer_names c.names)

-- a channel: its ends are two processes, and its size lies within its limit
pub record JoinsTwo (c : Code) (ends : Ends) : Type 0 where
  pub sender : ends.sender < length c.processes
  pub receiver : ends.receiver < length c.processes
  pub differ : nat_eq ends.sender ends.receiver ≡ false
  pub size : IsWithin MOST_CHANNEL_SIZE ends.size

-- a process: its words are not too many, and its addresses are those of instructions
pub record IsPart (c : Code) (part : Part) : Type 0 where
  pub words : part.words ≤ most_words c.edition
  pub start : part.start < length c.instrs
  pub procedures : All (λ (one : Procedure). one.start < length c.instrs) part.procedures

-- a recovery block: its bound lies within its limit, it has an alternate, and it names a conversation and instructions that are there
pub record IsBlock (c : Code) (groups : List Membership) (block : Block) : Type 0 where
  pub bound : IsWithin MOST_TURNS block.bound
  pub some : 1 ≤ length block.alternates
  pub conversation : (d : ℕ) → block.conversation ≡ Some d → d < length groups
  pub restart : block.restart < length c.instrs
  pub test : block.test < length c.instrs
  pub alternates : All (λ (a : ℕ). a < length c.instrs) block.alternates

-- the numbers of an instruction name what is there
abbrev pub Names : Code → Instr → Type 0
Names c (Jump a) = a < length c.instrs
Names c (JumpZero a) = a < length c.instrs
Names c (Text k) = k < length c.texts
Names c (Room channel) = channel < length c.channels
Names c (Put channel) = channel < length c.channels
Names c (There channel) = channel < length c.channels
Names c (Take channel) = channel < length c.channels
Names c (Absent channel a) = (channel < length c.channels) × (a < length c.instrs)
Names c (Call a p n) = a < length c.instrs
Names c (Enter b) = b < length c.blocks
Names c (Start b) = b < length c.blocks
Names c (Test b) = b < length c.blocks
Names c (Range k a) = (k < 2) × (a < length c.instrs)
Names c (Again k a) = (k < 2) × (a < length c.instrs)
Names c (Counter k) = k < 2
Names c _ = Unit {0}

-- the entry of a block, its start and its test
abbrev pub is_entry : ℕ → Instr → Bool
is_entry b (Enter d) = nat_eq d b
is_entry b _ = false

abbrev pub is_start : ℕ → Instr → Bool
is_start b (Start d) = nat_eq d b
is_start b _ = false

abbrev pub is_test : ℕ → Instr → Bool
is_test b (Test d) = nat_eq d b
is_test b _ = false

-- each block has one of each, over all instructions
abbrev pub HasOneEach : Code → Type 0
HasOneEach c = (b : ℕ) → b < length c.blocks
    → (count_by (is_entry b) c.instrs ≡ 1) × (count_by (is_start b) c.instrs ≡ 1) × (count_by (is_test b) c.instrs ≡ 1)

-- a chain of conversations, each the parent of the one before, has at most n of them
abbrev pub IsChain : List Membership → ℕ → Option ℕ → Type 0
IsChain groups n None = Unit {0}
IsChain groups zero (Some d) = ⊥
IsChain groups (suc n) (Some d) = IsChain groups n (parent_of (slice_get groups d))

-- a conversation: two or more members, all different, and each a member of its parent
pub record IsGroup (c : Code) (groups : List Membership) (group : Membership) : Type 0 where
  pub two : 2 ≤ length group.members
  pub differ : IsDistinct nat_eq group.members
  pub processes : All (λ (m : ℕ). m < length c.processes) group.members
  pub parent : (d : ℕ) → group.parent ≡ Some d
      → (around : Membership) × (slice_get groups d ≡ Some around) × All (λ (m : ℕ). IsMember m around.members) group.members

-- The lists of a code, and conversations, are well formed.
pub record IsWellFormed (c : Code) (groups : List Membership) : Type 0 where
  pub few_processes : length c.processes ≤ most_processes c.edition
  pub few_channels : length c.channels ≤ MOST_CONNECTIONS
  pub few_conversations : length groups ≤ MOST_CONNECTIONS
  pub named : IsNamed c groups
  pub texts : All IsQuotable c.texts
  pub processes : All (IsPart c) c.processes
  pub channels : All (JoinsTwo c) c.channels
  pub lists : ListsChannels c
  pub blocks : All (IsBlock c groups) c.blocks
  pub instrs : All (Names c) c.instrs
  pub one_each : HasOneEach c
  pub conversations : All (IsGroup c groups) groups
  pub chains : (d : ℕ) → d < length groups → IsChain groups MOST_NESTED (Some d)

-- block number b is one of conversation d, and process m enters it
abbrev pub Joins : Code → Table → ℕ → ℕ → ℕ → Type 0
Joins c t d m b =
    (one : Block) × (a : ℕ) × (e : Entry) × (slice_get c.blocks b ≡ Some one) × (one.conversation ≡ Some d)
    × (slice_get c.instrs a ≡ Some (Enter b)) × (t a ≡ Some e) × (e.within.process ≡ m)

-- each member of a conversation has exactly one block of it, with the conversation's number of alternates
abbrev pub JoinsOnce : Code → List Membership → List ℕ → Table → Type 0
JoinsOnce c groups counts t = (d m : ℕ) (group : Membership) → slice_get groups d ≡ Some group → IsMember m group.members
    → (b : ℕ) × (joins : Joins c t d m b) × (slice_get counts d ≡ Some (length joins.0.alternates))
    × ((other : ℕ) → Joins c t d m other → other ≡ b)

-- Behind each `range` its loop is open at every address of the table, from its first one to its end.
abbrev pub LoopsStayOpen : Code → Table → Type 0
LoopsStayOpen c t = (a k b last x : ℕ) (e g : Entry) → slice_get c.instrs a ≡ Some (Range k b) → t a ≡ Some e
    → end_of_loop c k (a + 1) ≡ Some last → a < x → x ≤ last → t x ≡ Some g
    → IsOpen (record { counter = k; first = a + 1; last = last }) g.loops

-- Sound code, with its conversations and how many alternates each of these has: it is well formed, and there is a table with one entry for
-- each address that is reached, in which loops stay open and each member joins its conversations once.
pub record IsSound (c : Code) (groups : List Membership) (counts : List ℕ) : Type 0 where
  pub well : IsWellFormed c groups
  pub as_many : length counts ≡ length groups
  pub table : Table
  pub has : HasTable c groups table
  pub reached : (a : ℕ) (e : Entry) → table a ≡ Some e → Reached c a
  pub loops : LoopsStayOpen c table
  pub joins : JoinsOnce c groups counts table
