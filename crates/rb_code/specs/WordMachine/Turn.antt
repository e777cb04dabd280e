-- One step of a process of the word machine: all from the `turn` at which it stands up to the next one.
use Rattle.std.specs.Prelude.{ℕ, ◌+◌, ◌*◌, ℤ, nat_eq, cond, List, [], ◌∷◌, ◌++◌, length, slice_get, Option, Some, None}
use Rattle.rb_base.specs.declared.event.Cause.TheVariants.{Fail as FailCause}
use Rattle.rb_base.specs.declared.limits.TheConstants.{MOST_QUANTIFIED}
use Rattle.rb_meaning.specs.Step.{most_calls}
use Rattle.rb_world.specs.Kind.{Facts, Want, NothingLeft, SendsOn, ReceivesOn, MayReceiveOn, Enters, Starts, Acts, Stepped, Trapped, Went, Held}
use Rattle.rb_world.specs.Slots.{Slots}
use Rattle.rb_cache.specs.Copies.{Level as Touched}
use Rattle.rb_code.specs.Instructions.Plain.{Block, Code}
use Rattle.rb_code.specs.WordMachine.Workspace.{Workspace, OpenCall, no_counters}
use Rattle.rb_code.specs.WordMachine.Act.{Accepts as TestHeld, Going, Outcome, Sight, Stopped, Trapped as Trap, Unfinished, execute}
use Rattle.rb_code.specs.declared.instr.Instr.{Instr}
use Rattle.rb_code.specs.declared.instr.Instr.TheVariants as instr

-- A process between two turns: which one it is; the address at which it goes on; its words and its open calls; its last kept turn; its
-- held lines; and of each open level how many words there were at its entry and which of them were touched.
pub record Standing : Type 0 where
  pub process : ℕ
  pub at : ℕ
  pub words : List ℤ
  pub calls : List OpenCall
  pub last_kept : ℕ
  pub held : List (List ℕ)
  pub touched : List Touched

-- what an entry copies of it: all its words, its address, its calls and its last kept turn
pub record Copy : Type 0 where
  pub at : ℕ
  pub words : List ℤ
  pub calls : List OpenCall
  pub last_kept : ℕ

-- a turn that was kept: its number, its process, the alternate that it started or 0, and the last kept turn of its process before it
pub record Link : Type 0 where
  pub turn : ℕ
  pub process : ℕ
  pub alternate : ℕ
  pub before : ℕ

-- What no copy holds: the slots of all channels, and the links of all turns that were kept, the newest first.
pub record Common : Type 0 where
  pub slots : Slots
  pub links : List Link

-- what instructions work on as a turn begins
abbrev pub memory_of : Standing → Slots → Workspace
memory_of s slots = record {
  words = s.words;
  calls = s.calls;
  held = s.held;
  touched = s.touched;
  slots = slots;
  pieces = [];
  counters = no_counters;
}

-- the process once instructions have come to an address with this memory
abbrev pub standing_at : ℕ → Workspace → Standing → Standing
standing_at at m s = record s { at = at; words = m.words; calls = m.calls; held = m.held; touched = m.touched }

-- Where a turn stands in a body is told by five numbers: where its outer loop began and how often that still goes back, the same of its
-- inner loop, and its address.
abbrev pub most_places : ℕ → ℕ
most_places n = n * (MOST_QUANTIFIED * (n * (MOST_QUANTIFIED * n)))

-- More instructions than a turn of sound code has: it is in no place twice, in the body where it began, in a procedure that it calls, and
-- in those that it returns to.
abbrev pub most_steps : Code → ℕ
most_steps c = (most_calls + 4) * most_places (length c.instrs + 1)

-- the words of a copy, which `prior` reads; without one there are none
abbrev pub prior_words : Option Copy → List ℤ
prior_words None = []
prior_words (Some copy) = copy.words

-- what a step sees
abbrev pub sight : Standing → ℕ → Option Copy → Option ℤ → Sight
sight s alternate copy message = record { process = s.process; prior = prior_words copy; message = message; alternate = alternate }

-- a step by what its instructions came to
abbrev pub came_to : Standing → Common → Outcome → Stepped Standing Common
came_to s memory (Stopped at m) = Went (standing_at at m s) (record memory { slots = m.slots })
came_to s memory (TestHeld at m) = Held (standing_at at m s)
came_to s memory (Trap cause) = Trapped cause
came_to s memory (Going at operands m) = Trapped FailCause
came_to s memory Unfinished = Trapped FailCause

-- one step: the instructions behind the `turn` at which the process stands
abbrev pub step : Code → ℕ → Option Copy → Standing → Option ℤ → Common → Stepped Standing Common
step c alternate copy s message memory =
    came_to s memory (execute c (sight s alternate copy message) (most_steps c) (s.at + 1) [] (memory_of s memory.slots))

-- the process once it stands at the next `turn`, or is done
abbrev pub settled_by : Standing → Outcome → Standing
settled_by s (Stopped at m) = standing_at at m s
settled_by s (TestHeld at m) = s
settled_by s (Trap cause) = s
settled_by s (Going at operands m) = s
settled_by s Unfinished = s

-- What stands between two turns, as a jump, the end of a block or of a call, costs none.
abbrev pub settle : Code → Option Copy → Standing → Standing
settle c copy s = settled_by s (execute c (sight s 0 copy None) (most_steps c) s.at [] (memory_of s []))

-- what is known of a recovery block at its entry
abbrev pub block_facts : ℕ → Block → Facts
block_facts b block = record {
  number = b;
  line = block.line;
  conversation = block.conversation;
  bound = block.bound;
  alternates = length block.alternates;
}

-- an entry, unless the code has no such block
abbrev pub enters : ℕ → Option Block → Want
enters b None = Acts
enters b (Some block) = Enters (block_facts b block)

-- what the instruction behind a `turn` asks of it
abbrev pub wants_by : Code → Instr → Want
wants_by c (instr.Room channel) = SendsOn channel
wants_by c (instr.There channel) = ReceivesOn channel
wants_by c (instr.Absent channel a) = MayReceiveOn channel
wants_by c (instr.Enter b) = enters b (slice_get c.blocks b)
wants_by c (instr.Start b) = Starts
wants_by c _ = Acts

abbrev pub wants_behind : Code → Option Instr → Want
wants_behind c None = Acts
wants_behind c (Some one) = wants_by c one

-- the same of the instruction at which the process stands, and the one behind it
abbrev pub wants_at : Code → Instr → Option Instr → Want
wants_at c instr.Done next = NothingLeft
wants_at c _ next = wants_behind c next

abbrev pub wants_there : Code → Option Instr → Option Instr → Want
wants_there c None next = Acts
wants_there c (Some one) next = wants_at c one next

abbrev pub want : Code → Standing → Want
want c s = wants_there c (slice_get c.instrs s.at) (slice_get c.instrs (s.at + 1))

-- the kept turns of a process, each with its alternate: those that the links reach from its last kept turn
abbrev pub kept_from : List Link → ℕ → List (ℕ × ℕ)
kept_from [] last = []
kept_from (link ∷ links) last =
    cond (nat_eq link.turn last) (kept_from links link.before ++ (link.turn, link.alternate) ∷ []) (kept_from links last)
