-- The kinds of instructions. All but the first are carried out by a function each.
use Rattle.rb_code.specs.declared.instr.Instr.{Instr}
use Rattle.rb_code.specs.declared.instr.Instr.TheVariants.{Mul, Div, Rem, Neg, Not, Bool, Frame, Drop, Call, Return, Text, Item, Print, Put, Take, Absent, Range, Again, Counter}

pub data InstructionKind : Type 0 where
  -- the most frequent, which `act` carries out itself
  Frequent : InstructionKind
  Numbers : InstructionKind
  -- words that are added on top of the others, or go
  Frames : InstructionKind
  Lines : InstructionKind
  Channels : InstructionKind
  Counters : InstructionKind

abbrev pub instruction_kind : Instr → InstructionKind
instruction_kind Mul = Numbers
instruction_kind Div = Numbers
instruction_kind Rem = Numbers
instruction_kind Neg = Numbers
instruction_kind Not = Numbers
instruction_kind Bool = Numbers
instruction_kind (Frame n) = Frames
instruction_kind (Drop n) = Frames
instruction_kind (Call a p n) = Frames
instruction_kind Return = Frames
instruction_kind (Text k) = Lines
instruction_kind Item = Lines
instruction_kind Print = Lines
instruction_kind (Put channel) = Channels
instruction_kind (Take channel) = Channels
instruction_kind (Absent channel a) = Channels
instruction_kind (Range k a) = Counters
instruction_kind (Again k a) = Counters
instruction_kind (Counter k) = Counters
instruction_kind _ = Frequent
