-- The plain code that a code in memory stands for, with lists in place of vectors. Code, its listing and the machines that execute it
-- are this project's own.
use Rattle.std.specs.Prelude.{ℕ, List, map, Option}
use Rattle.rb_base.specs.declared.edition.Edition.{Edition}
use Rattle.rb_world.specs.Kind.{Ends}
use Rattle.rb_world.specs.Text.{Naming}
use Rattle.rb_trace.specs.Naming.{naming}
use Rattle.rb_code.specs.declared.instr.Instr.{Instr}
use Rattle.rb_code.specs.declared.code.Code.{Code as Held}
use Rattle.rb_code.specs.declared.code.ProcessCode.{ProcessCode}
use Rattle.rb_code.specs.declared.code.ProcedureCode.{ProcedureCode}
use Rattle.rb_code.specs.declared.code.BlockCode.{BlockCode}
use Rattle.rb_code.specs.declared.code.ChannelCode.{ChannelCode}

-- a procedure: its name and its first address
pub record Procedure : Type 0 where
  pub name : List ℕ
  pub start : ℕ

-- a process: the address of its body, how many words its variables have, the channels of which it is an end, and its procedures
pub record Part : Type 0 where
  pub start : ℕ
  pub words : ℕ
  pub channels : List ℕ
  pub procedures : List Procedure

-- a recovery block: the line of its word `ensure`, its conversation, its turn bound, and where its parts stand: the `turn` before its
-- `start`, the `turn` before its acceptance test, and its alternates
pub record Block : Type 0 where
  pub line : ℕ
  pub conversation : Option ℕ
  pub bound : ℕ
  pub restart : ℕ
  pub test : ℕ
  pub alternates : List ℕ

-- the code of a program
pub record Code : Type 0 where
  pub edition : Edition
  pub instrs : List Instr
  pub processes : List Part
  pub blocks : List Block
  pub channels : List Ends
  pub texts : List (List ℕ)
  pub names : Naming

-- the plain part of each kind of entry in memory
abbrev pub procedure : ProcedureCode → Procedure
procedure one = record { name = one.name; start = one.start }

abbrev pub part : ProcessCode → Part
part one = record { start = one.start; words = one.words; channels = one.channels.items; procedures = map procedure one.procedures.items }

abbrev pub block : BlockCode → Block
block one = record {
  line = one.line;
  conversation = one.conversation;
  bound = one.bound;
  restart = one.restart;
  test = one.test;
  alternates = one.alternates.items;
}

abbrev pub channel : ChannelCode → Ends
channel one = record { sender = one.sender; receiver = one.receiver; size = one.size }

-- the plain code of a code in memory
abbrev pub code : Held → Code
code held = record {
  edition = held.edition;
  instrs = held.instrs.items;
  processes = map part held.processes.items;
  blocks = map block held.blocks.items;
  channels = map channel held.channels.items;
  texts = held.texts.items;
  names = naming held.names;
}
