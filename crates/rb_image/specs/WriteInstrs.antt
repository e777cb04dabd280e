-- Writing an instruction: its operands by their kind.
use Rattle.std.specs.Prelude.{ℕ, List, [], ◌++◌}
use Rattle.rb_code.specs.declared.instr.Instr.{Instr}
use Rattle.rb_code.specs.declared.instr.Instr.TheVariants.{Push, Load, Prior, Bound, LoadAt, PriorAt, Store, StoreAt, Jump, JumpZero, Frame, Drop, Text, Room, Put, There, Take, Call, Enter, Start, Test, Range, Again, Counter, Absent}
use Rattle.rb_image.specs.declared.write.instr.Operands.{Operands}
use Rattle.rb_image.specs.declared.write.instr.Operands.TheVariants.{Nothing, Integer, Word, One, Two, Three}
use Rattle.rb_image.specs.Pieces.{natural, number, spot}

abbrev pub operands_in : Instr → Operands
operands_in (Push n) = Integer n
operands_in (Load v) = Word v
operands_in (Prior v) = Word v
operands_in (Bound m) = One m
operands_in (LoadAt v) = Word v
operands_in (PriorAt v) = Word v
operands_in (Store v) = Word v
operands_in (StoreAt v) = Word v
operands_in (Jump m) = One m
operands_in (JumpZero m) = One m
operands_in (Frame m) = One m
operands_in (Drop m) = One m
operands_in (Text m) = One m
operands_in (Room m) = One m
operands_in (Put m) = One m
operands_in (There m) = One m
operands_in (Take m) = One m
operands_in (Call a p n) = Three a p n
operands_in (Enter m) = One m
operands_in (Start m) = One m
operands_in (Test m) = One m
operands_in (Range m n) = Two m n
operands_in (Again m n) = Two m n
operands_in (Counter m) = One m
operands_in (Absent m n) = Two m n
operands_in other = Nothing

-- the bytes of operands
abbrev pub bytes_in : Operands → List ℕ
bytes_in Nothing = []
bytes_in (Integer n) = number n
bytes_in (Word v) = spot v
bytes_in (One n) = natural n
bytes_in (Two m n) = natural m ++ natural n
bytes_in (Three a p n) = natural a ++ (natural p ++ natural n)
