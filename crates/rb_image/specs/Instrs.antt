-- The bytes of an instruction.
use Rattle.std.specs.Prelude.{ℕ, List, [], ◌∷◌, ◌++◌}
use Rattle.rb_code.specs.declared.instr.Instr.{Instr}
use Rattle.rb_code.specs.declared.instr.Instr.TheVariants.{Turn, Push, Load, Prior, Bound, LoadAt, PriorAt, Store, StoreAt, Add, Sub, Mul, Div, Rem, Eq, Ne, Lt, Le, Gt, Ge, Neg, Not, Bool as ToBool, Jump, JumpZero, Frame, Drop, Text, Item, Print, Room, Put, There, Take, Call, Return, Fail, Enter, Start, Test, Done, Range, Again, Counter, Absent}
use Rattle.rb_image.specs.Pieces.{number, natural, spot}

-- an instruction's number
abbrev pub code : Instr → ℕ
code Turn = 0
code (Push n) = 1
code (Load v) = 2
code (Prior v) = 3
code (Bound n) = 4
code (LoadAt v) = 5
code (PriorAt v) = 6
code (Store v) = 7
code (StoreAt v) = 8
code Add = 9
code Sub = 10
code Mul = 11
code Div = 12
code Rem = 13
code Eq = 14
code Ne = 15
code Lt = 16
code Le = 17
code Gt = 18
code Ge = 19
code Neg = 20
code Not = 21
code ToBool = 22
code (Jump a) = 23
code (JumpZero a) = 24
code (Frame n) = 25
code (Drop n) = 26
code (Text k) = 27
code Item = 28
code Print = 29
code (Room c) = 30
code (Put c) = 31
code (There c) = 32
code (Take c) = 33
code (Call a p n) = 34
code Return = 35
code Fail = 36
code (Enter b) = 37
code (Start b) = 38
code (Test b) = 39
code Done = 40
code (Range k a) = 41
code (Again k a) = 42
code (Counter k) = 43
code (Absent c a) = 44

-- its operands, in their order
abbrev pub operands : Instr → List ℕ
operands (Push n) = number n
operands (Load v) = spot v
operands (Prior v) = spot v
operands (Bound n) = natural n
operands (LoadAt v) = spot v
operands (PriorAt v) = spot v
operands (Store v) = spot v
operands (StoreAt v) = spot v
operands (Jump a) = natural a
operands (JumpZero a) = natural a
operands (Frame n) = natural n
operands (Drop n) = natural n
operands (Text k) = natural k
operands (Room c) = natural c
operands (Put c) = natural c
operands (There c) = natural c
operands (Take c) = natural c
operands (Call a p n) = natural a ++ (natural p ++ natural n)
operands (Enter b) = natural b
operands (Start b) = natural b
operands (Test b) = natural b
operands (Range k a) = natural k ++ natural a
operands (Again k a) = natural k ++ natural a
operands (Counter k) = natural k
operands (Absent c a) = natural c ++ natural a
operands other = []

-- an instruction: its number as one byte, and its operands
abbrev pub instr : Instr → List ℕ
instr one = code one ∷ operands one
