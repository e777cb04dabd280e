-- What an instruction does with operands: it pushes one and takes none, takes some and pushes one, takes some and pushes none, enters a block,
-- or does none of these.
use Rattle.std.specs.Prelude.{◌≡◌}
use Rattle.rb_code.specs.declared.instr.Instr.{Instr}
use Rattle.rb_code.specs.declared.instr.Instr.TheVariants.{Push, Load, Prior, Take, Counter, Bound, LoadAt, PriorAt, Add, Sub, Mul, Div, Rem, Eq, Ne, Lt, Le, Gt, Ge, Neg, Not, Bool as ToBool, Store, StoreAt, JumpZero, Item, Put, Test, Range, Turn, Jump, Frame, Drop, Text, Print, Room, There, Absent, Call, Return, Done, Fail, Again, Start, Enter}
use Rattle.rb_flow.specs.declared.flow.Shape.{Shape}
use Rattle.rb_flow.specs.declared.flow.Shape.TheVariants.{Pushes, Operates, Takes, Enters, Moves}

-- the instructions of each shape
abbrev pub IsOfShape : Instr → Shape → Type 0
IsOfShape (Push n) Pushes = Unit {0}
IsOfShape (Load v) Pushes = Unit {0}
IsOfShape (Prior v) Pushes = Unit {0}
IsOfShape (Take channel) Pushes = Unit {0}
IsOfShape (Counter k) Pushes = Unit {0}
IsOfShape (Bound n) Operates = Unit {0}
IsOfShape (LoadAt v) Operates = Unit {0}
IsOfShape (PriorAt v) Operates = Unit {0}
IsOfShape Add Operates = Unit {0}
IsOfShape Sub Operates = Unit {0}
IsOfShape Mul Operates = Unit {0}
IsOfShape Div Operates = Unit {0}
IsOfShape Rem Operates = Unit {0}
IsOfShape Eq Operates = Unit {0}
IsOfShape Ne Operates = Unit {0}
IsOfShape Lt Operates = Unit {0}
IsOfShape Le Operates = Unit {0}
IsOfShape Gt Operates = Unit {0}
IsOfShape Ge Operates = Unit {0}
IsOfShape Neg Operates = Unit {0}
IsOfShape Not Operates = Unit {0}
IsOfShape ToBool Operates = Unit {0}
IsOfShape (Store v) Takes = Unit {0}
IsOfShape (StoreAt v) Takes = Unit {0}
IsOfShape (JumpZero b) Takes = Unit {0}
IsOfShape Item Takes = Unit {0}
IsOfShape (Put channel) Takes = Unit {0}
IsOfShape (Test b) Takes = Unit {0}
IsOfShape (Range k b) Takes = Unit {0}
IsOfShape (Enter b) (Enters d) = b ≡ d
IsOfShape Turn Moves = Unit {0}
IsOfShape (Jump b) Moves = Unit {0}
IsOfShape (Frame n) Moves = Unit {0}
IsOfShape (Drop n) Moves = Unit {0}
IsOfShape (Text k) Moves = Unit {0}
IsOfShape Print Moves = Unit {0}
IsOfShape (Room channel) Moves = Unit {0}
IsOfShape (There channel) Moves = Unit {0}
IsOfShape (Absent channel b) Moves = Unit {0}
IsOfShape (Call b p n) Moves = Unit {0}
IsOfShape Return Moves = Unit {0}
IsOfShape Done Moves = Unit {0}
IsOfShape Fail Moves = Unit {0}
IsOfShape (Again k b) Moves = Unit {0}
IsOfShape (Start b) Moves = Unit {0}
IsOfShape instr shape = ⊥
