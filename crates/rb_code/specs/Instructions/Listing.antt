-- How a code is listed: the line `process p` before the body of each process, `procedure f` before each of its procedures, a line an
-- instruction with its address, and in the end a line a recovery block.
use Rattle.std.specs.Prelude.{ℕ, ◌+◌, nat_eq, cond, List, [], ◌∷◌, ◌++◌, map, codes, decimal, slice_get, Option, Some, None}
use Rattle.std.specs.Option.{unwrap_or}
use Rattle.std.specs.Fmt.{signed_decimal}
use Rattle.rb_world.specs.Text.{Naming, conversation_word, line_of, process_word}
use Rattle.rb_code.specs.Instructions.Plain.{Block, Code, Part, Procedure}
use Rattle.rb_code.specs.declared.instr.Spot.{Spot}
use Rattle.rb_code.specs.declared.instr.Spot.TheVariants.{Global, Local}
use Rattle.rb_code.specs.declared.instr.Instr.{Instr}
use Rattle.rb_code.specs.declared.instr.Instr.TheVariants.{Turn, Push, Load, Prior, Bound, LoadAt, PriorAt, Store, StoreAt, Add, Sub, Mul, Div, Rem, Eq, Ne, Lt, Le, Gt, Ge, Neg, Not, Bool as ToBool, Jump, JumpZero, Frame, Drop, Text, Item, Print, Room, Put, There, Take, Call, Return, Fail, Enter, Start, Test, Done, Range, Again, Counter, Absent}

-- a word of the process's variables, `g k`, or one above the base of the running call, `l k`
abbrev pub spot_words : Spot → List (List ℕ)
spot_words (Global k) = codes "g" ∷ decimal k ∷ []
spot_words (Local k) = codes "l" ∷ decimal k ∷ []

-- a text in its quotes
abbrev pub quoted : List ℕ → List ℕ
quoted text = 34 ∷ (text ++ 34 ∷ [])

-- the words of an instruction, given the texts
abbrev pub instr_words : List (List ℕ) → Instr → List (List ℕ)
instr_words texts Turn = codes "turn" ∷ []
instr_words texts (Push n) = codes "push" ∷ signed_decimal n ∷ []
instr_words texts (Load v) = codes "load" ∷ spot_words v
instr_words texts (Prior v) = codes "prior" ∷ spot_words v
instr_words texts (Bound n) = codes "bound" ∷ decimal n ∷ []
instr_words texts (LoadAt v) = codes "loadat" ∷ spot_words v
instr_words texts (PriorAt v) = codes "priorat" ∷ spot_words v
instr_words texts (Store v) = codes "store" ∷ spot_words v
instr_words texts (StoreAt v) = codes "storeat" ∷ spot_words v
instr_words texts Add = codes "add" ∷ []
instr_words texts Sub = codes "sub" ∷ []
instr_words texts Mul = codes "mul" ∷ []
instr_words texts Div = codes "div" ∷ []
instr_words texts Rem = codes "rem" ∷ []
instr_words texts Eq = codes "eq" ∷ []
instr_words texts Ne = codes "ne" ∷ []
instr_words texts Lt = codes "lt" ∷ []
instr_words texts Le = codes "le" ∷ []
instr_words texts Gt = codes "gt" ∷ []
instr_words texts Ge = codes "ge" ∷ []
instr_words texts Neg = codes "neg" ∷ []
instr_words texts Not = codes "not" ∷ []
instr_words texts ToBool = codes "bool" ∷ []
instr_words texts (Jump a) = codes "jump" ∷ decimal a ∷ []
instr_words texts (JumpZero a) = codes "jumpzero" ∷ decimal a ∷ []
instr_words texts (Frame n) = codes "frame" ∷ decimal n ∷ []
instr_words texts (Drop n) = codes "drop" ∷ decimal n ∷ []
instr_words texts (Text k) = codes "text" ∷ quoted (unwrap_or (slice_get texts k) []) ∷ []
instr_words texts Item = codes "item" ∷ []
instr_words texts Print = codes "print" ∷ []
instr_words texts (Room c) = codes "room" ∷ decimal c ∷ []
instr_words texts (Put c) = codes "put" ∷ decimal c ∷ []
instr_words texts (There c) = codes "there" ∷ decimal c ∷ []
instr_words texts (Take c) = codes "take" ∷ decimal c ∷ []
instr_words texts (Call a p n) = codes "call" ∷ decimal a ∷ decimal p ∷ decimal n ∷ []
instr_words texts Return = codes "return" ∷ []
instr_words texts Fail = codes "fail" ∷ []
instr_words texts (Enter b) = codes "enter" ∷ decimal b ∷ []
instr_words texts (Start b) = codes "start" ∷ decimal b ∷ []
instr_words texts (Test b) = codes "test" ∷ decimal b ∷ []
instr_words texts Done = codes "done" ∷ []
instr_words texts (Range k a) = codes "range" ∷ decimal k ∷ decimal a ∷ []
instr_words texts (Again k a) = codes "again" ∷ decimal k ∷ decimal a ∷ []
instr_words texts (Counter k) = codes "counter" ∷ decimal k ∷ []
instr_words texts (Absent c a) = codes "absent" ∷ decimal c ∷ decimal a ∷ []

-- the line of the instruction at an address
abbrev pub instr_line : List (List ℕ) → ℕ → Instr → List ℕ
instr_line texts a instr = line_of (decimal a ∷ instr_words texts instr)

-- a line that stands before an address: of a process before its body, or of a procedure
pub record Head : Type 0 where
  pub at : ℕ
  pub words : List (List ℕ)

abbrev pub procedure_head : Procedure → Head
procedure_head one = record { at = one.start; words = codes "procedure" ∷ one.name ∷ [] }

-- the heads of the processes from number p on, in the order in which a code has their bodies and procedures
abbrev pub heads_from : Naming → ℕ → List Part → List Head
heads_from names p [] = []
heads_from names p (one ∷ others) =
    record { at = one.start; words = codes "process" ∷ process_word names p ∷ [] }
    ∷ map procedure_head one.procedures ++ heads_from names (p + 1) others

-- the lines of the next heads that stand before an address, and the heads after them
abbrev pub lines_at : ℕ → List Head → List ℕ
lines_at a [] = []
lines_at a (head ∷ heads) = cond (nat_eq head.at a) (line_of head.words ++ lines_at a heads) []

abbrev pub heads_past : ℕ → List Head → List Head
heads_past a [] = []
heads_past a (head ∷ heads) = cond (nat_eq head.at a) (heads_past a heads) (head ∷ heads)

-- the lines of the instructions from an address on, each behind the heads that stand before it
abbrev pub instr_lines : List (List ℕ) → ℕ → List Head → List Instr → List ℕ
instr_lines texts a heads [] = []
instr_lines texts a heads (instr ∷ instrs) =
    lines_at a heads ++ (instr_line texts a instr ++ instr_lines texts (a + 1) (heads_past a heads) instrs)

-- `ensure`, or `converse` with the conversation's name
abbrev pub block_kind : Naming → Option ℕ → List (List ℕ)
block_kind names None = codes "ensure" ∷ []
block_kind names (Some c) = codes "converse" ∷ conversation_word names c ∷ []

-- the line of recovery block number b
abbrev pub block_line : Naming → ℕ → Block → List ℕ
block_line names b one =
    line_of (codes "block" ∷ decimal b ∷ codes "line" ∷ decimal one.line ∷ []
    ++ (block_kind names one.conversation
    ++ (codes "within" ∷ decimal one.bound ∷ codes "restart" ∷ decimal one.restart ∷ codes "test" ∷ decimal one.test ∷ codes "alternates"
    ∷ map decimal one.alternates)))

-- the lines of the recovery blocks from number b on
abbrev pub block_lines : Naming → ℕ → List Block → List ℕ
block_lines names b [] = []
block_lines names b (one ∷ others) = block_line names b one ++ block_lines names (b + 1) others

-- the listing of a code
abbrev pub listing_text : Code → List ℕ
listing_text c = instr_lines c.texts 0 (heads_from c.names 0 c.processes) c.instrs ++ block_lines c.names 0 c.blocks
