-- What one instruction does.
use Rattle.std.specs.Prelude.{ℕ, zero, suc, ◌+◌, ℤ, pos, neg_ℤ, ◌+ℤ◌, nat_le, nat_lt, int_lt, Bool, false, not, cond, List, [], ◌∷◌, ◌++◌, length, slice_get, slice_set, Option, Some, None, Result, Ok, Err}
use Rattle.std.specs.Option.{unwrap_or}
use Rattle.std.specs.Fmt.{signed_decimal}
use Rattle.rb_base.specs.declared.event.Cause.{Cause}
use Rattle.rb_base.specs.declared.event.Cause.TheVariants.{Calls, Fail as FailCause, Hold, Index, Stack, Test as TestCause}
use Rattle.rb_base.specs.Limits.{most_words}
use Rattle.rb_syntax.specs.declared.expression.Op.TheVariants as op
use Rattle.rb_meaning.specs.Environment.{natural}
use Rattle.rb_meaning.specs.Value.{applied, fitting, is_zero, span, truth}
use Rattle.rb_meaning.specs.Step.{most_calls, most_held}
use Rattle.rb_world.specs.Slots.{put_slot}
use Rattle.rb_code.specs.Instructions.Plain.{Block, Code, Part}
use Rattle.rb_code.specs.WordMachine.Workspace.{Counting, Workspace, OpenCall, base_of, called, cursor_place, dropped, ended, framed, held_place, part_of, variables_place, word_at, written}
use Rattle.rb_code.specs.declared.instr.Spot.{Spot}
use Rattle.rb_code.specs.declared.instr.Spot.TheVariants.{Global, Local}
use Rattle.rb_code.specs.declared.instr.Instr.{Instr}
use Rattle.rb_code.specs.declared.instr.Instr.TheVariants.{Turn, Push, Load, Prior, Bound, LoadAt, PriorAt, Store, StoreAt, Add, Sub, Mul, Div, Rem, Eq, Ne, Lt, Le, Gt, Ge, Neg, Not, Bool as ToBool, Jump, JumpZero, Frame, Drop, Text, Item, Print, Room, Put, There, Take, Call, Return, Fail, Enter, Start, Test, Done, Range, Again, Counter, Absent}

-- What a turn of a process sees beside its memory: which process it is, the words in the copy of its innermost level, the message that
-- is there if one is, and the alternate that is to be started.
pub record Sight : Type 0 where
  pub process : ℕ
  pub prior : List ℤ
  pub message : Option ℤ
  pub alternate : ℕ

-- what one instruction comes to, or all up to the end of a turn
pub data Outcome : Type 0 where
  -- it goes on at an address, with these operands, the top first
  Going : (at : ℕ) (operands : List ℤ) (memory : Workspace) → Outcome
  -- the next turn begins at an address, or the process is done there
  Stopped : (at : ℕ) (memory : Workspace) → Outcome
  -- an acceptance test held, and its level may go; what follows it stands at an address
  Accepts : (at : ℕ) (memory : Workspace) → Outcome
  Trapped : (cause : Cause) → Outcome
  -- it has not come to an end
  Unfinished : Outcome

-- goes on with the operand on top; without one no sound code comes here
abbrev pub on_top : List ℤ → (ℤ → List ℤ → Outcome) → Outcome
on_top [] go = Trapped FailCause
on_top (x ∷ operands) go = go x operands

-- goes on with a value, or traps
abbrev pub or_trap : {A : Type 0} → Result A Cause → (A → Outcome) → Outcome
or_trap (Ok a) go = go a
or_trap (Err cause) go = Trapped cause

-- goes on with what is there; no sound code comes here without it
abbrev pub if_there : {A : Type 0} → Option A → (A → Outcome) → Outcome
if_there None go = Trapped FailCause
if_there (Some a) go = go a

-- the first so many operands, the deepest first, and the operands below them
abbrev pub arguments : ℕ → List ℤ → List ℤ
arguments zero operands = []
arguments (suc p) [] = []
arguments (suc p) (x ∷ operands) = arguments p operands ++ x ∷ []

abbrev pub below : ℕ → List ℤ → List ℤ
below zero operands = operands
below (suc p) [] = []
below (suc p) (x ∷ operands) = below p operands

-- an index from 0 to n less one
abbrev pub within : ℕ → ℤ → Bool
within n (pos i) = nat_lt i n
within n i = false

-- the pieces of a line, joined by one blank
abbrev pub joined_pieces : List (List ℕ) → List ℕ
joined_pieces [] = []
joined_pieces (piece ∷ []) = piece
joined_pieces (piece ∷ other ∷ pieces) = piece ++ 32 ∷ joined_pieces (other ∷ pieces)

-- the line ends and is held; the held length, which is word 0, grows by its bytes and one more
abbrev pub line_held : ℕ → List ℕ → Workspace → Workspace
line_held bytes line m = record (written held_place (pos bytes) m) { held = m.held ++ line ∷ []; pieces = [] }

abbrev pub printed : ℕ → List ℕ → Workspace → (Workspace → Outcome) → Outcome
printed bytes line m go = cond (nat_lt most_held bytes) (Trapped Hold) (go (line_held bytes line m))

-- how many words a line of a process has beside those that count for the limit: the held length and its cursors
abbrev pub has_words_for : Code → Part → ℕ → Bool
has_words_for c part n = nat_le n (variables_place part + most_words c.edition)

-- a counter is set, and goes
abbrev pub counting : ℕ → Option Counting → Workspace → Workspace
counting k counter m = record m { counters = slice_set m.counters k counter }

-- a counter by its number
abbrev pub counter_at : ℕ → Workspace → Option Counting
counter_at k m = unwrap_or (slice_get m.counters k) None

-- one step of a counter: on to the address, or past the loop
abbrev pub counted_on : ℕ → ℕ → ℕ → Counting → List ℤ → Workspace → Outcome
counted_on k loop next counter operands m =
    cond (int_lt counter.now counter.end)
    (Going loop operands (counting k (Some (record { now = counter.now +ℤ pos 1; end = counter.end })) m))
    (Going next operands (counting k None m))

-- from a to b there are so many numbers: the loop over them begins, or is passed over where there is none
abbrev pub ranged : ℕ → ℕ → ℕ → ℤ → ℤ → List ℤ → Workspace → ℕ → Outcome
ranged k past next a b operands m zero = Going past operands m
ranged k past next a b operands m (suc n) = Going next operands (counting k (Some (record { now = a; end = b })) m)

-- the address of an alternate, counted from 1
abbrev pub alternate_address : Option Block → ℕ → Option ℕ
alternate_address None alternate = None
alternate_address (Some block) zero = None
alternate_address (Some block) (suc k) = slice_get block.alternates k

module _ (c : Code) (see : Sight) where
  -- the part of the process whose turn it is
  abbrev pub here : Part
  here = part_of c see.process

  -- the place of a variable's first word
  abbrev pub place : List OpenCall → Spot → ℕ
  place calls (Global k) = variables_place here + k
  place calls (Local k) = base_of here calls + k

  -- an operator on the two operands on top
  abbrev pub operate : (ℤ → ℤ → Result ℤ Cause) → ℕ → List ℤ → Workspace → Outcome
  operate f a operands m = on_top operands (λ y rest. on_top rest (λ x others. or_trap (f x y) (λ z. Going (a + 1) (z ∷ others) m)))

  -- a value is put into the slot of the sender's cursor, and a message is taken at the receiver's; the cursor rises
  abbrev pub risen : ℕ → Workspace → Workspace
  risen channel m = written (cursor_place here channel) (word_at m.words (cursor_place here channel) +ℤ pos 1) m

  abbrev pub put : ℕ → ℤ → Workspace → Workspace
  put channel v m =
      record (risen channel m) { slots = put_slot c.channels channel (natural (word_at m.words (cursor_place here channel))) v m.slots }

  abbrev pub returned : List OpenCall → List ℤ → Workspace → Outcome
  returned [] operands m = Trapped FailCause
  returned (call ∷ calls) operands m = Going call.back operands (ended call calls m)

  -- one instruction at its address
  abbrev pub act : Instr → ℕ → List ℤ → Workspace → Outcome
  act Turn a operands m = Stopped a m
  act Done a operands m = Stopped a m
  act (Push n) a operands m = Going (a + 1) (n ∷ operands) m
  act (Load v) a operands m = Going (a + 1) (word_at m.words (place m.calls v) ∷ operands) m
  act (Prior v) a operands m = Going (a + 1) (word_at see.prior (place m.calls v) ∷ operands) m
  act (Bound n) a operands m = on_top operands (λ i rest. cond (within n i) (Going (a + 1) (i ∷ rest) m) (Trapped Index))
  act (LoadAt v) a operands m =
      on_top operands (λ i rest. Going (a + 1) (word_at m.words (place m.calls v + natural i) ∷ rest) m)
  act (PriorAt v) a operands m =
      on_top operands (λ i rest. Going (a + 1) (word_at see.prior (place m.calls v + natural i) ∷ rest) m)
  act (Store v) a operands m = on_top operands (λ x rest. Going (a + 1) rest (written (place m.calls v) x m))
  act (StoreAt v) a operands m =
      on_top operands (λ x rest. on_top rest (λ i others. Going (a + 1) others (written (place m.calls v + natural i) x m)))
  act Add a operands m = operate (applied op.Add) a operands m
  act Sub a operands m = operate (applied op.Sub) a operands m
  act Mul a operands m = operate (applied op.Mul) a operands m
  act Div a operands m = operate (applied op.Div) a operands m
  act Rem a operands m = operate (applied op.Rem) a operands m
  act Eq a operands m = operate (applied op.Eq) a operands m
  act Ne a operands m = operate (applied op.Ne) a operands m
  act Lt a operands m = operate (applied op.Lt) a operands m
  act Le a operands m = operate (applied op.Le) a operands m
  act Gt a operands m = operate (applied op.Gt) a operands m
  act Ge a operands m = operate (applied op.Ge) a operands m
  act Neg a operands m = on_top operands (λ x rest. or_trap (fitting (neg_ℤ x)) (λ z. Going (a + 1) (z ∷ rest) m))
  act Not a operands m = on_top operands (λ x rest. Going (a + 1) (truth (is_zero x) ∷ rest) m)
  act ToBool a operands m = on_top operands (λ x rest. Going (a + 1) (truth (not (is_zero x)) ∷ rest) m)
  act (Jump b) a operands m = Going b operands m
  act (JumpZero b) a operands m = on_top operands (λ x rest. cond (is_zero x) (Going b rest m) (Going (a + 1) rest m))
  act (Frame n) a operands m =
      cond (has_words_for c here (length m.words + n)) (Going (a + 1) operands (framed n m)) (Trapped Stack)
  act (Drop n) a operands m = Going (a + 1) operands (dropped n m)
  act (Text k) a operands m =
      if_there (slice_get c.texts k) (λ text. Going (a + 1) operands (record m { pieces = m.pieces ++ text ∷ [] }))
  act Item a operands m =
      on_top operands (λ x rest. Going (a + 1) rest (record m { pieces = m.pieces ++ signed_decimal x ∷ [] }))
  act Print a operands m =
      printed (natural (word_at m.words held_place) + (length (joined_pieces m.pieces) + 1)) (joined_pieces m.pieces) m
      (λ later. Going (a + 1) operands later)
  act (Room channel) a operands m = Going (a + 1) operands m
  act (Put channel) a operands m = on_top operands (λ v rest. Going (a + 1) rest (put channel v m))
  act (There channel) a operands m = Going (a + 1) operands m
  act (Take channel) a operands m = if_there see.message (λ v. Going (a + 1) (v ∷ operands) (risen channel m))
  act (Call b p n) a operands m =
      cond (nat_le most_calls (length m.calls)) (Trapped Calls)
      (cond (has_words_for c here (length m.words + (p + n)))
      (Going b (below p operands) (called (a + 1) (arguments p operands) n m)) (Trapped Stack))
  act Return a operands m = returned m.calls operands m
  act Fail a operands m = Trapped FailCause
  act (Enter b) a operands m = Trapped FailCause
  act (Start b) a operands m =
      if_there (alternate_address (slice_get c.blocks b) see.alternate) (λ at. Going at operands m)
  act (Test b) a operands m = on_top operands (λ x rest. cond (is_zero x) (Trapped TestCause) (Accepts (a + 1) m))
  act (Range k past) a operands m =
      on_top operands (λ y rest. on_top rest (λ x others. or_trap (span x y) (ranged k past (a + 1) x y others m)))
  act (Again k loop) a operands m = if_there (counter_at k m) (λ counter. counted_on k loop (a + 1) counter operands m)
  act (Counter k) a operands m = if_there (counter_at k m) (λ counter. Going (a + 1) (counter.now ∷ operands) m)
  act (Absent channel b) a operands m = by_message see.message
    where
      by_message : Option ℤ → Outcome
      by_message None = Going b operands m
      by_message (Some v) = Going (a + 1) operands m

  -- the instruction at an address, if there is one
  abbrev pub act_at : Option Instr → ℕ → List ℤ → Workspace → Outcome
  act_at None a operands m = Trapped FailCause
  act_at (Some instr) a operands m = act instr a operands m

  abbrev pub move : ℕ → List ℤ → Workspace → Outcome
  move a operands m = act_at (slice_get c.instrs a) a operands m

-- goes on from where one instruction leads
abbrev pub then_go : Outcome → (ℕ → List ℤ → Workspace → Outcome) → Outcome
then_go (Going a operands m) next = next a operands m
then_go (Stopped a m) next = Stopped a m
then_go (Accepts a m) next = Accepts a m
then_go (Trapped cause) next = Trapped cause
then_go Unfinished next = Unfinished

-- at most n instructions from an address on
abbrev pub execute : Code → Sight → ℕ → ℕ → List ℤ → Workspace → Outcome
execute c see zero a operands m = Unfinished
execute c see (suc n) a operands m = then_go (move c see a operands m) (execute c see n)
