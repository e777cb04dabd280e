-- The rules of instructions as a function: where an instruction leads from an entry, and with which entries, or that its rule is broken.
use Rattle.std.specs.Prelude.{ℕ, ◌+◌, ◌-◌, ◌&&◌, nat_le, nat_lt, nat_eq, not, Bool, true, false, List, [], ◌∷◌, length, slice_get, Option, Some, None}
use Rattle.rb_code.specs.Instructions.Plain.{Block, Code, Procedure}
use Rattle.rb_world.specs.Kind.{Ends, Membership}
use Rattle.rb_world.specs.Turn.{members_of}
use Rattle.rb_world.specs.Reject.{parent_of}
use Rattle.rb_code.specs.WordMachine.Workspace.{part_of}
use Rattle.rb_code.specs.SoundCode.Sound.{Entry, Has, Table, alternates_at, at_address, changed, conversation_of, end_of_loop, with_operands, Loop, Mode, OpenBlock, Within, Fresh, MayPut, MayTake, Begun, Free, Changed}
use Rattle.rb_base.specs.declared.limits.TheConstants.{MOST_OPERANDS, MOST_ITEMS}
use Rattle.rb_code.specs.declared.instr.Spot.{Spot}
use Rattle.rb_code.specs.declared.instr.Spot.TheVariants.{Global, Local}
use Rattle.rb_code.specs.declared.instr.Instr.{Instr}
use Rattle.rb_code.specs.declared.instr.Instr.TheVariants.{Turn, Push, Load, Prior, Bound, LoadAt, PriorAt, Store, StoreAt, Add, Sub, Mul, Div, Rem, Eq, Ne, Lt, Le, Gt, Ge, Neg, Not, Bool as ToBool, Jump, JumpZero, Frame, Drop, Text, Item, Print, Room, Put, There, Take, Call, Return, Fail, Enter, Start, Test, Done, Range, Again, Counter, Absent}

-- a step to an address with what is known behind the instruction
pub record Step : Type 0 where
  pub at : ℕ
  pub entry : Entry

-- the entry that it leads to, without the loops that are left there
abbrev pub arriving : Step → Entry
arriving step = at_address step.at step.entry

-- None where the rule is broken
abbrev pub Steps : Type 0
Steps = Option (List Step)

-- a table takes steps if each leads to an equal or weaker entry of it
abbrev pub Takes : Table → List Step → Type 0
Takes t [] = Unit {0}
Takes t (step ∷ steps) = Has (t step.at) (arriving step) × Takes t steps

abbrev pub Keeps : Table → Steps → Type 0
Keeps t None = ⊥
Keeps t (Some steps) = Takes t steps

-- one step more
abbrev pub and_to : ℕ → Entry → Steps → Steps
and_to b e None = None
and_to b e (Some steps) = Some (record { at = b; entry = e } ∷ steps)

-- the tests of rules
abbrev pub either : Bool → Bool → Bool
either true b = true
either false b = b

abbrev pub when : Bool → Steps → Steps
when false steps = None
when true steps = steps

abbrev pub top : List (Option ℕ) → (Option ℕ → List (Option ℕ) → Steps) → Steps
top [] f = None
top (o ∷ os) f = f o os

abbrev pub innermost : List OpenBlock → (OpenBlock → List OpenBlock → Steps) → Steps
innermost [] f = None
innermost (block ∷ around) f = f block around

abbrev pub last_of : Option ℕ → (ℕ → Steps) → Steps
last_of None f = None
last_of (Some last) f = f last

abbrev pub is_none : List (Option ℕ) → Bool
is_none [] = true
is_none (o ∷ os) = false

abbrev pub no_blocks : List OpenBlock → Bool
no_blocks [] = true
no_blocks (block ∷ around) = false

abbrev pub no_loops : List Loop → Bool
no_loops [] = true
no_loops (loop ∷ around) = false

abbrev pub may_trap : Mode → Bool
may_trap Begun = false
may_trap Changed = false
may_trap _ = true

abbrev pub may_frame : Mode → Bool
may_frame Changed = false
may_frame _ = true

abbrev pub is_fresh : Mode → Bool
is_fresh Fresh = true
is_fresh _ = false

abbrev pub may_put : ℕ → Mode → Bool
may_put channel (MayPut d) = nat_eq d channel
may_put channel _ = false

abbrev pub may_take : ℕ → Mode → Bool
may_take channel (MayTake d) = nat_eq d channel
may_take channel _ = false

abbrev pub in_range : ℕ → ℕ → Spot → ℕ → Bool
in_range globals words (Global k) n = nat_le (k + n) globals
in_range globals words (Local k) n = nat_le (k + n) words

abbrev pub below_in_range : ℕ → ℕ → Spot → Option ℕ → Bool
below_in_range globals words v None = false
below_in_range globals words v (Some n) = in_range globals words v n

abbrev pub prior_in_range : ℕ → List OpenBlock → Spot → Option ℕ → Bool
prior_in_range globals [] v o = false
prior_in_range globals (block ∷ around) v o = below_in_range globals block.words v o

-- the main body of a process, or one of a procedure
abbrev pub in_main : Option ℕ → Bool
in_main None = true
in_main (Some start) = false

abbrev pub is_above : List OpenBlock → ℕ → Bool
is_above [] words = true
is_above (block ∷ around) words = nat_le block.words words

-- the innermost open block is number b, entered with as many words
abbrev pub is_entered : ℕ → ℕ → List OpenBlock → Bool
is_entered b words [] = false
is_entered b words (block ∷ around) = nat_eq block.number b && nat_eq block.words words

abbrev pub is_this_loop : ℕ → ℕ → ℕ → Loop → Bool
is_this_loop k first last loop = nat_eq loop.counter k && (nat_eq loop.first first && nat_eq loop.last last)

abbrev pub is_loop : ℕ → ℕ → ℕ → List Loop → Bool
is_loop k first last [] = false
is_loop k first last (loop ∷ around) = either (is_this_loop k first last loop) (is_loop k first last around)

abbrev pub is_set : ℕ → List Loop → Bool
is_set k [] = false
is_set k (loop ∷ around) = either (nat_eq loop.counter k) (is_set k around)

abbrev pub restarts_at : Option Block → ℕ → Bool
restarts_at None a = false
restarts_at (Some block) a = nat_eq block.restart a

abbrev pub is_among : List ℕ → ℕ → Bool
is_among [] a = false
is_among (b ∷ others) a = either (nat_eq b a) (is_among others a)

-- an address is the first one of a procedure
abbrev pub is_start_among : List Procedure → ℕ → Bool
is_start_among [] a = false
is_start_among (one ∷ others) a = either (nat_eq one.start a) (is_start_among others a)

abbrev pub is_sender : Option Ends → ℕ → Bool
is_sender None p = false
is_sender (Some ends) p = nat_eq ends.sender p

abbrev pub is_receiver : Option Ends → ℕ → Bool
is_receiver None p = false
is_receiver (Some ends) p = nat_eq ends.receiver p

abbrev pub is_turn : Option Instr → Bool
is_turn (Some Turn) = true
is_turn _ = false

abbrev pub is_conversation : Option ℕ → ℕ → Bool
is_conversation None d = false
is_conversation (Some c) d = nat_eq c d

abbrev pub lies_in : Code → Option ℕ → List OpenBlock → Bool
lies_in c None blocks = no_blocks blocks
lies_in c (Some parent) [] = false
lies_in c (Some parent) (block ∷ around) = is_conversation (conversation_of (slice_get c.blocks block.number)) parent

abbrev pub may_enter : Code → List Membership → Option ℕ → Within → List OpenBlock → Bool
may_enter c groups None within blocks = true
may_enter c groups (Some d) within blocks =
    in_main within.procedure && (is_among (members_of (slice_get groups d)) within.process && lies_in c (parent_of (slice_get groups d)) blocks)

-- the first entry of a body
abbrev pub begins : ℕ → Option ℕ → ℕ → Entry
begins process procedure words = record {
  within = record { process = process; procedure = procedure };
  operands = [];
  words = words;
  blocks = [];
  loops = [];
  pieces = 0;
  mode = Changed;
}

-- one step
abbrev pub goes : ℕ → Entry → Steps
goes b e = Some (record { at = b; entry = e } ∷ [])

-- two steps
abbrev pub goes_both : ℕ → Entry → ℕ → Entry → Steps
goes_both b e d f = Some (record { at = b; entry = e } ∷ record { at = d; entry = f } ∷ [])

-- a step to each of these addresses
abbrev pub goes_to_each : Entry → List ℕ → Steps
goes_to_each e [] = Some []
goes_to_each e (x ∷ others) = and_to x e (goes_to_each e others)

abbrev pub pushes : ℕ → Entry → Steps
pushes a e = when (nat_lt (length e.operands) MOST_OPERANDS) (goes (a + 1) (with_operands (None ∷ e.operands) e))

abbrev pub takes_one : ℕ → Entry → Steps
takes_one a e = top e.operands (λ o os. goes (a + 1) (with_operands (None ∷ os) e))

abbrev pub takes_two : ℕ → Entry → Steps
takes_two a e = top e.operands (λ o os. top os (λ p ps. goes (a + 1) (with_operands (None ∷ ps) e)))

abbrev pub finds : Bool → ℕ → Entry → Mode → Steps
finds may a e mode = when (is_fresh e.mode) (when (in_main e.within.procedure) (when may (goes (a + 1) (record e { mode = mode }))))

module _ (c : Code) where
  abbrev pub is_ahead : ℕ → ℕ → Bool
  is_ahead a b = either (nat_lt a b) (is_turn (slice_get c.instrs b))

  abbrev pub words_at : Entry → ℕ
  words_at e = (part_of c e.within.process).words

module _ (c : Code) (groups : List Membership) where
  -- where an instruction leads from an entry
  abbrev pub flow : Instr → ℕ → Entry → Steps
  flow Turn a e = when (is_none e.operands) (when (nat_eq e.pieces 0) (when (no_loops e.loops) (goes (a + 1) (record e { mode = Fresh }))))
  flow (Push n) a e = pushes a e
  flow (Load v) a e = when (in_range (words_at c e) e.words v 1) (pushes a e)
  flow (Prior v) a e = when (prior_in_range (words_at c e) e.blocks v (Some 1)) (pushes a e)
  flow (Bound n) a e = when (may_trap e.mode) (top e.operands (λ o os. goes (a + 1) (with_operands (Some n ∷ os) e)))
  flow (LoadAt v) a e =
      top e.operands (λ o os. when (below_in_range (words_at c e) e.words v o) (goes (a + 1) (with_operands (None ∷ os) e)))
  flow (PriorAt v) a e =
      top e.operands (λ o os. when (prior_in_range (words_at c e) e.blocks v o) (goes (a + 1) (with_operands (None ∷ os) e)))
  flow (Store v) a e = top e.operands (λ o os. when (in_range (words_at c e) e.words v 1) (goes (a + 1) (changed os e.words e)))
  flow (StoreAt v) a e =
      top e.operands (λ o os. top os (λ p ps. when (below_in_range (words_at c e) e.words v p) (goes (a + 1) (changed ps e.words e))))
  flow Add a e = when (may_trap e.mode) (takes_two a e)
  flow Sub a e = when (may_trap e.mode) (takes_two a e)
  flow Mul a e = when (may_trap e.mode) (takes_two a e)
  flow Div a e = when (may_trap e.mode) (takes_two a e)
  flow Rem a e = when (may_trap e.mode) (takes_two a e)
  flow Eq a e = takes_two a e
  flow Ne a e = takes_two a e
  flow Lt a e = takes_two a e
  flow Le a e = takes_two a e
  flow Gt a e = takes_two a e
  flow Ge a e = takes_two a e
  flow Neg a e = when (may_trap e.mode) (takes_one a e)
  flow Not a e = takes_one a e
  flow ToBool a e = takes_one a e
  flow (Jump b) a e = when (is_ahead c a b) (goes b (with_operands e.operands e))
  flow (JumpZero b) a e =
      top e.operands (λ o os. when (is_ahead c a b) (goes_both b (with_operands os e) (a + 1) (with_operands os e)))
  flow (Frame n) a e = when (may_frame e.mode) (goes (a + 1) (changed e.operands (e.words + n) e))
  flow (Drop n) a e =
      when (nat_le n e.words) (when (is_above e.blocks (e.words - n)) (goes (a + 1) (changed e.operands (e.words - n) e)))
  flow (Text k) a e =
      when (nat_lt k (length c.texts)) (when (nat_lt e.pieces MOST_ITEMS)
      (goes (a + 1) (record (with_operands e.operands e) { pieces = e.pieces + 1 })))
  flow Item a e =
      when (nat_lt e.pieces MOST_ITEMS) (top e.operands (λ o os. goes (a + 1) (record (with_operands os e) { pieces = e.pieces + 1 })))
  flow Print a e = when (may_trap e.mode) (goes (a + 1) (record (changed e.operands e.words e) { pieces = 0 }))
  flow (Room channel) a e = finds (is_sender (slice_get c.channels channel) e.within.process) a e (MayPut channel)
  flow (There channel) a e = finds (is_receiver (slice_get c.channels channel) e.within.process) a e (MayTake channel)
  flow (Absent channel b) a e =
      when (is_fresh e.mode) (when (in_main e.within.procedure) (when (is_receiver (slice_get c.channels channel) e.within.process) (when (is_ahead c a b)
      (goes_both b (record e { mode = Free }) (a + 1) (record e { mode = MayTake channel })))))
  flow (Put channel) a e = when (may_put channel e.mode) (top e.operands (λ o os. goes (a + 1) (changed os e.words e)))
  flow (Take channel) a e =
      when (may_take channel e.mode) (when (nat_lt (length e.operands) MOST_OPERANDS)
      (goes (a + 1) (changed (None ∷ e.operands) e.words e)))
  flow (Call b p n) a e =
      when (may_trap e.mode) (when (nat_eq (length e.operands) p) (when (nat_eq e.pieces 0) (when (no_loops e.loops)
      (when (is_start_among (part_of c e.within.process).procedures b)
      (goes_both b (begins e.within.process (Some b) (p + n)) (a + 1) (changed [] e.words e))))))
  flow Return a e =
      when (not (in_main e.within.procedure)) (when (is_none e.operands) (when (nat_eq e.pieces 0) (when (no_blocks e.blocks) (Some []))))
  flow Fail a e = when (may_trap e.mode) (goes (a + 1) e)
  flow (Enter b) a e =
      when (is_fresh e.mode) (when (is_none e.operands) (when (restarts_at (slice_get c.blocks b) (a + 1))
      (when (is_turn (slice_get c.instrs (a + 1))) (when (may_enter c groups (conversation_of (slice_get c.blocks b)) e.within e.blocks)
      (goes (a + 1) (record (changed [] e.words e) { blocks = record { number = b; words = e.words } ∷ e.blocks }))))))
  flow (Start b) a e =
      when (is_fresh e.mode) (when (is_none e.operands) (when (is_entered b e.words e.blocks)
      (goes_to_each (record e { mode = Begun }) (alternates_at (slice_get c.blocks b)))))
  flow (Test b) a e =
      when (may_trap e.mode) (when (nat_eq e.pieces 0) (when (no_loops e.loops) (top e.operands (λ o os.
      when (is_none os) (innermost e.blocks (λ block around. when (nat_eq block.number b) (when (nat_eq block.words e.words)
      (goes (a + 1) (record (changed [] e.words e) { blocks = around })))))))))
  flow Done a e = when (in_main e.within.procedure) (when (is_none e.operands) (when (nat_eq e.pieces 0) (when (no_blocks e.blocks) (Some []))))
  flow (Range k b) a e =
      when (may_trap e.mode) (when (nat_lt k 2) (when (not (is_set k e.loops)) (top e.operands (λ o os. top os (λ p ps.
      when (is_ahead c a b) (last_of (end_of_loop c k (a + 1)) (λ last. goes_both b (with_operands ps e) (a + 1)
      (record (with_operands ps e) { loops = record { counter = k; first = a + 1; last = last } ∷ e.loops }))))))))
  flow (Again k b) a e =
      when (nat_le b a) (when (is_loop k b a e.loops)
      (goes_both b (with_operands e.operands e) (a + 1) (with_operands e.operands e)))
  flow (Counter k) a e = when (is_set k e.loops) (pushes a e)

  -- The rule at an address: that of the instruction there, and that words are not below those of the innermost open block.
  abbrev pub flow_by : Option Instr → ℕ → Entry → Steps
  flow_by None a e = None
  flow_by (Some instr) a e = when (is_above e.blocks e.words) (flow instr a e)

  abbrev pub flow_at : ℕ → Entry → Steps
  flow_at a e = flow_by (slice_get c.instrs a) a e
