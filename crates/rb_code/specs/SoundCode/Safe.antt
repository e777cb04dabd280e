-- What an instruction needs, and safe states: the notions without a table that whoever executes code cites.
use Rattle.std.specs.Prelude.{◌≡◌, ℕ, zero, suc, ◌+◌, ◌-◌, ◌<◌, ◌≤◌, ℤ, pos, List, [], ◌∷◌, length, slice_get, Option, Some, None}
use Rattle.rb_base.specs.declared.limits.TheConstants.{MOST_ITEMS, MOST_OPERANDS}
use Rattle.rb_cache.specs.Copies.{Level as Touched}
use Rattle.rb_code.specs.Instructions.Plain.{Code}
use Rattle.rb_code.specs.WordMachine.Workspace.{Workspace, OpenCall, cursor_place, held_place}
use Rattle.rb_code.specs.WordMachine.Act.{Accepts, Going, Outcome, Sight, Stopped, Trapped, Unfinished, alternate_address, counter_at, here, move, place}
use Rattle.rb_code.specs.declared.instr.Instr.{Instr}
use Rattle.rb_code.specs.declared.instr.Instr.TheVariants.{Turn, Push, Load, Prior, Bound, LoadAt, PriorAt, Store, StoreAt, Add, Sub, Mul, Div, Rem, Eq, Ne, Lt, Le, Gt, Ge, Neg, Not, Bool as ToBool, Jump, JumpZero, Frame, Drop, Text, Item, Print, Room, Put, There, Take, Call, Return, Fail, Enter, Start, Test, Done, Range, Again, Counter, Absent}

-- the top operand is there, and keeps this with those below it
abbrev pub HasTop : List ℤ → (ℤ → List ℤ → Type 0) → Type 0
HasTop [] P = ⊥
HasTop (x ∷ operands) P = P x operands

-- something is there
abbrev pub IsThere : {A : Type 0} → Option A → Type 0
IsThere None = ⊥
IsThere (Some a) = Unit {0}

-- the running call, which is there, keeps this
abbrev pub HasCall : List OpenCall → (OpenCall → Type 0) → Type 0
HasCall [] P = ⊥
HasCall (call ∷ calls) P = P call

-- the words of the innermost level's entry stay, where a level is open (the innermost is the last)
abbrev pub StayAbove : List Touched → ℕ → Type 0
StayAbove [] words = Unit {0}
StayAbove (level ∷ []) words = level.height ≤ words
StayAbove (level ∷ inner ∷ more) words = StayAbove (inner ∷ more) words

-- what a turn may have to leave as it was: all but the pieces of the line and the counters
pub record IsUnchanged (m later : Workspace) : Type 0 where
  pub words : later.words ≡ m.words
  pub calls : later.calls ≡ m.calls
  pub held : later.held ≡ m.held
  pub touched : later.touched ≡ m.touched
  pub slots : later.slots ≡ m.slots

module _ (c : Code) (see : Sight) where
  -- a place is one of these words
  abbrev pub IsWord : List ℤ → ℕ → Type 0
  IsWord words at = at < length words

  -- an index of an array whose elements begin at a place is that of one of these words
  abbrev pub IsElement : List ℤ → ℕ → ℤ → Type 0
  IsElement words first i = (k : ℕ) × (i ≡ pos k) × (first + k < length words)

  -- what each instruction needs
  abbrev pub Ready : Instr → List ℤ → Workspace → Type 0
  Ready Turn operands m = Unit {0}
  Ready Done operands m = Unit {0}
  Ready (Push n) operands m = length operands < MOST_OPERANDS
  Ready (Load v) operands m = (length operands < MOST_OPERANDS) × IsWord m.words (place c see m.calls v)
  Ready (Prior v) operands m = (length operands < MOST_OPERANDS) × IsWord see.prior (place c see m.calls v)
  Ready (Bound n) operands m = 0 < length operands
  Ready (LoadAt v) operands m = HasTop operands (λ i rest. IsElement m.words (place c see m.calls v) i)
  Ready (PriorAt v) operands m = HasTop operands (λ i rest. IsElement see.prior (place c see m.calls v) i)
  Ready (Store v) operands m = (0 < length operands) × IsWord m.words (place c see m.calls v)
  Ready (StoreAt v) operands m =
      HasTop operands (λ x rest. HasTop rest (λ i others. IsElement m.words (place c see m.calls v) i))
  Ready Add operands m = 1 < length operands
  Ready Sub operands m = 1 < length operands
  Ready Mul operands m = 1 < length operands
  Ready Div operands m = 1 < length operands
  Ready Rem operands m = 1 < length operands
  Ready Eq operands m = 1 < length operands
  Ready Ne operands m = 1 < length operands
  Ready Lt operands m = 1 < length operands
  Ready Le operands m = 1 < length operands
  Ready Gt operands m = 1 < length operands
  Ready Ge operands m = 1 < length operands
  Ready Neg operands m = 0 < length operands
  Ready Not operands m = 0 < length operands
  Ready ToBool operands m = 0 < length operands
  Ready (Jump b) operands m = Unit {0}
  Ready (JumpZero b) operands m = 0 < length operands
  Ready (Frame n) operands m = Unit {0}
  Ready (Drop n) operands m = (n ≤ length m.words) × StayAbove m.touched (length m.words - n)
  Ready (Text k) operands m = (k < length c.texts) × (length m.pieces < MOST_ITEMS)
  Ready Item operands m = (0 < length operands) × (length m.pieces < MOST_ITEMS)
  Ready Print operands m = IsWord m.words held_place
  Ready (Room channel) operands m = Unit {0}
  Ready (Put channel) operands m = (0 < length operands) × IsWord m.words (cursor_place (here c see) channel)
  Ready (There channel) operands m = Unit {0}
  Ready (Take channel) operands m =
      (length operands < MOST_OPERANDS) × IsThere see.message × IsWord m.words (cursor_place (here c see) channel)
  Ready (Call b p n) operands m = p ≤ length operands
  Ready Return operands m = HasCall m.calls (λ call. (call.base ≤ length m.words) × StayAbove m.touched call.base)
  Ready Fail operands m = Unit {0}
  Ready (Enter b) operands m = ⊥
  Ready (Start b) operands m = IsThere (alternate_address (slice_get c.blocks b) see.alternate)
  Ready (Test b) operands m = 0 < length operands
  Ready (Range k b) operands m = (1 < length operands) × (k < 2)
  Ready (Again k b) operands m = IsThere (counter_at k m)
  Ready (Counter k) operands m = (length operands < MOST_OPERANDS) × IsThere (counter_at k m)
  Ready (Absent channel b) operands m = Unit {0}

  abbrev pub ReadyAt : Option Instr → List ℤ → Workspace → Type 0
  ReadyAt None operands m = ⊥
  ReadyAt (Some instr) operands m = Ready instr operands m

  -- Where it goes no further and the turn is not over, P holds of the memory: for a step, that it is unchanged since the start; for what stands
  -- between two turns, nothing, so that this never comes.
  abbrev pub SafeOn : (Workspace → Type 0) → Workspace → Outcome → (ℕ → List ℤ → Workspace → Type 0) → Type 0
  SafeOn P m (Going a operands later) next = next a operands later
  SafeOn P m (Stopped a later) next = Unit {0}
  SafeOn P m (Accepts a later) next = P m
  SafeOn P m (Trapped cause) next = P m
  SafeOn P m Unfinished next = ⊥

  -- within n instructions an end is reached, and each finds what it needs
  abbrev pub Safe : (Workspace → Type 0) → ℕ → ℕ → List ℤ → Workspace → Type 0
  Safe P zero a operands m = ⊥
  Safe P (suc n) a operands m = ReadyAt (slice_get c.instrs a) operands m × SafeOn P m (move c see a operands m) (Safe P n)

  -- how many of at most n instructions lead on
  abbrev pub counted : Outcome → (ℕ → List ℤ → Workspace → ℕ) → ℕ
  counted (Going a operands m) next = suc (next a operands m)
  counted (Stopped a m) next = 0
  counted (Accepts a m) next = 0
  counted (Trapped cause) next = 0
  counted Unfinished next = 0

  abbrev pub steps_left : ℕ → ℕ → List ℤ → Workspace → ℕ
  steps_left zero a operands m = 0
  steps_left (suc n) a operands m = counted (move c see a operands m) (steps_left n)
