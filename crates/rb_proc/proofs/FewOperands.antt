-- No instruction leaves more operands than there is room for.
use Rattle.std.proofs.Common.{ℕ, zero, suc, ◌+◌, ◌<◌, ◌≤◌, ℤ, neg_ℤ, int_lt, nat_le, nat_lt, Bool, true, false, cond, List, [], ◌∷◌, length, Option, Some, None, Result, Ok, Err, arith}
use Rattle.std.specs.Prelude.{slice_get}
use Rattle.rb_base.specs.declared.event.Cause.{Cause}
use Rattle.rb_base.specs.declared.limits.TheConstants.{MOST_OPERANDS}
use Rattle.rb_syntax.specs.declared.expression.Op.TheVariants as op
use Rattle.rb_base.specs.declared.event.Cause.TheVariants.{Hold}
use Rattle.rb_meaning.specs.Environment.{natural}
use Rattle.rb_meaning.specs.Value.{applied, fitting, is_zero, span}
use Rattle.rb_meaning.specs.Step.{most_calls, most_held}
use Rattle.rb_code.specs.Instructions.Plain.{Code}
use Rattle.rb_code.specs.WordMachine.Workspace.{OpenCall, Workspace, held_place, word_at}
use Rattle.rb_code.specs.WordMachine.Act.{Accepts, Going, Outcome, Sight, Stopped, Trapped, Unfinished, act, alternate_address, below, counter_at, has_words_for, here, if_there, joined_pieces, line_held, on_top, operate, or_trap, printed, ranged, returned, within}
use Rattle.rb_code.specs.SoundCode.Safe.{Ready}
use Rattle.rb_code.specs.declared.instr.Instr.{Instr}
use Rattle.rb_code.specs.declared.instr.Instr.TheVariants.{Turn, Push, Load, Prior, Bound, LoadAt, PriorAt, Store, StoreAt, Add, Sub, Mul, Div, Rem, Eq, Ne, Lt, Le, Gt, Ge, Neg, Not, Bool as ToBool, Jump, JumpZero, Frame, Drop, Text, Item, Print, Room, Put, There, Take, Call, Return, Fail, Enter, Start, Test, Done, Range, Again, Counter, Absent}

abbrev pub LeavesFew : Outcome → Type 0
LeavesFew (Going a operands m) = length operands ≤ MOST_OPERANDS
LeavesFew (Stopped a m) = Unit {0}
LeavesFew (Accepts a m) = Unit {0}
LeavesFew (Trapped cause) = Unit {0}
LeavesFew Unfinished = Unit {0}

taken : (xs : List ℤ) (go : ℤ → List ℤ → Outcome) → length xs ≤ MOST_OPERANDS
    → ((x : ℤ) (rest : List ℤ) → length rest < MOST_OPERANDS → LeavesFew (go x rest)) → LeavesFew (on_top xs go)
taken [] go few then = tt
taken (x ∷ rest) go few then = then x rest (omega arith)

either : (b : Bool) (one other : Outcome) → LeavesFew one → LeavesFew other → LeavesFew (cond b one other)
either true one other few also = few
either false one other few also = also

given : {A : Type 0} (r : Result A Cause) (go : A → Outcome) → ((x : A) → LeavesFew (go x)) → LeavesFew (or_trap r go)
given (Ok x) go then = then x
given (Err cause) go then = tt

found : {A : Type 0} (o : Option A) (go : A → Outcome) → ((x : A) → LeavesFew (go x)) → LeavesFew (if_there o go)
found None go then = tt
found (Some x) go then = then x

fewer_below : (p : ℕ) (xs : List ℤ) → length (below p xs) ≤ length xs
fewer_below zero xs = omega arith
fewer_below (suc p) [] = omega arith
fewer_below (suc p) (x ∷ xs) = let k = fewer_below p xs in omega arith

module _ (c : Code) (see : Sight) (a : ℕ) (xs : List ℤ) (m : Workspace) (few : length xs ≤ MOST_OPERANDS) where
  operated : (f : ℤ → ℤ → Result ℤ Cause) → LeavesFew (operate c see f a xs m)
  operated f =
      taken xs (λ y rest. on_top rest (λ x others. or_trap (f x y) (λ z. Going (a + 1) (z ∷ others) m))) few
      (λ y rest h. taken rest (λ x others. or_trap (f x y) (λ z. Going (a + 1) (z ∷ others) m)) (omega arith)
      (λ x others k. given (f x y) (λ z. Going (a + 1) (z ∷ others) m) (λ z. omega arith)))

  went_back : (calls : List OpenCall) → LeavesFew (returned c see calls xs m)
  went_back [] = tt
  went_back (call ∷ calls) = few

  over_range : (k past : ℕ) (x y : ℤ) (others : List ℤ) → length others ≤ MOST_OPERANDS → (n : ℕ)
      → LeavesFew (ranged k past (a + 1) x y others m n)
  over_range k past x y others few zero = few
  over_range k past x y others few (suc n) = few

  held : (bytes : ℕ) (line : List ℕ) → LeavesFew (printed bytes line m (λ later. Going (a + 1) xs later))
  held bytes line = either (nat_lt most_held bytes) (Trapped Hold) (Going (a + 1) xs (line_held bytes line m)) tt few

  pub leaves_few : (i : Instr) → Ready c see i xs m → LeavesFew (act c see i a xs m)
  leaves_few Turn ready = tt
  leaves_few Done ready = tt
  leaves_few (Push n) ready = omega arith
  leaves_few (Load v) ready = (let h = ready.0 in omega arith)
  leaves_few (Prior v) ready = (let h = ready.0 in omega arith)
  leaves_few (Bound n) ready = taken xs _ few (λ i rest h. either (within n i) _ _ (omega arith) tt)
  leaves_few (LoadAt v) ready = taken xs _ few (λ i rest h. omega arith)
  leaves_few (PriorAt v) ready = taken xs _ few (λ i rest h. omega arith)
  leaves_few (Store v) ready = taken xs _ few (λ x rest h. omega arith)
  leaves_few (StoreAt v) ready = taken xs _ few (λ x rest h. taken rest _ (omega arith) (λ i others k. omega arith))
  leaves_few Add ready = operated (applied op.Add)
  leaves_few Sub ready = operated (applied op.Sub)
  leaves_few Mul ready = operated (applied op.Mul)
  leaves_few Div ready = operated (applied op.Div)
  leaves_few Rem ready = operated (applied op.Rem)
  leaves_few Eq ready = operated (applied op.Eq)
  leaves_few Ne ready = operated (applied op.Ne)
  leaves_few Lt ready = operated (applied op.Lt)
  leaves_few Le ready = operated (applied op.Le)
  leaves_few Gt ready = operated (applied op.Gt)
  leaves_few Ge ready = operated (applied op.Ge)
  leaves_few Neg ready = taken xs _ few (λ x rest h. given (fitting (neg_ℤ x)) _ (λ z. omega arith))
  leaves_few Not ready = taken xs _ few (λ x rest h. omega arith)
  leaves_few ToBool ready = taken xs _ few (λ x rest h. omega arith)
  leaves_few (Jump b) ready = few
  leaves_few (JumpZero b) ready = taken xs _ few (λ x rest h. either (is_zero x) _ _ (omega arith) (omega arith))
  leaves_few (Frame n) ready = either (has_words_for c (here c see) (length m.words + n)) _ _ few tt
  leaves_few (Drop n) ready = few
  leaves_few (Text k) ready = found (slice_get c.texts k) _ (λ text. few)
  leaves_few Item ready = taken xs _ few (λ x rest h. omega arith)
  leaves_few Print ready = held (natural (word_at m.words held_place) + (length (joined_pieces m.pieces) + 1)) (joined_pieces m.pieces)
  leaves_few (Room channel) ready = few
  leaves_few (Put channel) ready = taken xs _ few (λ v rest h. omega arith)
  leaves_few (There channel) ready = few
  leaves_few (Take channel) ready = found see.message _ (λ v. let h = ready.0 in omega arith)
  leaves_few (Call b p n) ready =
      either (nat_le most_calls (length m.calls)) _ _ tt
      (either (has_words_for c (here c see) (length m.words + (p + n))) _ _ (let h = fewer_below p xs in omega arith) tt)
  leaves_few Return ready = went_back m.calls
  leaves_few Fail ready = tt
  leaves_few (Enter b) ready = tt
  leaves_few (Start b) ready = found (alternate_address (slice_get c.blocks b) see.alternate) _ (λ to. few)
  leaves_few (Test b) ready = taken xs _ few (λ x rest h. either (is_zero x) _ _ tt tt)
  leaves_few (Range k b) ready =
      taken xs _ few
      (λ y rest h. taken rest _ (omega arith) (λ x others k2. given (span x y) _ (over_range k b x y others (omega arith))))
  leaves_few (Again k b) ready = found (counter_at k m) _ (λ counter. either (int_lt counter.now counter.end) _ _ few few)
  leaves_few (Counter k) ready = found (counter_at k m) _ (λ counter. let h = ready.0 in omega arith)
  leaves_few (Absent channel b) ready = by see.message
    where
      by : (o : Option ℤ) → LeavesFew (act c (record see { message = o }) (Absent channel b) a xs m)
      by None = few
      by (Some v) = few
