-- What one instruction of sound code leaves of a word of a process's variables that it doesn't store: all of it. And what is executed from an
-- address on leaves each word that no address on the way may store.
use Rattle.std.proofs.Common.{◌≡◌, inl, inr, ℕ, zero, suc, ◌+◌, ◌-◌, ◌<◌, ◌≤◌, ℤ, pos, neg_ℤ, nat_le, nat_lt, int_lt, Bool, true, false, cond, List, [], ◌∷◌, ◌++◌, length, replicate, slice_get, slice_set, take, Option, Some, None, Result, Ok, Err, refl, ap, sym, subst, arith}
use Rattle.rb_base.specs.declared.event.Cause.{Cause}
use Rattle.rb_base.specs.declared.event.Cause.TheVariants.{Calls, Hold, Stack}
use Rattle.rb_syntax.specs.declared.expression.Op.TheVariants as op
use Rattle.rb_world.specs.Kind.{Membership}
use Rattle.rb_world.proofs.ListFacts.{none_some, slice_get-front, some_same}
use Rattle.rb_world.proofs.Members.PlaceFacts.{slice_get-take}
use Rattle.rb_meaning.specs.Environment.{natural}
use Rattle.rb_meaning.specs.Step.{most_calls, most_held}
use Rattle.rb_meaning.specs.Value.{applied, fitting, is_zero, span}
use Rattle.rb_code.specs.Instructions.Plain.{Block, Code}
use Rattle.rb_code.specs.WordMachine.Workspace.{Workspace, base_of, body_place, called, cursor_place, framed, held_place, variables_place, word_at, written}
use Rattle.rb_code.specs.WordMachine.Act.{Accepts, Going, Outcome, Sight, Stopped, Trapped, Unfinished, act, alternate_address, arguments, below, counter_at, has_words_for, here, if_there, joined_pieces, line_held, on_top, operate, or_trap, place, ranged, within}
use Rattle.rb_code.specs.SoundCode.Reached.{successors}
use Rattle.rb_code.specs.SoundCode.Sound.{Entry, Fine, InRange, IsBelow, IsMember, LeadsTo, MayTake, Table, TopIs, alternates_at, changed, globals}
use Rattle.rb_code.specs.SoundCode.Stands.{Fits, IsAmong, Levels, ModeFits, OperandFits, OperandsFit}
use Rattle.rb_code.specs.declared.instr.Spot.{Spot}
use Rattle.rb_code.specs.declared.instr.Spot.TheVariants.{Global, Local}
use Rattle.rb_code.specs.declared.instr.Instr.{Instr}
use Rattle.rb_code.specs.declared.instr.Instr.TheVariants.{Turn, Push, Load, Prior, Bound, LoadAt, PriorAt, Store, StoreAt, Add, Sub, Mul, Div, Rem, Eq, Ne, Lt, Le, Gt, Ge, Neg, Not, Bool as ToBool, Jump, JumpZero, Frame, Drop, Text, Item, Print, Room, Put, There, Take, Call, Return, Fail, Enter, Start, Test, Done, Range, Again, Counter, Absent}
use Rattle.rb_code.proofs.Executing.OpenLevels.{bases_rise}
use Rattle.rb_back.specs.Stores.{MayStore}
use Rattle.rb_back.proofs.Storing.Bounds.{AreSmall, rest_small}

-- what is written elsewhere
pub set_elsewhere : (xs : List ℤ) (n : ℕ) (x : ℤ) (k : ℕ) → (k ≡ n → ⊥) → slice_get (slice_set xs n x) k ≡ slice_get xs k
set_elsewhere [] n x k ne = refl
set_elsewhere (y ∷ xs) zero x zero ne = absurd (ne refl)
set_elsewhere (y ∷ xs) zero x (suc k) ne = refl
set_elsewhere (y ∷ xs) (suc n) x zero ne = refl
set_elsewhere (y ∷ xs) (suc n) x (suc k) ne = set_elsewhere xs n x k (λ e. ne (ap suc e))

module _ (c : Code) (see : Sight) (k : ℕ) where
  -- the place of word number k of the variables
  abbrev pub at_place : ℕ
  at_place = variables_place (here c see) + k

  -- the word is as before, and where it goes on is one of these addresses
  abbrev pub Stays : List ℕ → List ℤ → Outcome → Type 0
  Stays to words (Going b operands later) = (slice_get later.words at_place ≡ slice_get words at_place) × IsMember b to
  Stays to words (Stopped b later) = slice_get later.words at_place ≡ slice_get words at_place
  Stays to words (Accepts b later) = (slice_get later.words at_place ≡ slice_get words at_place) × IsMember b to
  Stays to words (Trapped cause) = Unit {0}
  Stays to words Unfinished = Unit {0}

  module _ (to : List ℕ) (words : List ℤ) where
    abbrev Kept : Outcome → Type 0
    Kept = Stays to words

    on_top_kept : (xs : List ℤ) (go : ℤ → List ℤ → Outcome) → ((x : ℤ) (rest : List ℤ) → Kept (go x rest)) → Kept (on_top xs go)
    on_top_kept [] go h = tt
    on_top_kept (x ∷ xs) go h = h x xs

    cond_kept : (b : Bool) (one other : Outcome) → Kept one → Kept other → Kept (cond b one other)
    cond_kept true one other h i = h
    cond_kept false one other h i = i

    or_trap_kept : {A : Type 0} (r : Result A Cause) (go : A → Outcome) → ((a : A) → Kept (go a)) → Kept (or_trap r go)
    or_trap_kept (Ok a) go h = h a
    or_trap_kept (Err cause) go h = tt

    if_there_kept : {A : Type 0} (o : Option A) (go : A → Outcome) → ((a : A) → o ≡ Some a → Kept (go a)) → Kept (if_there o go)
    if_there_kept None go h = tt
    if_there_kept (Some a) go h = h a refl

module _ (c : Code) (groups : List Membership) (t : Table) (see : Sight) (levels : Levels) (most k : ℕ)
    (inside : k < (here c see).words) (a : ℕ) (e : Entry) (operands : List ℤ) (m : Workspace)
    (fits : Fits c t see levels a e operands m) (small : AreSmall most e.operands) where
  abbrev At : ℕ
  At = variables_place (here c see) + k

  abbrev KeptBy : Instr → Type 0
  KeptBy i = Stays c see k (successors c i a) m.words (act c see i a operands m)

  next : IsMember (a + 1) ((a + 1) ∷ [])
  next = inl refl

  -- the words of calls lie behind those of variables
  behind : body_place (here c see) ≤ base_of (here c see) m.calls
  behind = bases_rise c t see.process m.calls e.within e.blocks levels fits.layout.body

  all_there : At < length m.words
  all_there = let long = fits.layout.words_are in let low = behind in omega arith

  elsewhere : (n : ℕ) (x : ℤ) → (At ≡ n → ⊥) → slice_get (slice_set m.words n x) At ≡ slice_get m.words At
  elsewhere n x ne = set_elsewhere m.words n x At ne

  -- an operator on two operands
  operates : (f : ℤ → ℤ → Result ℤ Cause) → Stays c see k ((a + 1) ∷ []) m.words (operate c see f a operands m)
  operates f =
      on_top_kept c see k ((a + 1) ∷ []) m.words operands _ (λ y rest.
      on_top_kept c see k ((a + 1) ∷ []) m.words rest _ (λ x others.
      or_trap_kept c see k ((a + 1) ∷ []) m.words (f x y) _ (λ z. (refl, next))))

  top_goes : (f : ℤ → List ℤ → List ℤ) → Stays c see k ((a + 1) ∷ []) m.words (on_top operands (λ x rest. Going (a + 1) (f x rest) m))
  top_goes f = on_top_kept c see k ((a + 1) ∷ []) m.words operands _ (λ x rest. (refl, next))

  -- a word of a variable
  not_stored : (v : Spot) (i : ℕ) → ((j : ℕ) → v ≡ Global j → k ≡ j + i → ⊥) → At ≡ place c see m.calls v + i → ⊥
  not_stored (Global j) i other e = other j refl (omega arith)
  not_stored (Local j) i other e = let low = behind in omega arith

  stores : (v : Spot) → (MayStore most (Store v) k → ⊥) → KeptBy (Store v)
  stores v other =
      on_top_kept c see k ((a + 1) ∷ []) m.words operands _ (λ x rest.
      (elsewhere (place c see m.calls v) x (λ e. not_stored v 0 (λ j is same. other (subst (λ w. MayStore most (Store w) k) (sym is) (omega (arith, same), omega (arith, same)))) (omega arith)), next))

  -- an index is below its bound
  index_below : (o : Option ℕ) (os : List (Option ℕ)) (P : ℕ → Type 0) (x : ℤ) → IsBelow o P → AreSmall most (o ∷ os) → OperandFits o x
      → natural x < most
  index_below None os P x is few fit = absurd is
  index_below (Some n) os P x is few (i, same, less) = subst (λ (z : ℤ). natural z < most) (sym same) (omega (arith, less, few.0))

  second : (v : Spot) (x : ℤ) (os : List (Option ℕ)) (xs : List ℤ) → (MayStore most (StoreAt v) k → ⊥)
      → TopIs os (λ p ps. IsBelow p (λ n. InRange (globals c groups t e) e.words v n) × LeadsTo c groups t (a + 1) (changed ps e.words e))
      → AreSmall most os → OperandsFit os xs
      → Stays c see k ((a + 1) ∷ []) m.words (on_top xs (λ i others. Going (a + 1) others (written (place c see m.calls v + natural i) x m)))
  second v x [] xs other f few fit = absurd f
  second v x (p ∷ ps) [] other f few fit = absurd fit
  second v x (p ∷ ps) (i ∷ others) other f few fit =
      let less = index_below p ps (λ n. InRange (globals c groups t e) e.words v n) i f.0 few fit.0 in
      let ne : At ≡ place c see m.calls v + natural i → ⊥ =
      not_stored v (natural i) (λ j is same. other (subst (λ w. MayStore most (StoreAt w) k) (sym is) (omega (arith, same), omega (arith, same, less)))) in
      (elsewhere (place c see m.calls v + natural i) x ne, next)

  stores_at : (v : Spot) → Fine c groups t (StoreAt v) a e → (MayStore most (StoreAt v) k → ⊥) → KeptBy (StoreAt v)
  stores_at v fine other = by e.operands operands fine small fits.operands_fit
    where
      by : (os : List (Option ℕ)) (xs : List ℤ)
          → TopIs os (λ o rest. TopIs rest (λ p ps.
          IsBelow p (λ n. InRange (globals c groups t e) e.words v n) × LeadsTo c groups t (a + 1) (changed ps e.words e)))
          → AreSmall most os → OperandsFit os xs → Stays c see k ((a + 1) ∷ []) m.words (act c see (StoreAt v) a xs m)
      by [] xs f few fit = absurd f
      by (o ∷ os) [] f few fit = absurd fit
      by (o ∷ os) (x ∷ xs) f few fit = second v x os xs other f (rest_small most o os few) fit.1

  -- a cursor stands before the variables
  no_cursor : (channel : ℕ) → IsAmong channel (here c see).channels → At ≡ cursor_place (here c see) channel → ⊥
  no_cursor channel among e = omega (arith, among, e)

  puts : (channel : ℕ) → Fine c groups t (Put channel) a e → KeptBy (Put channel)
  puts channel fine =
      let among : IsAmong channel (here c see).channels = subst (ModeFits c see a) fine.0 fits.mode_fits in
      on_top_kept c see k ((a + 1) ∷ []) m.words operands _ (λ x rest.
      (elsewhere (cursor_place (here c see) channel) _ (no_cursor channel among), next))

  takes : (channel : ℕ) → Fine c groups t (Take channel) a e → KeptBy (Take channel)
  takes channel fine =
      let met : ModeFits c see a (MayTake channel) = subst (ModeFits c see a) fine.0 fits.mode_fits in
      if_there_kept c see k ((a + 1) ∷ []) m.words see.message _ (λ v q.
      (elsewhere (cursor_place (here c see) channel) _ (no_cursor channel met.0), next))

  -- an alternate of a block
  member_at : (xs : List ℕ) (n x : ℕ) → slice_get xs n ≡ Some x → IsMember x xs
  member_at [] n x e = absurd (none_some e)
  member_at (y ∷ xs) zero x e = inl (some_same e)
  member_at (y ∷ xs) (suc n) x e = inr (member_at xs n x e)

  alternate_in : (o : Option Block) (n x : ℕ) → alternate_address o n ≡ Some x → IsMember x (alternates_at o)
  alternate_in None n x e = absurd (none_some e)
  alternate_in (Some block) zero x e = absurd (none_some e)
  alternate_in (Some block) (suc n) x e = member_at block.alternates n x e

  ranges : (j b : ℕ) (x y : ℤ) (xs : List ℤ) (n : ℕ) → Stays c see k (b ∷ (a + 1) ∷ []) m.words (ranged j b (a + 1) x y xs m n)
  ranges j b x y xs zero = (refl, inl refl)
  ranges j b x y xs (suc n) = (refl, inr (inl refl))

  absents : (channel b : ℕ) (message : Option ℤ)
      → Stays c see k (b ∷ (a + 1) ∷ []) m.words (act c (record see { message = message }) (Absent channel b) a operands m)
  absents channel b None = (refl, inl refl)
  absents channel b (Some v) = (refl, inr (inl refl))

  drops : (n : ℕ) → Fine c groups t (Drop n) a e → slice_get (take (length m.words - n) m.words) At ≡ slice_get m.words At
  drops n fine =
      let long = fits.layout.words_are in let low = behind in let few = fine.0 in
      slice_get-take (length m.words - n) m.words At (omega arith)

  pub stays : (i : Instr) → Fine c groups t i a e → (MayStore most i k → ⊥) → KeptBy i
  stays Turn fine other = refl
  stays Done fine other = refl
  stays (Push n) fine other = (refl, next)
  stays (Load v) fine other = (refl, next)
  stays (Prior v) fine other = (refl, next)
  stays (Bound n) fine other =
      on_top_kept c see k ((a + 1) ∷ []) m.words operands _ (λ i rest. cond_kept c see k ((a + 1) ∷ []) m.words (within n i) _ _ (refl, next) tt)
  stays (LoadAt v) fine other = on_top_kept c see k ((a + 1) ∷ []) m.words operands _ (λ i rest. (refl, next))
  stays (PriorAt v) fine other = on_top_kept c see k ((a + 1) ∷ []) m.words operands _ (λ i rest. (refl, next))
  stays (Store v) fine other = stores v other
  stays (StoreAt v) fine other = stores_at v fine other
  stays Add fine other = operates (applied op.Add)
  stays Sub fine other = operates (applied op.Sub)
  stays Mul fine other = operates (applied op.Mul)
  stays Div fine other = operates (applied op.Div)
  stays Rem fine other = operates (applied op.Rem)
  stays Eq fine other = operates (applied op.Eq)
  stays Ne fine other = operates (applied op.Ne)
  stays Lt fine other = operates (applied op.Lt)
  stays Le fine other = operates (applied op.Le)
  stays Gt fine other = operates (applied op.Gt)
  stays Ge fine other = operates (applied op.Ge)
  stays Neg fine other =
      on_top_kept c see k ((a + 1) ∷ []) m.words operands _ (λ x rest.
      or_trap_kept c see k ((a + 1) ∷ []) m.words (fitting (neg_ℤ x)) _ (λ z. (refl, next)))
  stays Not fine other = on_top_kept c see k ((a + 1) ∷ []) m.words operands _ (λ x rest. (refl, next))
  stays ToBool fine other = on_top_kept c see k ((a + 1) ∷ []) m.words operands _ (λ x rest. (refl, next))
  stays (Jump b) fine other = (refl, inl refl)
  stays (JumpZero b) fine other =
      on_top_kept c see k (b ∷ (a + 1) ∷ []) m.words operands _ (λ x rest.
      cond_kept c see k (b ∷ (a + 1) ∷ []) m.words (is_zero x) _ _ (refl, inl refl) (refl, inr (inl refl)))
  stays (Frame n) fine other =
      cond_kept c see k ((a + 1) ∷ []) m.words (has_words_for c (here c see) (length m.words + n)) (Going (a + 1) operands (framed n m))
      (Trapped Stack) (slice_get-front m.words (replicate n (pos 0)) At all_there, next) tt
  stays (Drop n) fine other = (drops n fine, next)
  stays (Text j) fine other = if_there_kept c see k ((a + 1) ∷ []) m.words (slice_get c.texts j) _ (λ text q. (refl, next))
  stays Item fine other = on_top_kept c see k ((a + 1) ∷ []) m.words operands _ (λ x rest. (refl, next))
  stays Print fine other =
      let line = joined_pieces m.pieces in
      let bytes = natural (word_at m.words held_place) + (length line + 1) in
      cond_kept c see k ((a + 1) ∷ []) m.words (nat_lt most_held bytes) (Trapped Hold) (Going (a + 1) operands (line_held bytes line m)) tt
      (elsewhere held_place (pos bytes) (λ e. omega (arith, e)), next)
  stays (Room channel) fine other = (refl, next)
  stays (Put channel) fine other = puts channel fine
  stays (There channel) fine other = (refl, next)
  stays (Take channel) fine other = takes channel fine
  stays (Call b p n) fine other =
      let opened : Outcome = Going b (below p operands) (called (a + 1) (arguments p operands) n m) in
      let fits : Bool = has_words_for c (here c see) (length m.words + (p + n)) in
      cond_kept c see k (b ∷ (a + 1) ∷ []) m.words (nat_le most_calls (length m.calls)) (Trapped Calls) (cond fits opened (Trapped Stack)) tt
      (cond_kept c see k (b ∷ (a + 1) ∷ []) m.words fits opened (Trapped Stack)
      (slice_get-front m.words (arguments p operands ++ replicate n (pos 0)) At all_there, inl refl) tt)
  stays Return fine other = absurd (other tt)
  stays Fail fine other = tt
  stays (Enter b) fine other = tt
  stays (Start b) fine other =
      if_there_kept c see k (alternates_at (slice_get c.blocks b)) m.words (alternate_address (slice_get c.blocks b) see.alternate) _ (λ at q.
      (refl, alternate_in (slice_get c.blocks b) see.alternate at q))
  stays (Test b) fine other =
      on_top_kept c see k ((a + 1) ∷ []) m.words operands _ (λ x rest. cond_kept c see k ((a + 1) ∷ []) m.words (is_zero x) _ _ tt (refl, next))
  stays (Range j b) fine other =
      on_top_kept c see k (b ∷ (a + 1) ∷ []) m.words operands _ (λ y rest.
      on_top_kept c see k (b ∷ (a + 1) ∷ []) m.words rest _ (λ x others.
      or_trap_kept c see k (b ∷ (a + 1) ∷ []) m.words (span x y) _ (λ n. ranges j b x y others n)))
  stays (Again j b) fine other =
      if_there_kept c see k (b ∷ (a + 1) ∷ []) m.words (counter_at j m) _ (λ counter q.
      cond_kept c see k (b ∷ (a + 1) ∷ []) m.words (int_lt counter.now counter.end) _ _ (refl, inl refl) (refl, inr (inl refl)))
  stays (Counter j) fine other = if_there_kept c see k ((a + 1) ∷ []) m.words (counter_at j m) _ (λ counter q. (refl, next))
  stays (Absent channel b) fine other = absents channel b see.message
