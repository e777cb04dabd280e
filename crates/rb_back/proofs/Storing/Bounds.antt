-- Within a turn no operand that the table knows to be below a number is known to be below more than the greatest `bound`.
use Rattle.std.proofs.Common.{◌≡◌, inl, inr, ℕ, ◌+◌, ◌≤◌, List, [], ◌∷◌, slice_get, Option, Some, None, refl, sym, ◌∙◌, subst}
use Rattle.rb_world.specs.Kind.{Membership}
use Rattle.rb_world.proofs.ListFacts.{some_same}
use Rattle.rb_code.specs.Instructions.Plain.{Code}
use Rattle.rb_code.specs.SoundCode.Reached.{successors}
use Rattle.rb_code.specs.SoundCode.Sound.{BeginsAs, Each, EndIs, Entry, Fine, Has, InnermostIs, IsMember, LeadsTo, OpenBlock, Table, Takes2, TopIs, WeakerOperands, alternates_at, at_address, changed, end_of_loop, with_operands}
use Rattle.rb_code.specs.SoundCode.Stands.{OperandsFit}
use Rattle.rb_code.specs.declared.instr.Instr.{Instr}
use Rattle.rb_code.specs.declared.instr.Instr.TheVariants.{Turn, Push, Load, Prior, Bound, LoadAt, PriorAt, Store, StoreAt, Add, Sub, Mul, Div, Rem, Eq, Ne, Lt, Le, Gt, Ge, Neg, Not, Bool as ToBool, Jump, JumpZero, Frame, Drop, Text, Item, Print, Room, Put, There, Take, Call, Return, Fail, Enter, Start, Test, Done, Range, Again, Counter, Absent}

-- a `bound` is at most this
abbrev pub IsBound : ℕ → Instr → Type 0
IsBound most (Bound n) = n ≤ most
IsBound most other = Unit {0}

-- what is known of operands is no more than this
abbrev pub AreSmall : ℕ → List (Option ℕ) → Type 0
AreSmall most [] = Unit {0}
AreSmall most (None ∷ os) = AreSmall most os
AreSmall most (Some n ∷ os) = (n ≤ most) × AreSmall most os

pub none_small : (most : ℕ) (os : List (Option ℕ)) → OperandsFit os [] → AreSmall most os
none_small most [] h = tt
none_small most (o ∷ os) h = absurd h

pub rest_small : (most : ℕ) (o : Option ℕ) (os : List (Option ℕ)) → AreSmall most (o ∷ os) → AreSmall most os
rest_small most None os h = h
rest_small most (Some n) os h = h.1

weaker_small : (most : ℕ) (os ps : List (Option ℕ)) → WeakerOperands os ps → AreSmall most os → AreSmall most ps
weaker_small most [] [] w h = tt
weaker_small most [] (p ∷ ps) w h = absurd w
weaker_small most (o ∷ os) [] w h = absurd w
weaker_small most (o ∷ os) (None ∷ ps) w h = weaker_small most os ps w.1 (rest_small most o os h)
weaker_small most (None ∷ os) (Some n ∷ ps) w h = absurd w.0
weaker_small most (Some k ∷ os) (Some n ∷ ps) w h = (subst (λ x. x ≤ most) w.0 h.0, weaker_small most os ps w.1 h.1)

module _ (c : Code) (groups : List Membership) (t : Table) (most : ℕ) where
  -- an address to which an entry with small operands leads has an entry with small operands
  abbrev pub SmallAt : ℕ → Type 0
  SmallAt b = (g : Entry) → t b ≡ Some g → AreSmall most g.operands

  arrives : (b : ℕ) (e : Entry) → LeadsTo c groups t b e → AreSmall most e.operands → SmallAt b
  arrives b e leads small g there = by (t b) there leads
    where
      by : (o : Option Entry) → o ≡ Some g → Has o (at_address b e) → AreSmall most g.operands
      by None q h = absurd h
      by (Some f) q h =
          subst (λ (one : Entry). AreSmall most one.operands) (some_same q) (weaker_small most e.operands f.operands h.operands small)

  -- the one address behind an instruction, or two
  only : (b x : ℕ) → IsMember b (x ∷ []) → SmallAt x → SmallAt b
  only b x (inl is) small = subst SmallAt is small
  only b x (inr none) small = absurd none

  either : (b x y : ℕ) → IsMember b (x ∷ y ∷ []) → SmallAt x → SmallAt y → SmallAt b
  either b x y (inl is) one other = subst SmallAt is one
  either b x y (inr more) one other = only b y more other

  each : (b : ℕ) (xs : List ℕ) → IsMember b xs → Each xs SmallAt → SmallAt b
  each b [] none all = absurd none
  each b (x ∷ xs) (inl is) all = subst SmallAt is all.0
  each b (x ∷ xs) (inr more) all = each b xs more all.1

  every : (xs : List ℕ) (P Q : ℕ → Type 0) → ((x : ℕ) → P x → Q x) → Each xs P → Each xs Q
  every [] P Q f h = tt
  every (x ∷ xs) P Q f h = (f x h.0, every xs P Q f h.1)

  -- with the top operand, or two
  top : (os : List (Option ℕ)) (Q : Option ℕ → List (Option ℕ) → Type 0) (R : Type 0) → TopIs os Q → AreSmall most os
      → ((o : Option ℕ) (ps : List (Option ℕ)) → Q o ps → AreSmall most ps → R) → R
  top [] Q R fine small go = absurd fine
  top (o ∷ os) Q R fine small go = go o os fine (rest_small most o os small)

  two : (os : List (Option ℕ)) (Q : Option ℕ → List (Option ℕ) → Option ℕ → List (Option ℕ) → Type 0) (R : Type 0)
      → TopIs os (λ o ps. TopIs ps (Q o ps)) → AreSmall most os
      → ((o : Option ℕ) (os1 : List (Option ℕ)) (p : Option ℕ) (ps : List (Option ℕ)) → Q o os1 p ps → AreSmall most ps → R) → R
  two os Q R fine small go =
      top os (λ o ps. TopIs ps (Q o ps)) R fine small (λ o ps q h. top ps (Q o ps) R q h (λ p others r i. go o ps p others r i))

  loop_end : (o : Option ℕ) (P : ℕ → Type 0) (R : Type 0) → EndIs o P → ((last : ℕ) → P last → R) → R
  loop_end None P R h go = absurd h
  loop_end (Some last) P R h go = go last h

  module _ (a : ℕ) (e : Entry) (small : AreSmall most e.operands) where
    replaces : Takes2 c groups t a e → SmallAt (a + 1)
    replaces fine = two e.operands _ (SmallAt (a + 1)) fine small (λ o os p ps leads h. arrives (a + 1) _ leads h)

    begins : (x p n : ℕ) (o : Option Entry) → t x ≡ o → BeginsAs o e.within.process x (p + n) → SmallAt x
    begins x p n None q h g there = absurd h
    begins x p n (Some f) q h g there =
        subst (λ (one : Entry). AreSmall most one.operands) (some_same (sym q ∙ there))
        (subst (λ (one : Entry). AreSmall most one.operands) (sym h) tt)

    accepts : (d : ℕ) (blocks : List OpenBlock) → InnermostIs blocks (λ block around. (block.number ≡ d) × (block.words ≡ e.words)
        × LeadsTo c groups t (a + 1) (record (changed [] e.words e) { blocks = around })) → SmallAt (a + 1)
    accepts d [] h = absurd h
    accepts d (block ∷ around) h = arrives (a + 1) _ h.2 tt

    pub flows : (i : Instr) → Fine c groups t i a e → IsBound most i → (b : ℕ)
        → IsMember b (successors c i a) → SmallAt b
    flows Turn fine few b to = only b (a + 1) to (arrives (a + 1) _ fine.3 small)
    flows Done fine few b to = absurd to
    flows (Push n) fine few b to = only b (a + 1) to (arrives (a + 1) _ fine.1 small)
    flows (Load v) fine few b to = only b (a + 1) to (arrives (a + 1) _ fine.1.1 small)
    flows (Prior v) fine few b to = only b (a + 1) to (arrives (a + 1) _ fine.1.1 small)
    flows (Bound n) fine few b to =
        only b (a + 1) to (top e.operands _ (SmallAt (a + 1)) fine.1 small (λ o os leads h. arrives (a + 1) _ leads (few, h)))
    flows (LoadAt v) fine few b to = only b (a + 1) to (top e.operands _ (SmallAt (a + 1)) fine small (λ o os q h. arrives (a + 1) _ q.1 h))
    flows (PriorAt v) fine few b to = only b (a + 1) to (top e.operands _ (SmallAt (a + 1)) fine small (λ o os q h. arrives (a + 1) _ q.1 h))
    flows (Store v) fine few b to = only b (a + 1) to (top e.operands _ (SmallAt (a + 1)) fine small (λ o os q h. arrives (a + 1) _ q.1 h))
    flows (StoreAt v) fine few b to =
        only b (a + 1) to (two e.operands _ (SmallAt (a + 1)) fine small (λ o os p ps q h. arrives (a + 1) _ q.1 h))
    flows Add fine few b to = only b (a + 1) to (replaces fine.1)
    flows Sub fine few b to = only b (a + 1) to (replaces fine.1)
    flows Mul fine few b to = only b (a + 1) to (replaces fine.1)
    flows Div fine few b to = only b (a + 1) to (replaces fine.1)
    flows Rem fine few b to = only b (a + 1) to (replaces fine.1)
    flows Eq fine few b to = only b (a + 1) to (replaces fine)
    flows Ne fine few b to = only b (a + 1) to (replaces fine)
    flows Lt fine few b to = only b (a + 1) to (replaces fine)
    flows Le fine few b to = only b (a + 1) to (replaces fine)
    flows Gt fine few b to = only b (a + 1) to (replaces fine)
    flows Ge fine few b to = only b (a + 1) to (replaces fine)
    flows Neg fine few b to = only b (a + 1) to (top e.operands _ (SmallAt (a + 1)) fine.1 small (λ o os leads h. arrives (a + 1) _ leads h))
    flows Not fine few b to = only b (a + 1) to (top e.operands _ (SmallAt (a + 1)) fine small (λ o os leads h. arrives (a + 1) _ leads h))
    flows ToBool fine few b to = only b (a + 1) to (top e.operands _ (SmallAt (a + 1)) fine small (λ o os leads h. arrives (a + 1) _ leads h))
    flows (Jump x) fine few b to = only b x to (arrives x _ fine.1 small)
    flows (JumpZero x) fine few b to =
        top e.operands _ (SmallAt b) fine small (λ o os q h. either b x (a + 1) to (arrives x _ q.1 h) (arrives (a + 1) _ q.2 h))
    flows (Frame n) fine few b to = only b (a + 1) to (arrives (a + 1) _ fine.1 small)
    flows (Drop n) fine few b to = only b (a + 1) to (arrives (a + 1) _ fine.2 small)
    flows (Text k) fine few b to = only b (a + 1) to (arrives (a + 1) _ fine.2 small)
    flows Item fine few b to = only b (a + 1) to (top e.operands _ (SmallAt (a + 1)) fine.1 small (λ o os leads h. arrives (a + 1) _ leads h))
    flows Print fine few b to = only b (a + 1) to (arrives (a + 1) _ fine.1 small)
    flows (Room channel) fine few b to = only b (a + 1) to (arrives (a + 1) _ fine.3 small)
    flows (There channel) fine few b to = only b (a + 1) to (arrives (a + 1) _ fine.3 small)
    flows (Absent channel x) fine few b to = either b x (a + 1) to (arrives x _ fine.4 small) (arrives (a + 1) _ fine.5 small)
    flows (Put channel) fine few b to = only b (a + 1) to (top e.operands _ (SmallAt (a + 1)) fine.1 small (λ o os leads h. arrives (a + 1) _ leads h))
    flows (Take channel) fine few b to = only b (a + 1) to (arrives (a + 1) _ fine.2 small)
    flows (Call x p n) fine few b to = either b x (a + 1) to (begins x p n (t x) refl fine.5) (arrives (a + 1) _ fine.6 tt)
    flows Return fine few b to = absurd to
    flows Fail fine few b to = only b (a + 1) to (arrives (a + 1) _ fine.1 small)
    flows (Enter d) fine few b to = only b (a + 1) to (arrives (a + 1) _ fine.5 tt)
    flows (Start d) fine few b to =
        each b (alternates_at (slice_get c.blocks d)) to
        (every (alternates_at (slice_get c.blocks d)) _ SmallAt (λ x leads. arrives x _ leads small) fine.3)
    flows (Test d) fine few b to =
        only b (a + 1) to (top e.operands _ (SmallAt (a + 1)) fine.3 small (λ o os q h. accepts d e.blocks q.1))
    flows (Range k x) fine few b to =
        two e.operands _ (SmallAt b) fine.3 small (λ o os p ps q h.
        loop_end (end_of_loop c k (a + 1)) _ (SmallAt b) q.2 (λ last leads.
        either b x (a + 1) to (arrives x _ q.1 h)
        (arrives (a + 1) (record (with_operands ps e) { loops = record { counter = k; first = a + 1; last = last } ∷ e.loops }) leads h)))
    flows (Again k x) fine few b to = either b x (a + 1) to (arrives x _ fine.2 small) (arrives (a + 1) _ fine.3 small)
    flows (Counter k) fine few b to = only b (a + 1) to (arrives (a + 1) _ fine.1.1 small)
