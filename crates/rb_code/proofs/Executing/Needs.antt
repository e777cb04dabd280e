-- An instruction of sound code finds what it needs.
use Rattle.std.proofs.Common.{◌≡◌, inl, inr, ℕ, ◌+◌, ◌-◌, ◌<◌, ◌≤◌, ℤ, List, [], ◌∷◌, length, slice_get, Option, Some, None, refl, ap, ◌∙◌, subst, arith}
use Rattle.rb_world.specs.Kind.{Membership}
use Rattle.rb_code.specs.Instructions.Plain.{Code}
use Rattle.rb_code.specs.WordMachine.Workspace.{Counting, Workspace, OpenCall, base_of, body_place, cursor_place, part_of}
use Rattle.rb_code.specs.WordMachine.Act.{Sight, counter_at, here, place}
use Rattle.rb_code.specs.SoundCode.Sound.{Fresh, MayPut, MayTake, Entry, Fine, HasTable, InRange, InnermostIs, IsAbove, IsBelow, IsSet, Loop, OpenBlock, Table, TopIs}
use Rattle.rb_code.specs.SoundCode.Safe.{HasCall, HasTop, IsElement, IsThere, Ready, StayAbove}
use Rattle.rb_code.specs.SoundCode.Stands.{BodyFits, Counts, Fits, IsAmong, IsMet, Levels, LoopsFit, ModeFits, OperandFits, OperandsFit}
use Rattle.rb_code.specs.declared.instr.Spot.{Spot}
use Rattle.rb_code.specs.declared.instr.Spot.TheVariants.{Global, Local}
use Rattle.rb_code.specs.declared.instr.Instr.{Instr}
use Rattle.rb_code.specs.declared.instr.Instr.TheVariants.{Turn, Push, Load, Prior, Bound, LoadAt, PriorAt, Store, StoreAt, Add, Sub, Mul, Div, Rem, Eq, Ne, Lt, Le, Gt, Ge, Neg, Not, Bool as ToBool, Jump, JumpZero, Frame, Drop, Text, Item, Print, Room, Put, There, Take, Call, Return, Fail, Enter, Start, Test, Done, Range, Again, Counter, Absent}
use Rattle.rb_code.proofs.Looping.OpenLoops.{open_set}
use Rattle.rb_code.proofs.Executing.OpenLevels.{Innermost, TopBelow, bases_rise, body_process, innermost, returnable, stays, stays_above}

-- the words at the entry of the innermost level
abbrev pub former_words : Levels → List ℤ
former_words [] = []
former_words (level ∷ levels) = level.copy.words

pub as_long : (os : List (Option ℕ)) (xs : List ℤ) → OperandsFit os xs → length xs ≡ length os
as_long [] [] h = refl
as_long [] (x ∷ xs) h = absurd h
as_long (o ∷ os) [] h = absurd h
as_long (o ∷ os) (x ∷ xs) h = let r = as_long os xs h.1 in omega arith

some_top : (os : List (Option ℕ)) (P : Option ℕ → List (Option ℕ) → Type 0) → TopIs os P → 0 < length os
some_top [] P h = absurd h
some_top (o ∷ os) P h = omega arith

two_top : (os : List (Option ℕ)) (P : Option ℕ → List (Option ℕ) → Option ℕ → List (Option ℕ) → Type 0)
    → TopIs os (λ o ps. TopIs ps (P o ps)) → 1 < length os
two_top [] P h = absurd h
two_top (o ∷ os) P h = let r = some_top os (P o os) h in omega arith

-- what is true of the top whatever it is
of_top : (A : Type 0) (os : List (Option ℕ)) (P : Option ℕ → List (Option ℕ) → Type 0) → TopIs os (λ o ps. A × P o ps) → A
of_top A [] P h = absurd h
of_top A (o ∷ os) P h = h.0

-- a counter of an open loop is there
pub set_there : (m : Workspace) (k : ℕ) (loops : List Loop) → IsSet k loops → LoopsFit m loops → IsThere (counter_at k m)
set_there m k [] s h = absurd s
set_there m k (loop ∷ around) (inl e) h = subst (λ j. IsThere (counter_at j m)) e (there (counter_at loop.counter m) h.1)
  where
    there : (o : Option Counting) → Counts o → IsThere o
    there None h = absurd h
    there (Some v) h = tt
set_there m k (loop ∷ around) (inr s) h = set_there m k around s h.4

module _ (c : Code) (groups : List Membership) (t : Table) (has : HasTable c groups t) (see : Sight) (levels : Levels)
    (former : see.prior ≡ former_words levels) where
  -- where a variable lies
  lies : (calls : List OpenCall) (v : Spot) (k n words height : ℕ) → body_place (here c see) ≤ base_of (here c see) calls
      → InRange (here c see).words words v n → k < n → height ≡ base_of (here c see) calls + words → place c see calls v + k < height
  lies calls (Global j) k n words height up h lt e = omega arith
  lies calls (Local j) k n words height up h lt e = omega arith

  lies_one : (calls : List OpenCall) (v : Spot) (words height : ℕ) → body_place (here c see) ≤ base_of (here c see) calls
      → InRange (here c see).words words v 1 → height ≡ base_of (here c see) calls + words → place c see calls v < height
  lies_one calls v words height up h e = let r = lies calls v 0 1 words height up h (omega arith) e in omega arith

  module _ (a : ℕ) (e : Entry) (operands : List ℤ) (m : Workspace) (fits : Fits c t see levels a e operands m)
      (above : IsAbove e.blocks e.words) where
    up : body_place (here c see) ≤ base_of (here c see) m.calls
    up = bases_rise c t see.process m.calls e.within e.blocks levels fits.layout.body

    long : length operands ≡ length e.operands
    long = as_long e.operands operands fits.operands_fit

    -- a range over the words of the entry's process is one over those of this process
    range : (words n : ℕ) (v : Spot) → InRange (part_of c e.within.process).words words v n → InRange (here c see).words words v n
    range words n v h =
        subst (λ p. InRange (part_of c p).words words v n) (body_process c t see.process m.calls e.within e.blocks levels fits.layout.body) h

    -- an index below a bound is that of an element
    element : (o : Option ℕ) (x : ℤ) (v : Spot) (words : ℕ) (ws : List ℤ) → length ws ≡ base_of (here c see) m.calls + words
        → IsBelow o (λ n. InRange (part_of c e.within.process).words words v n) → OperandFits o x
        → IsElement c see ws (place c see m.calls v) x
    element None x v words ws e1 b h = absurd b
    element (Some n) x v words ws e1 b h =
        (h.0, h.1, lies m.calls v h.0 n words (length ws) up (range words n v b) h.2 e1)

    indexed : (os : List (Option ℕ)) (xs : List ℤ) (v : Spot) (P : Option ℕ → List (Option ℕ) → Type 0)
        → TopIs os (λ o ps. IsBelow o (λ n. InRange (part_of c e.within.process).words e.words v n) × P o ps) → OperandsFit os xs
        → HasTop xs (λ i rest. IsElement c see m.words (place c see m.calls v) i)
    indexed [] xs v P p h = absurd p
    indexed (o ∷ os) [] v P p h = absurd h
    indexed (o ∷ os) (x ∷ xs) v P p h = element o x v e.words m.words fits.layout.words_are p.0 h.0

    second_indexed : (os : List (Option ℕ)) (xs : List ℤ) (v : Spot) (P : Option ℕ → List (Option ℕ) → Type 0)
        → TopIs os (λ o ps. TopIs ps (λ q qs. IsBelow q (λ n. InRange (part_of c e.within.process).words e.words v n) × P q qs))
        → OperandsFit os xs → HasTop xs (λ x rest. HasTop rest (λ i others. IsElement c see m.words (place c see m.calls v) i))
    second_indexed [] xs v P p h = absurd p
    second_indexed (o ∷ os) [] v P p h = absurd h
    second_indexed (o ∷ os) (x ∷ xs) v P p h = indexed os xs v P p h.1

    -- the words at the entry of the innermost block are those of a level
    former_long : (block : OpenBlock) (around : List OpenBlock) → Innermost c t see.process m.calls e.within block around levels
        → length see.prior ≡ base_of (here c see) m.calls + block.words
    former_long block around i =
        ap length former ∙ (ap (λ ls. length (former_words ls)) i.levels_are ∙ i.fits.words_are)

    former_word : (blocks : List OpenBlock) (v : Spot)
        → InnermostIs blocks (λ block around. InRange (part_of c e.within.process).words block.words v 1) → e.blocks ≡ blocks
        → place c see m.calls v < length see.prior
    former_word [] v p q = absurd p
    former_word (block ∷ around) v p q =
        let i = innermost c t see.process m.calls e.within block around levels
        (subst (λ bs. BodyFits c t see.process m.calls e.within bs levels) q fits.layout.body) in
        lies_one m.calls v block.words (length see.prior) up (range block.words 1 v p) (former_long block around i)

    former_element : (blocks : List OpenBlock) (o : Option ℕ) (x : ℤ) (v : Spot)
        → InnermostIs blocks (λ block around. IsBelow o (λ n. InRange (part_of c e.within.process).words block.words v n)) → e.blocks ≡ blocks
        → OperandFits o x → IsElement c see see.prior (place c see m.calls v) x
    former_element [] o x v p q h = absurd p
    former_element (block ∷ around) o x v p q h =
        let i = innermost c t see.process m.calls e.within block around levels
        (subst (λ bs. BodyFits c t see.process m.calls e.within bs levels) q fits.layout.body) in
        element o x v block.words see.prior (former_long block around i) p h

    former_indexed : (os : List (Option ℕ)) (xs : List ℤ) (v : Spot) (P : Option ℕ → List (Option ℕ) → Type 0)
        → TopIs os (λ o ps. InnermostIs e.blocks (λ block around.
        IsBelow o (λ n. InRange (part_of c e.within.process).words block.words v n)) × P o ps)
        → OperandsFit os xs → HasTop xs (λ i rest. IsElement c see see.prior (place c see m.calls v) i)
    former_indexed [] xs v P p h = absurd p
    former_indexed (o ∷ os) [] v P p h = absurd h
    former_indexed (o ∷ os) (x ∷ xs) v P p h = former_element e.blocks o x v p.0 refl h.0

    -- the cursor of a channel of the process is among its words
    cursor : (channel : ℕ) → IsAmong channel (here c see).channels → cursor_place (here c see) channel < length m.words
    cursor channel h = let w = fits.layout.words_are in let u = up in omega arith

    may_put : (channel : ℕ) → e.mode ≡ MayPut channel → cursor_place (here c see) channel < length m.words
    may_put channel q = cursor channel (subst (ModeFits c see a) q fits.mode_fits)

    may_take : (channel : ℕ) → e.mode ≡ MayTake channel
        → IsThere see.message × (cursor_place (here c see) channel < length m.words)
    may_take channel q = let h = subst (ModeFits c see a) q fits.mode_fits in (h.1, cursor channel h.0)

    -- an instruction behind a `turn` gets what it asks for
    met : (i : Instr) → slice_get c.instrs a ≡ Some i → e.mode ≡ Fresh → IsMet c see (Some i)
    met i at q = subst (IsMet c see) at (subst (ModeFits c see a) q fits.mode_fits)

    has_call : (calls : List OpenCall) → HasCall calls (λ call. (call.base ≤ length m.words) × TopBelow call.base levels)
        → HasCall calls (λ call. (call.base ≤ length m.words) × StayAbove m.touched call.base)
    has_call [] h = absurd h
    has_call (call ∷ calls) h = (h.0, stays_above m.touched levels call.base fits.layout.heights h.1)

    pub ready : (i : Instr) → slice_get c.instrs a ≡ Some i → Fine c groups t i a e → Ready c see i operands m
    ready Turn at fine = tt
    ready Done at fine = tt
    ready (Push n) at fine = let l = long in omega (arith, fine.0)
    ready (Load v) at fine =
        let l = long in
        (omega (arith, fine.1.0), lies_one m.calls v e.words (length m.words) up (range e.words 1 v fine.0) fits.layout.words_are)
    ready (Prior v) at fine = let l = long in (omega (arith, fine.1.0), former_word e.blocks v fine.0 refl)
    ready (Bound n) at fine = let l = long in let r = some_top e.operands _ fine.1 in omega arith
    ready (LoadAt v) at fine = indexed e.operands operands v _ fine fits.operands_fit
    ready (PriorAt v) at fine = former_indexed e.operands operands v _ fine fits.operands_fit
    ready (Store v) at fine =
        let l = long in
        let r = some_top e.operands _ fine in (
          omega arith,
          lies_one m.calls v e.words (length m.words) up (range e.words 1 v (of_top _ e.operands _ fine)) fits.layout.words_are,
        )
    ready (StoreAt v) at fine = second_indexed e.operands operands v _ fine fits.operands_fit
    ready Add at fine = let l = long in let r = two_top e.operands _ fine.1 in omega arith
    ready Sub at fine = let l = long in let r = two_top e.operands _ fine.1 in omega arith
    ready Mul at fine = let l = long in let r = two_top e.operands _ fine.1 in omega arith
    ready Div at fine = let l = long in let r = two_top e.operands _ fine.1 in omega arith
    ready Rem at fine = let l = long in let r = two_top e.operands _ fine.1 in omega arith
    ready Eq at fine = let l = long in let r = two_top e.operands _ fine in omega arith
    ready Ne at fine = let l = long in let r = two_top e.operands _ fine in omega arith
    ready Lt at fine = let l = long in let r = two_top e.operands _ fine in omega arith
    ready Le at fine = let l = long in let r = two_top e.operands _ fine in omega arith
    ready Gt at fine = let l = long in let r = two_top e.operands _ fine in omega arith
    ready Ge at fine = let l = long in let r = two_top e.operands _ fine in omega arith
    ready Neg at fine = let l = long in let r = some_top e.operands _ fine.1 in omega arith
    ready Not at fine = let l = long in let r = some_top e.operands _ fine in omega arith
    ready ToBool at fine = let l = long in let r = some_top e.operands _ fine in omega arith
    ready (Jump b) at fine = tt
    ready (JumpZero b) at fine = let l = long in let r = some_top e.operands _ fine in omega arith
    ready (Frame n) at fine = tt
    ready (Drop n) at fine =
        let w = fits.layout.words_are in
        let k = fine.0 in (
          omega arith,
          subst (StayAbove m.touched) (let w1 = w in omega arith)
              (stays_above m.touched levels (base_of (here c see) m.calls + (e.words - n)) fits.layout.heights
              (stays c t see.process groups has m.calls e.within e.blocks (e.words - n) levels fits.layout.body fine.1)),
        )
    ready (Text k) at fine = (fine.0, let q = fits.pieces_are in omega (arith, fine.1))
    ready Item at fine =
        let l = long in
        let r = some_top e.operands _ fine.1 in
        (omega arith, let q = fits.pieces_are in omega (arith, fine.0))
    ready Print at fine = let w = fits.layout.words_are in let u = up in omega arith
    ready (Room channel) at fine = tt
    ready (Put channel) at fine =
        let l = long in let r = some_top e.operands _ fine.1 in (omega arith, may_put channel fine.0)
    ready (There channel) at fine = tt
    ready (Take channel) at fine =
        let l = long in let k = may_take channel fine.0 in (omega (arith, fine.1), k.0, k.1)
    ready (Call b p n) at fine = let l = long in omega (arith, fine.1)
    ready Return at fine =
        has_call m.calls
        (returnable c t see.process groups has m.calls e.within e.blocks levels (length m.words) e.words fits.layout.body fine.0 fine.3
        fits.layout.words_are)
    ready Fail at fine = tt
    ready (Enter b) at fine = met (Enter b) at fine.0
    ready (Start b) at fine = met (Start b) at fine.0
    ready (Test b) at fine = let l = long in let r = some_top e.operands _ fine.3 in omega arith
    ready (Range k b) at fine = let l = long in let r = two_top e.operands _ fine.3 in (omega arith, fine.1)
    ready (Again k b) at fine = set_there m k e.loops (open_set _ e.loops fine.1) fits.loops_fit
    ready (Counter k) at fine =
        let l = long in (omega (arith, fine.1.0), set_there m k e.loops fine.0 fits.loops_fit)
    ready (Absent channel b) at fine = tt
