-- The open levels of a process against the open blocks of its table: what an entry needs of them, and where words may fall to.
use Rattle.std.proofs.Common.{◌≡◌, ℕ, ◌+◌, ◌≤◌, List, [], ◌∷◌, ◌++◌, length, map, reverse, drop, Option, Some, None, refl, ap, sym, ◌∙◌, subst, arith}
use Rattle.std.proofs.lemmas.List.{reverse-append}
use Rattle.rb_world.specs.Kind.{Membership}
use Rattle.rb_cache.specs.Copies.{Level as Touched, accepted, change_last, joined}
use Rattle.rb_code.specs.Instructions.Plain.{Code}
use Rattle.rb_code.specs.WordMachine.Workspace.{OpenCall, base_of, body_place, part_of}
use Rattle.rb_code.specs.SoundCode.Sound.{Entry, HasTable, IsAbove, IsOfProcedure, OpenBlock, Table, Within}
use Rattle.rb_code.specs.SoundCode.Safe.{HasCall, StayAbove}
use Rattle.rb_code.specs.SoundCode.Stands.{BodyFits, LevelFits, Levels, LevelsFit, Opened, ReturnsTo, height_of}

abbrev pub heights_of : List Touched → List ℕ
heights_of = map (λ level. level.height)

abbrev first_or : List ℕ → ℕ
first_or [] = 0
first_or (x ∷ xs) = x

-- touching places changes no height
pub heights-touched : (places : List ℕ) (touched : List Touched) → heights_of (change_last (joined places) touched) ≡ heights_of touched
heights-touched places [] = refl
heights-touched places (l ∷ []) = refl
heights-touched places (l ∷ k ∷ inner) = ap (λ hs. l.height ∷ hs) (heights-touched places (k ∷ inner))

-- nor does accepting the innermost level, which goes
pub heights-accepted : (touched : List Touched) (hs : List ℕ) (h : ℕ) → heights_of touched ≡ hs ++ h ∷ [] → heights_of (accepted touched) ≡ hs
heights-accepted [] [] h e = absurd (let n = ap length e in omega arith)
heights-accepted [] (x ∷ hs) h e = absurd (let n = ap length e in omega arith)
heights-accepted (l ∷ []) [] h e = refl
heights-accepted (l ∷ []) (x ∷ []) h e = absurd (let n = ap length e in omega arith)
heights-accepted (l ∷ []) (x ∷ y ∷ hs) h e = absurd (let n = ap length e in omega arith)
heights-accepted (l ∷ k ∷ []) [] h e = absurd (let n = ap length e in omega arith)
heights-accepted (l ∷ k ∷ []) (x ∷ []) h e = ap (λ n. n ∷ []) (ap first_or e)
heights-accepted (l ∷ k ∷ []) (x ∷ y ∷ []) h e = absurd (let n = ap length e in omega arith)
heights-accepted (l ∷ k ∷ []) (x ∷ y ∷ z ∷ hs) h e = absurd (let n = ap length e in omega arith)
heights-accepted (l ∷ k ∷ j ∷ inner) [] h e = absurd (let n = ap length e in omega arith)
heights-accepted (l ∷ k ∷ j ∷ inner) (x ∷ hs) h e =
    ap (λ n. n ∷ heights_of (accepted (k ∷ j ∷ inner))) (ap first_or e)
    ∙ ap (λ ns. x ∷ ns) (heights-accepted (k ∷ j ∷ inner) hs h (ap (drop 1) e))

-- words stay above those at the entry of the innermost level
last_stays : (touched : List Touched) (hs : List ℕ) (h words : ℕ) → heights_of touched ≡ hs ++ h ∷ [] → h ≤ words → StayAbove touched words
last_stays [] hs h words e low = tt
last_stays (l ∷ []) [] h words e low = let n = ap first_or e in omega arith
last_stays (l ∷ []) (x ∷ []) h words e low = absurd (let n = ap length e in omega arith)
last_stays (l ∷ []) (x ∷ y ∷ hs) h words e low = absurd (let n = ap length e in omega arith)
last_stays (l ∷ k ∷ inner) [] h words e low = absurd (let n = ap length e in omega arith)
last_stays (l ∷ k ∷ inner) (x ∷ hs) h words e low = last_stays (k ∷ inner) hs h words (ap (drop 1) e) low

-- the words at the entry of the innermost level are at most so many
abbrev pub TopBelow : ℕ → Levels → Type 0
TopBelow words [] = Unit {0}
TopBelow words (level ∷ levels) = height_of level ≤ words

none_touched : (touched : List Touched) → heights_of touched ≡ [] → touched ≡ []
none_touched [] e = refl
none_touched (l ∷ touched) e = absurd (let n = ap length e in omega arith)

pub stays_above : (touched : List Touched) (levels : Levels) (words : ℕ) → heights_of touched ≡ reverse (map height_of levels)
    → TopBelow words levels → StayAbove touched words
stays_above touched [] words e low = subst (λ ts. StayAbove ts words) (sym (none_touched touched e)) tt
stays_above touched (level ∷ levels) words e low =
    last_stays touched (reverse (map height_of levels)) (height_of level) words
    (e ∙ reverse-append (height_of level ∷ []) (map height_of levels)) low

-- the same of fewer words
top_below_less : (levels : Levels) (words more : ℕ) → words ≤ more → TopBelow words levels → TopBelow more levels
top_below_less [] words more le h = tt
top_below_less (level ∷ levels) words more le h = omega arith

module _ (c : Code) (t : Table) (p : ℕ) where
  -- of an open block there is a level, and the levels around it fit the blocks around it
  pub record Innermost (calls : List OpenCall) (within : Within) (block : OpenBlock) (around : List OpenBlock) (levels : Levels) : Type 0 where
    pub level : Opened
    pub others : Levels
    pub levels_are : levels ≡ level ∷ others
    pub fits : LevelFits c t within block around (base_of (part_of c p) calls + block.words) calls level
    pub body : BodyFits c t p calls within around others

  pub innermost : (calls : List OpenCall) (within : Within) (block : OpenBlock) (around : List OpenBlock) (levels : Levels)
      → BodyFits c t p calls within (block ∷ around) levels → Innermost calls within block around levels
  innermost [] within block around [] h = absurd h.1
  innermost [] within block around (level ∷ others) h =
      record { level = level; others = others; levels_are = refl; fits = h.1.0; body = (h.0, h.1.1) }
  innermost (call ∷ calls) within block around [] h = absurd h.2
  innermost (call ∷ calls) within block around (level ∷ others) h =
      record { level = level; others = others; levels_are = refl; fits = h.2.0; body = (h.0, h.1, h.2.1) }

  -- a body is one of the process
  pub body_process : (calls : List OpenCall) (within : Within) (blocks : List OpenBlock) (levels : Levels)
      → BodyFits c t p calls within blocks levels → within.process ≡ p
  body_process [] within blocks levels h = ap (λ w. w.process) h.0
  body_process (call ∷ calls) within blocks levels h = h.0

  -- what is true of the entry that a call goes back to
  pub at_back : (R : Type 0) (back : ℕ) (P : Entry → Type 0) → ReturnsTo (t back) P → ((g : Entry) → t back ≡ Some g → P g → R) → R
  at_back R back P r k = by (t back) refl r
    where
      by : (o : Option Entry) → t back ≡ o → ReturnsTo o P → R
      by None q h = absurd h
      by (Some g) q h = k g q h.4

  -- beyond the levels of a body's own blocks
  past : (R : Type 0) (within : Within) (base : ℕ) (calls : List OpenCall) (blocks : List OpenBlock) (levels : Levels)
      (Around : Levels → Type 0) → LevelsFit c t within base calls blocks levels Around → ((others : Levels) → Around others → R) → R
  past R within base calls [] levels Around h k = k levels h
  past R within base calls (block ∷ blocks) [] Around h k = absurd h
  past R within base calls (block ∷ blocks) (level ∷ levels) Around h k = past R within base calls blocks levels Around h.1 k

  -- the words of a call lie above those of the main body
  pub bases_rise : (calls : List OpenCall) (within : Within) (blocks : List OpenBlock) (levels : Levels)
      → BodyFits c t p calls within blocks levels → body_place (part_of c p) ≤ base_of (part_of c p) calls
  bases_rise [] within blocks levels h = omega arith
  bases_rise (call ∷ calls) within blocks levels h =
      past (body_place (part_of c p) ≤ call.base) within call.base (call ∷ calls) blocks levels _ h.2 (λ others r.
      at_back (body_place (part_of c p) ≤ call.base) call.back _ r (λ g q k.
      let i = bases_rise calls g.within g.blocks others k.1 in let e = k.0 in omega arith))

  module _ (groups : List Membership) (has : HasTable c groups t) where
    -- what every level keeps lies below the words
    pub stays : (calls : List OpenCall) (within : Within) (blocks : List OpenBlock) (words : ℕ) (levels : Levels)
        → BodyFits c t p calls within blocks levels → IsAbove blocks words → TopBelow (base_of (part_of c p) calls + words) levels
    stays [] within [] words levels h above = subst (TopBelow _) (sym h.1) tt
    stays [] within (block ∷ blocks) words [] h above = absurd h.1
    stays [] within (block ∷ blocks) words (level ∷ levels) h above = let e = h.1.0.words_are in omega arith
    stays (call ∷ calls) within (block ∷ blocks) words [] h above = absurd h.2
    stays (call ∷ calls) within (block ∷ blocks) words (level ∷ levels) h above = let e = h.2.0.words_are in omega arith
    stays (call ∷ calls) within [] words levels h above =
        at_back _ call.back _ h.2 (λ g q k.
        top_below_less levels _ _ (let e = k.0 in omega arith)
        (stays calls g.within g.blocks g.words levels k.1 (has.each call.back g q).above))

    -- and so for what a call goes back to
    pub returnable : (calls : List OpenCall) (within : Within) (blocks : List OpenBlock) (levels : Levels) (height words : ℕ)
        → BodyFits c t p calls within blocks levels → IsOfProcedure within.procedure → blocks ≡ [] → height ≡ base_of (part_of c p) calls + words
        → HasCall calls (λ call. (call.base ≤ height) × TopBelow call.base levels)
    returnable [] within blocks levels height words h procedure closed e = absurd (subst IsOfProcedure (ap (λ w. w.procedure) h.0) procedure)
    returnable (call ∷ calls) within blocks levels height words h procedure closed e = (
      omega arith,
      let r = subst (λ bs. LevelsFit c t within call.base (call ∷ calls) bs levels (λ others.
          ReturnsTo (t call.back) (λ g. (call.base ≡ base_of (part_of c p) calls + g.words) × BodyFits c t p calls g.within g.blocks others)))
          closed h.2 in
          at_back _ call.back _ r (λ g q k.
          top_below_less levels _ _ (let d = k.0 in omega arith)
          (stays calls g.within g.blocks g.words levels k.1 (has.each call.back g q).above)),
    )
