-- Templates whose instructions have small numbers, beside those that name what is there.
use Rattle.std.proofs.Common.{◌≡◌, ℕ, ◌<◌, ◌≤◌, List, slice_get, Some, sym, ap, ◌∙◌, subst, inl, inr, arith}
use Rattle.std.specs.Prelude.{FitsSigned}
use Rattle.std.specs.Int.{w64}
use Rattle.std.proofs.lemmas.Bool.{cases_lt}
use Rattle.rb_world.proofs.ListFacts.{some_same}
use Rattle.rb_code.specs.Instructions.Plain.{Block, Code}
use Rattle.rb_code.specs.Agreement.Template.{Template, One, ◌⨾◌, Empty, Only, At, Label, Listed, Quoted, WithBlock}
use Rattle.rb_code.specs.declared.instr.Instr.{Instr}
use Rattle.rb_code.specs.declared.instr.Instr.TheVariants.{Push, Load, Prior, Bound, LoadAt, PriorAt, Store, StoreAt, Frame, Drop, Text, Call}
use Rattle.rb_image.specs.Ranges.{IsNatural, IsSpot}

-- the numbers of an instruction that name nothing, and its words
abbrev pub IsSmall : Instr → Type 0
IsSmall (Push n) = FitsSigned w64 n
IsSmall (Load v) = IsSpot v
IsSmall (Prior v) = IsSpot v
IsSmall (Bound n) = IsNatural n
IsSmall (LoadAt v) = IsSpot v
IsSmall (PriorAt v) = IsSpot v
IsSmall (Store v) = IsSpot v
IsSmall (StoreAt v) = IsSpot v
IsSmall (Frame n) = IsNatural n
IsSmall (Drop n) = IsNatural n
IsSmall (Call a p n) = IsNatural p × IsNatural n
IsSmall other = Unit {0}

pub record Keeps (c : Code) (P : Template) : Type 0 where
  pub up : (a b : ℕ) → P c a b → a ≤ b
  pub each : (a b : ℕ) → P c a b → (k : ℕ) (i : Instr) → a ≤ k → k < b → slice_get c.instrs k ≡ Some i → IsSmall i

none_between : {X : Type 0} (a b k : ℕ) → b ≡ a → a ≤ k → k < b → X
none_between a b k e low high = absurd (omega arith)

pub one : {c : Code} (instr : Instr) → IsSmall instr → Keeps c (One instr)
one {c = c} instr small = record {
  up = λ a b p. (let e = p.1 in omega arith);
  each = λ a b p k i low high e.
      let e1 = p.1 in
      let here : k ≡ a = omega arith in
      subst IsSmall (some_same (sym p.0 ∙ ap (slice_get c.instrs) (sym here) ∙ e)) small;
}

infixr 5 ◌then◌
pub ◌then◌ : {c : Code} {P Q : Template} → Keeps c P → Keeps c Q → Keeps c (P ⨾ Q)
(s then t) = record {
  up = λ a b (m, p, q). (let f = s.up a m p in let g = t.up m b q in omega arith);
  each = λ a b (m, p, q) k i low high e.
      elim (cases_lt k m) [
        | inl lt ↦ s.each a m p k i low lt e
        | inr le ↦ t.each m b q k i le high e
      ];
}

pub nothing : {c : Code} → Keeps c Empty
nothing = record {
  up = λ a b e. omega (arith, e);
  each = λ a b e k i low high there. none_between a b k e low high;
}

pub at : {c : Code} (label : ℕ) → Keeps c (At label)
at label = record {
  up = λ a b p. (let e = p.1 in omega arith);
  each = λ a b p k i low high there. none_between a b k p.1 low high;
}

pub only : {c : Code} (X : Type 0) → Keeps c (Only X)
only X = record {
  up = λ a b p. (let e = p.1 in omega arith);
  each = λ a b p k i low high there. none_between a b k p.1 low high;
}

pub labelled : {c : Code} {P : ℕ → Template} → ((label : ℕ) → Keeps c (P label)) → Keeps c (Label P)
labelled t = record {
  up = λ a b (label, p). (t label).up a b p;
  each = λ a b (label, p). (t label).each a b p;
}

pub quoted : {c : Code} (text : List ℕ) → Keeps c (Quoted text)
quoted {c = c} text = record {
  up = λ a b (k, there, p). (let t : Keeps c (One (Text k)) = one (Text k) tt in t.up a b p);
  each = λ a b (k, there, p). (let t : Keeps c (One (Text k)) = one (Text k) tt in t.each a b p);
}

pub in_list : {c : Code} {P : List ℕ → Template} (addresses : List ℕ) → ((more : List ℕ) → Keeps c (P more)) → Keeps c (Listed addresses P)
in_list addresses t = record {
  up = λ a b (more, is, p). (t more).up a b p;
  each = λ a b (more, is, p). (t more).each a b p;
}

pub with_block : {c : Code} {P : Block → Template} (number : ℕ) → ((block : Block) → Keeps c (P block)) → Keeps c (WithBlock number P)
with_block number t = record {
  up = λ a b (block, there, p). (t block).up a b p;
  each = λ a b (block, there, p). (t block).each a b p;
}
