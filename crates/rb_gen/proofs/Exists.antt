-- There is code for every tree whose names are resolved and whose recovery blocks are numbered: the code of each form can be added to
-- any code so far.
use Rattle.std.proofs.Common.{◌≡◌, ℕ, List, length, Option, Some, None, refl, subst, pos}
use Rattle.std.specs.Prelude.{false}
use Rattle.rb_syntax.specs.declared.expression.Op.{Op}
use Rattle.rb_syntax.specs.declared.expression.Op.TheVariants as op
use Rattle.rb_syntax.specs.declared.expression.Quantifier.{Quantifier}
use Rattle.rb_syntax.specs.declared.expression.Quantifier.TheVariants.{Every, Any, Total}
use Rattle.rb_syntax.specs.Tree.{Expression, Literal, Variable, Former, Minus, Negation, Chained, Quantification, Refer, Scalar, Element, Links, NoLink, Linked}
use Rattle.rb_scope.specs.declared.slot.Slot.{Slot}
use Rattle.rb_code.specs.declared.instr.Instr.{Instr}
use Rattle.rb_code.specs.declared.instr.Spot.{Spot}
use Rattle.rb_code.specs.declared.instr.Instr.TheVariants.{Push, Load, Prior, Bound, LoadAt, PriorAt, Add, Sub, Mul, Div, Rem, Eq, Ne, Lt, Le, Gt, Ge, Neg, Not, Bool, Jump, JumpZero, Range, Again, Counter}
use Rattle.rb_code.specs.Instructions.Plain.{Code}
use Rattle.rb_code.specs.Agreement.Slots.{counter_of, elements_of, quantified_of, spot_of}
use Rattle.rb_code.specs.Agreement.Template.{Template, One, ◌⨾◌, Empty}
use Rattle.rb_code.specs.Agreement.Forms.{AndCode, ExpressionCode, LinksCode, OperatorCode, OrCode, QuantifiedCode, ScalarCode, SubscriptCode}
use Rattle.rb_draft.specs.Output.{Output, added, is_text, linked, patched}
use Rattle.rb_draft.specs.Emits.{Adds, Emits, Placed}
use Rattle.rb_draft.proofs.Emits.{as_if, at, both, empty, filled, labelled, one}
use Rattle.rb_gen.proofs.Rows.{then_adds}
use Rattle.rb_gen.proofs.QuantifiedRows.{every_row, some_row, sum_row}

-- a code so far to which code of a template was added
abbrev pub After : Template → Output → Type 0
After P c = (d : Output) × Adds P c d

-- code of a template can be added to any
abbrev pub Makes : Template → Type 0
Makes P = (c : Output) → After P c

-- ---- instructions

-- an instruction that names no text and is no call
pub add : (i : Instr) → is_text i ≡ false → ((p : ℕ) (w : Code) → linked p w i ≡ i) → (c : Output) → Adds (One i) c (added i c)
add i t plain c = λ p n. as_if (λ w a b h. subst (λ j. One j w a b) (plain p w) h) (one i c (added i c) refl refl refl t p n)

-- a place that was left is written
fill_left : (x : Instr) {p m n : ℕ} {P : Template} {c e : Output} → is_text x ≡ false → Emits (linked p) m n P (added (Jump 0) c) e
    → Emits (linked p) m n (Placed p x ⨾ P) c (patched e (length c.instrs) x)
fill_left x {c = c} {e = e} t q = filled x {k = length c.instrs} {d = added (Jump 0) c} {f = patched e (length c.instrs) x} t (refl, refl) refl q

pub makes_then : {P Q : Template} → Makes P → Makes Q → Makes (P ⨾ Q)
makes_then p q c = let a = p c in let b = q a.0 in (b.0, then_adds a.1 b.1)

pub makes_nothing : Makes Empty
makes_nothing c = (c, λ p n. empty n c)

pub makes_one : (i : Instr) → is_text i ≡ false → ((p : ℕ) (w : Code) → linked p w i ≡ i) → Makes (One i)
makes_one i t plain c = (added i c, add i t plain c)

-- ---- operators

and_made : {P : Template} → Makes P → Makes (AndCode P)
and_made p c =
    let right = p (added (Jump 0) c) in
    let c3 = added Bool right.0 in
    let c4 = added (Jump 0) c3 in
    let c5 = added (Push (pos 0)) c4 in
    let no = length c4.instrs in
    let end = length c5.instrs in (
      patched (patched c5 (length c3.instrs) (Jump end)) (length c.instrs) (JumpZero no),
      λ k n.
          labelled no (labelled end (fill_left (JumpZero no) refl (both (right.1 k n) (both (add Bool refl (λ j w. refl) right.0 k n)
          (fill_left (Jump end) refl (both (at n c4 refl) (both (add (Push (pos 0)) refl (λ j w. refl) c4 k n) (at n c5 refl)))))))),
    )

or_made : {P : Template} → Makes P → Makes (OrCode P)
or_made p c =
    let c1 = added (Jump 0) c in
    let c2 = added (Push (pos 1)) c1 in
    let c3 = added (Jump 0) c2 in
    let right = p c3 in
    let c5 = added Bool right.0 in
    let other = length c3.instrs in
    let end = length c5.instrs in (
      patched (patched c5 (length c2.instrs) (Jump end)) (length c.instrs) (JumpZero other),
      λ k n.
          labelled other (labelled end (fill_left (JumpZero other) refl (both (add (Push (pos 1)) refl (λ j w. refl) c1 k n)
          (fill_left (Jump end) refl (both (at n c3 refl) (both (right.1 k n) (both (add Bool refl (λ j w. refl) right.0 k n) (at n c5 refl)))))))),
    )

operator_made : (o : Op) {P : Template} → Makes P → Makes (OperatorCode o P)
operator_made op.Or p = or_made p
operator_made op.And p = and_made p
operator_made op.Eq p = makes_then p (makes_one Eq refl (λ j w. refl))
operator_made op.Ne p = makes_then p (makes_one Ne refl (λ j w. refl))
operator_made op.Lt p = makes_then p (makes_one Lt refl (λ j w. refl))
operator_made op.Le p = makes_then p (makes_one Le refl (λ j w. refl))
operator_made op.Gt p = makes_then p (makes_one Gt refl (λ j w. refl))
operator_made op.Ge p = makes_then p (makes_one Ge refl (λ j w. refl))
operator_made op.Add p = makes_then p (makes_one Add refl (λ j w. refl))
operator_made op.Sub p = makes_then p (makes_one Sub refl (λ j w. refl))
operator_made op.Mul p = makes_then p (makes_one Mul refl (λ j w. refl))
operator_made op.Div p = makes_then p (makes_one Div refl (λ j w. refl))
operator_made op.Rem p = makes_then p (makes_one Rem refl (λ j w. refl))

-- ---- quantified expressions

quantified_made : (kind : Quantifier) (k : ℕ) {low high over : Template} → Makes low → Makes high → Makes over
    → Makes (QuantifiedCode kind k low high over)
quantified_made Every k low high over c =
    let l = low c in
    let h = high l.0 in
    let c3 = added (Jump 0) h.0 in
    let b = over c3 in
    let again = length c3.instrs in
    let c5 = added (Jump 0) b.0 in
    let c6 = added (Again k again) c5 in
    let c7 = added (Push (pos 1)) c6 in
    let c8 = added (Jump 0) c7 in
    let c9 = added (Push (pos 0)) c8 in
    let d1 = patched c9 (length c7.instrs) (Jump (length c9.instrs)) in
    let d2 = patched d1 (length b.0.instrs) (JumpZero (length c8.instrs)) in (
      patched d2 (length h.0.instrs) (Range k (length c6.instrs)),
      every_row k {range = length h.0.instrs} {again = again} {test = length b.0.instrs} {full = length c6.instrs} {skip =
          length c7.instrs} {gone = length c8.instrs} {end = length c9.instrs}
          {c5 = c5} {c7 = c7} {c8 = c8} {c9 = c9} {d1 = d1} {d2 = d2}
          refl l.1 h.1 (refl, refl) refl b.1 (refl, refl) (add (Again k again) refl (λ j w. refl) c5) refl
          (add (Push (pos 1)) refl (λ j w. refl) c6) (refl, refl) refl
          (add (Push (pos 0)) refl (λ j w. refl) c8) refl refl refl refl,
    )
quantified_made Any k low high over c =
    let l = low c in
    let h = high l.0 in
    let c3 = added (Jump 0) h.0 in
    let b = over c3 in
    let again = length c3.instrs in
    let c5 = added (Jump 0) b.0 in
    let c6 = added (Push (pos 1)) c5 in
    let c7 = added (Jump 0) c6 in
    let c8 = added (Again k again) c7 in
    let c9 = added (Push (pos 0)) c8 in
    let d1 = patched c9 (length c6.instrs) (Jump (length c9.instrs)) in
    let d2 = patched d1 (length b.0.instrs) (JumpZero (length c7.instrs)) in (
      patched d2 (length h.0.instrs) (Range k (length c8.instrs)),
      some_row k {range = length h.0.instrs} {again = again} {test = length b.0.instrs} {skip = length c6.instrs} {next =
          length c7.instrs} {gone = length c8.instrs} {end = length c9.instrs}
          {c5 = c5} {c7 = c7} {c8 = c8} {c9 = c9} {d1 = d1} {d2 = d2}
          refl l.1 h.1 (refl, refl) refl b.1 (refl, refl) (add (Push (pos 1)) refl (λ j w. refl) c5) (refl, refl) refl
          (add (Again k again) refl (λ j w. refl) c7) refl
          (add (Push (pos 0)) refl (λ j w. refl) c8) refl refl refl refl,
    )
quantified_made Total k low high over c =
    let c0 = added (Push (pos 0)) c in
    let l = low c0 in
    let h = high l.0 in
    let c3 = added (Jump 0) h.0 in
    let b = over c3 in
    let again = length c3.instrs in
    let c5 = added Add b.0 in
    let c6 = added (Again k again) c5 in (
      patched c6 (length h.0.instrs) (Range k (length c6.instrs)),
      sum_row k {range = length h.0.instrs} {again = again} {end = length c6.instrs} {c5 = c5} {c6 = c6} refl
          (add (Push (pos 0)) refl (λ j w. refl) c) l.1 h.1 (refl, refl) refl b.1 (add Add refl (λ j w. refl) b.0)
          (add (Again k again) refl (λ j w. refl) c5) refl refl,
    )

-- ---- expressions

scalar_made : (o : Option ℕ) (v : Spot) → Makes (ScalarCode o v)
scalar_made None v = makes_one (Load v) refl (λ j w. refl)
scalar_made (Some k) v = makes_one (Counter k) refl (λ j w. refl)

mutual
  unfolding ExpressionCode SubscriptCode LinksCode

  pub expression_made : (slots : List Slot) (x : Expression) → Makes (ExpressionCode slots x)
  expression_made slots (Literal number) = makes_one (Push number.value) refl (λ j w. refl)
  expression_made slots (Variable (Refer name Scalar)) = scalar_made (counter_of slots name.id) (spot_of slots name.id)
  expression_made slots (Variable (Refer name (Element index))) =
      makes_then (expression_made slots index)
      (makes_then (makes_one (Bound (elements_of slots name.id)) refl (λ j w. refl)) (makes_one (LoadAt (spot_of slots name.id)) refl (λ j w. refl)))
  expression_made slots (Former place (Refer name Scalar)) = makes_one (Prior (spot_of slots name.id)) refl (λ j w. refl)
  expression_made slots (Former place (Refer name (Element index))) =
      makes_then (expression_made slots index)
      (makes_then (makes_one (Bound (elements_of slots name.id)) refl (λ j w. refl)) (makes_one (PriorAt (spot_of slots name.id)) refl (λ j w. refl)))
  expression_made slots (Minus operand) = makes_then (expression_made slots operand) (makes_one Neg refl (λ j w. refl))
  expression_made slots (Negation operand) = makes_then (expression_made slots operand) (makes_one Not refl (λ j w. refl))
  expression_made slots (Chained first links) = makes_then (expression_made slots first) (links_made slots links)
  expression_made slots (Quantification kind place name low high body) =
      quantified_made kind (quantified_of slots name.id) (expression_made slots low) (expression_made slots high) (expression_made slots body)

  links_made : (slots : List Slot) (x : Links) → Makes (LinksCode slots x)
  links_made slots NoLink = makes_nothing
  links_made slots (Linked o right links) = makes_then (operator_made o (expression_made slots right)) (links_made slots links)
