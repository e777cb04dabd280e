-- The code of an expression goes forward: it has an instruction at least.
use Rattle.std.proofs.Common.{◌≡◌, ℕ, ◌+◌, ◌<◌, ◌≤◌, List, Option, Some, None, arith}
use Rattle.rb_syntax.specs.declared.expression.Op.{Op}
use Rattle.rb_syntax.specs.declared.expression.Op.TheVariants as op
use Rattle.rb_syntax.specs.declared.expression.Quantifier.{Quantifier}
use Rattle.rb_syntax.specs.declared.expression.Quantifier.TheVariants.{Every, Any, Total}
use Rattle.rb_syntax.specs.Tree.{Expression, Literal, Variable, Former, Minus, Negation, Chained, Quantification, Refer, Scalar, Element, Links, NoLink, Linked}
use Rattle.rb_scope.specs.declared.slot.Slot.{Slot}
use Rattle.rb_code.specs.Instructions.Plain.{Code}
use Rattle.rb_code.specs.Agreement.Slots.{counter_of, quantified_of, spot_of}
use Rattle.rb_code.specs.Agreement.Template.{Template, One}
use Rattle.rb_code.specs.Agreement.Forms.{ExpressionCode, LinksCode, OperatorCode, QuantifiedCode, ScalarCode, SubscriptCode}
use Rattle.rb_code.specs.declared.instr.Instr.{Instr}
use Rattle.rb_code.specs.declared.instr.Spot.{Spot}

module _ (c : Code) where
  -- a template goes forward
  abbrev pub Forward : Template → Type 0
  Forward P = (a b : ℕ) → P c a b → a < b

  pub one_forward : (instr : Instr) → Forward (One instr)
  one_forward instr a b one = let e = one.1 in omega arith

  scalar_forward : (o : Option ℕ) (spot : Spot) → Forward (ScalarCode o spot)
  scalar_forward None spot a b one = let e = one.1 in omega arith
  scalar_forward (Some k) spot a b one = let e = one.1 in omega arith

  -- a template and one instruction
  and_one : (P : Template) (a m b : ℕ) → Forward P → P c a m → b ≡ m + 1 → a < b
  and_one P a m b forward p e = let l = forward a m p in omega arith

  pub operator_forward : (op : Op) (right : Template) → Forward right → Forward (OperatorCode op right)
  operator_forward op.Or right f a b (other, (end, (p, test, (q, push, (r, jump, (s, at_other, (u, code, (v, bool, at_end)))))))) =
      let e0 = test.1 in let e1 = push.1 in let e2 = jump.1 in let e3 = at_other.1 in
      let l1 = f s u code in let e4 = bool.1 in let e5 = at_end.1 in omega arith
  operator_forward op.And right f a b (fails, (end, (p, test, (q, code, (r, bool, (s, jump, (u, at_fails, (v, push, at_end)))))))) =
      let e0 = test.1 in let l1 = f p q code in let e1 = bool.1 in let e2 = jump.1 in let e3 = at_fails.1 in let e4 =
      push.1 in let e5 = at_end.1 in omega arith
  operator_forward op.Eq right f a b (m, p, one) = and_one right a m b f p one.1
  operator_forward op.Ne right f a b (m, p, one) = and_one right a m b f p one.1
  operator_forward op.Lt right f a b (m, p, one) = and_one right a m b f p one.1
  operator_forward op.Le right f a b (m, p, one) = and_one right a m b f p one.1
  operator_forward op.Gt right f a b (m, p, one) = and_one right a m b f p one.1
  operator_forward op.Ge right f a b (m, p, one) = and_one right a m b f p one.1
  operator_forward op.Add right f a b (m, p, one) = and_one right a m b f p one.1
  operator_forward op.Sub right f a b (m, p, one) = and_one right a m b f p one.1
  operator_forward op.Mul right f a b (m, p, one) = and_one right a m b f p one.1
  operator_forward op.Div right f a b (m, p, one) = and_one right a m b f p one.1
  operator_forward op.Rem right f a b (m, p, one) = and_one right a m b f p one.1

  quantified_forward : (kind : Quantifier) (k : ℕ) (low high body : Template) → Forward low → Forward high → Forward body
      → Forward (QuantifiedCode kind k low high body)
  quantified_forward Every k low high body f g h a b (loop, (fails, (holds, (end, (p, lc, (r, hc, (d, range, (first, at_loop, (d0, bc, (d1, zero_test, (d2, again, (d3, at_yes, (d4, push1, (d5, jump, (d6, at_no, (d7, push0, at_end)))))))))))))))) =
      let l0 = f a p lc in let l1 = g p r hc in let l2 = h first d0 bc in
      let e0 = range.1 in let e1 = at_loop.1 in let e2 = zero_test.1 in let e3 = again.1 in let e4 = at_yes.1 in
      let e5 = push1.1 in let e6 = jump.1 in let e7 = at_no.1 in let e8 = push0.1 in let e9 = at_end.1 in omega arith
  quantified_forward Any k low high body f g h a b (loop, (next, (fails, (end, (p, lc, (r, hc, (d, range, (first, at_loop, (d0, bc, (d1, zero_test, (d2, push1, (d3, jump, (d4, at_next, (d5, again, (d6, at_no, (d7, push0, at_end)))))))))))))))) =
      let l0 = f a p lc in let l1 = g p r hc in let l2 = h first d0 bc in
      let e0 = range.1 in let e1 = at_loop.1 in let e2 = zero_test.1 in let e3 = push1.1 in let e4 = jump.1 in
      let e5 = at_next.1 in let e6 = again.1 in let e7 = at_no.1 in let e8 = push0.1 in let e9 = at_end.1 in omega arith
  quantified_forward Total k low high body f g h a b (loop, (end, (a0, push0, (p, lc, (r, hc, (d, range, (first, at_loop, (d0, bc, (d1, adds, (d2, again, at_end)))))))))) =
      let l0 = f a0 p lc in let l1 = g p r hc in let l2 = h first d0 bc in
      let e0 = push0.1 in let e1 = range.1 in let e2 = at_loop.1 in let e3 = adds.1 in let e4 = again.1 in let e5 = at_end.1 in omega arith

  module _ (slots : List Slot) where
    mutual
      unfolding ExpressionCode SubscriptCode LinksCode

      pub expression_forward : (e : Expression) → Forward (ExpressionCode slots e)
      expression_forward (Literal number) a b one = let e = one.1 in omega arith
      expression_forward (Variable (Refer name Scalar)) a b code = scalar_forward (counter_of slots name.id) (spot_of slots name.id) a b code
      expression_forward (Variable (Refer name (Element index))) a b (m, p, (r, bound, one)) =
          let l = expression_forward index a m p in let e0 = bound.1 in let e1 = one.1 in omega arith
      expression_forward (Former at (Refer name Scalar)) a b one = let e = one.1 in omega arith
      expression_forward (Former at (Refer name (Element index))) a b (m, p, (r, bound, one)) =
          let l = expression_forward index a m p in let e0 = bound.1 in let e1 = one.1 in omega arith
      expression_forward (Minus operand) a b (m, p, one) = let l = expression_forward operand a m p in let e = one.1 in omega arith
      expression_forward (Negation operand) a b (m, p, one) = let l = expression_forward operand a m p in let e = one.1 in omega arith
      expression_forward (Chained first links) a b (m, p, more) =
          let l = expression_forward first a m p in let h = links_forward links m b more in omega arith
      expression_forward (Quantification kind at name low high body) a b code =
          quantified_forward kind (quantified_of slots name.id) (ExpressionCode slots low) (ExpressionCode slots high) (ExpressionCode slots body)
          (λ x y p. expression_forward low x y p) (λ x y p. expression_forward high x y p) (λ x y p. expression_forward body x y p) a b code

      pub links_forward : (links : Links) (a b : ℕ) → LinksCode slots links c a b → a ≤ b
      links_forward NoLink a b e = omega arith
      links_forward (Linked op right links) a b (m, p, more) =
          let l = operator_forward op (ExpressionCode slots right) (λ x y q. expression_forward right x y q) a m p in
          let h = links_forward links m b more in omega arith
