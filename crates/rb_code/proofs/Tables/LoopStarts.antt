-- The loops in the code of an expression begin behind its first address: a way back leads behind the limits of its own expression.
use Rattle.std.proofs.Common.{◌≡◌, ℕ, ◌<◌, ◌≤◌, nat_lt, pos, Bool, true, false, List, slice_get, Option, Some, None, refl, ap, sym, ◌∙◌, true≢false, arith}
use Rattle.std.proofs.lemmas.Bool.{ltb-false, ltb-true}
use Rattle.rb_syntax.specs.declared.expression.Op.{Op}
use Rattle.rb_syntax.specs.declared.expression.Op.TheVariants as op
use Rattle.rb_syntax.specs.declared.expression.Quantifier.{Quantifier}
use Rattle.rb_syntax.specs.declared.expression.Quantifier.TheVariants.{Every, Any, Total}
use Rattle.rb_syntax.specs.Tree.{Expression, Literal, Variable, Former, Minus, Negation, Chained, Quantification, Refer, Scalar, Element, Links, NoLink, Linked}
use Rattle.rb_scope.specs.declared.slot.Slot.{Slot}
use Rattle.rb_world.proofs.ListFacts.{some_same}
use Rattle.rb_code.specs.Instructions.Plain.{Code}
use Rattle.rb_code.specs.Agreement.Slots.{counter_of, elements_of, quantified_of, spot_of}
use Rattle.rb_code.specs.SoundCode.Sound.{end_of_loop}
use Rattle.rb_code.specs.Agreement.Template.{Template, One}
use Rattle.rb_code.specs.Agreement.Forms.{ExpressionCode, LinksCode, OperatorCode, QuantifiedCode, ScalarCode, SubscriptCode}
use Rattle.rb_code.specs.declared.instr.Instr.{Instr}
use Rattle.rb_code.specs.declared.instr.Instr.TheVariants as instr
use Rattle.rb_code.specs.declared.instr.Instr.TheVariants.{Again}
use Rattle.rb_code.specs.declared.instr.Spot.{Spot}
use Rattle.rb_code.proofs.Tables.Forward.{Forward, expression_forward, operator_forward}
use Rattle.rb_code.proofs.Looping.LoopEnds.{back_is, loop_ends_at}

abbrev is_back : Instr → Bool
is_back (Again j first) = true
is_back other = false

module _ (c : Code) where
  -- each way back from one address up to another leads behind a third
  abbrev pub BeginBehind : ℕ → ℕ → ℕ → Type 0
  BeginBehind from a b = (x j first : ℕ) → a ≤ x → x < b → slice_get c.instrs x ≡ Some (Again j first) → from < first

  -- each in the code of a template leads behind the template's first address
  abbrev pub BeginInside : Template → Type 0
  BeginInside P = (a b : ℕ) → P c a b → BeginBehind a a b

  pub no_code : (from a b : ℕ) → b ≤ a → BeginBehind from a b
  no_code from a b none x j first low high at = absurd (omega arith)

  pub both_parts : (from a m b : ℕ) → BeginBehind from a m → BeginBehind from m b → BeginBehind from a b
  both_parts from a m b front rest x j first low high at = by (nat_lt x m) refl
    where
      by : (s : Bool) → nat_lt x m ≡ s → from < first
      by true e = front x j first low (ltb-true x m e) at
      by false e = rest x j first (ltb-false x m e) high at

  from_lower : (from a b : ℕ) → from ≤ a → BeginBehind a a b → BeginBehind from a b
  from_lower from a b lower known x j first low high at = let l = known x j first low high at in omega arith

  here_is : (instr other : Instr) (a b x : ℕ) → One instr c a b → a ≤ x → x < b → slice_get c.instrs x ≡ Some other → other ≡ instr
  here_is instr other a b x one low high at =
      let n = one.1 in
      let here : x ≡ a = omega arith in
      some_same (sym at ∙ ap (slice_get c.instrs) here ∙ one.0)

  -- an instruction of another kind
  pub one_instr : (instr : Instr) → is_back instr ≡ false → (from a b : ℕ) → One instr c a b → BeginBehind from a b
  one_instr instr other from a b one x j first low high at =
      absurd (true≢false (ap is_back (here_is instr (Again j first) a b x one low high at) ∙ other))

  way_back : (k loop from a b : ℕ) → One (Again k loop) c a b → from < loop → BeginBehind from a b
  way_back k loop from a b one less x j first low high at =
      let same : Again j first ≡ Again k loop = here_is (Again k loop) (Again j first) a b x one low high at in
      let is : first ≡ loop = cc in
      omega arith

  -- where no other way back stands before it, a loop ends at its own
  pub ends_at_own : (k first last : ℕ) → first ≤ last → slice_get c.instrs last ≡ Some (Again k first) → BeginBehind first first last
      → end_of_loop c k first ≡ Some last
  ends_at_own k first last low at inside =
      loop_ends_at c k first last low at
      (λ x i from up is back.
      let l : first < first = inside x k first from up (is ∙ ap Some (back_is k first i back)) in absurd (omega arith))

  -- code and one instruction behind it
  and_one : (P : Template) (instr : Instr) (a m b : ℕ) → BeginInside P → is_back instr ≡ false → P c a m → One instr c m b → BeginBehind a a b
  and_one P instr a m b inside other code one = both_parts a a m b (inside a m code) (one_instr instr other a m b one)

  scalar_inside : (o : Option ℕ) (spot : Spot) → BeginInside (ScalarCode o spot)
  scalar_inside None spot a b one = one_instr (instr.Load spot) refl a a b one
  scalar_inside (Some k) spot a b one = one_instr (instr.Counter k) refl a a b one

  operator_inside : (op : Op) (right : Template) → Forward c right → BeginInside right → BeginInside (OperatorCode op right)
  operator_inside op.Or right f g a b (other, (end, (p, test, (q, push, (r, jump, (s, at_other, (u, code, (v, bool, at_end)))))))) =
      let e0 = test.1 in let e1 = push.1 in let e2 = jump.1 in let e3 = at_other.1 in let e4 = at_end.1 in
      both_parts a a p b (one_instr (instr.JumpZero other) refl a a p test)
      (both_parts a p q b (one_instr (instr.Push (pos 1)) refl a p q push)
      (both_parts a q r b (one_instr (instr.Jump end) refl a q r jump)
      (both_parts a r s b (no_code a r s (omega arith))
      (both_parts a s u b (from_lower a s u (omega arith) (g s u code))
      (both_parts a u v b (one_instr instr.Bool refl a u v bool) (no_code a v b (omega arith)))))))
  operator_inside op.And right f g a b (fails, (end, (p, test, (q, code, (r, bool, (s, jump, (u, at_fails, (v, push, at_end)))))))) =
      let e0 = test.1 in let e3 = at_fails.1 in let e5 = at_end.1 in
      both_parts a a p b (one_instr (instr.JumpZero fails) refl a a p test)
      (both_parts a p q b (from_lower a p q (omega arith) (g p q code))
      (both_parts a q r b (one_instr instr.Bool refl a q r bool)
      (both_parts a r s b (one_instr (instr.Jump end) refl a r s jump)
      (both_parts a s u b (no_code a s u (omega arith))
      (both_parts a u v b (one_instr (instr.Push (pos 0)) refl a u v push) (no_code a v b (omega arith)))))))
  operator_inside op.Eq right f g a b (m, p, one) = and_one right instr.Eq a m b g refl p one
  operator_inside op.Ne right f g a b (m, p, one) = and_one right instr.Ne a m b g refl p one
  operator_inside op.Lt right f g a b (m, p, one) = and_one right instr.Lt a m b g refl p one
  operator_inside op.Le right f g a b (m, p, one) = and_one right instr.Le a m b g refl p one
  operator_inside op.Gt right f g a b (m, p, one) = and_one right instr.Gt a m b g refl p one
  operator_inside op.Ge right f g a b (m, p, one) = and_one right instr.Ge a m b g refl p one
  operator_inside op.Add right f g a b (m, p, one) = and_one right instr.Add a m b g refl p one
  operator_inside op.Sub right f g a b (m, p, one) = and_one right instr.Sub a m b g refl p one
  operator_inside op.Mul right f g a b (m, p, one) = and_one right instr.Mul a m b g refl p one
  operator_inside op.Div right f g a b (m, p, one) = and_one right instr.Div a m b g refl p one
  operator_inside op.Rem right f g a b (m, p, one) = and_one right instr.Rem a m b g refl p one

  module _ (low high body : Template) (low_forward : Forward c low) (high_forward : Forward c high) (low_inside : BeginInside low)
      (high_inside : BeginInside high) (body_inside : BeginInside body) where
    -- both limits, the `range` and the body
    looped : (k past a p r d first e : ℕ) → low c a p → high c p r → One (instr.Range k past) c r d → first ≡ d → body c first e
        → BeginBehind a a e
    looped k past a p r d first e lc hc range same bc =
        let l0 = low_forward a p lc in let l1 = high_forward p r hc in let e0 = range.1 in
        both_parts a a p e (low_inside a p lc)
        (both_parts a p r e (from_lower a p r (omega arith) (high_inside p r hc))
        (both_parts a r d e (one_instr (instr.Range k past) refl a r d range)
        (both_parts a d first e (no_code a d first (omega arith)) (from_lower a first e (omega arith) (body_inside first e bc)))))

    quantified_inside : (kind : Quantifier) (k : ℕ) → BeginInside (QuantifiedCode kind k low high body)
    quantified_inside Every k a b (loop, (fails, (holds, (end, (p, lc, (r, hc, (d, range, (first, at_loop, (d0, bc, (d1, zero_test, (d2, again, (d3, at_yes, (d4, push1, (d5, jump, (d6, at_no, (d7, push0, at_end)))))))))))))))) =
        let l0 = low_forward a p lc in let l1 = high_forward p r hc in let e0 = range.1 in let e1 = at_loop.0 in
        let e4 = at_yes.1 in let e7 = at_no.1 in let e9 = at_end.1 in
        both_parts a a d0 b (looped k holds a p r d first d0 lc hc range at_loop.1 bc)
        (both_parts a d0 d1 b (one_instr (instr.JumpZero fails) refl a d0 d1 zero_test)
        (both_parts a d1 d2 b (way_back k loop a d1 d2 again (omega arith))
        (both_parts a d2 d3 b (no_code a d2 d3 (omega arith))
        (both_parts a d3 d4 b (one_instr (instr.Push (pos 1)) refl a d3 d4 push1)
        (both_parts a d4 d5 b (one_instr (instr.Jump end) refl a d4 d5 jump)
        (both_parts a d5 d6 b (no_code a d5 d6 (omega arith))
        (both_parts a d6 d7 b (one_instr (instr.Push (pos 0)) refl a d6 d7 push0) (no_code a d7 b (omega arith)))))))))
    quantified_inside Any k a b (loop, (next, (fails, (end, (p, lc, (r, hc, (d, range, (first, at_loop, (d0, bc, (d1, zero_test, (d2, push1, (d3, jump, (d4, at_next, (d5, again, (d6, at_no, (d7, push0, at_end)))))))))))))))) =
        let l0 = low_forward a p lc in let l1 = high_forward p r hc in let e0 = range.1 in let e1 = at_loop.0 in
        let e5 = at_next.1 in let e7 = at_no.1 in let e9 = at_end.1 in
        both_parts a a d0 b (looped k fails a p r d first d0 lc hc range at_loop.1 bc)
        (both_parts a d0 d1 b (one_instr (instr.JumpZero next) refl a d0 d1 zero_test)
        (both_parts a d1 d2 b (one_instr (instr.Push (pos 1)) refl a d1 d2 push1)
        (both_parts a d2 d3 b (one_instr (instr.Jump end) refl a d2 d3 jump)
        (both_parts a d3 d4 b (no_code a d3 d4 (omega arith))
        (both_parts a d4 d5 b (way_back k loop a d4 d5 again (omega arith))
        (both_parts a d5 d6 b (no_code a d5 d6 (omega arith))
        (both_parts a d6 d7 b (one_instr (instr.Push (pos 0)) refl a d6 d7 push0) (no_code a d7 b (omega arith)))))))))
    quantified_inside Total k a b
        (loop, (end, (a0, push0, (p, lc, (r, hc, (d, range, (first, at_loop, (d0, bc, (d1, adds, (d2, again, at_end)))))))))) =
        let l0 = low_forward a0 p lc in let l1 = high_forward p r hc in let e0 = range.1 in let e1 = at_loop.0 in
        let e2 = push0.1 in let e9 = at_end.1 in
        both_parts a a a0 b (one_instr (instr.Push (pos 0)) refl a a a0 push0)
        (both_parts a a0 d0 b (from_lower a a0 d0 (omega arith) (looped k end a0 p r d first d0 lc hc range at_loop.1 bc))
        (both_parts a d0 d1 b (one_instr instr.Add refl a d0 d1 adds)
        (both_parts a d1 d2 b (way_back k loop a d1 d2 again (omega arith)) (no_code a d2 b (omega arith)))))

  module _ (slots : List Slot) where
    -- an element, behind its index
    element_inside : (one : Instr) (index : Template) (n : ℕ) (a m d b : ℕ) → is_back one ≡ false → BeginInside index → index c a m
        → One (instr.Bound n) c m d → One one c d b → BeginBehind a a b
    element_inside one index n a m d b other inside code bound last =
        both_parts a a m b (inside a m code)
        (both_parts a m d b (one_instr (instr.Bound n) refl a m d bound) (one_instr one other a d b last))

    mutual
      unfolding ExpressionCode SubscriptCode LinksCode

      pub expression_inside : (e : Expression) → BeginInside (ExpressionCode slots e)
      expression_inside (Literal number) a b one = one_instr (instr.Push number.value) refl a a b one
      expression_inside (Variable (Refer name Scalar)) a b code = scalar_inside (counter_of slots name.id) (spot_of slots name.id) a b code
      expression_inside (Variable (Refer name (Element index))) a b (m, code, (d, bound, one)) =
          element_inside (instr.LoadAt (spot_of slots name.id)) (ExpressionCode slots index) (elements_of slots name.id) a m d b refl
          (λ x y p. expression_inside index x y p) code bound one
      expression_inside (Former at (Refer name Scalar)) a b one = one_instr (instr.Prior (spot_of slots name.id)) refl a a b one
      expression_inside (Former at (Refer name (Element index))) a b (m, code, (d, bound, one)) =
          element_inside (instr.PriorAt (spot_of slots name.id)) (ExpressionCode slots index) (elements_of slots name.id) a m d b refl
          (λ x y p. expression_inside index x y p) code bound one
      expression_inside (Minus operand) a b (m, code, one) =
          and_one (ExpressionCode slots operand) instr.Neg a m b (λ x y p. expression_inside operand x y p) refl code one
      expression_inside (Negation operand) a b (m, code, one) =
          and_one (ExpressionCode slots operand) instr.Not a m b (λ x y p. expression_inside operand x y p) refl code one
      expression_inside (Chained first links) a b (m, code, more) =
          let l = expression_forward c slots first a m code in
          both_parts a a m b (expression_inside first a m code) (from_lower a m b (omega arith) (links_inside links m b more))
      expression_inside (Quantification kind at name low high body) a b code =
          quantified_inside (ExpressionCode slots low) (ExpressionCode slots high) (ExpressionCode slots body)
          (expression_forward c slots low) (expression_forward c slots high) (λ x y p. expression_inside low x y p)
          (λ x y p. expression_inside high x y p) (λ x y p. expression_inside body x y p) kind (quantified_of slots name.id) a b code

      pub links_inside : (links : Links) (a b : ℕ) → LinksCode slots links c a b → BeginBehind a a b
      links_inside NoLink a b e = no_code a a b (omega arith)
      links_inside (Linked op right links) a b (m, code, more) =
          let l = operator_forward c op (ExpressionCode slots right) (expression_forward c slots right) a m code in
          both_parts a a m b
          (operator_inside op (ExpressionCode slots right) (expression_forward c slots right) (λ x y q. expression_inside right x y q) a m code)
          (from_lower a m b (omega arith) (links_inside links m b more))
