-- The code of an expression is walked, and counts nothing.
use Rattle.std.proofs.Common.{◌≡◌, ℕ, ◌+◌, ◌<◌, pos, false, List, Option, Some, None, refl, ap, sym, ◌∙◌, arith}
use Rattle.rb_syntax.specs.declared.expression.Op.{Op}
use Rattle.rb_syntax.specs.declared.expression.Op.TheVariants as op
use Rattle.rb_syntax.specs.declared.expression.Quantifier.{Quantifier}
use Rattle.rb_syntax.specs.declared.expression.Quantifier.TheVariants.{Every, Any, Total}
use Rattle.rb_syntax.specs.Tree.{Identifier, Expression, Literal, Variable, Former, Minus, Negation, Chained, Quantification, Refer, Scalar, Element, Links, NoLink, Linked, Tree}
use Rattle.rb_world.proofs.ListFacts.{none_some, some_same}
use Rattle.rb_scope.specs.Frames.{Frames, Lying, OfCall, OfProcess, counter_among, in_body, in_limit, scalar_slot}
use Rattle.rb_scope.specs.InFrames.{ExpressionInFrames, IsValueBy, LinksInFrames}
use Rattle.rb_scope.specs.declared.slot.Slot.{Slot}
use Rattle.rb_code.specs.Instructions.Plain.{Code}
use Rattle.rb_code.specs.Agreement.Slots.{counter_in, counter_of, elements_of, quantified_in, quantified_of, spot_of}
use Rattle.rb_code.specs.Agreement.Template.{Template}
use Rattle.rb_code.specs.Agreement.Forms.{ExpressionCode, LinksCode, OperatorCode, QuantifiedCode, ScalarCode, SubscriptCode}
use Rattle.rb_code.specs.declared.instr.Spot.{Spot}
use Rattle.rb_code.specs.declared.instr.Instr.{Instr}
use Rattle.rb_code.specs.declared.instr.Instr.TheVariants.{Push, Load, Prior, Bound, LoadAt, PriorAt, Add, Sub, Mul, Div, Rem, Eq, Ne, Lt, Le, Gt, Ge, Neg, Not, Bool as ToBool, Jump, JumpZero, Range, Again, Counter}
use Rattle.rb_prepare.proofs.Walking.Laid.{LoopStays, laid_none, loop_stays}
use Rattle.rb_prepare.proofs.Onward.{AllOnward, Onward, and_on, at_last, goes_on, itself, moved_to, only, up_to, ways_onward}
use Rattle.rb_prepare.proofs.Walking.Walked.{IsPlain, Part, Scene, Walked, flat_then, part, part_flat, part_one, then_one, walked_none, walked_one}

no_counter : (at : Lying) → counter_in (Some (scalar_slot at)) ≡ None
no_counter (OfProcess at words) = refl
no_counter (OfCall at words) = refl

-- the counter of a name that stands for one
few_counters : (slots : List Slot) (frames : Frames) (name : Identifier) (o : Option ℕ) → IsValueBy o slots frames name
    → (k : ℕ) → counter_of slots name.id ≡ Some k → k < 2
few_counters slots frames name (Some j) names k e =
    let same : j ≡ k = some_same (sym (ap counter_in names.0) ∙ e) in let few = names.1 in omega arith
few_counters slots frames name None names k e =
    absurd (none_some (sym (ap counter_in names.slot ∙ no_counter names.at) ∙ e))

module _ (c : Code) (tree : Tree) (s : Scene) (plain : (instr : Instr) → IsPlain instr → s.counts instr ≡ false) where
  -- a template is walked, and counts nothing
  abbrev pub Walks : Template → Type 0
  Walks P = (a b : ℕ) → P c a b → Walked c tree s 0 a b

  -- a label
  pub nothing : (a b p q : ℕ) → q ≡ p → Part c tree s a b 0 p q
  nothing a b p q e = laid_none c tree s.process s.counts a b p q e

  scalar_walked : (o : Option ℕ) (spot : Spot) → ((k : ℕ) → o ≡ Some k → k < 2) → Walks (ScalarCode o spot)
  scalar_walked None spot few a b one = walked_one c tree s plain a b (Load spot) one tt tt tt
  scalar_walked (Some k) spot few a b one = walked_one c tree s plain a b (Counter k) one (few k refl) tt tt

  and_walked : (right : Template) → Walks right → Walks (OperatorCode op.And right)
  and_walked right walks a b (fails, (end, (p, test, (q, code, (r, bool, (u, jump, (v, at_no, (x, push, at_end)))))))) =
      let w = walks p q code in
      let e0 = test.1 in let o = w.laid.ordered in let e1 = bool.1 in let e2 = jump.1 in let e3 = at_no.1 in let e4 = push.1 in let e5 = at_end.1 in
      let to_no = at_no.0 in let to_end = at_end.0 in
      record {
        laid =
            part_flat c tree s plain a b a p b (part_one c tree s plain a b a p (JumpZero fails) test (omega arith, omega arith) tt)
            (part_flat c tree s plain a b p q b (part c tree s a b 0 p q (omega arith) (omega arith) w)
            (part_flat c tree s plain a b q r b (part_one c tree s plain a b q r ToBool bool tt tt)
            (part_flat c tree s plain a b r u b (part_one c tree s plain a b r u (Jump end) jump (omega arith, omega arith) tt)
            (part_flat c tree s plain a b u v b (nothing a b u v e3)
            (part_flat c tree s plain a b v x b (part_one c tree s plain a b v x (Push (pos 0)) push tt tt) (nothing a b x b e5))))));
        reached = λ from first.
            let ways = ways_onward c from a (JumpZero fails) test.0 first in
            let all = w.reached from (moved_to c from (a + 1) p e0 (ways.1.0 (omega arith))) in
            let behind = goes_on c from q r ToBool bool tt (all q o (omega arith)) in
            let other = moved_to c from fails v (e3 ∙ to_no) (ways.0 (omega arith)) in
            and_on c from a p b (omega arith) first (up_to c from p q r b (omega arith) all (and_on c from r v b (omega arith) behind
            (and_on c from v x b (omega arith) other (at_last c from x b e5 (goes_on c from v x (Push (pos 0)) push tt other)))));
      }

  or_walked : (right : Template) → Walks right → Walks (OperatorCode op.Or right)
  or_walked right walks a b (other, (end, (p, test, (q, push, (r, jump, (u, at_other, (v, code, (x, bool, at_end)))))))) =
      let w = walks u v code in
      let e0 = test.1 in let e1 = push.1 in let e2 = jump.1 in let e3 = at_other.1 in let o = w.laid.ordered in let e4 =
      bool.1 in let e5 = at_end.1 in
      let to_other = at_other.0 in let to_end = at_end.0 in
      record {
        laid =
            part_flat c tree s plain a b a p b (part_one c tree s plain a b a p (JumpZero other) test (omega arith, omega arith) tt)
            (part_flat c tree s plain a b p q b (part_one c tree s plain a b p q (Push (pos 1)) push tt tt)
            (part_flat c tree s plain a b q r b (part_one c tree s plain a b q r (Jump end) jump (omega arith, omega arith) tt)
            (part_flat c tree s plain a b r u b (nothing a b r u e3)
            (part_flat c tree s plain a b u v b (part c tree s a b 0 u v (omega arith) (omega arith) w)
            (part_flat c tree s plain a b v x b (part_one c tree s plain a b v x ToBool bool tt tt) (nothing a b x b e5))))));
        reached = λ from first.
            let ways = ways_onward c from a (JumpZero other) test.0 first in
            let zero = moved_to c from (a + 1) p e0 (ways.1.0 (omega arith)) in
            let one = goes_on c from p q (Push (pos 1)) push tt zero in
            let all = w.reached from (moved_to c from other u (e3 ∙ to_other) (ways.0 (omega arith))) in
            and_on c from a p b (omega arith) first (and_on c from p q b (omega arith) zero (and_on c from q u b (omega arith) one
            (up_to c from u v x b (omega arith) all (at_last c from x b e5 (goes_on c from v x ToBool bool tt (all v o (omega arith)))))));
      }

  operator_walked : (o : Op) (right : Template) → Walks right → Walks (OperatorCode o right)
  operator_walked op.Or right walks a b code = or_walked right walks a b code
  operator_walked op.And right walks a b code = and_walked right walks a b code
  operator_walked op.Eq right walks a b (m, code, one) = then_one c tree s plain a m b Eq (walks a m code) one tt tt tt
  operator_walked op.Ne right walks a b (m, code, one) = then_one c tree s plain a m b Ne (walks a m code) one tt tt tt
  operator_walked op.Lt right walks a b (m, code, one) = then_one c tree s plain a m b Lt (walks a m code) one tt tt tt
  operator_walked op.Le right walks a b (m, code, one) = then_one c tree s plain a m b Le (walks a m code) one tt tt tt
  operator_walked op.Gt right walks a b (m, code, one) = then_one c tree s plain a m b Gt (walks a m code) one tt tt tt
  operator_walked op.Ge right walks a b (m, code, one) = then_one c tree s plain a m b Ge (walks a m code) one tt tt tt
  operator_walked op.Add right walks a b (m, code, one) = then_one c tree s plain a m b Add (walks a m code) one tt tt tt
  operator_walked op.Sub right walks a b (m, code, one) = then_one c tree s plain a m b Sub (walks a m code) one tt tt tt
  operator_walked op.Mul right walks a b (m, code, one) = then_one c tree s plain a m b Mul (walks a m code) one tt tt tt
  operator_walked op.Div right walks a b (m, code, one) = then_one c tree s plain a m b Div (walks a m code) one tt tt tt
  operator_walked op.Rem right walks a b (m, code, one) = then_one c tree s plain a m b Rem (walks a m code) one tt tt tt

  module _ (k : ℕ) (few : k < 2) (low high body : Template) (lows : Walks low) (highs : Walks high) (bodies : Walks body) where
    every_walked : Walks (QuantifiedCode Every k low high body)
    every_walked a b
        (loop, (fails, (past, (end, (p, lc, (r, hc, (d, range, (first, at_loop, (d0, bc, (d1, test, (d2, again, (d3, at_yes, (d4, push1, (d5, jump, (d6, at_no, (d7, push0, at_end)))))))))))))))) =
        let w = lows a p lc in let h = highs p r hc in let y = bodies first d0 bc in
        let o0 = w.laid.ordered in let o1 = h.laid.ordered in let o2 = y.laid.ordered in
        let e0 = range.1 in let e1 = at_loop.1 in let e2 = test.1 in let e3 = again.1 in let e4 = at_yes.1 in
        let e5 = push1.1 in let e6 = jump.1 in let e7 = at_no.1 in let e8 = push0.1 in let e9 = at_end.1 in
        let to_loop = at_loop.0 in let to_yes = at_yes.0 in let to_no = at_no.0 in let to_end = at_end.0 in
        let turns : (from : ℕ) → Onward c from first → AllOnward c from first d1 = λ from inside.
        let all = y.reached from inside in
        let ways = ways_onward c from d0 (JumpZero fails) test.0 (all d0 o2 (omega arith)) in
        up_to c from first d0 d1 d1 (omega arith) all (only c from d1 (moved_to c from (d0 + 1) d1 e2 (ways.1.0 (omega arith)))) in
        let stays : LoopStays c k (r + 1) =
        loop_stays c tree s.process s.counts k r loop first d1 b (omega arith) (omega arith) again.0
        (part_flat c tree s plain first b first d0 d1 (part c tree s first b 0 first d0 (omega arith) (omega arith) y)
        (part_one c tree s plain first b d0 d1 (JumpZero fails) test (omega arith, omega arith) tt))
        (turns first itself) in
        record {
          laid =
              part_flat c tree s plain a b a p b (part c tree s a b 0 a p (omega arith) (omega arith) w)
              (part_flat c tree s plain a b p r b (part c tree s a b 0 p r (omega arith) (omega arith) h)
              (part_flat c tree s plain a b r d b (part_one c tree s plain a b r d (Range k past) range (few, (omega arith, omega arith), stays) tt)
              (part_flat c tree s plain a b d first b (nothing a b d first e1)
              (part_flat c tree s plain a b first d0 b (part c tree s a b 0 first d0 (omega arith) (omega arith) y)
              (part_flat c tree s plain a b d0 d1 b (part_one c tree s plain a b d0 d1 (JumpZero fails) test (omega arith, omega arith) tt)
              (part_flat c tree s plain a b d1 d2 b (part_one c tree s plain a b d1 d2 (Again k loop) again (few, (omega arith, omega arith)) tt)
              (part_flat c tree s plain a b d2 d3 b (nothing a b d2 d3 e4)
              (part_flat c tree s plain a b d3 d4 b (part_one c tree s plain a b d3 d4 (Push (pos 1)) push1 tt tt)
              (part_flat c tree s plain a b d4 d5 b (part_one c tree s plain a b d4 d5 (Jump end) jump (omega arith, omega arith) tt)
              (part_flat c tree s plain a b d5 d6 b (nothing a b d5 d6 e7)
              (part_flat c tree s plain a b d6 d7 b (part_one c tree s plain a b d6 d7 (Push (pos 0)) push0 tt tt) (nothing a b d7 b e9))))))))))));
          reached = λ from begun.
              let all0 = w.reached from begun in
              let all1 = h.reached from (all0 p o0 (omega arith)) in
              let inside = goes_on c from r d (Range k past) range tt (all1 r o1 (omega arith)) in
              let all2 = turns from (moved_to c from d first e1 inside) in
              let ways = ways_onward c from d0 (JumpZero fails) test.0 (all2 d0 o2 (omega arith)) in
              let over = moved_to c from d2 d3 e4 (goes_on c from d1 d2 (Again k loop) again tt (all2 d1 (omega arith) (omega arith))) in
              let holds = goes_on c from d3 d4 (Push (pos 1)) push1 tt over in
              let zero_there = moved_to c from fails d6 (e7 ∙ to_no) (ways.0 (omega arith)) in
              up_to c from a p p b (omega arith) all0 (up_to c from p r d b (omega arith) all1 (and_on c from d first b (omega arith) inside
              (up_to c from first d1 d3 b (omega arith) all2 (and_on c from d3 d4 b (omega arith) over
              (and_on c from d4 d6 b (omega arith) holds (and_on c from d6 d7 b (omega arith) zero_there
              (at_last c from d7 b e9 (goes_on c from d6 d7 (Push (pos 0)) push0 tt zero_there))))))));
        }

    some_walked : Walks (QuantifiedCode Any k low high body)
    some_walked a b
        (loop, (next, (fails, (end, (p, lc, (r, hc, (d, range, (first, at_loop, (d0, bc, (d1, test, (d2, push1, (d3, jump, (d4, at_next, (d5, again, (d6, at_no, (d7, push0, at_end)))))))))))))))) =
        let w = lows a p lc in let h = highs p r hc in let y = bodies first d0 bc in
        let o0 = w.laid.ordered in let o1 = h.laid.ordered in let o2 = y.laid.ordered in
        let e0 = range.1 in let e1 = at_loop.1 in let e2 = test.1 in let e3 = push1.1 in let e4 = jump.1 in
        let e5 = at_next.1 in let e6 = again.1 in let e7 = at_no.1 in let e8 = push0.1 in let e9 = at_end.1 in
        let to_loop = at_loop.0 in let to_next = at_next.0 in let to_no = at_no.0 in let to_end = at_end.0 in
        let turns : (from : ℕ) → Onward c from first → AllOnward c from first d4 = λ from inside.
        let all = y.reached from inside in
        let ways = ways_onward c from d0 (JumpZero next) test.0 (all d0 o2 (omega arith)) in
        let on = moved_to c from (d0 + 1) d1 e2 (ways.1.0 (omega arith)) in
        let holds = goes_on c from d1 d2 (Push (pos 1)) push1 tt on in
        let further = moved_to c from next d4 (e5 ∙ to_next) (ways.0 (omega arith)) in
        up_to c from first d0 d1 d4 (omega arith) all (and_on c from d1 d2 d4 (omega arith) on
        (and_on c from d2 d4 d4 (omega arith) holds (only c from d4 further))) in
        let stays : LoopStays c k (r + 1) =
        loop_stays c tree s.process s.counts k r loop first d4 b (omega arith) (omega arith) again.0
        (part_flat c tree s plain first b first d0 d4 (part c tree s first b 0 first d0 (omega arith) (omega arith) y)
        (part_flat c tree s plain first b d0 d1 d4 (part_one c tree s plain first b d0 d1 (JumpZero next) test (omega arith, omega arith) tt)
        (part_flat c tree s plain first b d1 d2 d4 (part_one c tree s plain first b d1 d2 (Push (pos 1)) push1 tt tt)
        (part_flat c tree s plain first b d2 d3 d4 (part_one c tree s plain first b d2 d3 (Jump end) jump (omega arith, omega arith) tt)
        (nothing first b d3 d4 e5)))))
        (turns first itself) in
        record {
          laid =
              part_flat c tree s plain a b a p b (part c tree s a b 0 a p (omega arith) (omega arith) w)
              (part_flat c tree s plain a b p r b (part c tree s a b 0 p r (omega arith) (omega arith) h)
              (part_flat c tree s plain a b r d b (part_one c tree s plain a b r d (Range k fails) range (few, (omega arith, omega arith), stays) tt)
              (part_flat c tree s plain a b d first b (nothing a b d first e1)
              (part_flat c tree s plain a b first d0 b (part c tree s a b 0 first d0 (omega arith) (omega arith) y)
              (part_flat c tree s plain a b d0 d1 b (part_one c tree s plain a b d0 d1 (JumpZero next) test (omega arith, omega arith) tt)
              (part_flat c tree s plain a b d1 d2 b (part_one c tree s plain a b d1 d2 (Push (pos 1)) push1 tt tt)
              (part_flat c tree s plain a b d2 d3 b (part_one c tree s plain a b d2 d3 (Jump end) jump (omega arith, omega arith) tt)
              (part_flat c tree s plain a b d3 d4 b (nothing a b d3 d4 e5)
              (part_flat c tree s plain a b d4 d5 b (part_one c tree s plain a b d4 d5 (Again k loop) again (few, (omega arith, omega arith)) tt)
              (part_flat c tree s plain a b d5 d6 b (nothing a b d5 d6 e7)
              (part_flat c tree s plain a b d6 d7 b (part_one c tree s plain a b d6 d7 (Push (pos 0)) push0 tt tt) (nothing a b d7 b e9))))))))))));
          reached = λ from begun.
              let all0 = w.reached from begun in
              let all1 = h.reached from (all0 p o0 (omega arith)) in
              let inside = goes_on c from r d (Range k fails) range tt (all1 r o1 (omega arith)) in
              let all2 = turns from (moved_to c from d first e1 inside) in
              let over = moved_to c from d5 d6 e7 (goes_on c from d4 d5 (Again k loop) again tt (all2 d4 (omega arith) (omega arith))) in
              up_to c from a p p b (omega arith) all0 (up_to c from p r d b (omega arith) all1 (and_on c from d first b (omega arith) inside
              (up_to c from first d4 d6 b (omega arith) all2 (and_on c from d6 d7 b (omega arith) over
              (at_last c from d7 b e9 (goes_on c from d6 d7 (Push (pos 0)) push0 tt over))))));
        }

    sum_walked : Walks (QuantifiedCode Total k low high body)
    sum_walked a b (loop, (end, (a0, push0, (p, lc, (r, hc, (d, range, (first, at_loop, (d0, bc, (d1, adds, (d2, again, at_end)))))))))) =
        let w = lows a0 p lc in let h = highs p r hc in let y = bodies first d0 bc in
        let o0 = w.laid.ordered in let o1 = h.laid.ordered in let o2 = y.laid.ordered in
        let e0 = push0.1 in let e1 = range.1 in let e2 = at_loop.1 in let e3 = adds.1 in let e4 = again.1 in let e5 = at_end.1 in
        let to_loop = at_loop.0 in let to_end = at_end.0 in
        let turns : (from : ℕ) → Onward c from first → AllOnward c from first d1 = λ from inside.
        let all = y.reached from inside in
        up_to c from first d0 d1 d1 (omega arith) all (only c from d1 (goes_on c from d0 d1 Add adds tt (all d0 o2 (omega arith)))) in
        let stays : LoopStays c k (r + 1) =
        loop_stays c tree s.process s.counts k r loop first d1 b (omega arith) (omega arith) again.0
        (part_flat c tree s plain first b first d0 d1 (part c tree s first b 0 first d0 (omega arith) (omega arith) y)
        (part_one c tree s plain first b d0 d1 Add adds tt tt))
        (turns first itself) in
        record {
          laid =
              part_flat c tree s plain a b a a0 b (part_one c tree s plain a b a a0 (Push (pos 0)) push0 tt tt)
              (part_flat c tree s plain a b a0 p b (part c tree s a b 0 a0 p (omega arith) (omega arith) w)
              (part_flat c tree s plain a b p r b (part c tree s a b 0 p r (omega arith) (omega arith) h)
              (part_flat c tree s plain a b r d b (part_one c tree s plain a b r d (Range k end) range (few, (omega arith, omega arith), stays) tt)
              (part_flat c tree s plain a b d first b (nothing a b d first e2)
              (part_flat c tree s plain a b first d0 b (part c tree s a b 0 first d0 (omega arith) (omega arith) y)
              (part_flat c tree s plain a b d0 d1 b (part_one c tree s plain a b d0 d1 Add adds tt tt)
              (part_flat c tree s plain a b d1 d2 b (part_one c tree s plain a b d1 d2 (Again k loop) again (few, (omega arith, omega arith)) tt)
              (nothing a b d2 b e5))))))));
          reached = λ from begun.
              let all0 = w.reached from (goes_on c from a a0 (Push (pos 0)) push0 tt begun) in
              let all1 = h.reached from (all0 p o0 (omega arith)) in
              let inside = goes_on c from r d (Range k end) range tt (all1 r o1 (omega arith)) in
              let all2 = turns from (moved_to c from d first e2 inside) in
              and_on c from a a0 b (omega arith) begun
              (up_to c from a0 p p b (omega arith) all0 (up_to c from p r d b (omega arith) all1 (and_on c from d first b (omega arith) inside
              (up_to c from first d1 d2 b (omega arith) all2
              (at_last c from d2 b e5 (goes_on c from d1 d2 (Again k loop) again tt (all2 d1 (omega arith) (omega arith))))))));
        }

    quantified_walked : (kind : Quantifier) → Walks (QuantifiedCode kind k low high body)
    quantified_walked Every a b code = every_walked a b code
    quantified_walked Any a b code = some_walked a b code
    quantified_walked Total a b code = sum_walked a b code

  module _ (slots : List Slot) where
    mutual
      unfolding ExpressionCode SubscriptCode LinksCode

      pub expression_walked : (frames : Frames) (e : Expression) → ExpressionInFrames slots frames e → Walks (ExpressionCode slots e)
      expression_walked frames (Literal number) names a b one = walked_one c tree s plain a b (Push number.value) one tt tt tt
      expression_walked frames (Variable (Refer name Scalar)) names a b code =
          scalar_walked (counter_of slots name.id) (spot_of slots name.id)
          (few_counters slots frames name (counter_among frames.counters name.text) names) a b code
      expression_walked frames (Variable (Refer name (Element index))) names a b (m, code, (r, bound, one)) =
          then_one c tree s plain a r b (LoadAt (spot_of slots name.id))
          (then_one c tree s plain a m r (Bound (elements_of slots name.id))
          (expression_walked frames index names.1 a m code) bound tt tt tt) one tt tt tt
      expression_walked frames (Former place (Refer name Scalar)) names a b one =
          walked_one c tree s plain a b (Prior (spot_of slots name.id)) one tt tt tt
      expression_walked frames (Former place (Refer name (Element index))) names a b (m, code, (r, bound, one)) =
          then_one c tree s plain a r b (PriorAt (spot_of slots name.id))
          (then_one c tree s plain a m r (Bound (elements_of slots name.id))
          (expression_walked frames index names.1.1 a m code) bound tt tt tt) one tt tt tt
      expression_walked frames (Minus operand) names a b (m, code, one) =
          then_one c tree s plain a m b Neg (expression_walked frames operand names a m code) one tt tt tt
      expression_walked frames (Negation operand) names a b (m, code, one) =
          then_one c tree s plain a m b Not (expression_walked frames operand names a m code) one tt tt tt
      expression_walked frames (Chained first links) names a b (m, code, more) =
          flat_then c tree s plain a m b (expression_walked frames first names.0 a m code) (links_walked frames links names.1 m b more)
      expression_walked frames (Quantification kind place name low high body) names a b code =
          let few : quantified_of slots name.id < 2 = (let e = ap quantified_in names.1 in let h = names.0 in omega arith) in
          quantified_walked (quantified_of slots name.id) few (ExpressionCode slots low) (ExpressionCode slots high) (ExpressionCode slots body)
          (λ x y p. expression_walked (in_limit frames) low names.2 x y p) (λ x y p. expression_walked (in_limit frames) high names.3 x y p)
          (λ x y p. expression_walked (in_body name frames) body names.4 x y p) kind a b code

      pub links_walked : (frames : Frames) (links : Links) → LinksInFrames slots frames links → Walks (LinksCode slots links)
      links_walked frames NoLink names a b e = walked_none c tree s a b e
      links_walked frames (Linked o right links) names a b (m, code, more) =
          flat_then c tree s plain a m b
          (operator_walked o (ExpressionCode slots right) (λ x y p. expression_walked frames right names.0 x y p) a m code)
          (links_walked frames links names.1 m b more)
