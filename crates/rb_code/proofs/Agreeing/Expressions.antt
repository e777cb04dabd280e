-- The code of an expression comes to its value, or to its trap.
use Rattle.std.proofs.Common.{◌≡◌, ◌<◌, ℕ, suc, ◌+◌, ℤ, pos, neg_ℤ, cond, not, Bool, true, false, List, [], ◌∷◌, length, slice_get, unwrap_or, Option, Some, None, Ok, refl, sym, ap, ◌∙◌, subst, arith}
use Rattle.rb_syntax.specs.declared.expression.Op.{Op}
use Rattle.rb_syntax.specs.declared.expression.Op.TheVariants as op
use Rattle.rb_syntax.specs.Tree.{Identifier, Expression, Literal, Variable, Former, Minus, Negation, Chained, Quantification, Refer, Scalar, Element, Links, NoLink, Linked}
use Rattle.rb_meaning.specs.Environment.{Environment, values_of}
use Rattle.rb_meaning.specs.Value.{Counters, Outcome as Value, and_then, applied, chained, counter_or, decided, element_at, fitting, index_in, is_zero, number_at, operated, read, truth, unless_decided, value}
use Rattle.rb_scope.specs.Frames.{Frames, Shape, counter_among}
use Rattle.rb_scope.specs.InFrames.{ExpressionInFrames, IsArray, IsValueBy, LinksInFrames, most_quantifications}
use Rattle.rb_scope.specs.declared.slot.Slot.{Slot}
use Rattle.rb_code.specs.Instructions.Plain.{Code}
use Rattle.rb_code.specs.WordMachine.Workspace.{Counting, Workspace, word_at}
use Rattle.rb_code.specs.WordMachine.Act.{Going, Sight, act, here, if_there, or_trap, place}
use Rattle.rb_code.specs.Agreement.Slots.{counter_in, counter_of as counter_slot, elements_of, quantified_in, quantified_of, spot_of}
use Rattle.rb_code.specs.Agreement.Template.{Template, One, ◌⨾◌}
use Rattle.rb_code.specs.Agreement.Forms.{AndCode, ExpressionCode, QuantifiedCode, LinksCode, OperatorCode, OrCode, ScalarCode, SubscriptCode}
use Rattle.rb_code.specs.declared.instr.Instr.{Instr}
use Rattle.rb_code.specs.declared.instr.Instr.TheVariants as instr
use Rattle.rb_code.proofs.Agreeing.Leads.{Leads, leads_on, passes, stays}
use Rattle.rb_code.proofs.Agreeing.ResultsReached.{Comes, Gives, KeptBelow, comes_from, comes_on, fewer_kept, kept_here, kept_on, passes_or_traps, recounted, same_comes}
use Rattle.rb_code.proofs.Agreeing.CountersSet.{CountersFit, fit_kept, fit_more, no_number, number_there}
use Rattle.rb_code.proofs.Agreeing.Loops.{counter, from_there, jumps, jumps_zero, passes_zero, pushes, to_there}
use Rattle.rb_code.proofs.Agreeing.Quantified.{quantified_comes}
use Rattle.rb_code.proofs.InWords.NamesRead.{Finds, array_values, bound_comes, element_value, scalar_no_counter, scalar_value}

module _ (c : Code) (see : Sight) (m : Workspace) where
  -- an operator behind its left value x, by what its right side gives
  module _ (q : ℕ) (right : Template) (r : Value)
      (right_gives : (a b : ℕ) (set : List (Option Counting)) (os : List ℤ) → KeptBelow q m.counters set → right c a b
      → Gives c see q a os (recounted set m) b r) where
    abbrev After : ℕ → ℤ → List ℤ → List (Option Counting) → ℕ → Value → Type 0
    After a x os set b o = Comes c see q a (x ∷ os) (recounted set m) b (λ v. v ∷ os) (λ v. m) o

    plain_operator : (op : Op) (one : Instr) (a b : ℕ) (x : ℤ) (set : List (Option Counting)) (os : List ℤ) → KeptBelow q m.counters set
        → ((y : ℤ) (d : ℕ) (n : Workspace) → act c see one d (y ∷ x ∷ os) n ≡ or_trap (applied op x y) (λ z. Going (d + 1) (z ∷ os) n))
        → (right ⨾ One one) c a b → After a x os set b (and_then r (applied op x))
    plain_operator op one a b x set os kept acts (d, code, last) =
        comes_on c see q a d b (x ∷ os) (recounted set m) (λ v. v ∷ x ∷ os) (λ v. m) (λ v. v ∷ os) (λ v. m) r (applied op x)
        (right_gives a d set (x ∷ os) kept code)
        (λ y later more. passes_or_traps c see one q d (y ∷ x ∷ os) (recounted later m) b (λ z. z ∷ os)
        (applied op x y) last (acts y d (recounted later m)))

    -- the right side of `and` and `or`, made into a truth
    truth_of_right : (op : Op) (a d e b : ℕ) (x : ℤ) (set : List (Option Counting)) (os : List ℤ) → KeptBelow q m.counters set
        → ((y : ℤ) → applied op x y ≡ Ok (truth (not (is_zero y)))) → right c a d → One instr.Bool c d e
        → ((v : ℤ) (n : Workspace) → Leads c see e (v ∷ os) n b (v ∷ os) n)
        → Comes c see q a os (recounted set m) b (λ v. v ∷ os) (λ v. m) (and_then r (applied op x))
    truth_of_right op a d e b x set os kept is code bool onward =
        comes_on c see q a d b os (recounted set m) (λ v. v ∷ os) (λ v. m) (λ v. v ∷ os) (λ v. m) r (applied op x) (right_gives a d set os kept code)
        (λ y later more. same_comes c see q d (y ∷ os) (recounted later m) b (λ v. v ∷ os) (λ v. m) (Ok (truth (not (is_zero y)))) _ (sym (is y)) (
          later,
          kept_here q later,
          leads_on c see (passes c see instr.Bool d e (y ∷ os) (truth (not (is_zero y)) ∷ os) (recounted later m) (recounted later m) bool refl)
              (onward (truth (not (is_zero y))) (recounted later m)),
        ))

    and_comes : (t : Bool) (a b : ℕ) (x : ℤ) (set : List (Option Counting)) (os : List ℤ) → KeptBelow q m.counters set → is_zero x ≡ t
        → AndCode right c a b → After a x os set b (unless_decided (cond t (Some (pos 0)) None) op.And x r)
    and_comes true a b x set os kept z (fails, (end, (d, test, (d1, code, (d2, bool, (d3, jump, (d4, at_no, (d5, push, at_end)))))))) = (
      set,
      kept_here q set,
      leads_on c see (jumps_zero c see a fails d x os (recounted set m) test z)
          (from_there c see fails d4 b os (pos 0 ∷ os) _ _ (sym (at_no.1 ∙ at_no.0))
          (to_there c see d4 d5 b os (pos 0 ∷ os) _ _ (sym at_end.1) (pushes c see d4 d5 (pos 0) os (recounted set m) push))),
    )
    and_comes false a b x set os kept z (fails, (end, (d, test, (d1, code, (d2, bool, (d3, jump, (d4, at_no, (d5, push, at_end)))))))) =
        comes_from c see q a d (x ∷ os) os (recounted set m) (recounted set m) b (λ v. v ∷ os) (λ v. m) (and_then r (applied op.And x))
        (passes_zero c see a fails d x os (recounted set m) test z) (kept_here q set)
        (truth_of_right op.And d d1 d2 b x set os kept (λ y. refl) code bool
        (λ v n. to_there c see d2 end b (v ∷ os) (v ∷ os) n n (sym (at_end.1 ∙ at_end.0)) (jumps c see d2 end d3 (v ∷ os) n jump)))

    or_comes : (t : Bool) (a b : ℕ) (x : ℤ) (set : List (Option Counting)) (os : List ℤ) → KeptBelow q m.counters set → is_zero x ≡ t
        → OrCode right c a b → After a x os set b (unless_decided (cond t None (Some (pos 1))) op.Or x r)
    or_comes true a b x set os kept z (other, (end, (d, test, (d1, push, (d2, jump, (d3, at_other, (d4, code, (d5, bool, at_end)))))))) =
        comes_from c see q a d3 (x ∷ os) os (recounted set m) (recounted set m) b (λ v. v ∷ os) (λ v. m) (and_then r (applied op.Or x))
        (to_there c see a other d3 (x ∷ os) os _ _ (sym (at_other.1 ∙ at_other.0)) (jumps_zero c see a other d x os (recounted set m) test z))
        (kept_here q set)
        (truth_of_right op.Or d3 d4 d5 b x set os kept (λ y. refl) code bool
        (λ v n. to_there c see d5 d5 b (v ∷ os) (v ∷ os) n n (sym at_end.1) (stays c see d5 (v ∷ os) n)))
    or_comes false a b x set os kept z (other, (end, (d, test, (d1, push, (d2, jump, (d3, at_other, (d4, code, (d5, bool, at_end)))))))) = (
      set,
      kept_here q set,
      leads_on c see (passes_zero c see a other d x os (recounted set m) test z)
          (leads_on c see (pushes c see d d1 (pos 1) os (recounted set m) push)
          (to_there c see d1 end b (pos 1 ∷ os) (pos 1 ∷ os) _ _ (sym (at_end.1 ∙ at_end.0))
          (jumps c see d1 end d2 (pos 1 ∷ os) (recounted set m) jump))),
    )

    -- an operator with its left value
    operator_comes : (op : Op) (a b : ℕ) (x : ℤ) (set : List (Option Counting)) (os : List ℤ) → KeptBelow q m.counters set
        → OperatorCode op right c a b → After a x os set b (unless_decided (decided op x) op x r)
    operator_comes op.And a b x set os kept code = and_comes (is_zero x) a b x set os kept refl code
    operator_comes op.Or a b x set os kept code = or_comes (is_zero x) a b x set os kept refl code
    operator_comes op.Eq a b x set os kept code = plain_operator op.Eq instr.Eq a b x set os kept (λ y d n. refl) code
    operator_comes op.Ne a b x set os kept code = plain_operator op.Ne instr.Ne a b x set os kept (λ y d n. refl) code
    operator_comes op.Lt a b x set os kept code = plain_operator op.Lt instr.Lt a b x set os kept (λ y d n. refl) code
    operator_comes op.Le a b x set os kept code = plain_operator op.Le instr.Le a b x set os kept (λ y d n. refl) code
    operator_comes op.Gt a b x set os kept code = plain_operator op.Gt instr.Gt a b x set os kept (λ y d n. refl) code
    operator_comes op.Ge a b x set os kept code = plain_operator op.Ge instr.Ge a b x set os kept (λ y d n. refl) code
    operator_comes op.Add a b x set os kept code = plain_operator op.Add instr.Add a b x set os kept (λ y d n. refl) code
    operator_comes op.Sub a b x set os kept code = plain_operator op.Sub instr.Sub a b x set os kept (λ y d n. refl) code
    operator_comes op.Mul a b x set os kept code = plain_operator op.Mul instr.Mul a b x set os kept (λ y d n. refl) code
    operator_comes op.Div a b x set os kept code = plain_operator op.Div instr.Div a b x set os kept (λ y d n. refl) code
    operator_comes op.Rem a b x set os kept code = plain_operator op.Rem instr.Rem a b x set os kept (λ y d n. refl) code

module _ (c : Code) (see : Sight) (slots : List Slot) (globals : Shape) (shapes : List Shape) (in_test : Bool) where
  -- the frames around an expression: they differ in their counters alone
  abbrev pub around : List (List ℕ × ℕ) → ℕ → Frames
  around counters q = record { globals = globals; running = shapes; counters = counters; quantified = q; in_test = in_test }

  -- what is known of the present variables, and in a test of those before the block
  module _ (env prior : Environment) (m : Workspace) (now : Finds (here c see) m.calls (around [] 0) env m.words)
      (before : in_test ≡ true → Finds (here c see) m.calls (around [] 0) prior see.prior) where
    -- the counters that are known
    pub record Knows (q : ℕ) (named : List (List ℕ × ℕ)) (counters : Counters) (set : List (Option Counting)) : Type 0 where
      pub fit : CountersFit q named counters set
      pub two : length set ≡ 2

    knows_later : (q : ℕ) (named : List (List ℕ × ℕ)) (counters : Counters) (set later : List (Option Counting)) → KeptBelow q set later
        → Knows q named counters set → Knows q named counters later
    knows_later q named counters set later kept k =
        record { fit = fit_kept q named counters set later kept k.fit; two = kept.many ∙ k.two }

    -- the same within a quantified expression: in its limits, and in its body
    inside : (q : ℕ) (named : List (List ℕ × ℕ)) (counters : Counters) (set : List (Option Counting))
        → q < most_quantifications → Knows q named counters set
        → q < length set
    inside q named counters set l k = subst (λ n. q < n) (sym k.two) l

    knows_more : (q : ℕ) (named : List (List ℕ × ℕ)) (counters : Counters) (set later : List (Option Counting)) → KeptBelow q set later
        → Knows q named counters set → Knows (q + 1) named counters later
    knows_more q named counters set later kept k = record {
      fit = fit_more q (q + 1) named counters later (omega arith) (fit_kept q named counters set later kept k.fit);
      two = kept.many ∙ k.two;
    }

    knows_inside : (q : ℕ) (name : Identifier) (named : List (List ℕ × ℕ)) (counters : Counters) (set later : List (Option Counting)) (x end : ℤ)
        → KeptBelow q set later → slice_get later q ≡ Some (counter x end) → Knows q named counters set
        → Knows (q + 1) ((name.text, q) ∷ named) ((name.text, x) ∷ counters) later
    knows_inside q name named counters set later x end kept at k =
        let more = knows_more q named counters set later kept k in
        record { fit = (refl, omega arith, (end, at), more.fit); two = more.two }

    one_more : (q a b : ℕ) (set : List (Option Counting)) (os : List ℤ) (o : Value) → Gives c see (q + 1) a os (recounted set m) b o
        → Gives c see (suc q) a os (recounted set m) b o
    one_more q a b set os o comes =
        fewer_kept c see (suc q) (q + 1) a os (recounted set m) b (λ v. v ∷ os) (λ v. recounted set m) o (omega arith) comes

    -- a word that an instruction pushes
    word_comes : (one : Instr) (q a b : ℕ) (v : ℤ) (set : List (Option Counting)) (ps os : List ℤ) (x : ℤ) → One one c a b → x ≡ v
        → act c see one a ps (recounted set m) ≡ Going (a + 1) (v ∷ os) (recounted set m)
        → Comes c see q a ps (recounted set m) b (λ v. v ∷ os) (λ v. m) (Ok x)
    word_comes one q a b v set ps os x code e acts =
        same_comes c see q a ps (recounted set m) b (λ v. v ∷ os) (λ v. m) (Ok v) (Ok x) (ap (λ z. Ok z) (sym e))
        (set, kept_here q set, passes c see one a b ps (v ∷ os) (recounted set m) (recounted set m) code acts)

    -- a name that may stand for a counter
    name_comes : (name : Identifier) (named : List (List ℕ × ℕ)) (q : ℕ) (counters : Counters) (a b : ℕ)
        (set : List (Option Counting)) (os : List ℤ) (o : Option ℕ)
        → counter_among named name.text ≡ o → Knows q named counters set → IsValueBy o slots (around named q) name
        → ScalarCode (counter_slot slots name.id) (spot_of slots name.id) c a b
        → Gives c see q a os (recounted set m) b (read env prior counters env counters (Refer name Scalar))
    name_comes name named q counters a b set os None e k is code =
        let none : counter_slot slots name.id ≡ None = scalar_no_counter slots name.id is.at is.slot in
        let one = subst (λ o. ScalarCode o (spot_of slots name.id) c a b) none code in
        word_comes (instr.Load (spot_of slots name.id)) q a b (word_at m.words (place c see m.calls (spot_of slots name.id))) set os os _ one
        (ap (λ o. counter_or o (number_at (values_of env name.text) 0)) (no_number q named counters set name.text k.fit e)
        ∙ scalar_value c see (around [] 0) m.calls env m.words slots name now
        (record { at = is.at; found = is.found; one_word = is.one_word; slot = is.slot }))
        refl
    name_comes name named q counters a b set os (Some j) e k is code =
        let r = number_there q named counters set name.text j k.fit e in
        let one = subst (λ o. ScalarCode o (spot_of slots name.id) c a b) (ap counter_in is.0) code in
        word_comes (instr.Counter j) q a b r.0 set os os _ one
        (ap (λ o. counter_or o (number_at (values_of env name.text) 0)) r.1)
        (ap (λ o. if_there (unwrap_or o None) (λ counting. Going (a + 1) (counting.now ∷ os) (recounted set m))) r.2.1)

    -- an element behind its index, in the words of now or of before
    element_comes : (one : Instr) (words : List ℤ) (there : Environment) (name : Identifier) (named : List (List ℕ × ℕ))
        (q : ℕ) (a d b : ℕ) (set : List (Option Counting))
        (os : List ℤ) (index : Value) → Finds (here c see) m.calls (around [] 0) there words → IsArray slots (around named q) name
        → ((i d : ℕ) (later : List (Option Counting)) → act c see one d (pos i ∷ os) (recounted later m)
        ≡ Going (d + 1) (word_at words (place c see m.calls (spot_of slots name.id) + i) ∷ os) (recounted later m))
        → Gives c see q a os (recounted set m) d index → (One (instr.Bound (elements_of slots name.id)) ⨾ One one) c d b
        → Gives c see q a os (recounted set m) b (element_at (values_of there name.text) index)
    element_comes one words there name named q a d b set os index finds array acts comes (d1, bound, last) =
        comes_on c see q a d b os (recounted set m) (λ v. v ∷ os) (λ v. m) (λ v. v ∷ os) (λ v. m) index
        (λ i. and_then (index_in (values_of there name.text) i) (λ n. Ok (number_at (values_of there name.text) n))) comes
        (λ i later more. bound_comes c see (elements_of slots name.id) q d d1 b (values_of there name.text) i os
        (recounted later m) (λ v. v ∷ os) (λ v. m)
        (λ n. Ok (number_at (values_of there name.text) n)) bound (array_values c see (around [] 0) m.calls there words slots name finds plain)
        (λ n l. word_comes one q d1 b _ later (pos n ∷ os) os _ last
        (element_value c see (around [] 0) m.calls there words slots name n finds plain l) (acts n d1 later)))
      where
        plain : IsArray slots (around [] 0) name
        plain = record { at = array.at; found = array.found; some = array.some; few = array.few; slot = array.slot }

    mutual
      unfolding ExpressionCode SubscriptCode LinksCode

      pub expression_comes : (e : Expression) (named : List (List ℕ × ℕ)) (q : ℕ) (counters : Counters) (a b : ℕ)
          (set : List (Option Counting)) (os : List ℤ)
          → Knows q named counters set → ExpressionInFrames slots (around named q) e → ExpressionCode slots e c a b
          → Gives c see q a os (recounted set m) b (value env prior counters e)
      expression_comes (Literal number) named q counters a b set os k is code =
          word_comes (instr.Push number.value) q a b number.value set os os number.value code refl refl
      expression_comes (Variable (Refer name Scalar)) named q counters a b set os k is code =
          name_comes name named q counters a b set os (counter_among named name.text) refl k is code
      expression_comes (Variable (Refer name (Element index))) named q counters a b set os k is (d, code, last) =
          element_comes (instr.LoadAt (spot_of slots name.id)) m.words env name named q a d b set os (value env prior counters index) now is.0
          (λ i d1 later. refl) (expression_comes index named q counters a d set os k is.1 code) last
      expression_comes (Former at (Refer name Scalar)) named q counters a b set os k is code =
          word_comes (instr.Prior (spot_of slots name.id)) q a b (word_at see.prior (place c see m.calls (spot_of slots name.id))) set os os _ code
          (scalar_value c see (around [] 0) m.calls prior see.prior slots name (before is.0)
          (record { at = is.1.at; found = is.1.found; one_word = is.1.one_word; slot = is.1.slot }))
          refl
      expression_comes (Former at (Refer name (Element index))) named q counters a b set os k is (d, code, last) =
          element_comes (instr.PriorAt (spot_of slots name.id)) see.prior prior name named q a d b set os
          (value env prior counters index) (before is.0) is.1.0
          (λ i d1 later. refl) (expression_comes index named q counters a d set os k is.1.1 code) last
      expression_comes (Minus operand) named q counters a b set os k is (d, code, neg) =
          comes_on c see q a d b os (recounted set m) (λ v. v ∷ os) (λ v. m) (λ v. v ∷ os) (λ v. m)
          (value env prior counters operand) (λ x. fitting (neg_ℤ x))
          (expression_comes operand named q counters a d set os k is code)
          (λ x later more. passes_or_traps c see instr.Neg q d (x ∷ os) (recounted later m) b (λ z. z ∷ os) (fitting (neg_ℤ x)) neg refl)
      expression_comes (Negation operand) named q counters a b set os k is (d, code, negate) =
          comes_on c see q a d b os (recounted set m) (λ v. v ∷ os) (λ v. m) (λ v. v ∷ os) (λ v. m)
          (value env prior counters operand) (λ x. Ok (truth (is_zero x)))
          (expression_comes operand named q counters a d set os k is code)
          (λ x later more. (
            later,
            kept_here q later,
            passes c see instr.Not d b (x ∷ os) (truth (is_zero x) ∷ os) (recounted later m) (recounted later m) negate refl,
          ))
      expression_comes (Chained first links) named q counters a b set os k is (d, code, more) =
          links_come links named q counters a d b set os (value env prior counters first) k is.1
          (expression_comes first named q counters a d set os k is.0 code) more
      expression_comes (Quantification kind at name low high body) named q counters a b set os k is code =
          let slot : quantified_of slots name.id ≡ q = ap quantified_in is.1 in
          quantified_comes c see q m set (inside q named counters set is.0 k) (ExpressionCode slots low)
          (ExpressionCode slots high) (ExpressionCode slots body)
          (value env prior counters low) (value env prior counters high) (λ n. value env prior ((name.text, n) ∷ counters) body)
          (λ a1 b1 set1 os1 kept code1. one_more q a1 b1 set1 os1 (value env prior counters low)
          (expression_comes low named (q + 1) counters a1 b1 set1 os1 (knows_more q named counters set set1 kept k) is.2 code1))
          (λ a1 b1 set1 os1 kept code1. one_more q a1 b1 set1 os1 (value env prior counters high)
          (expression_comes high named (q + 1) counters a1 b1 set1 os1 (knows_more q named counters set set1 kept k) is.3 code1))
          (λ end x a1 b1 set1 os1 kept at1 code1. one_more q a1 b1 set1 os1
          (value env prior ((name.text, x) ∷ counters) body)
          (expression_comes body ((name.text, q) ∷ named) (q + 1) ((name.text, x) ∷ counters) a1 b1 set1 os1
          (knows_inside q name named counters set set1 x end kept at1 k) is.4 code1))
          kind a b set os (kept_here q set)
          (subst (λ j. QuantifiedCode kind j (ExpressionCode slots low) (ExpressionCode slots high)
          (ExpressionCode slots body) c a b) slot code)

      links_come : (links : Links) (named : List (List ℕ × ℕ)) (q : ℕ) (counters : Counters) (a d b : ℕ)
          (set : List (Option Counting)) (os : List ℤ) (left : Value)
          → Knows q named counters set → LinksInFrames slots (around named q) links
          → Gives c see q a os (recounted set m) d left → LinksCode slots links c d b
          → Gives c see q a os (recounted set m) b (chained env prior counters left links)
      links_come NoLink named q counters a d b set os left k is comes code = subst (λ n. Gives c see q a os (recounted set m) n left) (sym code) comes
      links_come (Linked op right links) named q counters a d b set os left k is comes (d1, code, more) =
          links_come links named q counters a d1 b set os (operated op left (value env prior counters right)) k is.1
          (comes_on c see q a d d1 os (recounted set m) (λ v. v ∷ os) (λ v. m) (λ v. v ∷ os) (λ v. m) left
          (λ x. unless_decided (decided op x) op x (value env prior counters right)) comes
          (λ x later more. operator_comes c see (recounted later m) q (ExpressionCode slots right) (value env prior counters right)
          (λ a1 b1 set1 os1 kept code1. expression_comes right named q counters a1 b1 set1 os1
          (knows_later q named counters set set1 (kept_on more kept) k) is.0 code1)
          op d d1 x later os (kept_here q later) code)) more
