-- The code of a quantified expression comes to its value.
use Rattle.std.proofs.Common.{◌≡◌, ◌<◌, ℕ, zero, suc, ◌+◌, ℤ, pos, ◌+ℤ◌, List, ◌∷◌, length, slice_get, slice_set, Option, Some, Result, Ok, Err, refl, sym, ap, ◌∙◌, subst, arith}
use Rattle.rb_base.specs.declared.event.Cause.{Cause}
use Rattle.rb_syntax.specs.declared.expression.Quantifier.{Quantifier}
use Rattle.rb_syntax.specs.declared.expression.Quantifier.TheVariants.{Every, Any, Total}
use Rattle.rb_meaning.specs.Value.{Outcome as Value, and_then, over_span, quantified, span}
use Rattle.rb_code.specs.Instructions.Plain.{Code}
use Rattle.rb_code.specs.WordMachine.Workspace.{Counting, Workspace}
use Rattle.rb_code.specs.WordMachine.Act.{Sight, Trapped, counting, or_trap, ranged}
use Rattle.rb_code.specs.Agreement.Template.{Template, One}
use Rattle.rb_code.specs.Agreement.Forms.{EveryCode, QuantifiedCode, SomeCode, SumCode}
use Rattle.rb_code.specs.declared.instr.Instr.TheVariants.{Again, Jump, JumpZero, Push, Range}
use Rattle.rb_code.proofs.Agreeing.Leads.{Leads, ends, goes, leads_on, passes, stays}
use Rattle.rb_code.proofs.Agreeing.ResultsReached.{Comes, KeptBelow, comes_from, comes_inside, kept_here, kept_on, recounted}
use Rattle.rb_code.proofs.Agreeing.CountersSet.{is_set, kept_set}
use Rattle.rb_code.proofs.Agreeing.Spans.{span_is}
use Rattle.rb_code.proofs.Agreeing.Loops.{counter, every_loop, from_there, jumps, pushes, some_loop, sum_loop, to_there}

module _ (c : Code) (see : Sight) where
  -- the loop begins at the first number, or is passed over where there is none
  range_comes : (k past r d b : ℕ) (x y : ℤ) (os ps : List ℤ) (m n : Workspace) (h : ℕ → Value) → One (Range k past) c r d
      → Comes c see k past os m b (λ v. v ∷ ps) (λ v. n) (h 0)
      → ((j : ℕ) → y ≡ x +ℤ pos j → Comes c see k d os (counting k (counter x y) m) b (λ v. v ∷ ps) (λ v. n) (h (suc j)))
      → Comes c see k r (y ∷ x ∷ os) m b (λ v. v ∷ ps) (λ v. n) (and_then (span x y) h)
  range_comes k past r d b x y os ps m n h code if_none if_some = by (span x y) refl
    where
      by : (o : Result ℕ Cause) → span x y ≡ o → Comes c see k r (y ∷ x ∷ os) m b (λ v. v ∷ ps) (λ v. n) (and_then o h)
      by (Err cause) e =
          ends c see (Range k past) r (y ∷ x ∷ os) m (Trapped cause) code.0 (ap (λ o. or_trap o (ranged k past (r + 1) x y os m)) e) refl
      by (Ok zero) e =
          comes_from c see k r past (y ∷ x ∷ os) os m m b (λ v. v ∷ ps) (λ v. n) (h 0)
          (goes c see (Range k past) r past (y ∷ x ∷ os) os m m code.0 (ap (λ o. or_trap o (ranged k past (r + 1) x y os m)) e))
          (kept_here k m.counters) if_none
      by (Ok (suc j)) e =
          comes_from c see k r d (y ∷ x ∷ os) os m (counting k (counter x y) m) b (λ v. v ∷ ps) (λ v. n) (h (suc j))
          (passes c see (Range k past) r d (y ∷ x ∷ os) os m (counting k (counter x y) m) code
          (ap (λ o. or_trap o (ranged k past (r + 1) x y os m)) e))
          (kept_set k m.counters (counter x y)) (if_some j (span_is x y j e))

  module _ (k : ℕ) (m : Workspace) (base : List (Option Counting)) (there : k < length base) (low high body : Template) (from to : Value) (f : ℤ → Value)
      (low_comes : (a b : ℕ) (set : List (Option Counting)) (os : List ℤ) → KeptBelow k base set → low c a b
      → Comes c see (suc k) a os (recounted set m) b (λ v. v ∷ os) (λ v. m) from)
      (high_comes : (a b : ℕ) (set : List (Option Counting)) (os : List ℤ) → KeptBelow k base set → high c a b
      → Comes c see (suc k) a os (recounted set m) b (λ v. v ∷ os) (λ v. m) to)
      (body_comes : (end x : ℤ) (a b : ℕ) (set : List (Option Counting)) (os : List ℤ) → KeptBelow k base set
      → slice_get set k ≡ Some (counter x end) → body c a b → Comes c see (suc k) a os (recounted set m) b (λ v. v ∷ os) (λ v. m) (f x)) where
    -- both limits, the range, and then what a loop comes to
    limits_come : (past a p r d b : ℕ) (set : List (Option Counting)) (os ps : List ℤ) (h : ℤ → ℕ → Value)
        → KeptBelow k base set → low c a p → high c p r
        → One (Range k past) c r d
        → ((x : ℤ) (set : List (Option Counting)) → KeptBelow k base set → Comes c see k past os (recounted set m) b (λ v. v ∷ ps) (λ v. m) (h x 0))
        → ((x y : ℤ) (j : ℕ) (set : List (Option Counting)) → y ≡ x +ℤ pos j → KeptBelow k base set → slice_get set k ≡ Some (counter x y)
        → Comes c see k d os (recounted set m) b (λ v. v ∷ ps) (λ v. m) (h x (suc j)))
        → Comes c see k a os (recounted set m) b (λ v. v ∷ ps) (λ v. m) (and_then from (λ x. and_then to (λ y. and_then (span x y) (h x))))
    limits_come past a p r d b set os ps h kept lc hc range if_none if_some =
        comes_inside c see k (suc k) a p b os (recounted set m) (λ v. v ∷ os) (λ v. m) (λ v. v ∷ ps) (λ v. m) from
        (λ x. and_then to (λ y. and_then (span x y) (h x))) (omega arith) (low_comes a p set os kept lc)
        (λ x set2 more2. comes_inside c see k (suc k) p r b (x ∷ os) (recounted set2 m) (λ v. v ∷ x ∷ os) (λ v. m) (λ v. v ∷ ps) (λ v. m) to
        (λ y. and_then (span x y) (h x)) (omega arith) (high_comes p r set2 (x ∷ os) (less set set2 kept more2) hc)
        (λ y set3 more3. range_comes k past r d b x y os ps (recounted set3 m) m (h x) range
        (if_none x set3 (less set2 set3 (less set set2 kept more2) more3))
        (λ j e. if_some x y j (slice_set set3 k (counter x y)) e
        (kept_on (less set2 set3 (less set set2 kept more2) more3) (kept_set k set3 (counter x y)))
        (is_set k set3 (counter x y) (long set3 (less set2 set3 (less set set2 kept more2) more3))))))
      where
        less : (set later : List (Option Counting)) → KeptBelow k base set → KeptBelow (suc k) set later → KeptBelow k base later
        less set later kept more = record { many = more.many ∙ kept.many; same = λ j h. more.same j (omega arith) ∙ kept.same j h }

        long : (set : List (Option Counting)) → KeptBelow k base set → k < length set
        long set kept = subst (λ n. k < n) (sym kept.many) there

    -- a number behind which the expression ends
    answers : (a d e b end : ℕ) (v : ℤ) (os : List ℤ) (n : Workspace) → One (Push v) c a d → One (Jump end) c d e → b ≡ end
        → Leads c see a os n b (v ∷ os) n
    answers a d e b end v os n push jump is =
        leads_on c see (pushes c see a d v os n push) (to_there c see d end b (v ∷ os) (v ∷ os) n n (sym is) (jumps c see d end e (v ∷ os) n jump))

    last_answer : (a d b end : ℕ) (v : ℤ) (os : List ℤ) (n : Workspace) → One (Push v) c a d → (d ≡ end) × (b ≡ d) → Leads c see a os n b (v ∷ os) n
    last_answer a d b end v os n push is = to_there c see a d b os (v ∷ os) n n (sym is.1) (pushes c see a d v os n push)

    every_comes : (a b : ℕ) (set : List (Option Counting)) (os : List ℤ) → KeptBelow k base set → EveryCode k low high body c a b
        → Comes c see k a os (recounted set m) b (λ v. v ∷ os) (λ v. m) (over_span Every from to f)
    every_comes a b set os kept (loop, (fails, (holds, (end, (p, lc, (r, hc, (d, range, (first, at_loop, (d0, bc, (d1, zero_test, (d2, again, (d3, at_yes, (d4, push1, (d5, jump, (d6, at_no, (d7, push0, at_end)))))))))))))))) =
        limits_come holds a p r d b set os os (λ x n. quantified Every n x f) kept lc hc range
        (λ x set1 kept1. (set1, kept_here k set1, from_yes os (recounted set1 m)))
        (λ x y j set1 e kept1 at. subst (λ z. Comes c see k z os (recounted set1 m) b (λ v. v ∷ os) (λ v. m) (quantified Every (suc j) x f)) at_loop.1
        (every_loop c see k m base there y f first d0 (λ x1 set2 os2 kept2 at2. body_comes y x1 first d0 set2 os2 kept2 at2 bc) b d1 d2
        (subst (λ z. One (Again k z) c d1 d2) (sym (at_loop.1 ∙ at_loop.0)) again) fails zero_test
        (λ os2 n2. from_there c see d2 holds b os2 (pos 1 ∷ os2) n2 n2 at_yes.0 (from_yes os2 n2)) from_no j x set1 os e kept1 at))
      where
        from_yes : (os : List ℤ) (n : Workspace) → Leads c see holds os n b (pos 1 ∷ os) n
        from_yes os n =
            from_there c see holds d3 b os (pos 1 ∷ os) n n (sym (at_yes.1 ∙ at_yes.0))
            (answers d3 d4 d5 b end (pos 1) os n push1 jump (at_end.1 ∙ at_end.0))

        from_no : (os : List ℤ) (n : Workspace) → Leads c see fails os n b (pos 0 ∷ os) n
        from_no os n = from_there c see fails d6 b os (pos 0 ∷ os) n n (sym (at_no.1 ∙ at_no.0)) (last_answer d6 d7 b end (pos 0) os n push0 at_end)

    some_comes : (a b : ℕ) (set : List (Option Counting)) (os : List ℤ) → KeptBelow k base set → SomeCode k low high body c a b
        → Comes c see k a os (recounted set m) b (λ v. v ∷ os) (λ v. m) (over_span Any from to f)
    some_comes a b set os kept (loop, (next, (fails, (end, (p, lc, (r, hc, (d, range, (first, at_loop, (d0, bc, (d1, zero_test, (d2, push1, (d3, jump, (d4, at_next, (d5, again, (d6, at_no, (d7, push0, at_end)))))))))))))))) =
        limits_come fails a p r d b set os os (λ x n. quantified Any n x f) kept lc hc range
        (λ x set1 kept1. (set1, kept_here k set1, from_no os (recounted set1 m)))
        (λ x y j set1 e kept1 at. subst (λ z. Comes c see k z os (recounted set1 m) b (λ v. v ∷ os) (λ v. m) (quantified Any (suc j) x f)) at_loop.1
        (some_loop c see k m base there y f first d0 (λ x1 set2 os2 kept2 at2. body_comes y x1 first d0 set2 os2 kept2 at2 bc) b d4 d5
        (subst (λ z. One (Again k z) c d4 d5) (sym (at_loop.1 ∙ at_loop.0)) again) d1
        (subst (λ z. One (JumpZero z) c d0 d1) (sym (at_next.1 ∙ at_next.0)) zero_test)
        (λ os2 n2. answers d1 d2 d3 b end (pos 1) os2 n2 push1 jump (at_end.1 ∙ at_end.0))
        (λ os2 n2. from_there c see d5 fails b os2 (pos 0 ∷ os2) n2 n2 at_no.0 (from_no os2 n2)) j x set1 os e kept1 at))
      where
        from_no : (os : List ℤ) (n : Workspace) → Leads c see fails os n b (pos 0 ∷ os) n
        from_no os n = from_there c see fails d6 b os (pos 0 ∷ os) n n (sym (at_no.1 ∙ at_no.0)) (last_answer d6 d7 b end (pos 0) os n push0 at_end)

    sum_comes : (a b : ℕ) (set : List (Option Counting)) (os : List ℤ) → KeptBelow k base set → SumCode k low high body c a b
        → Comes c see k a os (recounted set m) b (λ v. v ∷ os) (λ v. m) (over_span Total from to f)
    sum_comes a b set os kept (loop, (end, (a0, push0, (p, lc, (r, hc, (d, range, (first, at_loop, (d0, bc, (d1, adds, (d2, again, at_end)))))))))) =
        comes_from c see k a a0 os (pos 0 ∷ os) (recounted set m) (recounted set m) b (λ v. v ∷ os) (λ v. m) (over_span Total from to f)
        (pushes c see a a0 (pos 0) os (recounted set m) push0) (kept_here k set)
        (limits_come end a0 p r d b set (pos 0 ∷ os) os (λ x n. quantified Total n x f) kept lc hc range
        (λ x set1 kept1. (
          set1,
          kept_here k set1,
          to_there c see end end b (pos 0 ∷ os) (pos 0 ∷ os) _ _ (sym (at_end.1 ∙ at_end.0))
              (stays c see end (pos 0 ∷ os) (recounted set1 m)),
        ))
        (λ x y j set1 e kept1 at. subst
        (λ z. Comes c see k z (pos 0 ∷ os) (recounted set1 m) b (λ v. v ∷ os) (λ v. m) (quantified Total (suc j) x f)) at_loop.1
        (sum_loop c see k m base there y f first d0 (λ x1 set2 os2 kept2 at2. body_comes y x1 first d0 set2 os2 kept2 at2 bc) b d1 d2
        (subst (λ z. One (Again k z) c d1 d2) (sym (at_loop.1 ∙ at_loop.0)) again) adds (sym at_end.1) j x (pos 0) set1 os e kept1 at)))

    pub quantified_comes : (kind : Quantifier) (a b : ℕ) (set : List (Option Counting)) (os : List ℤ) → KeptBelow k base set
        → QuantifiedCode kind k low high body c a b → Comes c see k a os (recounted set m) b (λ v. v ∷ os) (λ v. m) (over_span kind from to f)
    quantified_comes Every a b set os kept code = every_comes a b set os kept code
    quantified_comes Any a b set os kept code = some_comes a b set os kept code
    quantified_comes Total a b set os kept code = sum_comes a b set os kept code
