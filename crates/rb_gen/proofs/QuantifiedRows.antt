-- The code of quantified expressions and of `and`, as it is put together.
use Rattle.std.proofs.Common.{◌≡◌, ℕ, List, length, refl, subst, pos}
use Rattle.rb_syntax.specs.declared.expression.Quantified.{Quantified}
use Rattle.rb_syntax.specs.Plain.{expression}
use Rattle.rb_scope.specs.declared.slot.Slot.{Slot}
use Rattle.rb_code.specs.declared.instr.Instr.TheVariants.{Add, Again, Bool, Jump, JumpZero, Push, Range}
use Rattle.rb_code.specs.Agreement.Slots.{quantified_of}
use Rattle.rb_code.specs.Agreement.Template.{Template, One}
use Rattle.rb_code.specs.Agreement.Forms.{AndCode, EveryCode, ExpressionCode, SomeCode, SumCode}
use Rattle.rb_draft.specs.Output.{Output, patched}
use Rattle.rb_draft.specs.Emits.{Adds}
use Rattle.rb_gen.specs.InMemory.{LeavesRange, Left, PutsZero, over}
use Rattle.rb_draft.proofs.Emits.{at, both, filled, labelled}

pub every_row : {low high body : Template} (counter : ℕ) {k range again test full skip gone end : ℕ} {c c1 c2 c3 c4 c5 c6 c7 c8 c9 d1 d2 d3 : Output}
    → counter ≡ k → Adds low c c1 → Adds high c1 c2 → Left range c2 c3 → again ≡ length c3.instrs → Adds body c3 c4 → Left test c4 c5
    → Adds (One (Again counter again)) c5 c6 → full ≡ length c6.instrs → Adds (One (Push (pos 1))) c6 c7 → Left skip c7 c8 → gone ≡ length c8.instrs
    → Adds (One (Push (pos 0))) c8 c9 → end ≡ length c9.instrs → d1 ≡ patched c9 skip (Jump end) → d2 ≡ patched d1 test (JumpZero gone)
    → d3 ≡ patched d2 range (Range counter full) → Adds (EveryCode k low high body) c d3
every_row {low = L} {high = H} {body = B} counter {again = again} {full = full} {gone = gone} {end = end} {c = c} {c3 =
    c3} {c6 = c6} {c8 = c8} {c9 = c9}
    {d3 = d3} same low high ranges here body tests goes at_yes one skips at_no zero at_end p1 p2 p3 =
    subst (λ (i : ℕ). Adds (EveryCode i L H B) c d3) same (λ p n.
    labelled again (labelled gone (labelled full (labelled end
    (both (low p n) (both (high p n) (filled (Range counter full) refl ranges p3
    (both (at n c3 here) (both (body p n) (filled (JumpZero gone) refl tests p2
    (both (goes p n) (both (at n c6 at_yes) (both (one p n) (filled (Jump end) refl skips p1
    (both (at n c8 at_no) (both (zero p n) (at n c9 at_end)))))))))))))))))

pub some_row : {low high body : Template} (counter : ℕ) {k range again test skip next gone end : ℕ} {c c1 c2 c3 c4 c5 c6 c7 c8 c9 d1 d2 d3 : Output}
    → counter ≡ k → Adds low c c1 → Adds high c1 c2 → Left range c2 c3 → again ≡ length c3.instrs → Adds body c3 c4 → Left test c4 c5
    → Adds (One (Push (pos 1))) c5 c6 → Left skip c6 c7 → next ≡ length c7.instrs → Adds (One (Again counter again)) c7 c8 → gone ≡ length c8.instrs
    → Adds (One (Push (pos 0))) c8 c9 → end ≡ length c9.instrs → d1 ≡ patched c9 skip (Jump end) → d2 ≡ patched d1 test (JumpZero next)
    → d3 ≡ patched d2 range (Range counter gone) → Adds (SomeCode k low high body) c d3
some_row {low = L} {high = H} {body = B} counter {again = again} {next = next} {gone = gone} {end = end} {c = c} {c3 =
    c3} {c7 = c7} {c8 = c8} {c9 = c9}
    {d3 = d3} same low high ranges here body tests one skips at_next goes at_no zero at_end p1 p2 p3 =
    subst (λ (i : ℕ). Adds (SomeCode i L H B) c d3) same (λ p n.
    labelled again (labelled next (labelled gone (labelled end
    (both (low p n) (both (high p n) (filled (Range counter gone) refl ranges p3
    (both (at n c3 here) (both (body p n) (filled (JumpZero next) refl tests p2
    (both (one p n) (filled (Jump end) refl skips p1
    (both (at n c7 at_next) (both (goes p n) (both (at n c8 at_no) (both (zero p n) (at n c9 at_end)))))))))))))))))

pub sum_row : {low high body : Template} (counter : ℕ) {k range again end : ℕ} {c c0 c1 c2 c3 c4 c5 c6 d : Output} → counter ≡ k
    → Adds (One (Push (pos 0))) c c0 → Adds low c0 c1 → Adds high c1 c2 → Left range c2 c3 → again ≡ length c3.instrs → Adds body c3 c4
    → Adds (One Add) c4 c5 → Adds (One (Again counter again)) c5 c6 → end ≡ length c6.instrs → d ≡ patched c6 range (Range counter end)
    → Adds (SumCode k low high body) c d
sum_row {low = L} {high = H} {body = B} counter {again = again} {end = end} {c = c} {c3 = c3} {c6 = c6}
    {d = d} same zero low high ranges here body adds goes at_end p1 = subst (λ (i : ℕ). Adds (SumCode i L H B) c d) same (λ p n.
    labelled again (labelled end
    (both (zero p n) (both (low p n) (both (high p n) (filled (Range counter end) refl ranges p1
    (both (at n c3 here) (both (body p n) (both (adds p n) (both (goes p n) (at n c6 at_end)))))))))))

-- the same of a quantified expression in memory
module _ (slots : List Slot) (q : Quantified) where
  pub every_of : (counter : ℕ) {range again test full gone : ℕ} {c d d1 d2 d3 d4 e1 e2 : Output} → counter ≡ quantified_of slots q.name.id
      → LeavesRange slots q range c d → again ≡ length d.instrs → Adds (ExpressionCode slots (expression q.body.value)) d d1 → Left test d1 d2
      → Adds (One (Again counter again)) d2 d3 → full ≡ length d3.instrs → Adds (One (Push (pos 1))) d3 d4 → PutsZero gone d4 e1
      → e2 ≡ patched e1 test (JumpZero gone) → {f : Output} → f ≡ patched e2 range (Range counter full) → Adds (over EveryCode slots q) c f
  every_of counter same (_, _, low, high, ranges) here body tests goes at_yes one (_, _, _, _, skips, at_no, none, at_end, p1) p2 p3 =
      every_row counter same low high ranges here body tests goes at_yes one skips at_no none at_end p1 p2 p3

  pub some_of : (counter : ℕ) {range again test skip next gone end : ℕ} {c d d1 d2 d3 d4 d5 d6 e1 e2 f : Output}
      → counter ≡ quantified_of slots q.name.id → LeavesRange slots q range c d → again ≡ length d.instrs
      → Adds (ExpressionCode slots (expression q.body.value)) d d1 → Left test d1 d2 → Adds (One (Push (pos 1))) d2 d3 → Left skip d3 d4
      → next ≡ length d4.instrs → Adds (One (Again counter again)) d4 d5 → gone ≡ length d5.instrs → Adds (One (Push (pos 0))) d5 d6
      → end ≡ length d6.instrs → e1 ≡ patched d6 skip (Jump end) → e2 ≡ patched e1 test (JumpZero next)
      → f ≡ patched e2 range (Range counter gone) → Adds (over SomeCode slots q) c f
  some_of counter same (_, _, low, high, ranges) here body tests one skips at_next goes at_no none at_end p1 p2 p3 =
      some_row counter same low high ranges here body tests one skips at_next goes at_no none at_end p1 p2 p3

  pub sum_of : (counter : ℕ) {range again end : ℕ} {c c0 d d1 d2 d3 f : Output} → counter ≡ quantified_of slots q.name.id
      → Adds (One (Push (pos 0))) c c0 → LeavesRange slots q range c0 d → again ≡ length d.instrs
      → Adds (ExpressionCode slots (expression q.body.value)) d d1 → Adds (One Add) d1 d2 → Adds (One (Again counter again)) d2 d3
      → end ≡ length d3.instrs → f ≡ patched d3 range (Range counter end) → Adds (over SumCode slots q) c f
  sum_of counter same none (_, _, low, high, ranges) here body adds goes at_end p1 =
      sum_row counter same none low high ranges here body adds goes at_end p1

-- `and`, behind its left operand
pub and_row : {P : Template} {test gone : ℕ} {c c1 c2 c3 d1 d2 : Output} → Left test c c1 → Adds P c1 c2 → Adds (One Bool) c2 c3
    → PutsZero gone c3 d1 → d2 ≡ patched d1 test (JumpZero gone) → Adds (AndCode P) c d2
and_row {gone = gone} tests right whole (_, end, c4, c5, skips, at_no, none, at_end, p1) p2 = λ p n.
    labelled gone (labelled end
    (filled (JumpZero gone) refl tests p2
    (both (right p n) (both (whole p n)
    (filled (Jump end) refl skips p1
    (both (at n c4 at_no) (both (none p n) (at n c5 at_end))))))))
