-- Tables of the code of quantified expressions: a loop over a counter, which is left at its end or by a jump out of it.
use Rattle.std.proofs.Common.{◌≡◌, inl, ℕ, ◌+◌, ◌<◌, ◌≤◌, pos, List, ◌∷◌, length, slice_get, Option, Some, None, refl, ap, sym, ◌∙◌, subst, arith}
use Rattle.rb_base.specs.declared.limits.TheConstants.{MOST_OPERANDS}
use Rattle.rb_syntax.specs.declared.expression.Quantifier.{Quantifier}
use Rattle.rb_syntax.specs.declared.expression.Quantifier.TheVariants.{Every, Any, Total}
use Rattle.rb_world.specs.Kind.{Membership}
use Rattle.rb_code.specs.Instructions.Plain.{Code}
use Rattle.rb_code.specs.Agreement.Operands.{summed}
use Rattle.rb_code.specs.SoundCode.Sound.{Mode, Entry, IsAbove, IsSet, LeadsTo, Loop, Table, freed, is_in}
use Rattle.rb_code.specs.Agreement.Template.{Template, One}
use Rattle.rb_code.specs.Agreement.Forms.{EveryCode, QuantifiedCode, SomeCode, SumCode}
use Rattle.rb_code.specs.declared.instr.Instr.TheVariants as instr
use Rattle.rb_code.proofs.Tables.Forward.{Forward}
use Rattle.rb_code.proofs.Looping.LoopEnds.{end_is}
use Rattle.rb_code.proofs.Tables.LoopStarts.{BeginBehind, BeginInside, both_parts, ends_at_own, no_code, one_instr}
use Rattle.rb_code.proofs.Looping.LoopSteps.{behind_loop, in_loop, keeps_first}
use Rattle.rb_code.proofs.Tables.PlainTables.{Cover, Quiet, cover_within, jump_tabled, jump_zero_tabled, leads_outside, plain_tabled, point, push_tabled}
use Rattle.rb_code.proofs.Tables.Tabled.{Around, LieAround, TabledFirst, again_first, joined_first, one_tabled}

-- the operands on which the limits of a quantified expression stand, where it stands on these
abbrev pub summed_operands : Quantifier → List (Option ℕ) → List (Option ℕ)
summed_operands Total os = None ∷ os
summed_operands _ os = os

pub summed_long : (kind : Quantifier) (os : List (Option ℕ)) → summed kind (length os) ≡ length (summed_operands kind os)
summed_long Every os = refl
summed_long Any os = refl
summed_long Total os = refl

-- a loop over counter k
abbrev pub loop_over : ℕ → ℕ → ℕ → Loop
loop_over k first last = record { counter = k; first = first; last = last }

-- within a loop it lies around too
cover_loop : (k first last b : ℕ) (loops : List Loop) → last ≤ b → Cover first b loops → Cover first last (loop_over k first last ∷ loops)
cover_loop k first last b loops high cover x p q =
    keeps_first (is_in x) (loop_over k first last) loops (in_loop x (loop_over k first last) p q)
    ∙ ap (λ ls. loop_over k first last ∷ ls) (cover x p (omega arith))

module _ (c : Code) (groups : List Membership) (e : Entry) (above : IsAbove e.blocks e.words) (loops : List Loop) (after : Mode)
    (q : Quiet after after) where
  -- code that pushes one operand on these, in loops and a mode, has a table
  abbrev pub PushesIn : List Loop → Mode → Template → List (Option ℕ) → Type 1
  PushesIn ls mode P os =
      (R : Around) (a b : ℕ) → Cover a b ls → P c a b → ((t : Table) → R t → LeadsTo c groups t b (point e (None ∷ os) ls after))
      → TabledFirst c groups R a b (point e os ls mode)

  module _ (k : ℕ) (few : k < 2) (unset : IsSet k loops → ⊥) where
    -- within the loop
    abbrev pub inside : ℕ → ℕ → List (Option ℕ) → Entry
    inside first last os = point e os (loop_over k first last ∷ loops) after

    -- behind the last address of the loop
    left_behind : (t : Table) (first last x : ℕ) (os : List (Option ℕ)) → last < x → LeadsTo c groups t x (point e os loops after)
        → LeadsTo c groups t x (inside first last os)
    left_behind t first last x os less leads =
        leads_outside c groups t x (point e os loops after) (loop_over k first last) loops (behind_loop x (loop_over k first last) less) leads

    -- the way back to the first address
    again_tabled : (R : Around) (first last b : ℕ) (os : List (Option ℕ)) → One (instr.Again k first) c last b → first ≤ last
        → LieAround last (loop_over k first last ∷ loops) → ((t : Table) → R t → LeadsTo c groups t first (inside first last os))
        → ((t : Table) → R t → LeadsTo c groups t b (point e os loops after)) → TabledFirst c groups R last b (inside first last os)
    again_tabled R first last b os one low lies back next =
        plain_tabled c groups e above (loop_over k first last ∷ loops) after after q R (instr.Again k first) last b os os one lies
        (λ t r leads. (low, inl refl, subst (λ m. LeadsTo c groups t first (point e os (loop_over k first last ∷ loops) m)) (sym q.is) (back t r), leads))
        (λ t r. left_behind t first last b os (let n = one.1 in omega arith) (next t r))

    -- the loop, of the code before its `again`
    loop_tabled : (R : Around) (first last b : ℕ) (os : List (Option ℕ)) → One (instr.Again k first) c last b → first ≤ last → Cover first b loops
        → ((S : Around) → ((t : Table) → S t → LeadsTo c groups t last (inside first last os)) → ((t : Table) → S t → R t)
        → TabledFirst c groups S first last (inside first last os))
        → ((t : Table) → R t → LeadsTo c groups t b (point e os loops after)) → TabledFirst c groups R first b (inside first last os)
    loop_tabled R first last b os one low cover code next =
        let n = one.1 in
        let R1 : Around = λ t. LeadsTo c groups t first (inside first last os) × R t in
        again_first c groups R first b (inside first last os)
        (joined_first c groups R1 first last b (inside first last os) (inside first last os)
        (code (λ t. LeadsTo c groups t last (inside first last os) × R1 t) (λ t r. r.0) (λ t r. r.1.1))
        (again_tabled R1 first last b os one low (cover_loop k first last b loops (omega arith) cover last low (omega arith)) (λ t r. r.0)
        (λ t r. next t r.1)).whole)

    module _ (low high body : Template) (low_forward : Forward c low) (high_forward : Forward c high) (body_forward : Forward c body)
        (body_inside : BeginInside c body) where
      -- both limits, and the beginning of the loop
      limits_tabled : (mode : Mode) (R : Around) (a p r past last : ℕ) (os : List (Option ℕ)) → PushesIn loops mode low os
          → PushesIn loops after high (None ∷ os) → Cover a (r + 1) loops → low c a p → high c p r
          → slice_get c.instrs r ≡ Some (instr.Range k past) → r < past → slice_get c.instrs last ≡ Some (instr.Again k (r + 1)) → r < last
          → BeginBehind c (r + 1) (r + 1) last → ((t : Table) → R t → LeadsTo c groups t past (point e os loops after))
          → ((t : Table) → R t → LeadsTo c groups t (r + 1) (inside (r + 1) last os)) → TabledFirst c groups R a (r + 1) (point e os loops mode)
      limits_tabled mode R a p r past last os low_pushes high_pushes cover lc hc range ahead again more alone out next =
          let l = low_forward a p lc in let h = high_forward p r hc in
          let R1 : Around = λ t. LeadsTo c groups t r (point e (None ∷ None ∷ os) loops after) × R t in
          let begun : Table → ℕ → Type 0 = λ t end. LeadsTo c groups t (r + 1) (point e os (loop_over k (r + 1) end ∷ loops) (freed after)) in
          joined_first c groups R a r (r + 1) (point e os loops mode) (point e (None ∷ None ∷ os) loops after)
          (joined_first c groups R1 a p r (point e os loops mode) (point e (None ∷ os) loops after)
          (low_pushes (λ t. LeadsTo c groups t p (point e (None ∷ os) loops after) × R1 t) a p
          (cover_within a (r + 1) a p loops (omega arith) (omega arith) cover) lc (λ t s. s.0))
          (high_pushes R1 p r (cover_within a (r + 1) p r loops (omega arith) (omega arith) cover) hc (λ t s. s.0)).whole)
          (one_tabled c groups R (instr.Range k past) r (r + 1) (point e (None ∷ None ∷ os) loops after) (range, refl)
          (cover r (omega arith) (omega arith)) above
          (λ t s. (
            q.traps,
            few,
            unset,
            (
              inl ahead,
              subst (λ m. LeadsTo c groups t past (point e os loops m)) (sym q.is) (out t s),
              end_is c k (r + 1) last (begun t) (ends_at_own c k (r + 1) last (omega arith) again alone)
                  (subst (λ m. LeadsTo c groups t (r + 1) (point e os (loop_over k (r + 1) last ∷ loops) m)) (sym q.is) (next t s)),
            ),
          ))).whole

      -- `every`
      every_tabled : (mode : Mode) (R : Around) (a b : ℕ) (os : List (Option ℕ)) → length os < MOST_OPERANDS → PushesIn loops mode low os
          → PushesIn loops after high (None ∷ os) → ((first last : ℕ) → PushesIn (loop_over k first last ∷ loops) after body os) → Cover a b loops
          → EveryCode k low high body c a b → ((t : Table) → R t → LeadsTo c groups t b (point e (None ∷ os) loops after))
          → TabledFirst c groups R a b (point e os loops mode)
      every_tabled mode R a b os room low_pushes high_pushes body_pushes cover (loop, (fails, (holds, (end, (p, lc, (r, hc, (d, range, (first, at_loop, (d0, bc, (d1, zero_test, (d2, again, (d3, at_yes, (d4, push1, (d5, jump, (d6, at_no, (d7, push0, at_end)))))))))))))))) next =
          let l0 = low_forward a p lc in let l1 = high_forward p r hc in let l2 = body_forward first d0 bc in
          let n0 = range.1 in let n1 = at_loop.1 in let n2 = zero_test.1 in let n3 = again.1 in let n4 = at_yes.1 in let n5 = push1.1 in
          let n6 = jump.1 in let n7 = at_no.1 in let n8 = push0.1 in let n9 = at_end.1 in
          let m4 = at_yes.0 in let m7 = at_no.0 in let m9 = at_end.0 in
          let body_code = subst (λ x. body c x d0) (n1 ∙ n0) bc in
          let back = subst (λ x. One (instr.Again k x) c d1 d2) (sym at_loop.0 ∙ n0) again in
          let on = point e os loops after in
          let got = point e (None ∷ os) loops after in
          let inner = cover_loop k (r + 1) d1 b loops (omega arith) (cover_within a b (r + 1) b loops (omega arith) (omega arith) cover) in
          let R1 : Around = λ t. LeadsTo c groups t d6 on × R t in
          let R2 : Around = λ t. LeadsTo c groups t d3 on × R1 t in
          joined_first c groups R a d6 b (point e os loops mode) on
          (joined_first c groups R1 a d3 d6 (point e os loops mode) on
          (joined_first c groups R2 a (r + 1) d3 (point e os loops mode) (inside (r + 1) d1 os)
          (limits_tabled mode (λ t. LeadsTo c groups t (r + 1) (inside (r + 1) d1 os) × R2 t) a p r holds d1 os low_pushes high_pushes
          (cover_within a b a (r + 1) loops (omega arith) (omega arith) cover) lc hc range.0 (omega arith) back.0 (omega arith)
          (both_parts c (r + 1) (r + 1) d0 d1 (body_inside (r + 1) d0 body_code) (one_instr c (instr.JumpZero fails) refl (r + 1) d0 d1 zero_test))
          (λ t s. subst (λ x. LeadsTo c groups t x on) (n4 ∙ m4) s.1.0) (λ t s. s.0))
          (loop_tabled R2 (r + 1) d1 d3 os (back.0, n4 ∙ n3) (omega arith) (cover_within a b (r + 1) d3 loops (omega arith) (omega arith) cover)
          (λ S to_last more.
          joined_first c groups S (r + 1) d0 d1 (inside (r + 1) d1 os) (inside (r + 1) d1 (None ∷ os))
          (body_pushes (r + 1) d1 (λ t. LeadsTo c groups t d0 (inside (r + 1) d1 (None ∷ os)) × S t) (r + 1) d0
          (cover_within (r + 1) d1 (r + 1) d0 (loop_over k (r + 1) d1 ∷ loops) (omega arith) (omega arith) inner) body_code (λ t s. s.0))
          (jump_zero_tabled c groups e above (loop_over k (r + 1) d1 ∷ loops) after after q S fails d0 d1 None os zero_test
          (inner d0 (omega arith) (omega arith)) (omega arith)
          (λ t s. left_behind t (r + 1) d1 fails os (omega arith) (subst (λ x. LeadsTo c groups t x on) (n7 ∙ m7) (more t s).1.0)) to_last).whole)
          (λ t s. s.0)).whole)
          (joined_first c groups R1 d3 d4 d6 on got
          (push_tabled c groups e above loops after after q (λ t. LeadsTo c groups t d4 got × R1 t) (pos 1) d3 d4 os push1
          (cover d3 (omega arith) (omega arith)) room (λ t s. s.0))
          (jump_tabled c groups e above loops after after q R1 end d4 d6 (None ∷ os) (jump.0, n7 ∙ n6)
          (cover d4 (omega arith) (omega arith)) (omega arith)
          (λ t s. subst (λ x. LeadsTo c groups t x got) (n9 ∙ m9) (next t s.1))).whole).whole)
          (push_tabled c groups e above loops after after q R (pos 0) d6 b os (push0.0, n9 ∙ n8)
          (cover d6 (omega arith) (omega arith)) room next).whole

      -- `some`
      some_tabled : (mode : Mode) (R : Around) (a b : ℕ) (os : List (Option ℕ)) → length os < MOST_OPERANDS → PushesIn loops mode low os
          → PushesIn loops after high (None ∷ os) → ((first last : ℕ) → PushesIn (loop_over k first last ∷ loops) after body os) → Cover a b loops
          → SomeCode k low high body c a b → ((t : Table) → R t → LeadsTo c groups t b (point e (None ∷ os) loops after))
          → TabledFirst c groups R a b (point e os loops mode)
      some_tabled mode R a b os room low_pushes high_pushes body_pushes cover (loop, (later, (fails, (end, (p, lc, (r, hc, (d, range, (first, at_loop, (d0, bc, (d1, zero_test, (d2, push1, (d3, jump, (d4, at_next, (d5, again, (d6, at_no, (d7, push0, at_end)))))))))))))))) next =
          let l0 = low_forward a p lc in let l1 = high_forward p r hc in let l2 = body_forward first d0 bc in
          let n0 = range.1 in let n1 = at_loop.1 in let n2 = zero_test.1 in let n3 = push1.1 in let n4 = jump.1 in let n5 = at_next.1 in
          let n6 = again.1 in let n7 = at_no.1 in let n8 = push0.1 in let n9 = at_end.1 in
          let m5 = at_next.0 in let m7 = at_no.0 in let m9 = at_end.0 in
          let body_code = subst (λ x. body c x d0) (n1 ∙ n0) bc in
          let back = subst (λ x. One (instr.Again k x) c d4 d5) (sym at_loop.0 ∙ n0) again in
          let on = point e os loops after in
          let got = point e (None ∷ os) loops after in
          let round = inside (r + 1) d4 os in
          let answer = inside (r + 1) d4 (None ∷ os) in
          let inner = cover_loop k (r + 1) d4 b loops (omega arith) (cover_within a b (r + 1) b loops (omega arith) (omega arith) cover) in
          let R1 : Around = λ t. LeadsTo c groups t d6 on × R t in
          joined_first c groups R a d6 b (point e os loops mode) on
          (joined_first c groups R1 a (r + 1) d6 (point e os loops mode) round
          (limits_tabled mode (λ t. LeadsTo c groups t (r + 1) round × R1 t) a p r fails d4 os low_pushes high_pushes
          (cover_within a b a (r + 1) loops (omega arith) (omega arith) cover) lc hc range.0 (omega arith) back.0 (omega arith)
          (both_parts c (r + 1) (r + 1) d0 d4 (body_inside (r + 1) d0 body_code)
          (both_parts c (r + 1) d0 d1 d4 (one_instr c (instr.JumpZero later) refl (r + 1) d0 d1 zero_test)
          (both_parts c (r + 1) d1 d2 d4 (one_instr c (instr.Push (pos 1)) refl (r + 1) d1 d2 push1)
          (both_parts c (r + 1) d2 d3 d4 (one_instr c (instr.Jump end) refl (r + 1) d2 d3 jump) (no_code c (r + 1) d3 d4 (omega arith))))))
          (λ t s. subst (λ x. LeadsTo c groups t x on) (n7 ∙ m7) s.1.0) (λ t s. s.0))
          (loop_tabled R1 (r + 1) d4 d6 os (back.0, n7 ∙ n6) (omega arith) (cover_within a b (r + 1) d6 loops (omega arith) (omega arith) cover)
          (λ S to_last more.
          let S2 : Around = λ t. LeadsTo c groups t d2 answer × S t in
          let S3 : Around = λ t. LeadsTo c groups t d1 round × S2 t in
          joined_first c groups S (r + 1) d2 d4 round answer
          (joined_first c groups S2 (r + 1) d1 d2 round round
          (joined_first c groups S3 (r + 1) d0 d1 round answer
          (body_pushes (r + 1) d4 (λ t. LeadsTo c groups t d0 answer × S3 t) (r + 1) d0
          (cover_within (r + 1) d4 (r + 1) d0 (loop_over k (r + 1) d4 ∷ loops) (omega arith) (omega arith) inner) body_code (λ t s. s.0))
          (jump_zero_tabled c groups e above (loop_over k (r + 1) d4 ∷ loops) after after q S3 later d0 d1 None os zero_test
          (inner d0 (omega arith) (omega arith)) (omega arith)
          (λ t s. subst (λ x. LeadsTo c groups t x round) (n5 ∙ m5) (to_last t s.1.1)) (λ t s. s.0)).whole)
          (push_tabled c groups e above (loop_over k (r + 1) d4 ∷ loops) after after q S2 (pos 1) d1 d2 os push1
          (inner d1 (omega arith) (omega arith)) room (λ t s. s.0)).whole)
          (jump_tabled c groups e above (loop_over k (r + 1) d4 ∷ loops) after after q S end d2 d4 (None ∷ os) (jump.0, n5 ∙ n4)
          (inner d2 (omega arith) (omega arith)) (omega arith)
          (λ t s. left_behind t (r + 1) d4 end (None ∷ os) (omega arith)
          (subst (λ x. LeadsTo c groups t x got) (n9 ∙ m9) (next t (more t s).1)))).whole)
          (λ t s. s.0)).whole)
          (push_tabled c groups e above loops after after q R (pos 0) d6 b os (push0.0, n9 ∙ n8)
          (cover d6 (omega arith) (omega arith)) room next).whole

      -- `sum`
      sum_tabled : (mode : Mode) (R : Around) (a b : ℕ) (os : List (Option ℕ)) → Quiet mode after → length os < MOST_OPERANDS
          → PushesIn loops after low (None ∷ os) → PushesIn loops after high (None ∷ None ∷ os)
          → ((first last : ℕ) → PushesIn (loop_over k first last ∷ loops) after body (None ∷ os)) → Cover a b loops
          → SumCode k low high body c a b → ((t : Table) → R t → LeadsTo c groups t b (point e (None ∷ os) loops after))
          → TabledFirst c groups R a b (point e os loops mode)
      sum_tabled mode R a b os begun room low_pushes high_pushes body_pushes cover
          (loop, (end, (a0, push0, (p, lc, (r, hc, (d, range, (first, at_loop, (d0, bc, (d1, adds, (d2, again, at_end)))))))))) next =
          let l0 = low_forward a0 p lc in let l1 = high_forward p r hc in let l2 = body_forward first d0 bc in
          let n0 = push0.1 in let n1 = range.1 in let n2 = at_loop.1 in let n3 = adds.1 in let n4 = again.1 in let n5 = at_end.1 in
          let m5 = at_end.0 in
          let body_code = subst (λ x. body c x d0) (n2 ∙ n1) bc in
          let back = subst (λ x. One (instr.Again k x) c d1 d2) (sym at_loop.0 ∙ n1) again in
          let got = point e (None ∷ os) loops after in
          let round = inside (r + 1) d1 (None ∷ os) in
          let term = inside (r + 1) d1 (None ∷ None ∷ os) in
          let inner = cover_loop k (r + 1) d1 b loops (omega arith) (cover_within a b (r + 1) b loops (omega arith) (omega arith) cover) in
          let R1 : Around = λ t. LeadsTo c groups t (r + 1) round × R t in
          joined_first c groups R a (r + 1) b (point e os loops mode) round
          (joined_first c groups R1 a a0 (r + 1) (point e os loops mode) got
          (push_tabled c groups e above loops mode after begun (λ t. LeadsTo c groups t a0 got × R1 t) (pos 0) a a0 os push0
          (cover a (omega arith) (omega arith)) room (λ t s. s.0))
          (limits_tabled after R1 a0 p r end d1 (None ∷ os) low_pushes high_pushes
          (cover_within a b a0 (r + 1) loops (omega arith) (omega arith) cover) lc hc range.0 (omega arith) back.0 (omega arith)
          (both_parts c (r + 1) (r + 1) d0 d1 (body_inside (r + 1) d0 body_code) (one_instr c instr.Add refl (r + 1) d0 d1 adds))
          (λ t s. subst (λ x. LeadsTo c groups t x got) (n5 ∙ m5) (next t s.1)) (λ t s. s.0)).whole)
          (loop_tabled R (r + 1) d1 b (None ∷ os) (back.0, n5 ∙ n4) (omega arith) (cover_within a b (r + 1) b loops (omega arith) (omega arith) cover)
          (λ S to_last more.
          joined_first c groups S (r + 1) d0 d1 round term
          (body_pushes (r + 1) d1 (λ t. LeadsTo c groups t d0 term × S t) (r + 1) d0
          (cover_within (r + 1) d1 (r + 1) d0 (loop_over k (r + 1) d1 ∷ loops) (omega arith) (omega arith) inner) body_code (λ t s. s.0))
          (plain_tabled c groups e above (loop_over k (r + 1) d1 ∷ loops) after after q S instr.Add d0 d1 (None ∷ None ∷ os) (None ∷ os) adds
          (inner d0 (omega arith) (omega arith)) (λ t s leads. (q.traps, leads)) to_last).whole)
          next).whole

      pub quantified_tabled : (kind : Quantifier) (mode : Mode) (R : Around) (a b : ℕ) (os : List (Option ℕ)) → Quiet mode after
          → length os < MOST_OPERANDS → ((m : Mode) → Quiet m after → PushesIn loops m low (summed_operands kind os))
          → PushesIn loops after high (None ∷ summed_operands kind os)
          → ((first last : ℕ) → PushesIn (loop_over k first last ∷ loops) after body (summed_operands kind os)) → Cover a b loops
          → QuantifiedCode kind k low high body c a b → ((t : Table) → R t → LeadsTo c groups t b (point e (None ∷ os) loops after))
          → TabledFirst c groups R a b (point e os loops mode)
      quantified_tabled Every mode R a b os begun room low_pushes high_pushes body_pushes cover code next =
          every_tabled mode R a b os room (low_pushes mode begun) high_pushes body_pushes cover code next
      quantified_tabled Any mode R a b os begun room low_pushes high_pushes body_pushes cover code next =
          some_tabled mode R a b os room (low_pushes mode begun) high_pushes body_pushes cover code next
      quantified_tabled Total mode R a b os begun room low_pushes high_pushes body_pushes cover code next =
          sum_tabled mode R a b os begun room (low_pushes after q) high_pushes body_pushes cover code next
