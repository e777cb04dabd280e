-- Tables of the code of operators, behind the code of their left operands.
use Rattle.std.proofs.Common.{◌≡◌, ℕ, ◌<◌, pos, List, ◌∷◌, length, Option, None, refl, ◌∙◌, subst, arith}
use Rattle.rb_base.specs.declared.limits.TheConstants.{MOST_OPERANDS}
use Rattle.rb_syntax.specs.declared.expression.Op.{Op}
use Rattle.rb_syntax.specs.declared.expression.Op.TheVariants as op
use Rattle.rb_world.specs.Kind.{Membership}
use Rattle.rb_code.specs.Instructions.Plain.{Code}
use Rattle.rb_code.specs.Agreement.Operands.{beside}
use Rattle.rb_code.specs.SoundCode.Sound.{Mode, Entry, Fine, IsAbove, LeadsTo, Loop, Table, Takes2}
use Rattle.rb_code.specs.Agreement.Template.{Template, One}
use Rattle.rb_code.specs.Agreement.Forms.{AndCode, OperatorCode, OrCode}
use Rattle.rb_code.specs.declared.instr.Instr.{Instr}
use Rattle.rb_code.specs.declared.instr.Instr.TheVariants as instr
use Rattle.rb_code.proofs.Tables.Forward.{Forward}
use Rattle.rb_code.proofs.Tables.PlainTables.{Cover, Quiet, cover_within, jump_tabled, jump_zero_tabled, plain_tabled, point, push_tabled}
use Rattle.rb_code.proofs.Tables.Tabled.{Around, TabledFirst, joined_first}

-- the operands on which the right one of an operator stands, where the left one stands on these
abbrev pub beside_operands : Op → List (Option ℕ) → List (Option ℕ)
beside_operands op.Or os = os
beside_operands op.And os = os
beside_operands _ os = None ∷ os

pub beside_long : (op : Op) (os : List (Option ℕ)) → beside op (length os) ≡ length (beside_operands op os)
beside_long op.Or os = refl
beside_long op.And os = refl
beside_long _ os = refl

module _ (c : Code) (groups : List Membership) (e : Entry) (above : IsAbove e.blocks e.words) (loops : List Loop) (after : Mode)
    (q : Quiet after after) where
  -- code that pushes one operand on these has a table
  abbrev pub PushesOn : Template → List (Option ℕ) → Type 1
  PushesOn P os =
      (R : Around) (a b : ℕ) → Cover a b loops → P c a b → ((t : Table) → R t → LeadsTo c groups t b (point e (None ∷ os) loops after))
      → TabledFirst c groups R a b (point e os loops after)

  -- a right operand, and an instruction that takes both
  module _ (R : Around) (right : Template) (forward : Forward c right) (os : List (Option ℕ)) (a b : ℕ) (cover : Cover a b loops) where
    both : (one : Instr) → PushesOn right (None ∷ os)
        → ((m : ℕ) (t : Table) → Takes2 c groups t m (point e (None ∷ None ∷ os) loops after)
        → Fine c groups t one m (point e (None ∷ None ∷ os) loops after))
        → (m : ℕ) × right c a m × One one c m b → ((t : Table) → R t → LeadsTo c groups t b (point e (None ∷ os) loops after))
        → TabledFirst c groups R a b (point e (None ∷ os) loops after)
    both one pushes fine (m, code, is) next =
        let l = forward a m code in
        let n = is.1 in
        joined_first c groups R a m b (point e (None ∷ os) loops after) (point e (None ∷ None ∷ os) loops after)
        (pushes (λ t. LeadsTo c groups t m (point e (None ∷ None ∷ os) loops after) × R t) a m
        (cover_within a b a m loops (omega arith) (omega arith) cover) code (λ t r. r.0))
        (plain_tabled c groups e above loops after after q R one m b (None ∷ None ∷ os) (None ∷ os) is (cover m (omega arith) (omega arith))
        (λ t r leads. fine m t leads) next).whole

    -- `and`: the number 0 at `fails`, where the left operand is 0
    and_tabled : length os < MOST_OPERANDS → PushesOn right os → AndCode right c a b
        → ((t : Table) → R t → LeadsTo c groups t b (point e (None ∷ os) loops after)) → TabledFirst c groups R a b (point e (None ∷ os) loops after)
    and_tabled room pushes (fails, (end, (d0, test, (d1, code, (d2, bool, (d3, jump, (d4, at_fails, (d5, push, at_end)))))))) next =
        let n0 = test.1 in let l = forward d0 d1 code in let n1 = bool.1 in let n2 = jump.1 in let n3 = at_fails.1 in let n4 = push.1 in
        let n5 = at_end.1 in let same = at_fails.0 in let last = at_end.0 in
        let on = point e os loops after in
        let got = point e (None ∷ os) loops after in
        let R1 : Around = λ t. LeadsTo c groups t d4 on × R t in
        let R2 : Around = λ t. LeadsTo c groups t d2 got × R1 t in
        let R3 : Around = λ t. LeadsTo c groups t d1 got × R2 t in
        joined_first c groups R a d4 b got on
        (joined_first c groups R1 a d2 d4 got got
        (joined_first c groups R2 a d1 d2 got got
        (joined_first c groups R3 a d0 d1 got on
        (jump_zero_tabled c groups e above loops after after q (λ t. LeadsTo c groups t d0 on × R3 t) fails a d0 None os test
        (cover a (omega arith) (omega arith)) (omega arith) (λ t r. subst (λ x. LeadsTo c groups t x on) (n3 ∙ same) r.1.1.1.0) (λ t r. r.0))
        (pushes R3 d0 d1 (cover_within a b d0 d1 loops (omega arith) (omega arith) cover) code (λ t r. r.0)).whole)
        (plain_tabled c groups e above loops after after q R2 instr.Bool d1 d2 (None ∷ os) (None ∷ os) bool (cover d1 (omega arith) (omega arith))
        (λ t r leads. leads) (λ t r. r.0)).whole)
        (jump_tabled c groups e above loops after after q R1 end d2 d4 (None ∷ os) (jump.0, n3 ∙ n2)
        (cover d2 (omega arith) (omega arith)) (omega arith)
        (λ t r. subst (λ x. LeadsTo c groups t x got) (n5 ∙ last) (next t r.1))).whole)
        (push_tabled c groups e above loops after after q R (pos 0) d4 b os (push.0, n5 ∙ n4) (cover d4 (omega arith) (omega arith)) room next).whole

    -- `or`: the number 1, where the left operand is not 0
    or_tabled : length os < MOST_OPERANDS → PushesOn right os → OrCode right c a b
        → ((t : Table) → R t → LeadsTo c groups t b (point e (None ∷ os) loops after)) → TabledFirst c groups R a b (point e (None ∷ os) loops after)
    or_tabled room pushes (other, (end, (d0, test, (d1, push, (d2, jump, (d3, at_other, (d4, code, (d5, bool, at_end)))))))) next =
        let n0 = test.1 in let n1 = push.1 in let n2 = jump.1 in let n3 = at_other.1 in let l = forward d3 d4 code in let n4 = bool.1 in
        let n5 = at_end.1 in let same = at_other.0 in let last = at_end.0 in
        let on = point e os loops after in
        let got = point e (None ∷ os) loops after in
        let R1 : Around = λ t. LeadsTo c groups t d4 got × R t in
        let R2 : Around = λ t. LeadsTo c groups t d3 on × R1 t in
        let R3 : Around = λ t. LeadsTo c groups t d1 got × R2 t in
        joined_first c groups R a d4 b got got
        (joined_first c groups R1 a d3 d4 got on
        (joined_first c groups R2 a d1 d3 got got
        (joined_first c groups R3 a d0 d1 got on
        (jump_zero_tabled c groups e above loops after after q (λ t. LeadsTo c groups t d0 on × R3 t) other a d0 None os test
        (cover a (omega arith) (omega arith)) (omega arith) (λ t r. subst (λ x. LeadsTo c groups t x on) (n3 ∙ same) r.1.1.0) (λ t r. r.0))
        (push_tabled c groups e above loops after after q R3 (pos 1) d0 d1 os push (cover d0 (omega arith) (omega arith)) room (λ t r. r.0)).whole)
        (jump_tabled c groups e above loops after after q R2 end d1 d3 (None ∷ os) (jump.0, n3 ∙ n2)
        (cover d1 (omega arith) (omega arith)) (omega arith)
        (λ t r. subst (λ x. LeadsTo c groups t x got) (n5 ∙ last) (next t r.1.1))).whole)
        (pushes R1 d3 d4 (cover_within a b d3 d4 loops (omega arith) (omega arith) cover) code (λ t r. r.0)).whole)
        (plain_tabled c groups e above loops after after q R instr.Bool d4 b (None ∷ os) (None ∷ os) (bool.0, n5 ∙ n4)
        (cover d4 (omega arith) (omega arith))
        (λ t r leads. leads) next).whole

    pub operator_tabled : (op : Op) → length os < MOST_OPERANDS → PushesOn right (beside_operands op os) → OperatorCode op right c a b
        → ((t : Table) → R t → LeadsTo c groups t b (point e (None ∷ os) loops after)) → TabledFirst c groups R a b (point e (None ∷ os) loops after)
    operator_tabled op.Or room pushes code next = or_tabled room pushes code next
    operator_tabled op.And room pushes code next = and_tabled room pushes code next
    operator_tabled op.Eq room pushes code next = both instr.Eq pushes (λ m t leads. leads) code next
    operator_tabled op.Ne room pushes code next = both instr.Ne pushes (λ m t leads. leads) code next
    operator_tabled op.Lt room pushes code next = both instr.Lt pushes (λ m t leads. leads) code next
    operator_tabled op.Le room pushes code next = both instr.Le pushes (λ m t leads. leads) code next
    operator_tabled op.Gt room pushes code next = both instr.Gt pushes (λ m t leads. leads) code next
    operator_tabled op.Ge room pushes code next = both instr.Ge pushes (λ m t leads. leads) code next
    operator_tabled op.Add room pushes code next = both instr.Add pushes (λ m t leads. (q.traps, leads)) code next
    operator_tabled op.Sub room pushes code next = both instr.Sub pushes (λ m t leads. (q.traps, leads)) code next
    operator_tabled op.Mul room pushes code next = both instr.Mul pushes (λ m t leads. (q.traps, leads)) code next
    operator_tabled op.Div room pushes code next = both instr.Div pushes (λ m t leads. (q.traps, leads)) code next
    operator_tabled op.Rem room pushes code next = both instr.Rem pushes (λ m t leads. (q.traps, leads)) code next
