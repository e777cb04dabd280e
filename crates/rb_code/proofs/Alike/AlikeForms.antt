-- The forms of code determine what they are, where their parts do.
use Rattle.std.proofs.Common.{◌≡◌, ℕ, zero, suc, pos, Option, Some, None, refl, ap}
use Rattle.rb_syntax.specs.declared.expression.Op.{Op}
use Rattle.rb_syntax.specs.declared.expression.Op.TheVariants as op
use Rattle.rb_syntax.specs.declared.expression.Quantifier.{Quantifier}
use Rattle.rb_syntax.specs.declared.expression.Quantifier.TheVariants.{Every, Any, Total}
use Rattle.rb_code.specs.Instructions.Plain.{Code}
use Rattle.rb_code.specs.Agreement.Template.{Template, One, ◌⨾◌, At, Label}
use Rattle.rb_code.specs.Agreement.Forms.{AndCode, DropCode, FrameCode, IfElseForm, IfForm, OperatorCode, OrCode, QuantifiedCode, ReceiveElseForm, ReceiveForm, ScalarCode, WhileForm}
use Rattle.rb_code.specs.declared.instr.Spot.{Spot}
use Rattle.rb_code.specs.declared.instr.Instr.TheVariants as instr
use Rattle.rb_code.proofs.Alike.AlikeCode.{Fixed, Same, fixed_one, same_at, same_closed, same_empty, same_labels, same_label, same_one, same_then, shown}

module _ (c d : Code) where
  -- an instruction that names an address
  pub jump_alike : (a b : ℕ) → a ≡ b → shown c (Some (instr.Jump a)) ≡ shown d (Some (instr.Jump b))
  jump_alike a b e = ap (λ n. (Some (instr.Jump n), None)) e

  zero_alike : (a b : ℕ) → a ≡ b → shown c (Some (instr.JumpZero a)) ≡ shown d (Some (instr.JumpZero b))
  zero_alike a b e = ap (λ n. (Some (instr.JumpZero n), None)) e

  range_alike : (k a b : ℕ) → a ≡ b → shown c (Some (instr.Range k a)) ≡ shown d (Some (instr.Range k b))
  range_alike k a b e = ap (λ n. (Some (instr.Range k n), None)) e

  again_alike : (k a b : ℕ) → a ≡ b → shown c (Some (instr.Again k a)) ≡ shown d (Some (instr.Again k b))
  again_alike k a b e = ap (λ n. (Some (instr.Again k n), None)) e

  absent_alike : (k a b : ℕ) → a ≡ b → shown c (Some (instr.Absent k a)) ≡ shown d (Some (instr.Absent k b))
  absent_alike k a b e = ap (λ n. (Some (instr.Absent k n), None)) e

  -- one template after another, which ask and tell nothing
  pub fixed_then : {P Q : Template} → Fixed c d P → Fixed c d Q → Fixed c d (P ⨾ Q)
  fixed_then f g = same_closed c d (same_then c d f g) (λ u t. (tt, tt)) (λ t. tt)

  -- `and` and `or`
  abbrev and_parts : Template → ℕ → ℕ → Template
  and_parts right fails end =
      One (instr.JumpZero fails) ⨾ right ⨾ One instr.Bool ⨾ One (instr.Jump end) ⨾ At fails ⨾ One (instr.Push (pos 0)) ⨾ At end

  and_alike : (right : Template) → Fixed c d right → Fixed c d (AndCode right)
  and_alike right f =
      same_labels c d (and_parts right) (λ fails end fails' end'.
      same_closed c d
      (same_then c d (same_one c d (instr.JumpZero fails) (instr.JumpZero fails'))
      (same_then c d f
      (same_then c d (fixed_one c d instr.Bool refl)
      (same_then c d (same_one c d (instr.Jump end) (instr.Jump end'))
      (same_then c d (same_at c d fails fails')
      (same_then c d (fixed_one c d (instr.Push (pos 0)) refl)
      (same_at c d end end')))))))
      (λ u (t0, (t1, (t2, (t3, (at_fails, (t5, at_end)))))). (zero_alike fails fails' at_fails, (tt, (tt, (jump_alike end end' at_end, (tt, (tt, tt)))))))
      (λ t. tt))

  abbrev or_parts : Template → ℕ → ℕ → Template
  or_parts right other end = One (instr.JumpZero other) ⨾ One (instr.Push (pos 1)) ⨾ One (instr.Jump end) ⨾ At other ⨾ right ⨾ One instr.Bool ⨾ At end

  or_alike : (right : Template) → Fixed c d right → Fixed c d (OrCode right)
  or_alike right f =
      same_labels c d (or_parts right) (λ other end other' end'.
      same_closed c d
      (same_then c d (same_one c d (instr.JumpZero other) (instr.JumpZero other'))
      (same_then c d (fixed_one c d (instr.Push (pos 1)) refl)
      (same_then c d (same_one c d (instr.Jump end) (instr.Jump end'))
      (same_then c d (same_at c d other other')
      (same_then c d f
      (same_then c d (fixed_one c d instr.Bool refl)
      (same_at c d end end')))))))
      (λ u (t0, (t1, (t2, (at_other, (t4, (t5, at_end)))))). (zero_alike other other' at_other, (tt, (jump_alike end end' at_end, (tt, (tt, (tt, tt)))))))
      (λ t. tt))

  pub operator_alike : (op : Op) (right : Template) → Fixed c d right → Fixed c d (OperatorCode op right)
  operator_alike op.Or right f = or_alike right f
  operator_alike op.And right f = and_alike right f
  operator_alike op.Eq right f = fixed_then f (fixed_one c d instr.Eq refl)
  operator_alike op.Ne right f = fixed_then f (fixed_one c d instr.Ne refl)
  operator_alike op.Lt right f = fixed_then f (fixed_one c d instr.Lt refl)
  operator_alike op.Le right f = fixed_then f (fixed_one c d instr.Le refl)
  operator_alike op.Gt right f = fixed_then f (fixed_one c d instr.Gt refl)
  operator_alike op.Ge right f = fixed_then f (fixed_one c d instr.Ge refl)
  operator_alike op.Add right f = fixed_then f (fixed_one c d instr.Add refl)
  operator_alike op.Sub right f = fixed_then f (fixed_one c d instr.Sub refl)
  operator_alike op.Mul right f = fixed_then f (fixed_one c d instr.Mul refl)
  operator_alike op.Div right f = fixed_then f (fixed_one c d instr.Div refl)
  operator_alike op.Rem right f = fixed_then f (fixed_one c d instr.Rem refl)

  -- quantified expressions
  abbrev every_parts : ℕ → Template → Template → Template → ℕ → ℕ → ℕ → ℕ → Template
  every_parts k low high body loop fails holds end =
      low ⨾ high ⨾ One (instr.Range k holds) ⨾ At loop ⨾ body ⨾ One (instr.JumpZero fails) ⨾ One (instr.Again k loop)
      ⨾ At holds ⨾ One (instr.Push (pos 1)) ⨾ One (instr.Jump end) ⨾ At fails ⨾ One (instr.Push (pos 0)) ⨾ At end

  abbrev some_parts : ℕ → Template → Template → Template → ℕ → ℕ → ℕ → ℕ → Template
  some_parts k low high body loop next fails end =
      low ⨾ high ⨾ One (instr.Range k fails) ⨾ At loop ⨾ body ⨾ One (instr.JumpZero next) ⨾ One (instr.Push (pos 1)) ⨾ One (instr.Jump end)
      ⨾ At next ⨾ One (instr.Again k loop) ⨾ At fails ⨾ One (instr.Push (pos 0)) ⨾ At end

  abbrev sum_parts : ℕ → Template → Template → Template → ℕ → ℕ → Template
  sum_parts k low high body loop end =
      One (instr.Push (pos 0)) ⨾ low ⨾ high ⨾ One (instr.Range k end) ⨾ At loop ⨾ body ⨾ One instr.Add ⨾ One (instr.Again k loop) ⨾ At end

  four_labels : (P : ℕ → ℕ → ℕ → ℕ → Template) → ((l m n o l' m' n' o' : ℕ) → Same c d (Unit {0}) (Unit {0}) (P l m n o) (P l' m' n' o'))
      → Fixed c d (Label (λ l. Label (λ m. Label (λ n. Label (λ o. P l m n o)))))
  four_labels P f =
      same_labels c d (λ l m. Label (λ n. Label (λ o. P l m n o))) (λ l m l' m'.
      same_label c d (λ n. Label (λ o. P l m n o)) (λ n. Label (λ o. P l' m' n o)) (λ n n'.
      same_label c d (λ o. P l m n o) (λ o. P l' m' n' o) (λ o o'. f l m n o l' m' n' o')))

  module _ (k : ℕ) (low high body : Template) (f : Fixed c d low) (g : Fixed c d high) (h : Fixed c d body) where
    pub quantified_alike : (kind : Quantifier) → Fixed c d (QuantifiedCode kind k low high body)
    quantified_alike Every =
        four_labels (every_parts k low high body) (λ loop fails holds end loop' fails' holds' end'.
        same_closed c d
        (same_then c d f
        (same_then c d g
        (same_then c d (same_one c d (instr.Range k holds) (instr.Range k holds'))
        (same_then c d (same_at c d loop loop')
        (same_then c d h
        (same_then c d (same_one c d (instr.JumpZero fails) (instr.JumpZero fails'))
        (same_then c d (same_one c d (instr.Again k loop) (instr.Again k loop'))
        (same_then c d (same_at c d holds holds')
        (same_then c d (fixed_one c d (instr.Push (pos 1)) refl)
        (same_then c d (same_one c d (instr.Jump end) (instr.Jump end'))
        (same_then c d (same_at c d fails fails')
        (same_then c d (fixed_one c d (instr.Push (pos 0)) refl)
        (same_at c d end end')))))))))))))
        (λ u (t0, (t1, (t2, (at_loop, (t4, (t5, (t6, (at_holds, (t8, (t9, (at_fails, (t11, at_end)))))))))))). (
          tt,
          (
            tt,
            (
              range_alike k holds holds' at_holds,
              (
                tt,
                (
                  tt,
                  (
                    zero_alike fails fails' at_fails,
                    (
                      again_alike k loop loop' at_loop,
                      (tt, (tt, (jump_alike end end' at_end, (tt, (tt, tt))))),
                    ),
                  ),
                ),
              ),
            ),
          ),
        ))
        (λ t. tt))
    quantified_alike Any =
        four_labels (some_parts k low high body) (λ loop next fails end loop' next' fails' end'.
        same_closed c d
        (same_then c d f
        (same_then c d g
        (same_then c d (same_one c d (instr.Range k fails) (instr.Range k fails'))
        (same_then c d (same_at c d loop loop')
        (same_then c d h
        (same_then c d (same_one c d (instr.JumpZero next) (instr.JumpZero next'))
        (same_then c d (fixed_one c d (instr.Push (pos 1)) refl)
        (same_then c d (same_one c d (instr.Jump end) (instr.Jump end'))
        (same_then c d (same_at c d next next')
        (same_then c d (same_one c d (instr.Again k loop) (instr.Again k loop'))
        (same_then c d (same_at c d fails fails')
        (same_then c d (fixed_one c d (instr.Push (pos 0)) refl)
        (same_at c d end end')))))))))))))
        (λ u (t0, (t1, (t2, (at_loop, (t4, (t5, (t6, (t7, (at_next, (t9, (at_fails, (t11, at_end)))))))))))). (
          tt,
          (
            tt,
            (
              range_alike k fails fails' at_fails,
              (
                tt,
                (
                  tt,
                  (
                    zero_alike next next' at_next,
                    (
                      tt,
                      (
                        jump_alike end end' at_end,
                        (tt, (again_alike k loop loop' at_loop, (tt, (tt, tt)))),
                      ),
                    ),
                  ),
                ),
              ),
            ),
          ),
        ))
        (λ t. tt))
    quantified_alike Total =
        same_labels c d (sum_parts k low high body) (λ loop end loop' end'.
        same_closed c d
        (same_then c d (fixed_one c d (instr.Push (pos 0)) refl)
        (same_then c d f
        (same_then c d g
        (same_then c d (same_one c d (instr.Range k end) (instr.Range k end'))
        (same_then c d (same_at c d loop loop')
        (same_then c d h
        (same_then c d (fixed_one c d instr.Add refl)
        (same_then c d (same_one c d (instr.Again k loop) (instr.Again k loop'))
        (same_at c d end end')))))))))
        (λ u (t0, (t1, (t2, (t3, (at_loop, (t5, (t6, (t7, at_end)))))))).
        (tt, (tt, (tt, (range_alike k end end' at_end, (tt, (tt, (tt, (again_alike k loop loop' at_loop, tt)))))))))
        (λ t. tt))

  -- a scalar or a counter, and the words of a frame
  pub scalar_alike : (o : Option ℕ) (spot : Spot) → Fixed c d (ScalarCode o spot)
  scalar_alike None spot = fixed_one c d (instr.Load spot) refl
  scalar_alike (Some k) spot = fixed_one c d (instr.Counter k) refl

  pub frame_alike : (n : ℕ) → Fixed c d (FrameCode n)
  frame_alike zero = same_empty c d
  frame_alike (suc n) = fixed_one c d (instr.Frame (suc n)) refl

  pub drop_alike : (n : ℕ) → Fixed c d (DropCode n)
  drop_alike zero = same_empty c d
  drop_alike (suc n) = fixed_one c d (instr.Drop (suc n)) refl

  -- statements, whose parts may ask and tell
  abbrev if_parts : Template → Template → ℕ → Template
  if_parts test body end = One instr.Turn ⨾ test ⨾ One (instr.JumpZero end) ⨾ body ⨾ At end

  pub if_alike : {H T : Type 0} (test body : Template) → Fixed c d test → Same c d H T body body → Same c d H T (IfForm (One instr.Turn) test body) (IfForm (One instr.Turn) test body)
  if_alike test body f g =
      same_label c d (if_parts test body) (if_parts test body) (λ end end'.
      same_closed c d
      (same_then c d (fixed_one c d instr.Turn refl)
      (same_then c d f
      (same_then c d (same_one c d (instr.JumpZero end) (instr.JumpZero end'))
      (same_then c d g
      (same_at c d end end')))))
      (λ asked (t0, (t1, (t2, (told, at_end)))). (tt, (tt, (zero_alike end end' at_end, (asked, tt)))))
      (λ (t0, (t1, (t2, (told, at_end)))). told))

  abbrev if_else_parts : Template → Template → Template → ℕ → ℕ → Template
  if_else_parts test body other fails end =
      One instr.Turn ⨾ test ⨾ One (instr.JumpZero fails) ⨾ body ⨾ One (instr.Jump end) ⨾ At fails ⨾ other ⨾ At end

  pub if_else_alike : {H T U : Type 0} (test body other : Template) → Fixed c d test → Same c d H T body body → Same c d H U other other
      → Same c d H (T × U) (IfElseForm (One instr.Turn) test body other) (IfElseForm (One instr.Turn) test body other)
  if_else_alike test body other f g h =
      same_labels c d (if_else_parts test body other) (λ fails end fails' end'.
      same_closed c d
      (same_then c d (fixed_one c d instr.Turn refl)
      (same_then c d f
      (same_then c d (same_one c d (instr.JumpZero fails) (instr.JumpZero fails'))
      (same_then c d g
      (same_then c d (same_one c d (instr.Jump end) (instr.Jump end'))
      (same_then c d (same_at c d fails fails')
      (same_then c d h
      (same_at c d end end'))))))))
      (λ asked (t0, (t1, (t2, (told, (t4, (at_fails, (more, at_end))))))).
      (tt, (tt, (zero_alike fails fails' at_fails, (asked, (jump_alike end end' at_end, (tt, (asked, tt))))))))
      (λ (t0, (t1, (t2, (told, (t4, (at_fails, (more, at_end))))))). (told, more)))

  abbrev while_parts : Template → Template → ℕ → ℕ → Template
  while_parts test body loop end = At loop ⨾ One instr.Turn ⨾ test ⨾ One (instr.JumpZero end) ⨾ body ⨾ One (instr.Jump loop) ⨾ At end

  pub while_alike : {H T : Type 0} (test body : Template) → Fixed c d test → Same c d H T body body
      → Same c d H T (WhileForm (One instr.Turn) test body) (WhileForm (One instr.Turn) test body)
  while_alike test body f g =
      same_labels c d (while_parts test body) (λ loop end loop' end'.
      same_closed c d
      (same_then c d (same_at c d loop loop')
      (same_then c d (fixed_one c d instr.Turn refl)
      (same_then c d f
      (same_then c d (same_one c d (instr.JumpZero end) (instr.JumpZero end'))
      (same_then c d g
      (same_then c d (same_one c d (instr.Jump loop) (instr.Jump loop'))
      (same_at c d end end')))))))
      (λ asked (at_loop, (t1, (t2, (t3, (told, (t5, at_end)))))).
      (tt, (tt, (tt, (zero_alike end end' at_end, (asked, (jump_alike loop loop' at_loop, tt)))))))
      (λ (at_loop, (t1, (t2, (t3, (told, t5))))). told))

  abbrev receive_parts : ℕ → Template → Template → ℕ → ℕ → Template
  receive_parts channel taken other none end =
      One instr.Turn ⨾ One (instr.Absent channel none) ⨾ taken ⨾ One (instr.Jump end) ⨾ At none ⨾ other ⨾ At end

  pub receive_else_alike : {H T : Type 0} (channel : ℕ) (taken other : Template) → Fixed c d taken → Same c d H T other other
      → Same c d H T (ReceiveElseForm (One instr.Turn) channel taken other) (ReceiveElseForm (One instr.Turn) channel taken other)
  receive_else_alike channel taken other f g =
      same_labels c d (receive_parts channel taken other) (λ none end none' end'.
      same_closed c d
      (same_then c d (fixed_one c d instr.Turn refl)
      (same_then c d (same_one c d (instr.Absent channel none) (instr.Absent channel none'))
      (same_then c d f
      (same_then c d (same_one c d (instr.Jump end) (instr.Jump end'))
      (same_then c d (same_at c d none none')
      (same_then c d g
      (same_at c d end end')))))))
      (λ asked (t0, (t1, (t2, (t3, (at_none, (told, at_end)))))).
      (tt, (absent_alike channel none none' at_none, (tt, (jump_alike end end' at_end, (tt, (asked, tt)))))))
      (λ (t0, (t1, (t2, (t3, (at_none, (told, at_end)))))). told))

  pub receive_alike : (channel : ℕ) (taken : Template) → Fixed c d taken → Fixed c d (ReceiveForm (One instr.Turn) channel taken)
  receive_alike channel taken f =
      fixed_then (fixed_one c d instr.Turn refl) (fixed_then (fixed_one c d (instr.There channel) refl) f)
