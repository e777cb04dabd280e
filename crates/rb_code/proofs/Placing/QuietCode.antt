-- The code of expressions, and of what else stands in statements, begins no turn.
use Rattle.std.proofs.Common.{ℕ, zero, suc, pos, List, [], ◌∷◌, Option, Some, None, refl}
use Rattle.rb_syntax.specs.declared.expression.Op.{Op}
use Rattle.rb_syntax.specs.declared.expression.Op.TheVariants as op
use Rattle.rb_syntax.specs.declared.expression.Quantifier.{Quantifier}
use Rattle.rb_syntax.specs.declared.expression.Quantifier.TheVariants.{Every, Any, Total}
use Rattle.rb_syntax.specs.Tree.{Expression, Literal, Variable, Former, Minus, Negation, Chained, Quantification, Reference, Refer, Scalar, Element, Links, NoLink, Linked, Printed, Words, Amount, PrintItem, Tree}
use Rattle.rb_scope.specs.declared.slot.Slot.{Slot}
use Rattle.rb_code.specs.Instructions.Plain.{Code}
use Rattle.rb_code.specs.Agreement.Slots.{counter_of, elements_of, quantified_of, spot_of}
use Rattle.rb_code.specs.Agreement.Template.{Template}
use Rattle.rb_code.specs.Agreement.Forms.{ArgumentsCode, Called, DropCode, ExpressionCode, FrameCode, ItemsCode, LinksCode, OperatorCode, PrintedCode, QuantifiedCode, ScalarCode, StoreCode, SubscriptCode, procedure_start}
use Rattle.rb_code.specs.declared.instr.Spot.{Spot}
use Rattle.rb_code.specs.declared.instr.Instr.TheVariants as instr
use Rattle.rb_code.proofs.Placing.TurnsCounted.{Quiet, quiet_at, quiet_empty, quiet_label, quiet_one, quiet_text, quiet_then}

module _ (tree : Tree) (c : Code) where
  scalar_quiet : (counter : Option ℕ) (spot : Spot) → Quiet tree c (ScalarCode counter spot)
  scalar_quiet None spot = quiet_one tree c (instr.Load spot) refl
  scalar_quiet (Some k) spot = quiet_one tree c (instr.Counter k) refl

  operator_quiet : (op : Op) {right : Template} → Quiet tree c right → Quiet tree c (OperatorCode op right)
  operator_quiet op.Or f =
      quiet_label tree c (λ other. quiet_label tree c (λ end.
      quiet_then tree c (quiet_one tree c (instr.JumpZero other) refl)
      (quiet_then tree c (quiet_one tree c (instr.Push (pos 1)) refl)
      (quiet_then tree c (quiet_one tree c (instr.Jump end) refl)
      (quiet_then tree c (quiet_at tree c other)
      (quiet_then tree c f
      (quiet_then tree c (quiet_one tree c instr.Bool refl)
      (quiet_at tree c end))))))))
  operator_quiet op.And f =
      quiet_label tree c (λ no. quiet_label tree c (λ end.
      quiet_then tree c (quiet_one tree c (instr.JumpZero no) refl)
      (quiet_then tree c f
      (quiet_then tree c (quiet_one tree c instr.Bool refl)
      (quiet_then tree c (quiet_one tree c (instr.Jump end) refl)
      (quiet_then tree c (quiet_at tree c no)
      (quiet_then tree c (quiet_one tree c (instr.Push (pos 0)) refl)
      (quiet_at tree c end))))))))
  operator_quiet op.Eq f = quiet_then tree c f (quiet_one tree c instr.Eq refl)
  operator_quiet op.Ne f = quiet_then tree c f (quiet_one tree c instr.Ne refl)
  operator_quiet op.Lt f = quiet_then tree c f (quiet_one tree c instr.Lt refl)
  operator_quiet op.Le f = quiet_then tree c f (quiet_one tree c instr.Le refl)
  operator_quiet op.Gt f = quiet_then tree c f (quiet_one tree c instr.Gt refl)
  operator_quiet op.Ge f = quiet_then tree c f (quiet_one tree c instr.Ge refl)
  operator_quiet op.Add f = quiet_then tree c f (quiet_one tree c instr.Add refl)
  operator_quiet op.Sub f = quiet_then tree c f (quiet_one tree c instr.Sub refl)
  operator_quiet op.Mul f = quiet_then tree c f (quiet_one tree c instr.Mul refl)
  operator_quiet op.Div f = quiet_then tree c f (quiet_one tree c instr.Div refl)
  operator_quiet op.Rem f = quiet_then tree c f (quiet_one tree c instr.Rem refl)

  quantified_quiet : (kind : Quantifier) (k : ℕ) {low high body : Template} → Quiet tree c low → Quiet tree c high → Quiet tree c body
      → Quiet tree c (QuantifiedCode kind k low high body)
  quantified_quiet Every k f g h =
      quiet_label tree c (λ loop. quiet_label tree c (λ no. quiet_label tree c (λ yes. quiet_label tree c (λ end.
      quiet_then tree c f
      (quiet_then tree c g
      (quiet_then tree c (quiet_one tree c (instr.Range k yes) refl)
      (quiet_then tree c (quiet_at tree c loop)
      (quiet_then tree c h
      (quiet_then tree c (quiet_one tree c (instr.JumpZero no) refl)
      (quiet_then tree c (quiet_one tree c (instr.Again k loop) refl)
      (quiet_then tree c (quiet_at tree c yes)
      (quiet_then tree c (quiet_one tree c (instr.Push (pos 1)) refl)
      (quiet_then tree c (quiet_one tree c (instr.Jump end) refl)
      (quiet_then tree c (quiet_at tree c no)
      (quiet_then tree c (quiet_one tree c (instr.Push (pos 0)) refl)
      (quiet_at tree c end))))))))))))))))
  quantified_quiet Any k f g h =
      quiet_label tree c (λ loop. quiet_label tree c (λ next. quiet_label tree c (λ no. quiet_label tree c (λ end.
      quiet_then tree c f
      (quiet_then tree c g
      (quiet_then tree c (quiet_one tree c (instr.Range k no) refl)
      (quiet_then tree c (quiet_at tree c loop)
      (quiet_then tree c h
      (quiet_then tree c (quiet_one tree c (instr.JumpZero next) refl)
      (quiet_then tree c (quiet_one tree c (instr.Push (pos 1)) refl)
      (quiet_then tree c (quiet_one tree c (instr.Jump end) refl)
      (quiet_then tree c (quiet_at tree c next)
      (quiet_then tree c (quiet_one tree c (instr.Again k loop) refl)
      (quiet_then tree c (quiet_at tree c no)
      (quiet_then tree c (quiet_one tree c (instr.Push (pos 0)) refl)
      (quiet_at tree c end))))))))))))))))
  quantified_quiet Total k f g h =
      quiet_label tree c (λ loop. quiet_label tree c (λ end.
      quiet_then tree c (quiet_one tree c (instr.Push (pos 0)) refl)
      (quiet_then tree c f
      (quiet_then tree c g
      (quiet_then tree c (quiet_one tree c (instr.Range k end) refl)
      (quiet_then tree c (quiet_at tree c loop)
      (quiet_then tree c h
      (quiet_then tree c (quiet_one tree c instr.Add refl)
      (quiet_then tree c (quiet_one tree c (instr.Again k loop) refl)
      (quiet_at tree c end))))))))))

  module _ (slots : List Slot) where
    mutual
      unfolding ExpressionCode SubscriptCode LinksCode

      pub expression_quiet : (e : Expression) → Quiet tree c (ExpressionCode slots e)
      expression_quiet (Literal number) = quiet_one tree c (instr.Push number.value) refl
      expression_quiet (Variable (Refer name Scalar)) = scalar_quiet (counter_of slots name.id) (spot_of slots name.id)
      expression_quiet (Variable (Refer name (Element index))) =
          quiet_then tree c (expression_quiet index)
          (quiet_then tree c (quiet_one tree c (instr.Bound (elements_of slots name.id)) refl) (quiet_one tree c (instr.LoadAt (spot_of slots name.id)) refl))
      expression_quiet (Former place (Refer name Scalar)) = quiet_one tree c (instr.Prior (spot_of slots name.id)) refl
      expression_quiet (Former place (Refer name (Element index))) =
          quiet_then tree c (expression_quiet index)
          (quiet_then tree c (quiet_one tree c (instr.Bound (elements_of slots name.id)) refl) (quiet_one tree c (instr.PriorAt (spot_of slots name.id)) refl))
      expression_quiet (Minus operand) = quiet_then tree c (expression_quiet operand) (quiet_one tree c instr.Neg refl)
      expression_quiet (Negation operand) = quiet_then tree c (expression_quiet operand) (quiet_one tree c instr.Not refl)
      expression_quiet (Chained first links) = quiet_then tree c (expression_quiet first) (links_quiet links)
      expression_quiet (Quantification kind place name low high body) =
          quantified_quiet kind (quantified_of slots name.id) (expression_quiet low) (expression_quiet high) (expression_quiet body)

      links_quiet : (links : Links) → Quiet tree c (LinksCode slots links)
      links_quiet NoLink = quiet_empty tree c
      links_quiet (Linked op right links) = quiet_then tree c (operator_quiet op (expression_quiet right)) (links_quiet links)

    -- a value that goes to a place
    pub store_quiet : (to : Reference) {value : Template} → Quiet tree c value → Quiet tree c (StoreCode slots to value)
    store_quiet (Refer name Scalar) f = quiet_then tree c f (quiet_one tree c (instr.Store (spot_of slots name.id)) refl)
    store_quiet (Refer name (Element index)) f =
        quiet_then tree c (expression_quiet index)
        (quiet_then tree c (quiet_one tree c (instr.Bound (elements_of slots name.id)) refl)
        (quiet_then tree c f (quiet_one tree c (instr.StoreAt (spot_of slots name.id)) refl)))

    -- items of a line, and arguments
    printed_quiet : (printed : Printed) → Quiet tree c (PrintedCode slots printed)
    printed_quiet (Words text) = quiet_text tree c text
    printed_quiet (Amount value) = quiet_then tree c (expression_quiet value) (quiet_one tree c instr.Item refl)

    pub items_quiet : (items : List PrintItem) → Quiet tree c (ItemsCode slots items)
    items_quiet [] = quiet_empty tree c
    items_quiet (item ∷ items) = quiet_then tree c (printed_quiet item.what) (items_quiet items)

    pub arguments_quiet : (arguments : List Expression) → Quiet tree c (ArgumentsCode slots arguments)
    arguments_quiet [] = quiet_empty tree c
    arguments_quiet (argument ∷ arguments) = quiet_then tree c (expression_quiet argument) (arguments_quiet arguments)

  pub called_quiet : (p number arguments words : ℕ) → Quiet tree c (Called p number arguments words)
  called_quiet p number arguments words = record { same = (quiet_one tree c (instr.Call (procedure_start c p number) arguments words) refl).same }

  -- frames
  pub frame_quiet : (n : ℕ) → Quiet tree c (FrameCode n)
  frame_quiet zero = quiet_empty tree c
  frame_quiet (suc n) = quiet_one tree c (instr.Frame (suc n)) refl

  pub drop_quiet : (n : ℕ) → Quiet tree c (DropCode n)
  drop_quiet zero = quiet_empty tree c
  drop_quiet (suc n) = quiet_one tree c (instr.Drop (suc n)) refl
