-- The code of an expression takes at most sixteen bytes for each byte that the expression weighs, and one more.
use Rattle.std.proofs.Common.{ℕ, zero, suc, pos, ◌+◌, ◌*◌, List, [], ◌∷◌, Option, Some, None, arith}
use Rattle.rb_syntax.specs.declared.expression.Op.{Op}
use Rattle.rb_syntax.specs.declared.expression.Op.TheVariants as op
use Rattle.rb_syntax.specs.declared.expression.Quantifier.{Quantifier}
use Rattle.rb_syntax.specs.declared.expression.Quantifier.TheVariants.{Every, Any, Total}
use Rattle.rb_syntax.specs.Tree.{Expression, Literal, Variable, Former, Minus, Negation, Chained, Quantification, Reference, Refer, Scalar, Element, Links, NoLink, Linked, Printed, Words, Amount, PrintItem}
use Rattle.rb_scope.specs.declared.slot.Slot.{Slot}
use Rattle.rb_code.specs.Instructions.Plain.{Code}
use Rattle.rb_code.specs.Agreement.Slots.{counter_of, elements_of, quantified_of, spot_of}
use Rattle.rb_code.specs.Agreement.Template.{Template}
use Rattle.rb_code.specs.Agreement.Forms.{ArgumentsCode, Called, DropCode, ExpressionCode, FrameCode, ItemsCode, LinksCode, OperatorCode, PrintedCode, QuantifiedCode, ScalarCode, StoreCode, SubscriptCode, procedure_start}
use Rattle.rb_code.specs.declared.instr.Spot.{Spot}
use Rattle.rb_code.specs.declared.instr.Instr.TheVariants as instr
use Rattle.rb_sizes.proofs.Weighing.Weights.{arguments_weight, expression_weight, items_weight, links_weight, op_weight, printed_weight, reference_weight}
use Rattle.rb_sizes.proofs.Spending.Spent.{Takes, at, labelled, less, nothing, one, quoted, ◌then◌}

scalar_takes : {c : Code} (counter : Option ℕ) (spot : Spot) → Takes c 17 (ScalarCode counter spot)
scalar_takes None spot = one (instr.Load spot)
scalar_takes (Some k) spot = less (one (instr.Counter k)) (omega arith)

operator_takes : {c : Code} (op : Op) (w : ℕ) {right : Template} → Takes c (16 * w + 1) right
    → Takes c (16 * (op_weight op + w)) (OperatorCode op right)
operator_takes op.Or w f =
    labelled (λ other. labelled (λ end.
    less (one (instr.JumpZero other) then one (instr.Push (pos 1)) then one (instr.Jump end) then at other then f then one instr.Bool then at end)
    (omega arith)))
operator_takes op.And w f =
    labelled (λ no. labelled (λ end.
    less (one (instr.JumpZero no) then f then one instr.Bool then one (instr.Jump end) then at no then one (instr.Push (pos 0)) then at end)
    (omega arith)))
operator_takes op.Eq w f = less (f then one instr.Eq) (omega arith)
operator_takes op.Ne w f = less (f then one instr.Ne) (omega arith)
operator_takes op.Lt w f = less (f then one instr.Lt) (omega arith)
operator_takes op.Le w f = less (f then one instr.Le) (omega arith)
operator_takes op.Gt w f = less (f then one instr.Gt) (omega arith)
operator_takes op.Ge w f = less (f then one instr.Ge) (omega arith)
operator_takes op.Add w f = less (f then one instr.Add) (omega arith)
operator_takes op.Sub w f = less (f then one instr.Sub) (omega arith)
operator_takes op.Mul w f = less (f then one instr.Mul) (omega arith)
operator_takes op.Div w f = less (f then one instr.Div) (omega arith)
operator_takes op.Rem w f = less (f then one instr.Rem) (omega arith)

quantified_takes : {c : Code} (kind : Quantifier) (k u v w : ℕ) {low high body : Template} → Takes c (16 * u + 1) low → Takes c (16 * v + 1) high
    → Takes c (16 * w + 1) body
    → Takes c (16 * (5 + u + v + w) + 1) (QuantifiedCode kind k low high body)
quantified_takes Every k u v w f g h =
    labelled (λ loop. labelled (λ no. labelled (λ yes. labelled (λ end.
    less (f then g then one (instr.Range k yes) then at loop then h then one (instr.JumpZero no) then one (instr.Again k loop)
    then at yes then one (instr.Push (pos 1)) then one (instr.Jump end) then at no then one (instr.Push (pos 0)) then at end)
    (omega arith)))))
quantified_takes Any k u v w f g h =
    labelled (λ loop. labelled (λ next. labelled (λ no. labelled (λ end.
    less (f then g then one (instr.Range k no) then at loop then h then one (instr.JumpZero next) then one (instr.Push (pos 1)) then one (instr.Jump end)
    then at next then one (instr.Again k loop) then at no then one (instr.Push (pos 0)) then at end)
    (omega arith)))))
quantified_takes Total k u v w f g h =
    labelled (λ loop. labelled (λ end.
    less (one (instr.Push (pos 0)) then f then g then one (instr.Range k end) then at loop then h then one instr.Add then one (instr.Again k loop)
    then at end)
    (omega arith)))

module _ {c : Code} (slots : List Slot) where
  mutual
    unfolding ExpressionCode SubscriptCode LinksCode

    pub expression_takes : (e : Expression) → Takes c (16 * expression_weight e + 1) (ExpressionCode slots e)
    expression_takes (Literal number) = less (one (instr.Push number.value)) (omega arith)
    expression_takes (Variable (Refer name Scalar)) = less (scalar_takes (counter_of slots name.id) (spot_of slots name.id)) (omega arith)
    expression_takes (Variable (Refer name (Element index))) =
        less (expression_takes index then one (instr.Bound (elements_of slots name.id)) then one (instr.LoadAt (spot_of slots name.id))) (omega arith)
    expression_takes (Former place (Refer name Scalar)) = less (one (instr.Prior (spot_of slots name.id))) (omega arith)
    expression_takes (Former place (Refer name (Element index))) =
        less (expression_takes index then one (instr.Bound (elements_of slots name.id)) then one (instr.PriorAt (spot_of slots name.id))) (omega arith)
    expression_takes (Minus operand) = less (expression_takes operand then one instr.Neg) (omega arith)
    expression_takes (Negation operand) = less (expression_takes operand then one instr.Not) (omega arith)
    expression_takes (Chained first links) = less (expression_takes first then links_take links) (omega arith)
    expression_takes (Quantification kind place name low high body) =
        quantified_takes kind (quantified_of slots name.id) (expression_weight low) (expression_weight high) (expression_weight body)
        (expression_takes low) (expression_takes high) (expression_takes body)

    links_take : (links : Links) → Takes c (16 * links_weight links) (LinksCode slots links)
    links_take NoLink = nothing
    links_take (Linked op right links) =
        less (operator_takes op (expression_weight right) (expression_takes right) then links_take links) (omega arith)

  -- a value that goes to a place: the place weighs one at least
  pub store_takes : (to : Reference) {k : ℕ} {value : Template} → Takes c k value
      → Takes c (k + 16 * reference_weight to + 1) (StoreCode slots to value)
  store_takes (Refer name Scalar) f = less (f then one (instr.Store (spot_of slots name.id))) (omega arith)
  store_takes (Refer name (Element index)) f =
      less (expression_takes index then one (instr.Bound (elements_of slots name.id)) then f then one (instr.StoreAt (spot_of slots name.id)))
      (omega arith)

  -- items of a line, and arguments
  printed_takes : (printed : Printed) → Takes c (16 * printed_weight printed + 2) (PrintedCode slots printed)
  printed_takes (Words text) = less (quoted text) (omega arith)
  printed_takes (Amount value) = less (expression_takes value then one instr.Item) (omega arith)

  pub items_take : (items : List PrintItem) → Takes c (16 * items_weight items) (ItemsCode slots items)
  items_take [] = nothing
  items_take (item ∷ items) = less (printed_takes item.what then items_take items) (omega arith)

  pub arguments_take : (arguments : List Expression) → Takes c (16 * arguments_weight arguments) (ArgumentsCode slots arguments)
  arguments_take [] = nothing
  arguments_take (argument ∷ arguments) = less (expression_takes argument then arguments_take arguments) (omega arith)

pub called_takes : {c : Code} (p number arguments words : ℕ) → Takes c 25 (Called p number arguments words)
called_takes {c = c} p number arguments words =
    record { fits = (let t : Takes c 25 _ = one (instr.Call (procedure_start c p number) arguments words) in t).fits }

-- frames
pub frame_takes : {c : Code} (n : ℕ) → Takes c 9 (FrameCode n)
frame_takes zero = less nothing (omega arith)
frame_takes (suc n) = one (instr.Frame (suc n))

pub drop_takes : {c : Code} (n : ℕ) → Takes c 9 (DropCode n)
drop_takes zero = less nothing (omega arith)
drop_takes (suc n) = one (instr.Drop (suc n))
