-- The numbers in the code of expressions are small, where the sites of the expressions are settled and the expressions weigh little.
use Rattle.std.proofs.Common.{ℕ, zero, suc, pos, ◌<◌, ◌^◌, List, [], ◌∷◌, ◌++◌, Option, Some, None, arith}
use Rattle.std.specs.List.{flat_map}
use Rattle.rb_syntax.specs.declared.expression.Op.{Op}
use Rattle.rb_syntax.specs.declared.expression.Op.TheVariants as op
use Rattle.rb_syntax.specs.declared.expression.Quantifier.{Quantifier}
use Rattle.rb_syntax.specs.declared.expression.Quantifier.TheVariants.{Every, Any, Total}
use Rattle.rb_syntax.specs.Tree.{Expression, Literal, Variable, Former, Minus, Negation, Chained, Quantification, Reference, Refer, Scalar, Element, Links, NoLink, Linked, Printed, Words, Amount, PrintItem}
use Rattle.rb_scope.specs.Sites.{Spot, counter, expression_sites, links_sites, printed_sites, quantified, reference_sites, within}
use Rattle.rb_scope.specs.declared.slot.Slot.{Slot}
use Rattle.rb_scope.specs.declared.want.Want.TheVariants.{AScalar, AnArray, AValue}
use Rattle.rb_scope.proofs.EachSite.{AreSettled, IsSettled, all_split}
use Rattle.rb_code.specs.Instructions.Plain.{Code}
use Rattle.rb_code.specs.Agreement.Slots.{counter_of, elements_of, quantified_of, spot_of}
use Rattle.rb_code.specs.Agreement.Template.{Template}
use Rattle.rb_code.specs.Agreement.Forms.{ArgumentsCode, Called, DropCode, ExpressionCode, FrameCode, ItemsCode, LinksCode, OperatorCode, PrintedCode, QuantifiedCode, ScalarCode, StoreCode, SubscriptCode, procedure_start}
use Rattle.rb_code.specs.declared.instr.Spot.{Spot as Word}
use Rattle.rb_code.specs.declared.instr.Instr.TheVariants as instr
use Rattle.rb_image.specs.Ranges.{IsNatural, IsSpot}
use Rattle.rb_sizes.proofs.Weighing.Numbers.{number_fits}
use Rattle.rb_sizes.proofs.Weighing.Weights.{arguments_weight, expression_weight, items_weight, links_weight, printed_weight, reference_weight}
use Rattle.rb_sizes.proofs.Ranging.Kept.{Keeps, at, labelled, nothing, one, quoted, ◌then◌}
use Rattle.rb_sizes.proofs.Ranging.Slots.{AreFew, used_few}

scalar_keeps : {c : Code} (counter : Option ℕ) (spot : Word) → IsSpot spot → Keeps c (ScalarCode counter spot)
scalar_keeps None spot h = one (instr.Load spot) h
scalar_keeps (Some k) spot h = one (instr.Counter k) tt

operator_keeps : {c : Code} (op : Op) {right : Template} → Keeps c right → Keeps c (OperatorCode op right)
operator_keeps op.Or f =
    labelled (λ other. labelled (λ end.
    one (instr.JumpZero other) tt then one (instr.Push (pos 1)) (omega arith) then one (instr.Jump end) tt then at other then f
    then one instr.Bool tt then at end))
operator_keeps op.And f =
    labelled (λ no. labelled (λ end.
    one (instr.JumpZero no) tt then f then one instr.Bool tt then one (instr.Jump end) tt then at no
    then one (instr.Push (pos 0)) (omega arith) then at end))
operator_keeps op.Eq f = f then one instr.Eq tt
operator_keeps op.Ne f = f then one instr.Ne tt
operator_keeps op.Lt f = f then one instr.Lt tt
operator_keeps op.Le f = f then one instr.Le tt
operator_keeps op.Gt f = f then one instr.Gt tt
operator_keeps op.Ge f = f then one instr.Ge tt
operator_keeps op.Add f = f then one instr.Add tt
operator_keeps op.Sub f = f then one instr.Sub tt
operator_keeps op.Mul f = f then one instr.Mul tt
operator_keeps op.Div f = f then one instr.Div tt
operator_keeps op.Rem f = f then one instr.Rem tt

quantified_keeps : {c : Code} (kind : Quantifier) (k : ℕ) {low high body : Template} → Keeps c low → Keeps c high → Keeps c body
    → Keeps c (QuantifiedCode kind k low high body)
quantified_keeps Every k f g h =
    labelled (λ loop. labelled (λ no. labelled (λ yes. labelled (λ end.
    f then g then one (instr.Range k yes) tt then at loop then h then one (instr.JumpZero no) tt then one (instr.Again k loop) tt
    then at yes then one (instr.Push (pos 1)) (omega arith) then one (instr.Jump end) tt then at no
    then one (instr.Push (pos 0)) (omega arith) then at end))))
quantified_keeps Any k f g h =
    labelled (λ loop. labelled (λ next. labelled (λ no. labelled (λ end.
    f then g then one (instr.Range k no) tt then at loop then h then one (instr.JumpZero next) tt
    then one (instr.Push (pos 1)) (omega arith) then one (instr.Jump end) tt then at next then one (instr.Again k loop) tt then at no
    then one (instr.Push (pos 0)) (omega arith) then at end))))
quantified_keeps Total k f g h =
    labelled (λ loop. labelled (λ end.
    one (instr.Push (pos 0)) (omega arith) then f then g then one (instr.Range k end) tt then at loop then h then one instr.Add tt
    then one (instr.Again k loop) tt then at end))

module _ {c : Code} (slots : List Slot) where
  mutual
    unfolding ExpressionCode SubscriptCode LinksCode

    pub expression_keeps : (e : Expression) (spot : Spot) → AreSettled slots (expression_sites spot e) → AreFew spot.scopes
        → expression_weight e < 2 ^ 32 → Keeps c (ExpressionCode slots e)
    expression_keeps (Literal number) spot settled few light = one (instr.Push number.value) (number_fits number.value (omega arith))
    expression_keeps (Variable (Refer name Scalar)) spot settled few light =
        scalar_keeps (counter_of slots name.id) (spot_of slots name.id) (used_few slots AValue name spot.scopes settled.0 few).0
    expression_keeps (Variable (Refer name (Element index))) spot settled few light =
        let word = used_few slots AnArray name spot.scopes settled.0 few in
        expression_keeps index spot settled.1 few (omega arith)
        then one (instr.Bound (elements_of slots name.id)) word.1 then one (instr.LoadAt (spot_of slots name.id)) word.0
    expression_keeps (Former place (Refer name Scalar)) spot settled few light =
        one (instr.Prior (spot_of slots name.id)) (used_few slots AScalar name spot.scopes settled.1.0 few).0
    expression_keeps (Former place (Refer name (Element index))) spot settled few light =
        let word = used_few slots AnArray name spot.scopes settled.1.0 few in
        expression_keeps index spot settled.1.1 few (omega arith)
        then one (instr.Bound (elements_of slots name.id)) word.1 then one (instr.PriorAt (spot_of slots name.id)) word.0
    expression_keeps (Minus operand) spot settled few light = expression_keeps operand spot settled few (omega arith) then one instr.Neg tt
    expression_keeps (Negation operand) spot settled few light = expression_keeps operand spot settled few (omega arith) then one instr.Not tt
    expression_keeps (Chained first links) spot settled few light =
        let parts = all_split (IsSettled slots) (expression_sites spot first) (links_sites spot links) settled in
        expression_keeps first spot parts.0 few (omega arith) then links_keep links spot parts.1 few (omega arith)
    expression_keeps (Quantification kind place name low high body) spot settled few light =
        let inside = within (counter name spot ∷ []) 0 (quantified spot) in
        let behind = expression_sites (quantified spot) high ++ expression_sites inside body in
        let parts = all_split (IsSettled slots) (expression_sites (quantified spot) low) behind settled.1.1 in
        let rest = all_split (IsSettled slots) (expression_sites (quantified spot) high) (expression_sites inside body) parts.1 in
        quantified_keeps kind (quantified_of slots name.id) (expression_keeps low (quantified spot) parts.0 few (omega arith))
        (expression_keeps high (quantified spot) rest.0 few (omega arith)) (expression_keeps body inside rest.1 ((tt, tt), few) (omega arith))

    links_keep : (links : Links) (spot : Spot) → AreSettled slots (links_sites spot links) → AreFew spot.scopes
        → links_weight links < 2 ^ 32 → Keeps c (LinksCode slots links)
    links_keep NoLink spot settled few light = nothing
    links_keep (Linked op right links) spot settled few light =
        let parts = all_split (IsSettled slots) (expression_sites spot right) (links_sites spot links) settled in
        operator_keeps op (expression_keeps right spot parts.0 few (omega arith)) then links_keep links spot parts.1 few (omega arith)

  -- a value that goes to a place
  pub store_keeps : (to : Reference) (spot : Spot) → AreSettled slots (reference_sites spot AScalar to) → AreFew spot.scopes
      → reference_weight to < 2 ^ 32 → {value : Template} → Keeps c value → Keeps c (StoreCode slots to value)
  store_keeps (Refer name Scalar) spot settled few light f =
      f then one (instr.Store (spot_of slots name.id)) (used_few slots AScalar name spot.scopes settled.0 few).0
  store_keeps (Refer name (Element index)) spot settled few light f =
      let word = used_few slots AnArray name spot.scopes settled.0 few in
      expression_keeps index spot settled.1 few (omega arith)
      then one (instr.Bound (elements_of slots name.id)) word.1 then f then one (instr.StoreAt (spot_of slots name.id)) word.0

  -- items of a line, and arguments
  printed_keeps : (printed : Printed) (spot : Spot) → AreSettled slots (printed_sites spot printed) → AreFew spot.scopes
      → printed_weight printed < 2 ^ 32 → Keeps c (PrintedCode slots printed)
  printed_keeps (Words text) spot settled few light = quoted text
  printed_keeps (Amount value) spot settled few light = expression_keeps value spot settled few light then one instr.Item tt

  pub items_keep : (items : List PrintItem) (spot : Spot)
      → AreSettled slots (flat_map (λ (item : PrintItem). printed_sites spot item.what) items) → AreFew spot.scopes
      → items_weight items < 2 ^ 32 → Keeps c (ItemsCode slots items)
  items_keep [] spot settled few light = nothing
  items_keep (item ∷ items) spot settled few light =
      let parts = all_split (IsSettled slots) (printed_sites spot item.what) _ settled in
      printed_keeps item.what spot parts.0 few (omega arith) then items_keep items spot parts.1 few (omega arith)

  pub arguments_keep : (arguments : List Expression) (spot : Spot) → AreSettled slots (flat_map (expression_sites spot) arguments)
      → AreFew spot.scopes → arguments_weight arguments < 2 ^ 32 → Keeps c (ArgumentsCode slots arguments)
  arguments_keep [] spot settled few light = nothing
  arguments_keep (argument ∷ arguments) spot settled few light =
      let parts = all_split (IsSettled slots) (expression_sites spot argument) _ settled in
      expression_keeps argument spot parts.0 few (omega arith) then arguments_keep arguments spot parts.1 few (omega arith)

pub called_keeps : {c : Code} (p number arguments words : ℕ) → IsNatural arguments → IsNatural words → Keeps c (Called p number arguments words)
called_keeps {c = c} p number arguments words h k = record {
  up = (let t : Keeps c _ = one (instr.Call (procedure_start c p number) arguments words) (h, k) in t).up;
  each = (let t : Keeps c _ = one (instr.Call (procedure_start c p number) arguments words) (h, k) in t).each;
}

-- frames
pub frame_keeps : {c : Code} (n : ℕ) → IsNatural n → Keeps c (FrameCode n)
frame_keeps zero h = nothing
frame_keeps (suc n) h = one (instr.Frame (suc n)) h

pub drop_keeps : {c : Code} (n : ℕ) → IsNatural n → Keeps c (DropCode n)
drop_keeps zero h = nothing
drop_keeps (suc n) h = one (instr.Drop (suc n)) h
