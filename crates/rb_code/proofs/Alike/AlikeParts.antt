-- The code of a part of a tree determines what it is: of expressions and of what stands in statements.
use Rattle.std.proofs.Common.{◌≡◌, ℕ, List, [], ◌∷◌, length, Some, None, refl, ap, arith}
use Rattle.rb_syntax.specs.Tree.{Identifier, Expression, Literal, Variable, Former, Minus, Negation, Chained, Quantification, Reference, Refer, Scalar, Element, Links, NoLink, Linked, Printed, Words, Amount, PrintItem}
use Rattle.rb_scope.specs.declared.slot.Slot.{Slot}
use Rattle.rb_code.specs.Instructions.Plain.{Code}
use Rattle.rb_code.specs.Agreement.Slots.{counter_of, elements_of, quantified_of, spot_of}
use Rattle.rb_code.specs.Agreement.Template.{Template}
use Rattle.rb_code.specs.Agreement.Forms.{ArgumentsCode, Called, CallCode, ExpressionCode, ItemsCode, LinksCode, Owner, PrintedCode, StoreCode, SubscriptCode, procedure_start}
use Rattle.rb_code.specs.declared.instr.Instr.TheVariants as instr
use Rattle.rb_code.proofs.Alike.AlikeCode.{Fixed, Same, alike_one, fixed_one, same_closed, same_empty, same_text, same_then}
use Rattle.rb_code.proofs.Alike.AlikeForms.{fixed_then, operator_alike, quantified_alike, scalar_alike}

-- in both codes procedures begin at the same addresses
abbrev pub SameStarts : Code → Code → Type 0
SameStarts c d = (p number : ℕ) → procedure_start c p number ≡ procedure_start d p number

module _ (c d : Code) (slots : List Slot) where
  mutual
    unfolding ExpressionCode SubscriptCode LinksCode

    pub expression_alike : (x : Expression) → Fixed c d (ExpressionCode slots x)
    expression_alike (Literal number) = fixed_one c d (instr.Push number.value) refl
    expression_alike (Variable (Refer name Scalar)) = scalar_alike c d (counter_of slots name.id) (spot_of slots name.id)
    expression_alike (Variable (Refer name (Element index))) =
        fixed_then c d (expression_alike index)
        (fixed_then c d (fixed_one c d (instr.Bound (elements_of slots name.id)) refl) (fixed_one c d (instr.LoadAt (spot_of slots name.id)) refl))
    expression_alike (Former place (Refer name Scalar)) = fixed_one c d (instr.Prior (spot_of slots name.id)) refl
    expression_alike (Former place (Refer name (Element index))) =
        fixed_then c d (expression_alike index)
        (fixed_then c d (fixed_one c d (instr.Bound (elements_of slots name.id)) refl) (fixed_one c d (instr.PriorAt (spot_of slots name.id)) refl))
    expression_alike (Minus operand) = fixed_then c d (expression_alike operand) (fixed_one c d instr.Neg refl)
    expression_alike (Negation operand) = fixed_then c d (expression_alike operand) (fixed_one c d instr.Not refl)
    expression_alike (Chained first links) = fixed_then c d (expression_alike first) (links_alike links)
    expression_alike (Quantification kind place name low high body) =
        quantified_alike c d (quantified_of slots name.id) (ExpressionCode slots low) (ExpressionCode slots high) (ExpressionCode slots body)
        (expression_alike low) (expression_alike high) (expression_alike body) kind

    pub links_alike : (links : Links) → Fixed c d (LinksCode slots links)
    links_alike NoLink = same_empty c d
    links_alike (Linked op right links) =
        fixed_then c d (operator_alike c d op (ExpressionCode slots right) (expression_alike right)) (links_alike links)

  -- a value that goes to a place
  pub store_alike : (to : Reference) (value : Template) → Fixed c d value → Fixed c d (StoreCode slots to value)
  store_alike (Refer name Scalar) value f = fixed_then c d f (fixed_one c d (instr.Store (spot_of slots name.id)) refl)
  store_alike (Refer name (Element index)) value f =
      fixed_then c d (expression_alike index)
      (fixed_then c d (fixed_one c d (instr.Bound (elements_of slots name.id)) refl)
      (fixed_then c d f (fixed_one c d (instr.StoreAt (spot_of slots name.id)) refl)))

  -- items of a line
  printed_alike : (printed : Printed) → Fixed c d (PrintedCode slots printed)
  printed_alike (Words text) = same_text c d text
  printed_alike (Amount value) = fixed_then c d (expression_alike value) (fixed_one c d instr.Item refl)

  pub items_alike : (items : List PrintItem) → Fixed c d (ItemsCode slots items)
  items_alike [] = same_empty c d
  items_alike (item ∷ items) = fixed_then c d (printed_alike item.what) (items_alike items)

  arguments_alike : (arguments : List Expression) → Fixed c d (ArgumentsCode slots arguments)
  arguments_alike [] = same_empty c d
  arguments_alike (argument ∷ arguments) = fixed_then c d (expression_alike argument) (arguments_alike arguments)

  called_alike : (p number arguments words : ℕ)
      → Same c d (SameStarts c d) (Unit {0}) (Called p number arguments words) (Called p number arguments words)
  called_alike p number arguments words = record {
    ends = λ a b x y at e f. let n = e.1 in let m = f.1 in omega arith;
    told = λ a b x y at e f. tt;
    alike = λ starts a b x y at e f.
        alike_one c d (instr.Call (procedure_start c p number) arguments words) (instr.Call (procedure_start d p number) arguments words) a b x y
        (ap (λ n. (Some (instr.Call n arguments words), None)) (starts p number)) at e f;
  }

  pub call_alike : (owner : Owner) (name : Identifier) (arguments : List Expression)
      → Same c d (SameStarts c d) (Unit {0}) (CallCode slots owner name arguments) (CallCode slots owner name arguments)
  call_alike owner name arguments =
      same_closed c d
      (same_then c d (fixed_one c d instr.Turn refl) (same_then c d (arguments_alike arguments) (called_alike owner.number _ (length arguments) _)))
      (λ starts t. (tt, (tt, starts))) (λ t. tt)
