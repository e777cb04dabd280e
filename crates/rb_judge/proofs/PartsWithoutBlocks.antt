-- Names and expressions have no recovery blocks, so where recovery blocks alone are told nothing is told of them.
use Rattle.std.proofs.Common.{◌≡◌, List, [], ◌∷◌, Option, Some, None, refl, ◌∙◌}
use Rattle.rb_grammar.specs.Order.{Recovery, declaration_told, each, expression_told, if_named, item_told, links_told, printed_told, recoveries_alone, reference_told}
use Rattle.rb_syntax.specs.Tree.{Identifier, Expression, Literal, Variable, Former, Minus, Negation, Chained, Quantification, Reference, Refer, Scalar, Element, Links, NoLink, Linked, Declaration, Words, Amount, Printed, PrintItem}

mutual
  pub no_expression : (e : Expression) (rest : List Recovery) → expression_told recoveries_alone e rest ≡ rest
  no_expression (Literal number) rest = refl
  no_expression (Variable reference) rest = no_reference reference rest
  no_expression (Former place reference) rest = no_reference reference rest
  no_expression (Minus operand) rest = no_expression operand rest
  no_expression (Negation operand) rest = no_expression operand rest
  no_expression (Chained first links) rest = no_expression first (links_told recoveries_alone links rest) ∙ no_links links rest
  no_expression (Quantification kind place name low high body) rest =
      no_expression low (expression_told recoveries_alone high (expression_told recoveries_alone body rest))
      ∙ no_expression high (expression_told recoveries_alone body rest)
      ∙ no_expression body rest

  pub no_reference : (r : Reference) (rest : List Recovery) → reference_told recoveries_alone r rest ≡ rest
  no_reference (Refer name Scalar) rest = refl
  no_reference (Refer name (Element index)) rest = no_expression index rest

  no_links : (links : Links) (rest : List Recovery) → links_told recoveries_alone links rest ≡ rest
  no_links NoLink rest = refl
  no_links (Linked op right links) rest = no_expression right (links_told recoveries_alone links rest) ∙ no_links links rest

pub no_arguments : (arguments : List Expression) (rest : List Recovery)
    → each (expression_told recoveries_alone) arguments rest ≡ rest
no_arguments [] rest = refl
no_arguments (argument ∷ arguments) rest =
    no_expression argument (each (expression_told recoveries_alone) arguments rest) ∙ no_arguments arguments rest

no_printed : (what : Printed) (rest : List Recovery) → printed_told recoveries_alone what rest ≡ rest
no_printed (Words text) rest = refl
no_printed (Amount value) rest = no_expression value rest

pub no_items : (items : List PrintItem) (rest : List Recovery) → each (item_told recoveries_alone) items rest ≡ rest
no_items [] rest = refl
no_items (item ∷ items) rest = no_printed item.what (each (item_told recoveries_alone) items rest) ∙ no_items items rest

pub no_declarations : (variables : List Declaration) (rest : List Recovery)
    → each (declaration_told recoveries_alone) variables rest ≡ rest
no_declarations [] rest = refl
no_declarations (one ∷ others) rest = no_declarations others rest

pub no_conversation : (name : Option Identifier) (rest : List Recovery) → if_named recoveries_alone name rest ≡ rest
no_conversation None rest = refl
no_conversation (Some name) rest = refl
