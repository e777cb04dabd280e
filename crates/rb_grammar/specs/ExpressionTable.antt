-- The table, first part: what the plan of an expression is at the token that stands first.
use Rattle.std.specs.Prelude.{ℤ, pos, Option, Some, None}
use Rattle.rb_lex.specs.declared.token.Kind.{Kind}
use Rattle.rb_lex.specs.declared.token.Kind.TheVariants as kinds
use Rattle.rb_lex.specs.Tokens.{Lexeme}
use Rattle.rb_grammar.specs.declared.level.Level.{Level}
use Rattle.rb_grammar.specs.declared.level.Level.TheVariants as levels
use Rattle.rb_grammar.specs.declared.terminal.Terminal.{Terminal}
use Rattle.rb_grammar.specs.declared.terminal.Terminal.TheVariants as terminals
use Rattle.rb_grammar.specs.Grammar.{chain}
use Rattle.rb_grammar.specs.Parts.{Part}
use Rattle.rb_grammar.specs.Plans.{Seen, Plan, Done, Token, Call, bind}
use Rattle.rb_syntax.specs.declared.expression.Number.{Number}
use Rattle.rb_syntax.specs.declared.expression.Op.{Op}
use Rattle.rb_syntax.specs.declared.expression.Quantifier.{Quantifier}
use Rattle.rb_syntax.specs.declared.expression.Quantifier.TheVariants as quantifiers
use Rattle.rb_syntax.specs.Tree.{Identifier, Expression, Literal, Variable, Former, Minus, Negation, Quantification, Reference, Refer, Subscript, Element, Links, NoLink, Linked}

-- the plan after the first token, if the part may begin with it
abbrev pub Start : Type 0 → Type 0
Start A = Option (Seen → Plan A)

-- a form that begins with a part
abbrev pub begin : {A B : Type 0} → Start A → (Seen → A → Plan B) → Start B
begin None rest = None
begin (Some f) rest = Some (λ seen. bind (f seen) (rest seen))

-- each form that begins with a part goes on by a plan of its own, `.._after`; here nothing follows
abbrev pub nothing_after : {A : Type 0} → Seen → A → Plan A
nothing_after seen value = Done value

-- a name where it stands
abbrev pub name_of : Seen → Identifier
name_of seen = record { text = seen.token.text; place = seen.token.place; id = seen.names }

-- the value of a number, and 0 of any other token
abbrev pub value_of : Kind → ℤ
value_of (kinds.Number value) = value
value_of _ = pos 0

-- a number where it stands
abbrev pub number_of : Lexeme → Number
number_of token = record { value = value_of token.kind; place = token.place }

-- a number
abbrev pub start_number : Option Terminal → Start Number
start_number (Some terminals.Number) = Some (λ number. Done (number_of number.token))
start_number (Some terminals.Two) = Some (λ number. Done (number_of number.token))
start_number _ = None

-- an index begins with its bracket
abbrev pub start_subscript : Option Terminal → Start Subscript
start_subscript (Some terminals.OpenBracket) = Some (λ bracket. Call Part.Expression
    (λ index. Token terminals.CloseBracket (λ close. Done (Element index))))
start_subscript _ = None

-- a place begins with a name
abbrev pub start_place : Option Terminal → Start Reference
start_place (Some terminals.Name) = Some (λ name. Call Part.Subscript (λ subscript. Done (Refer (name_of name) subscript)))
start_place _ = None

-- an atom that is a place
abbrev pub variable_after : Seen → Reference → Plan Expression
variable_after seen place = Done (Variable place)

-- an atom that is a number
abbrev pub literal_after : Seen → Number → Plan Expression
literal_after seen number = Done (Literal number)

-- an atom begins with `prior`, a bracket, a place or a number
abbrev pub start_atom : Option Terminal → Start Expression
start_atom (Some terminals.Prior) = Some (λ prior. Call Part.Place (λ place. Done (Former prior.token.place place)))
start_atom (Some terminals.OpenParen) = Some (λ bracket. Call Part.Expression (λ value. Token terminals.CloseParen (λ close. Done value)))
start_atom (Some terminals.Name) = begin (start_place (Some terminals.Name)) variable_after
start_atom first = begin (start_number first) literal_after

-- a factor begins with `-` or an atom
abbrev pub start_factor : Option Terminal → Start Expression
start_factor (Some terminals.Minus) = Some (λ minus. Call Part.Atom (λ operand. Done (Minus operand)))
start_factor first = begin (start_atom first) nothing_after

-- an operator, an operand and what follows
abbrev pub start_link : Level → Option Op → Start Links
start_link level None = None
start_link level (Some op) = Some (λ seen. Call (Part.Operand level) (λ right. Call (Part.Links level) (λ links. Done (Linked op right links))))

-- after its first operand a chain goes on with more
abbrev pub chain_after : Level → Seen → Expression → Plan Expression
chain_after level seen first = Call (Part.Links level) (λ links. Done (chain first links))

-- the operands of products
abbrev pub start_product_operand : Option Terminal → Start Expression
start_product_operand first = begin (start_factor first) nothing_after

abbrev pub start_product : Option Terminal → Start Expression
start_product first = begin (start_product_operand first) (chain_after levels.Product)

-- the operands of sums
abbrev pub start_sum_operand : Option Terminal → Start Expression
start_sum_operand first = begin (start_product first) nothing_after

abbrev pub start_sum : Option Terminal → Start Expression
start_sum first = begin (start_sum_operand first) (chain_after levels.Sum)

-- a comparison and its right operand
abbrev pub start_compared : Option Op → Start Links
start_compared None = None
start_compared (Some op) = Some (λ seen. Call (Part.Chain levels.Sum) (λ right. Done (Linked op right NoLink)))

-- after its left sum a comparison goes on with its right one
abbrev pub compared_after : Seen → Expression → Plan Expression
compared_after seen left = Call Part.Compared (λ links. Done (chain left links))

abbrev pub start_comparison : Option Terminal → Start Expression
start_comparison first = begin (start_sum first) compared_after

-- a negation begins with `not` or a comparison
abbrev pub start_negation : Option Terminal → Start Expression
start_negation (Some terminals.Not) = Some (λ not. Call Part.Comparison (λ operand. Done (Negation operand)))
start_negation first = begin (start_comparison first) nothing_after

-- the operands of `and`
abbrev pub start_conjunction_operand : Option Terminal → Start Expression
start_conjunction_operand first = begin (start_negation first) nothing_after

abbrev pub start_conjunction : Option Terminal → Start Expression
start_conjunction first = begin (start_conjunction_operand first) (chain_after levels.Conjunction)

-- the operands of `or`
abbrev pub start_disjunction_operand : Option Terminal → Start Expression
start_disjunction_operand first = begin (start_conjunction first) nothing_after

abbrev pub start_disjunction : Option Terminal → Start Expression
start_disjunction first = begin (start_disjunction_operand first) (chain_after levels.Disjunction)

-- the operands of each level
abbrev pub start_operand : Level → Option Terminal → Start Expression
start_operand levels.Disjunction first = start_disjunction_operand first
start_operand levels.Conjunction first = start_conjunction_operand first
start_operand levels.Sum first = start_sum_operand first
start_operand levels.Product first = start_product_operand first

-- the chains of each level
abbrev pub start_chain : Level → Option Terminal → Start Expression
start_chain level first = begin (start_operand level first) (chain_after level)

-- what follows the word of a quantified expression
abbrev pub quantified_after : Quantifier → Seen → Plan Expression
quantified_after kind word = Token terminals.Name (λ name. Token terminals.From
    (λ from. Call (Part.Chain levels.Sum) (λ low. Token terminals.To
    (λ to. Call (Part.Chain levels.Sum) (λ high. Token terminals.Colon
    (λ colon. Call (Part.Chain levels.Disjunction) (λ body. Done
    (Quantification kind word.token.place (name_of name) low high body))))))))

-- an expression begins with the word of a quantified one, or an operand of `or`
abbrev pub start_expression : Option Terminal → Start Expression
start_expression (Some terminals.Every) = Some (quantified_after quantifiers.Every)
start_expression (Some terminals.Some) = Some (quantified_after quantifiers.Any)
start_expression (Some terminals.Sum) = Some (quantified_after quantifiers.Total)
start_expression first = begin (start_disjunction first) nothing_after
