-- The table, second part: what the plan of a declaration or a statement is at the token that stands first.
use Rattle.std.specs.Prelude.{List, ◌∷◌, Option, Some, None}
use Rattle.rb_base.specs.declared.place.Place.{Place}
use Rattle.rb_lex.specs.Tokens.{Lexeme}
use Rattle.rb_base.specs.declared.edition.Edition.{Edition}
use Rattle.rb_base.specs.declared.edition.Edition.TheVariants as editions
use Rattle.rb_grammar.specs.declared.terminal.Terminal.{Terminal}
use Rattle.rb_grammar.specs.declared.terminal.Terminal.TheVariants as terminals
use Rattle.rb_grammar.specs.ExpressionTable.{Start, begin, nothing_after, name_of, start_place, start_expression}
use Rattle.rb_grammar.specs.Grammar.{between_quotes, joined}
use Rattle.rb_grammar.specs.Parts.{Part}
use Rattle.rb_grammar.specs.Plans.{Seen, Plan, Done, Token, Call}
use Rattle.rb_syntax.specs.declared.expression.Number.{Number}
use Rattle.rb_syntax.specs.Tree.{Expression, Reference, Declaration, Words, Amount, PrintItem, Command, Assignment, Printing}
use Rattle.rb_syntax.specs.Tree.{Sending, Receiving, Conditional, Loop, Invocation, Failure, Recovering, Commands, Then, Body}
use Rattle.rb_syntax.specs.Tree.{Scope, Otherwise, NoElse, Else, RecoveryBlock, Recovers, Alternates, NoAlternate, Alternate}

-- an item that is a text
abbrev pub text_item : Lexeme → PrintItem
text_item token = record { place = token.place; what = Words (between_quotes token.text) }

-- an amount, at the place of its first token
abbrev pub amount_at : Place → Expression → PrintItem
amount_at place value = record { place = place; what = Amount value }

-- an item that is a value stands where its first token does
abbrev pub amount_after : Seen → Expression → Plan PrintItem
amount_after seen value = Done (amount_at seen.token.place value)

-- an item begins with a text or an expression
abbrev pub start_item : Option Terminal → Start PrintItem
start_item (Some terminals.Text) = Some (λ text. Done (text_item text.token))
start_item first = begin (start_expression first) amount_after

-- after its first item a list goes on with more
abbrev pub items_after : Seen → PrintItem → Plan (List PrintItem)
items_after seen item = Call Part.MoreItems (λ others. Done (item ∷ others))

abbrev pub start_items : Option Terminal → Start (List PrintItem)
start_items first = begin (start_item first) items_after

-- more items begin with a comma
abbrev pub start_more_items : Option Terminal → Start (List PrintItem)
start_more_items (Some terminals.Comma) = Some (λ comma. Call Part.Item (λ item. Call Part.MoreItems (λ others. Done (item ∷ others))))
start_more_items _ = None

-- after its first expression a list goes on with more
abbrev pub expressions_after : Seen → Expression → Plan (List Expression)
expressions_after seen first = Call Part.MoreExpressions (λ others. Done (first ∷ others))

abbrev pub start_expressions : Option Terminal → Start (List Expression)
start_expressions first = begin (start_expression first) expressions_after

-- arguments are such a list
abbrev pub start_arguments : Option Terminal → Start (List Expression)
start_arguments first = begin (start_expressions first) nothing_after

-- more expressions begin with a comma
abbrev pub start_more_expressions : Option Terminal → Start (List Expression)
start_more_expressions (Some terminals.Comma) = Some (λ comma. Call Part.Expression
    (λ next. Call Part.MoreExpressions (λ others. Done (next ∷ others))))
start_more_expressions _ = None

-- a size begins with its bracket
abbrev pub start_size : Option Terminal → Start (Option Number)
start_size (Some terminals.OpenBracket) = Some (λ bracket. Call Part.Number (λ size. Token terminals.CloseBracket (λ close. Done (Some size))))
start_size _ = None

-- a declaration begins with `var`
abbrev pub start_declaration : Option Terminal → Start Declaration
start_declaration (Some terminals.Var) = Some (λ var. Token terminals.Name
    (λ name. Call Part.Size (λ size. Token terminals.Semicolon
    (λ semicolon. Done (record { name = name_of name; size = size })))))
start_declaration _ = None

-- after its first declaration a list goes on
abbrev pub declarations_after : Seen → Declaration → Plan (List Declaration)
declarations_after seen declaration = Call Part.Declarations (λ others. Done (declaration ∷ others))

abbrev pub start_declarations : Option Terminal → Start (List Declaration)
start_declarations first = begin (start_declaration first) declarations_after

-- a block begins with its brace
abbrev pub start_block : Edition → Option Terminal → Start Body
start_block edition (Some terminals.OpenBrace) = Some (λ brace. Call Part.Declarations
    (λ variables. Call (Part.Statements edition) (λ commands. Token terminals.CloseBrace
    (λ close. Done (Scope variables commands)))))
start_block edition _ = None

-- a second branch begins with `else`
abbrev pub start_optional_else : Edition → Option Terminal → Start Otherwise
start_optional_else edition (Some terminals.Else) = Some (λ word. Call (Part.Block edition) (λ body. Done (Else body)))
start_optional_else edition _ = None

-- a receipt ends with `;`, or in the second edition with `else` and a block
abbrev pub start_receipt_end : Edition → Option Terminal → Start Otherwise
start_receipt_end edition (Some terminals.Semicolon) = Some (λ semicolon. Done NoElse)
start_receipt_end editions.Second (Some terminals.Else) = Some (λ word. Call (Part.Block editions.Second) (λ body. Done (Else body)))
start_receipt_end _ _ = None

-- an alternate begins with `by`
abbrev pub start_alternate : Edition → Option Terminal → Start Body
start_alternate edition (Some terminals.By) = Some (λ by. Call (Part.Block edition) (λ body. Token terminals.Else (λ word. Done body)))
start_alternate edition _ = None

-- after an alternate come others
abbrev pub alternates_after : Edition → Seen → Body → Plan Alternates
alternates_after edition seen first = Call (Part.OtherAlternates edition) (λ others. Done (Alternate first others))

abbrev pub start_alternates : Edition → Option Terminal → Start Alternates
start_alternates edition first = begin (start_alternate edition first) (alternates_after edition)

-- what follows an alternate and its `else` is another, or begins with `error`
abbrev pub start_other_alternates : Edition → Option Terminal → Start Alternates
start_other_alternates edition (Some terminals.Error) = Some (λ error. Token terminals.Semicolon (λ semicolon. Done NoAlternate))
start_other_alternates edition first = begin (start_alternate edition first) (alternates_after edition)

-- a recovery begins with `ensure`
abbrev pub start_recovery : Edition → Option Terminal → Start RecoveryBlock
start_recovery edition (Some terminals.Ensure) = Some (λ ensure. Call Part.Expression
    (λ test. Token terminals.Within (λ within. Call Part.Number
    (λ bound. Call (Part.Alternates edition) (λ alternates. Done
    (Recovers ensure.blocks None ensure.token.place test bound alternates))))))
start_recovery edition _ = None

-- after its place an assignment goes on with its value
abbrev pub assignment_after : Seen → Reference → Plan Command
assignment_after seen place = Token terminals.Becomes (λ becomes. Call Part.Expression
    (λ value. Token terminals.Semicolon (λ semicolon. Done (Assignment place value))))

-- a statement that is a recovery block
abbrev pub recovering_after : Seen → RecoveryBlock → Plan Command
recovering_after seen block = Done (Recovering block)

-- a statement begins with its word, or with a place
abbrev pub start_statement : Edition → Option Terminal → Start Command
start_statement edition (Some terminals.Print) = Some (λ print. Call Part.Items
    (λ items. Token terminals.Semicolon (λ semicolon. Done (Printing items))))
start_statement edition (Some terminals.Send) = Some (λ send. Token terminals.Name
    (λ channel. Call Part.Expression (λ value. Token terminals.Semicolon (λ semicolon. Done (Sending (name_of channel) value)))))
start_statement edition (Some terminals.Receive) = Some (λ receive. Token terminals.Name
    (λ channel. Call Part.Place (λ place. Call (Part.ReceiptEnd edition)
    (λ otherwise. Done (Receiving (name_of channel) place otherwise)))))
start_statement edition (Some terminals.If) = Some (λ word. Call Part.Expression
    (λ test. Call (Part.Block edition) (λ body. Call (Part.OptionalElse edition)
    (λ otherwise. Done (Conditional test body otherwise)))))
start_statement edition (Some terminals.While) = Some (λ word. Call Part.Expression
    (λ test. Call (Part.Block edition) (λ body. Done (Loop test body))))
start_statement edition (Some terminals.Call) = Some (λ call. Token terminals.Name
    (λ procedure. Token terminals.OpenParen (λ bracket. Call Part.Arguments
    (λ arguments. Token terminals.CloseParen (λ close. Token terminals.Semicolon
    (λ semicolon. Done (Invocation (name_of procedure) arguments)))))))
start_statement edition (Some terminals.Fail) = Some (λ fail. Token terminals.Semicolon (λ semicolon. Done Failure))
start_statement edition (Some terminals.Ensure) = begin (start_recovery edition (Some terminals.Ensure)) recovering_after
start_statement edition (Some terminals.Converse) = Some (λ converse. Token terminals.Name
    (λ conversation. Call (Part.Recovery edition) (λ block. Done (Recovering (joined (name_of conversation) block)))))
start_statement edition first = begin (start_place first) assignment_after

-- after its first statement a list goes on
abbrev pub statements_after : Edition → Seen → Command → Plan Commands
statements_after edition seen statement = Call (Part.Statements edition) (λ others. Done (Then statement others))

abbrev pub start_statements : Edition → Option Terminal → Start Commands
start_statements edition first = begin (start_statement edition first) (statements_after edition)
