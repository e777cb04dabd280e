-- The grammar: which plain trees a list of tokens derives, one case for each row. Names are numbered from 0 in their
-- order, recoveries by their word `ensure`, and each place is that of its token. Recovery blocks are those of Horning,
-- Lauer, Melliar-Smith and Randell (1974), conversations those of Randell (1975); the forms are this project's own.
use Rattle.std.specs.Prelude.{◌≡◌, ℕ, List, [], ◌∷◌, Option, Some, None}
use Rattle.rb_base.specs.declared.place.Place.{Place}
use Rattle.rb_lex.specs.Tokens.{Lexeme}
use Rattle.rb_base.specs.declared.edition.Edition.{Edition}
use Rattle.rb_base.specs.declared.edition.Edition.TheVariants as editions
use Rattle.rb_grammar.specs.declared.level.Level.{Level}
use Rattle.rb_grammar.specs.declared.level.Level.TheVariants as levels
use Rattle.rb_grammar.specs.declared.terminal.Terminal.TheVariants as terminals
use Rattle.rb_grammar.specs.Parts.{Part}
pub use Rattle.rb_grammar.specs.Taking.{
  Point,
  Takes,
  TakesAt,
  TakesName,
  TakesNumber,
  between_quotes,
  TakesText,
  TakesEnsure,
  TakesOperator,
  TakesComparison,
  TakesQuantifier,
  StandsAt,
}
use Rattle.rb_grammar.specs.Values.{Value}
use Rattle.rb_syntax.specs.declared.expression.Number.{Number}
use Rattle.rb_syntax.specs.declared.expression.Op.{Op}
use Rattle.rb_syntax.specs.declared.expression.Quantifier.{Quantifier}
use Rattle.rb_syntax.specs.Tree.{Identifier, Expression, Literal, Variable, Former, Minus, Negation, Chained, Quantification}
use Rattle.rb_syntax.specs.Tree.{Reference, Refer, Subscript, Scalar, Element, Links, NoLink, Linked, Declaration, Amount}
use Rattle.rb_syntax.specs.Tree.{PrintItem, Command, Assignment, Printing, Sending, Receiving, Conditional, Loop, Invocation}
use Rattle.rb_syntax.specs.Tree.{Failure, Recovering, Commands, NoCommand, Then, Body, Scope, Otherwise, NoElse, Else}
use Rattle.rb_syntax.specs.Tree.{RecoveryBlock, Recovers, Alternates, NoAlternate, Alternate, ChannelDeclaration}
use Rattle.rb_syntax.specs.Tree.{ConversationDeclaration, ProcedureDeclaration, ProcessDeclaration, Tree}

-- operators of one level leave one chain, and a single operand no node
abbrev pub chain : Expression → Links → Expression
chain first NoLink = first
chain first (Linked op right links) = Chained first (Linked op right links)

-- a recovery in which a member takes part in a conversation
abbrev pub joined : Identifier → RecoveryBlock → RecoveryBlock
joined name (Recovers number conversation place test bound alternates) = Recovers number (Some name) place test bound alternates

-- what the tokens between two points derive
pub data Derives : (part : Part) → Value part → Point → Point → Type 0 where
  -- a text is of the first edition, unless it begins with
  first_edition_row : {a b : Point} {tree : Tree} →
      Derives (Part.Unmarked editions.First) tree a b → Derives Part.Program tree a b
  -- `edition` two `;`
  second_edition_row : {a b c d e : Point} {tree : Tree} →
      Takes terminals.Edition a b → Takes terminals.Two b c → Takes terminals.Semicolon c d →
      Derives (Part.Unmarked editions.Second) tree d e → Derives Part.Program tree a e
  -- `program` name `;` { channel | conversation } process { process } `end` `.`
  program_row : {edition : Edition} {a b c d e f g h : Point} {name : Identifier}
      {connections : List ChannelDeclaration × List ConversationDeclaration} {processes : List ProcessDeclaration} →
      Takes terminals.Program a b → TakesName name b c → Takes terminals.Semicolon c d →
      Derives Part.Connections connections d e → Derives (Part.Processes edition) processes e f →
      Takes terminals.End f g → Takes terminals.Dot g h →
      Derives (Part.Unmarked edition) (record {
        name = name;
        channels = connections.0;
        conversations = connections.1;
        processes = processes;
        names = h.names;
        blocks = h.blocks;
        edition = edition;
      }) a h
  no_connection_row : {a : Point} → Derives Part.Connections ([], []) a a
  channels_row : {a b c : Point} {first : ChannelDeclaration} {others : List ChannelDeclaration × List ConversationDeclaration} →
      Derives Part.Channel first a b → Derives Part.Connections others b c →
      Derives Part.Connections (first ∷ others.0, others.1) a c
  conversations_row : {a b c : Point} {first : ConversationDeclaration} {others : List ChannelDeclaration × List ConversationDeclaration} →
      Derives Part.Conversation first a b → Derives Part.Connections others b c →
      Derives Part.Connections (others.0, first ∷ others.1) a c
  -- `channel` name `from` name `to` name `size` number `;`
  channel_row : {a b c d e f g h i j : Point} {name sender receiver : Identifier} {size : Number} →
      Takes terminals.Channel a b → TakesName name b c → Takes terminals.From c d → TakesName sender d e →
      Takes terminals.To e f → TakesName receiver f g → Takes terminals.Size g h → Derives Part.Number size h i →
      Takes terminals.Semicolon i j →
      Derives Part.Channel (record { name = name; sender = sender; receiver = receiver; size = size }) a j
  -- `conversation` name `(` name { `,` name } `)` `;`
  conversation_row : {a b c d e f g : Point} {name : Identifier} {members : List Identifier} →
      Takes terminals.Conversation a b → TakesName name b c → Takes terminals.OpenParen c d →
      Derives Part.Names members d e → Takes terminals.CloseParen e f → Takes terminals.Semicolon f g →
      Derives Part.Conversation (record { name = name; members = members }) a g
  names_row : {a b c : Point} {first : Identifier} {others : List Identifier} →
      TakesName first a b → Derives Part.MoreNames others b c → Derives Part.Names (first ∷ others) a c
  no_name_row : {a : Point} → Derives Part.MoreNames [] a a
  more_names_row : {a b c d : Point} {first : Identifier} {others : List Identifier} →
      Takes terminals.Comma a b → TakesName first b c → Derives Part.MoreNames others c d →
      Derives Part.MoreNames (first ∷ others) a d
  processes_row : {edition : Edition} {a b c : Point} {first : ProcessDeclaration} {others : List ProcessDeclaration} →
      Derives (Part.Process edition) first a b → Derives (Part.MoreProcesses edition) others b c →
      Derives (Part.Processes edition) (first ∷ others) a c
  no_process_row : {edition : Edition} {a : Point} → Derives (Part.MoreProcesses edition) [] a a
  more_processes_row : {edition : Edition} {a b c : Point} {first : ProcessDeclaration} {others : List ProcessDeclaration} →
      Derives (Part.Process edition) first a b → Derives (Part.MoreProcesses edition) others b c →
      Derives (Part.MoreProcesses edition) (first ∷ others) a c
  -- `process` name `{` { vardecl } { procedure } { statement } `}`
  process_row : {edition : Edition} {a b c d e f g h : Point} {name : Identifier} {variables : List Declaration}
      {procedures : List ProcedureDeclaration} {commands : Commands} →
      Takes terminals.Process a b → TakesName name b c → Takes terminals.OpenBrace c d →
      Derives Part.Declarations variables d e → Derives (Part.Procedures edition) procedures e f →
      Derives (Part.Statements edition) commands f g → Takes terminals.CloseBrace g h →
      Derives (Part.Process edition) (record { name = name; variables = variables; procedures = procedures; commands = commands }) a h
  no_procedure_row : {edition : Edition} {a : Point} → Derives (Part.Procedures edition) [] a a
  procedures_row : {edition : Edition} {a b c : Point} {first : ProcedureDeclaration} {others : List ProcedureDeclaration} →
      Derives (Part.Procedure edition) first a b → Derives (Part.Procedures edition) others b c →
      Derives (Part.Procedures edition) (first ∷ others) a c
  -- `procedure` name `(` [ name { `,` name } ] `)` block
  procedure_row : {edition : Edition} {a b c d e f g : Point} {name : Identifier} {parameters : List Identifier} {body : Body} →
      Takes terminals.Procedure a b → TakesName name b c → Takes terminals.OpenParen c d →
      Derives Part.Parameters parameters d e → Takes terminals.CloseParen e f → Derives (Part.Block edition) body f g →
      Derives (Part.Procedure edition) (record { name = name; parameters = parameters; body = body }) a g
  no_parameter_row : {a : Point} → Derives Part.Parameters [] a a
  parameters_row : {a b : Point} {names : List Identifier} → Derives Part.Names names a b → Derives Part.Parameters names a b
  no_declaration_row : {a : Point} → Derives Part.Declarations [] a a
  declarations_row : {a b c : Point} {first : Declaration} {others : List Declaration} →
      Derives Part.Declaration first a b → Derives Part.Declarations others b c →
      Derives Part.Declarations (first ∷ others) a c
  -- `var` name [ `[` number `]` ] `;`
  declaration_row : {a b c d e : Point} {name : Identifier} {size : Option Number} →
      Takes terminals.Var a b → TakesName name b c → Derives Part.Size size c d → Takes terminals.Semicolon d e →
      Derives Part.Declaration (record { name = name; size = size }) a e
  no_size_row : {a : Point} → Derives Part.Size None a a
  size_row : {a b c d : Point} {size : Number} →
      Takes terminals.OpenBracket a b → Derives Part.Number size b c → Takes terminals.CloseBracket c d →
      Derives Part.Size (Some size) a d
  -- `{` { vardecl } { statement } `}`
  block_row : {edition : Edition} {a b c d e : Point} {variables : List Declaration} {commands : Commands} →
      Takes terminals.OpenBrace a b → Derives Part.Declarations variables b c →
      Derives (Part.Statements edition) commands c d → Takes terminals.CloseBrace d e →
      Derives (Part.Block edition) (Scope variables commands) a e
  no_statement_row : {edition : Edition} {a : Point} → Derives (Part.Statements edition) NoCommand a a
  statements_row : {edition : Edition} {a b c : Point} {first : Command} {others : Commands} →
      Derives (Part.Statement edition) first a b → Derives (Part.Statements edition) others b c →
      Derives (Part.Statements edition) (Then first others) a c
  -- place `:=` expr `;`
  assignment_row : {edition : Edition} {a b c d e : Point} {to : Reference} {value : Expression} →
      Derives Part.Place to a b → Takes terminals.Becomes b c → Derives Part.Expression value c d →
      Takes terminals.Semicolon d e → Derives (Part.Statement edition) (Assignment to value) a e
  -- `print` item { `,` item } `;`
  print_row : {edition : Edition} {a b c d : Point} {items : List PrintItem} →
      Takes terminals.Print a b → Derives Part.Items items b c → Takes terminals.Semicolon c d →
      Derives (Part.Statement edition) (Printing items) a d
  -- `send` name expr `;`
  send_row : {edition : Edition} {a b c d e : Point} {channel : Identifier} {value : Expression} →
      Takes terminals.Send a b → TakesName channel b c → Derives Part.Expression value c d →
      Takes terminals.Semicolon d e → Derives (Part.Statement edition) (Sending channel value) a e
  -- `receive` name place, and then
  receive_row : {edition : Edition} {a b c d e : Point} {channel : Identifier} {to : Reference} {otherwise : Otherwise} →
      Takes terminals.Receive a b → TakesName channel b c → Derives Part.Place to c d →
      Derives (Part.ReceiptEnd edition) otherwise d e →
      Derives (Part.Statement edition) (Receiving channel to otherwise) a e
  -- `;`
  waits_row : {edition : Edition} {a b : Point} →
      Takes terminals.Semicolon a b → Derives (Part.ReceiptEnd edition) NoElse a b
  -- or, in the second edition, `else` block
  never_waits_row : {a b c : Point} {body : Body} →
      Takes terminals.Else a b → Derives (Part.Block editions.Second) body b c →
      Derives (Part.ReceiptEnd editions.Second) (Else body) a c
  -- `if` expr block [ `else` block ]
  if_row : {edition : Edition} {a b c d e : Point} {test : Expression} {body : Body} {otherwise : Otherwise} →
      Takes terminals.If a b → Derives Part.Expression test b c → Derives (Part.Block edition) body c d →
      Derives (Part.OptionalElse edition) otherwise d e →
      Derives (Part.Statement edition) (Conditional test body otherwise) a e
  no_else_row : {edition : Edition} {a : Point} → Derives (Part.OptionalElse edition) NoElse a a
  else_row : {edition : Edition} {a b c : Point} {body : Body} →
      Takes terminals.Else a b → Derives (Part.Block edition) body b c →
      Derives (Part.OptionalElse edition) (Else body) a c
  -- `while` expr block
  while_row : {edition : Edition} {a b c d : Point} {test : Expression} {body : Body} →
      Takes terminals.While a b → Derives Part.Expression test b c → Derives (Part.Block edition) body c d →
      Derives (Part.Statement edition) (Loop test body) a d
  -- `call` name `(` [ expr { `,` expr } ] `)` `;`
  call_row : {edition : Edition} {a b c d e f g : Point} {procedure : Identifier} {arguments : List Expression} →
      Takes terminals.Call a b → TakesName procedure b c → Takes terminals.OpenParen c d →
      Derives Part.Arguments arguments d e → Takes terminals.CloseParen e f → Takes terminals.Semicolon f g →
      Derives (Part.Statement edition) (Invocation procedure arguments) a g
  -- `fail` `;`
  fail_row : {edition : Edition} {a b c : Point} →
      Takes terminals.Fail a b → Takes terminals.Semicolon b c → Derives (Part.Statement edition) Failure a c
  -- a recovery block
  recover_row : {edition : Edition} {a b : Point} {block : RecoveryBlock} →
      Derives (Part.Recovery edition) block a b → Derives (Part.Statement edition) (Recovering block) a b
  -- `converse` name recovery
  converse_row : {edition : Edition} {a b c d : Point} {conversation : Identifier} {block : RecoveryBlock} →
      Takes terminals.Converse a b → TakesName conversation b c → Derives (Part.Recovery edition) block c d →
      Derives (Part.Statement edition) (Recovering (joined conversation block)) a d
  -- `ensure` expr `within` number `by` block { `else` `by` block } `else` `error` `;`
  recovery_row : {edition : Edition} {a b c d e f : Point} {number : ℕ} {place : Place} {test : Expression} {bound : Number}
      {alternates : Alternates} →
      TakesEnsure number place a b → Derives Part.Expression test b c → Takes terminals.Within c d →
      Derives Part.Number bound d e → Derives (Part.Alternates edition) alternates e f →
      Derives (Part.Recovery edition) (Recovers number None place test bound alternates) a f
  alternates_row : {edition : Edition} {a b c : Point} {first : Body} {others : Alternates} →
      Derives (Part.Alternate edition) first a b → Derives (Part.OtherAlternates edition) others b c →
      Derives (Part.Alternates edition) (Alternate first others) a c
  -- `by` block `else`
  alternate_row : {edition : Edition} {a b c d : Point} {body : Body} →
      Takes terminals.By a b → Derives (Part.Block edition) body b c → Takes terminals.Else c d →
      Derives (Part.Alternate edition) body a d
  other_alternates_row : {edition : Edition} {a b c : Point} {first : Body} {others : Alternates} →
      Derives (Part.Alternate edition) first a b → Derives (Part.OtherAlternates edition) others b c →
      Derives (Part.OtherAlternates edition) (Alternate first others) a c
  -- `error` `;`
  error_row : {edition : Edition} {a b c : Point} →
      Takes terminals.Error a b → Takes terminals.Semicolon b c →
      Derives (Part.OtherAlternates edition) NoAlternate a c
  items_row : {a b c : Point} {first : PrintItem} {others : List PrintItem} →
      Derives Part.Item first a b → Derives Part.MoreItems others b c → Derives Part.Items (first ∷ others) a c
  no_item_row : {a : Point} → Derives Part.MoreItems [] a a
  more_items_row : {a b c d : Point} {first : PrintItem} {others : List PrintItem} →
      Takes terminals.Comma a b → Derives Part.Item first b c → Derives Part.MoreItems others c d →
      Derives Part.MoreItems (first ∷ others) a d
  -- text | expr
  text_row : {a b : Point} {item : PrintItem} → TakesText item a b → Derives Part.Item item a b
  amount_row : {a b : Point} {place : Place} {value : Expression} →
      StandsAt place a → Derives Part.Expression value a b →
      Derives Part.Item (record { place = place; what = Amount value }) a b
  no_argument_row : {a : Point} → Derives Part.Arguments [] a a
  arguments_row : {a b : Point} {values : List Expression} → Derives Part.Expressions values a b → Derives Part.Arguments values a b
  expressions_row : {a b c : Point} {first : Expression} {others : List Expression} →
      Derives Part.Expression first a b → Derives Part.MoreExpressions others b c →
      Derives Part.Expressions (first ∷ others) a c
  no_more_expression_row : {a : Point} → Derives Part.MoreExpressions [] a a
  more_expressions_row : {a b c d : Point} {first : Expression} {others : List Expression} →
      Takes terminals.Comma a b → Derives Part.Expression first b c → Derives Part.MoreExpressions others c d →
      Derives Part.MoreExpressions (first ∷ others) a d
  -- expr: conj { `or` conj }
  expression_row : {a b : Point} {value : Expression} →
      Derives (Part.Chain levels.Disjunction) value a b → Derives Part.Expression value a b
  -- or, with words of the second edition, (`every` | `some` | `sum`) name `from` sum `to` sum `:` conj { `or` conj }
  quantified_row : {a b c d e f g h i : Point} {kind : Quantifier} {place : Place} {name : Identifier} {low high body : Expression} →
      TakesQuantifier kind place a b → TakesName name b c → Takes terminals.From c d →
      Derives (Part.Chain levels.Sum) low d e → Takes terminals.To e f →
      Derives (Part.Chain levels.Sum) high f g → Takes terminals.Colon g h →
      Derives (Part.Chain levels.Disjunction) body h i →
      Derives Part.Expression (Quantification kind place name low high body) a i
  -- of each level: operand { operator operand }
  chain_row : {level : Level} {a b c : Point} {first : Expression} {links : Links} →
      Derives (Part.Operand level) first a b → Derives (Part.Links level) links b c →
      Derives (Part.Chain level) (chain first links) a c
  no_link_row : {level : Level} {a : Point} → Derives (Part.Links level) NoLink a a
  links_row : {level : Level} {a b c d : Point} {op : Op} {right : Expression} {links : Links} →
      TakesOperator level op a b → Derives (Part.Operand level) right b c → Derives (Part.Links level) links c d →
      Derives (Part.Links level) (Linked op right links) a d
  -- what `or` joins
  disjunct_row : {a b : Point} {value : Expression} →
      Derives (Part.Chain levels.Conjunction) value a b → Derives (Part.Operand levels.Disjunction) value a b
  -- what `and` joins
  conjunct_row : {a b : Point} {value : Expression} →
      Derives Part.Negation value a b → Derives (Part.Operand levels.Conjunction) value a b
  -- what `+` and `-` join
  term_row : {a b : Point} {value : Expression} →
      Derives (Part.Chain levels.Product) value a b → Derives (Part.Operand levels.Sum) value a b
  -- what `*`, `/` and `%` join
  factor_row : {a b : Point} {value : Expression} →
      Derives Part.Factor value a b → Derives (Part.Operand levels.Product) value a b
  -- [ `not` ] comp
  not_row : {a b c : Point} {operand : Expression} →
      Takes terminals.Not a b → Derives Part.Comparison operand b c → Derives Part.Negation (Negation operand) a c
  no_not_row : {a b : Point} {value : Expression} → Derives Part.Comparison value a b → Derives Part.Negation value a b
  -- sum [ (`=` | `<>` | `<` | `<=` | `>` | `>=`) sum ]
  comparison_row : {a b c : Point} {left : Expression} {links : Links} →
      Derives (Part.Chain levels.Sum) left a b → Derives Part.Compared links b c →
      Derives Part.Comparison (chain left links) a c
  not_compared_row : {a : Point} → Derives Part.Compared NoLink a a
  compared_row : {a b c : Point} {op : Op} {right : Expression} →
      TakesComparison op a b → Derives (Part.Chain levels.Sum) right b c →
      Derives Part.Compared (Linked op right NoLink) a c
  -- [ `-` ] atom
  minus_row : {a b c : Point} {operand : Expression} →
      Takes terminals.Minus a b → Derives Part.Atom operand b c → Derives Part.Factor (Minus operand) a c
  no_minus_row : {a b : Point} {value : Expression} → Derives Part.Atom value a b → Derives Part.Factor value a b
  -- number | place | `prior` place | `(` expr `)`
  literal_row : {a b : Point} {number : Number} → Derives Part.Number number a b → Derives Part.Atom (Literal number) a b
  variable_row : {a b : Point} {reference : Reference} →
      Derives Part.Place reference a b → Derives Part.Atom (Variable reference) a b
  prior_row : {a b c : Point} {place : Place} {reference : Reference} →
      TakesAt terminals.Prior place a b → Derives Part.Place reference b c →
      Derives Part.Atom (Former place reference) a c
  brackets_row : {a b c d : Point} {value : Expression} →
      Takes terminals.OpenParen a b → Derives Part.Expression value b c → Takes terminals.CloseParen c d →
      Derives Part.Atom value a d
  -- name [ `[` expr `]` ]
  place_row : {a b c : Point} {name : Identifier} {subscript : Subscript} →
      TakesName name a b → Derives Part.Subscript subscript b c → Derives Part.Place (Refer name subscript) a c
  no_subscript_row : {a : Point} → Derives Part.Subscript Scalar a a
  subscript_row : {a b c d : Point} {index : Expression} →
      Takes terminals.OpenBracket a b → Derives Part.Expression index b c → Takes terminals.CloseBracket c d →
      Derives Part.Subscript (Element index) a d
  -- a number of any value
  number_row : {a b : Point} {number : Number} → TakesNumber number a b → Derives Part.Number number a b

-- a whole list of tokens derives a tree
abbrev pub start_of : List Lexeme → Point
start_of tokens = record { left = tokens; names = 0; blocks = 0 }

-- A whole list of tokens derives a tree, with no token left.
pub record DerivesTree (tree : Tree) (tokens : List Lexeme) : Type 0 where
  pub end : Point
  pub derived : Derives Part.Program tree (start_of tokens) end
  pub whole : end.left ≡ []
