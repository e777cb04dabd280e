-- What the map to the plain tree gives, one layer at a time: on values that hold a vector, a box or an optional box.
use Rattle.std.proofs.Common.{◌≡◌, map, option_map, Option, Some, None, refl, sym, ap, ◌∙◌, Box, Vec}
use Rattle.std.specs.declared.alloc.Global.{Global}
use Rattle.std.below.std_alloc.specs.formers.vec.Vec as vector
use denote.Hole.Carrier.{out}
use mathlib.Core.Former.{arity, this}
use Rattle.rb_base.specs.declared.place.Place.{Place}
use Rattle.rb_syntax.specs.declared.expression.Name.{Name}
use Rattle.rb_syntax.specs.declared.expression.Number.{Number as Numeral}
use Rattle.rb_syntax.specs.declared.expression.Target.{Target}
use Rattle.rb_syntax.specs.declared.expression.Link.{Link}
use Rattle.rb_syntax.specs.declared.expression.Quantified.{Quantified}
use Rattle.rb_syntax.specs.declared.expression.Quantifier.{Quantifier}
use Rattle.rb_syntax.specs.declared.expression.Expr.{Expr, Number, Value', Prior', Neg', Not', Chain', Quantified', Held-Target-index, None', Some', view-Target-index, Row_of-Link, end_of-Link, more_of-Link, items-the_row-Link, items_shown-the_row-Link-0, Expr-F, out-Expr}
use Rattle.rb_syntax.specs.declared.expression.Expr.TheOpen as open_expr
use Rattle.rb_syntax.specs.declared.expression.Expr.TheVariants.{Value, Prior, Neg, Not, Chain, Quantified as quantified, outs-Number, outs-Value, outs-Prior, outs-Neg, outs-Not, outs-Chain, outs-Quantified}
use Rattle.rb_syntax.specs.declared.expression.Expr.TheViews.{the_lemmas as expression_depths}
use Rattle.rb_syntax.specs.declared.statement.Var.{Var}
use Rattle.rb_syntax.specs.declared.statement.Item.{Item}
use Rattle.rb_syntax.specs.declared.statement.Block.{Block}
use Rattle.rb_syntax.specs.declared.statement.Recovery.{Recovery, Recovery', Row_of-Block, end_of-Block, more_of-Block, items-the_row-Block, items_shown-the_row-Block-1, Recovery-F, out-Recovery, out-roll-Recovery}
use Rattle.rb_syntax.specs.declared.statement.Statement.{Statement, Assign, Print, Send, Receive', If', While', Call, Fail, Recover, Row_of-Statement, end_of-Statement, more_of-Statement, items-the_row-Statement, items_shown-the_row-Statement-0, Held-Statement-Receive-2, None' as no_block', Some' as some_block', view-Statement-Receive-2, Statement-F, out-Statement}
use Rattle.rb_syntax.specs.declared.statement.Statement.TheBlock.{shown-the_row-Statement-0}
use Rattle.rb_syntax.specs.declared.statement.Statement.TheOpen as open_statement
use Rattle.rb_syntax.specs.declared.statement.Statement.TheVariants.{Receive, If, While, outs-Assign, outs-Print, outs-Send, outs-Receive, outs-If, outs-While, outs-Call, outs-Fail, outs-Recover}
use Rattle.rb_syntax.specs.declared.statement.Statement.TheViews.{the_lemmas as statement_depths}
use Rattle.rb_syntax.specs.Plain.{identifier, expression, subscript_behind, links, subscript, reference, links_of, declaration, print_item, command, commands, otherwise_behind, recovery_block, alternates, commands_of, body, otherwise, alternates_of}
use Rattle.rb_syntax.specs.Tree.{Expression, Literal, Variable, Former, Minus, Negation, Chained, Quantification, Refer, Scalar, Element, Linked, Command, Assignment, Printing, Sending, Receiving, Conditional, Loop, Invocation, Failure, Recovering, Then, Scope, Else, NoElse, RecoveryBlock, Recovers, Alternate}

-- the plain expression of one layer
abbrev pub expression_layer : Expr-F Expr Link Quantified Target → Expression
expression_layer (open_expr.Number number) = Literal number
expression_layer (open_expr.Value target) = Variable (reference target)
expression_layer (open_expr.Prior place target) = Former place (reference target)
expression_layer (open_expr.Neg operand) = Minus (expression operand.value)
expression_layer (open_expr.Not operand) = Negation (expression operand.value)
expression_layer (open_expr.Chain first held) = Chained (expression first.value) (links_of held.items)
expression_layer (open_expr.Quantified q) =
    Quantification q.kind q.place (identifier q.name) (expression q.low.value) (expression q.high.value) (expression q.body.value)

-- the links of a row, as a list
links_row : (count : _) (row : Row_of-Link count) → links row ≡ links_of (items-the_row-Link count row)
unfolding links
links_row _ end_of-Link = refl
links_row _ (more_of-Link op right rest) = ap (Linked op (expression right)) (links_row _ rest)

-- the index behind a target, as the option that it is seen as
subscript_view : (index : Held-Target-index) → subscript_behind index ≡ subscript (view-Target-index index)
unfolding subscript_behind
subscript_view None' = refl
subscript_view (Some' pointer index) = refl

-- an expression is what its first layer gives
pub expression_out : (e : Expr) → expression e ≡ expression_layer (out-Expr e)
unfolding expression out-Expr out
expression_out (Number number) = refl
expression_out (Value' name index) = ap (λ s. Variable (Refer (identifier name) s)) (subscript_view index)
expression_out (Prior' place name index) = ap (λ s. Former place (Refer (identifier name) s)) (subscript_view index)
expression_out (Neg' pointer operand) = refl
expression_out (Not' pointer operand) = refl
expression_out (Chain' pointer first shape row) =
    ap (Chained (expression first)) (links_row _ row ∙ ap links_of (sym (items_shown-the_row-Link-0 shape row)))
expression_out (Quantified' kind place name pointer low pointer_high high pointer_body body) = refl

-- the plain statement of one layer
abbrev pub command_layer : Statement-F Statement Block Recovery → Command
command_layer (open_statement.Assign target value) = Assignment (reference target) (expression value)
command_layer (open_statement.Print items) = Printing (map print_item items.items)
command_layer (open_statement.Send channel value) = Sending (identifier channel) (expression value)
command_layer (open_statement.Receive channel target block) = Receiving (identifier channel) (reference target) (otherwise block)
command_layer (open_statement.If test block other) = Conditional (expression test) (body block) (otherwise other)
command_layer (open_statement.While test block) = Loop (expression test) (body block)
command_layer (open_statement.Call procedure arguments) = Invocation (identifier procedure) (map expression arguments.items)
command_layer open_statement.Fail = Failure
command_layer (open_statement.Recover recovery) = Recovering (recovery_block recovery)

-- the plain recovery of one layer
abbrev pub recovery_layer : Recovery-F Statement Block Recovery → RecoveryBlock
recovery_layer r =
    Recovers r.number (option_map identifier r.conversation) r.place (expression r.test) r.bound (alternates_of r.alternates.items)

-- the statements of a row, as a list
commands_row : (count : _) (row : Row_of-Statement count) → commands row ≡ commands_of (items-the_row-Statement count row)
unfolding commands
commands_row _ end_of-Statement = refl
commands_row _ (more_of-Statement first rest) = ap (Then (command first)) (commands_row _ rest)

-- the statements of a row, as those of the vector that it is seen as
commands_shown : (shape : (vector.the_former (this {0}) Global).Shape)
    (row : Row_of-Statement (arity (vector.the_former (this {0}) Global) shape))
    → commands row ≡ commands_of (shown-the_row-Statement-0 shape row).items
commands_shown shape row = commands_row _ row ∙ ap commands_of (sym (items_shown-the_row-Statement-0 shape row))

-- the other block behind a statement, as the option that it is seen as
otherwise_view : (block : Held-Statement-Receive-2) → otherwise_behind block ≡ otherwise (view-Statement-Receive-2 block)
unfolding otherwise_behind
otherwise_view no_block' = refl
otherwise_view (some_block' variables shape row) = λ j. Else (Scope (map declaration variables.items) (commands_shown shape row j))

-- the blocks of a row, as a list
alternates_row : (count : _) (row : Row_of-Block count) → alternates row ≡ alternates_of (items-the_row-Block count row)
unfolding alternates
alternates_row _ end_of-Block = refl
alternates_row _ (more_of-Block variables shape row others) =
    λ j. Alternate (Scope (map declaration variables.items) (commands_shown shape row j)) (alternates_row _ others j)

-- a statement is what its first layer gives
pub command_out : (s : Statement) → command s ≡ command_layer (out-Statement s)
unfolding command out-Statement out
command_out (Assign target value) = refl
command_out (Print items) = refl
command_out (Send channel value) = refl
command_out (Receive' channel target block) = λ j. Receiving (identifier channel) (reference target) (otherwise_view block j)
command_out (If' test variables shape row block) =
    λ j. Conditional (expression test) (Scope (map declaration variables.items) (commands_shown shape row j)) (otherwise_view block j)
command_out (While' test variables shape row) =
    λ j. Loop (expression test) (Scope (map declaration variables.items) (commands_shown shape row j))
command_out (Call procedure arguments) = refl
command_out Fail = refl
command_out (Recover recovery) = refl

-- a recovery is what its fields give
pub recovery_out : (r : Recovery) → recovery_block r ≡ recovery_layer (out-Recovery r)
unfolding recovery_block out-Recovery out
recovery_out (Recovery' number conversation place test bound shape row) =
    ap (Recovers number (option_map identifier conversation) place (expression test) bound)
    (alternates_row _ row ∙ ap alternates_of (sym (items_shown-the_row-Block-1 shape row)))

-- One equation for each variant of an expression, over its parts as code has them.
pub expression_number : (number : Numeral) → expression (Number number) ≡ Literal number
expression_number number = expression_out (Number number) ∙ ap expression_layer (outs-Number number)

pub expression_value : (target : Target) → expression (Value target) ≡ Variable (reference target)
expression_value target = expression_out (Value target) ∙ ap expression_layer (outs-Value target)

-- the same where the target is written out with no index
pub expression_scalar : (name : Name) → expression (Value' name None') ≡ Variable (Refer (identifier name) Scalar)
expression_scalar name = expression_value record { name = name; index = None }

-- the same where the target is written out with its index
pub expression_element : (name : Name) (index : Box Expr Global)
    → expression (Value record { name = name; index = Some index }) ≡ Variable (Refer (identifier name) (Element (expression index.value)))
expression_element name index = expression_value record { name = name; index = Some index }

pub expression_prior : (place : Place) (target : Target) → expression (Prior place target) ≡ Former place (reference target)
expression_prior place target = expression_out (Prior place target) ∙ ap expression_layer (outs-Prior place target)

pub expression_prior_scalar : (place : Place) (name : Name) → expression (Prior' place name None') ≡ Former place (Refer (identifier name) Scalar)
expression_prior_scalar place name = expression_prior place record { name = name; index = None }

pub expression_prior_element : (place : Place) (name : Name) (index : Box Expr Global)
    → expression (Prior place record { name = name; index = Some index })
    ≡ Former place (Refer (identifier name) (Element (expression index.value)))
expression_prior_element place name index = expression_prior place record { name = name; index = Some index }

pub expression_neg : (operand : Box Expr Global) → expression (Neg operand) ≡ Minus (expression operand.value)
expression_neg operand = expression_out (Neg operand) ∙ ap expression_layer (outs-Neg operand)

pub expression_not : (operand : Box Expr Global) → expression (Not operand) ≡ Negation (expression operand.value)
expression_not operand = expression_out (Not operand) ∙ ap expression_layer (outs-Not operand)

pub expression_chain : (first : Box Expr Global) (held : Vec Link Global)
    → expression (Chain first held) ≡ Chained (expression first.value) (links_of held.items)
expression_chain first held = expression_out (Chain first held) ∙ ap expression_layer (outs-Chain first held)

pub expression_quantified : (kind : Quantifier) (place : Place) (name : Name) (low high over : Box Expr Global)
    → expression (quantified record { kind = kind; place = place; name = name; low = low; high = high; body = over })
    ≡ Quantification kind place (identifier name) (expression low.value) (expression high.value) (expression over.value)
expression_quantified kind place name low high over =
    let q : Quantified = record { kind = kind; place = place; name = name; low = low; high = high; body = over } in
    expression_out (quantified q) ∙ ap expression_layer (outs-Quantified q)

-- One equation for each variant of a statement, over its parts as code has them.
pub command_assign : (target : Target) (value : Expr) → command (Assign target value) ≡ Assignment (reference target) (expression value)
command_assign target value = command_out (Assign target value) ∙ ap command_layer (outs-Assign target value)

pub command_print : (items : Vec Item Global) → command (Print items) ≡ Printing (map print_item items.items)
command_print items = command_out (Print items) ∙ ap command_layer (outs-Print items)

pub command_send : (channel : Name) (value : Expr) → command (Send channel value) ≡ Sending (identifier channel) (expression value)
command_send channel value = command_out (Send channel value) ∙ ap command_layer (outs-Send channel value)

pub command_receive : (channel : Name) (target : Target) (block : Option Block)
    → command (Receive channel target block) ≡ Receiving (identifier channel) (reference target) (otherwise block)
command_receive channel target block = command_out (Receive channel target block) ∙ ap command_layer (outs-Receive channel target block)

-- the same where there is no block
pub command_receive_none : (channel : Name) (target : Target)
    → command (Receive channel target None) ≡ Receiving (identifier channel) (reference target) NoElse
command_receive_none channel target = command_receive channel target None

-- the same where the block is there
pub command_receive_some : (channel : Name) (target : Target) (vars : Vec Var Global) (rest : Vec Statement Global)
    → command (Receive channel target (Some record { vars = vars; body = rest }))
    ≡ Receiving (identifier channel) (reference target) (Else (Scope (map declaration vars.items) (commands_of rest.items)))
command_receive_some channel target vars rest = command_receive channel target (Some record { vars = vars; body = rest })

pub command_if : (test : Expr) (vars : Vec Var Global) (rest : Vec Statement Global) (other : Option Block)
    → command (If test record { vars = vars; body = rest } other)
    ≡ Conditional (expression test) (Scope (map declaration vars.items) (commands_of rest.items)) (otherwise other)
command_if test vars rest other =
    let block : Block = record { vars = vars; body = rest } in
    command_out (If test block other) ∙ ap command_layer (outs-If test block other)

pub command_if_none : (test : Expr) (vars : Vec Var Global) (rest : Vec Statement Global)
    → command (If test record { vars = vars; body = rest } None)
    ≡ Conditional (expression test) (Scope (map declaration vars.items) (commands_of rest.items)) NoElse
command_if_none test vars rest = command_if test vars rest None

pub command_if_some : (test : Expr) (vars : Vec Var Global) (rest : Vec Statement Global) (vars_else : Vec Var Global)
    (rest_else : Vec Statement Global)
    → command (If test record { vars = vars; body = rest } (Some record { vars = vars_else; body = rest_else }))
    ≡ Conditional (expression test) (Scope (map declaration vars.items) (commands_of rest.items))
    (Else (Scope (map declaration vars_else.items) (commands_of rest_else.items)))
command_if_some test vars rest vars_else rest_else = command_if test vars rest (Some record { vars = vars_else; body = rest_else })

pub command_while : (test : Expr) (vars : Vec Var Global) (rest : Vec Statement Global)
    → command (While test record { vars = vars; body = rest })
    ≡ Loop (expression test) (Scope (map declaration vars.items) (commands_of rest.items))
command_while test vars rest =
    let block : Block = record { vars = vars; body = rest } in
    command_out (While test block) ∙ ap command_layer (outs-While test block)

pub command_call : (procedure : Name) (arguments : Vec Expr Global)
    → command (Call procedure arguments) ≡ Invocation (identifier procedure) (map expression arguments.items)
command_call procedure arguments = command_out (Call procedure arguments) ∙ ap command_layer (outs-Call procedure arguments)

pub command_fail : command Fail ≡ Failure
command_fail = command_out Fail ∙ ap command_layer outs-Fail

pub command_recover : (recovery : Recovery) → command (Recover recovery) ≡ Recovering (recovery_block recovery)
command_recover recovery = command_out (Recover recovery) ∙ ap command_layer (outs-Recover recovery)

-- for code that builds a tree, or takes one apart in arms that name each variant
pub ruleset trees = (
  expression_number,
  expression_value,
  expression_scalar,
  expression_element,
  expression_prior,
  expression_prior_scalar,
  expression_prior_element,
  expression_neg,
  expression_not,
  expression_chain,
  expression_quantified,
  command_assign,
  command_print,
  command_send,
  command_receive,
  command_receive_none,
  command_receive_some,
  command_if,
  command_if_none,
  command_if_some,
  command_while,
  command_call,
  command_fail,
  command_recover,
  recovery_out,
  out-roll-Recovery,
)

-- `trees`, and the first layer of whatever is in sight: for a `match` that has an arm for all other variants
pub ruleset layers = (trees, expression_out, command_out)

-- `trees`, and that a part is less deep than the whole: for a walk that calls itself under a `requires`
pub ruleset walks = (trees, expression_depths, statement_depths)
