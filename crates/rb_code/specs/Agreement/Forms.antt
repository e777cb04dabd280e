-- The code of each form of the language.
use Rattle.std.specs.Prelude.{◌≡◌, ℕ, zero, suc, pos, List, [], ◌∷◌, length, slice_get, Option, Some, None}
use Rattle.std.specs.Option.{option_map, unwrap_or}
use Rattle.rb_base.specs.declared.place.Place.{Place}
use Rattle.rb_syntax.specs.declared.expression.Op.{Op}
use Rattle.rb_syntax.specs.declared.expression.Op.TheVariants as op
use Rattle.rb_syntax.specs.declared.expression.Quantifier.{Quantifier}
use Rattle.rb_syntax.specs.declared.expression.Quantifier.TheVariants.{Every, Any, Total}
use Rattle.rb_syntax.specs.Tree.{Identifier, Expression, Literal, Variable, Former, Minus, Negation, Chained, Quantification, Reference, Refer, Subscript, Scalar, Element, Links, NoLink, Linked, Printed, Words, Amount, PrintItem, Command, Assignment, Printing, Sending, Receiving, Conditional, Loop, Invocation, Failure, Recovering, Commands, NoCommand, Then, Body, Scope, Otherwise, NoElse, Else, RecoveryBlock, Recovers, Alternates, NoAlternate, Alternate, ProcedureDeclaration, Tree}
use Rattle.rb_meaning.specs.Environment.{frame_of, frame_words, natural}
use Rattle.rb_meaning.specs.Step.{commands_of, variables_of}
use Rattle.rb_meaning.specs.Groups.{conversation_of}
use Rattle.rb_scope.specs.declared.slot.Slot.{Slot}
use Rattle.rb_code.specs.Instructions.Plain.{Block, Code, Procedure}
use Rattle.rb_code.specs.WordMachine.Workspace.{part_of}
use Rattle.rb_code.specs.Agreement.Places.{command_place}
use Rattle.rb_code.specs.Agreement.Slots.{channel_of, counter_of, elements_of, procedure_of, quantified_of, spot_of}
use Rattle.rb_code.specs.Agreement.Template.{Template, One, ◌⨾◌, Empty, Only, At, Label, Quoted, WithBlock, Listed}
use Rattle.rb_code.specs.declared.instr.Spot.{Spot}
use Rattle.rb_code.specs.declared.instr.Instr.TheVariants.{Turn, Push, Load, Prior, Bound, LoadAt, PriorAt, Store, StoreAt, Add, Sub, Mul, Div, Rem, Eq, Ne, Lt, Le, Gt, Ge, Neg, Not, Bool, Jump, JumpZero, Frame, Drop, Item, Print, Room, Put, There, Take, Call, Return, Fail, Enter, Start, Test, Range, Again, Counter, Absent}

-- `a and b`, behind the code of a
abbrev pub AndCode : Template → Template
AndCode right =
    Label (λ no. Label (λ end.
    One (JumpZero no) ⨾ right ⨾ One Bool ⨾ One (Jump end) ⨾ At no ⨾ One (Push (pos 0)) ⨾ At end))

-- `a or b`, behind the code of a
abbrev pub OrCode : Template → Template
OrCode right =
    Label (λ other. Label (λ end.
    One (JumpZero other) ⨾ One (Push (pos 1)) ⨾ One (Jump end) ⨾ At other ⨾ right ⨾ One Bool ⨾ At end))

-- an operator of two operands, behind the code of its left one
abbrev pub OperatorCode : Op → Template → Template
OperatorCode op.Or right = OrCode right
OperatorCode op.And right = AndCode right
OperatorCode op.Eq right = right ⨾ One Eq
OperatorCode op.Ne right = right ⨾ One Ne
OperatorCode op.Lt right = right ⨾ One Lt
OperatorCode op.Le right = right ⨾ One Le
OperatorCode op.Gt right = right ⨾ One Gt
OperatorCode op.Ge right = right ⨾ One Ge
OperatorCode op.Add right = right ⨾ One Add
OperatorCode op.Sub right = right ⨾ One Sub
OperatorCode op.Mul right = right ⨾ One Mul
OperatorCode op.Div right = right ⨾ One Div
OperatorCode op.Rem right = right ⨾ One Rem

-- `every`, over counter k: 0 at the first number for which the body is 0, and else 1
abbrev pub EveryCode : ℕ → Template → Template → Template → Template
EveryCode k low high body =
    Label (λ loop. Label (λ no. Label (λ yes. Label (λ end.
    low ⨾ high ⨾ One (Range k yes) ⨾ At loop ⨾ body ⨾ One (JumpZero no) ⨾ One (Again k loop)
    ⨾ At yes ⨾ One (Push (pos 1)) ⨾ One (Jump end) ⨾ At no ⨾ One (Push (pos 0)) ⨾ At end))))

-- `some`: 1 at the first number for which the body is not 0, and else 0
abbrev pub SomeCode : ℕ → Template → Template → Template → Template
SomeCode k low high body =
    Label (λ loop. Label (λ next. Label (λ no. Label (λ end.
    low ⨾ high ⨾ One (Range k no) ⨾ At loop ⨾ body ⨾ One (JumpZero next) ⨾ One (Push (pos 1)) ⨾ One (Jump end)
    ⨾ At next ⨾ One (Again k loop) ⨾ At no ⨾ One (Push (pos 0)) ⨾ At end))))

-- `sum`: the values of the body, added up from 0
abbrev pub SumCode : ℕ → Template → Template → Template → Template
SumCode k low high body =
    Label (λ loop. Label (λ end.
    One (Push (pos 0)) ⨾ low ⨾ high ⨾ One (Range k end) ⨾ At loop ⨾ body ⨾ One Add ⨾ One (Again k loop) ⨾ At end))

abbrev pub QuantifiedCode : Quantifier → ℕ → Template → Template → Template → Template
QuantifiedCode Every k low high body = EveryCode k low high body
QuantifiedCode Any k low high body = SomeCode k low high body
QuantifiedCode Total k low high body = SumCode k low high body

-- the value of a scalar, or of the counter that the name stands for
abbrev pub ScalarCode : Option ℕ → Spot → Template
ScalarCode None spot = One (Load spot)
ScalarCode (Some k) spot = One (Counter k)

unfoldable mutual
  -- an expression
  pub ExpressionCode : List Slot → Expression → Template
  ExpressionCode slots (Literal number) = One (Push number.value)
  ExpressionCode slots (Variable (Refer name subscript)) =
      SubscriptCode slots (ScalarCode (counter_of slots name.id) (spot_of slots name.id)) (One (LoadAt (spot_of slots name.id)))
      (elements_of slots name.id) subscript
  ExpressionCode slots (Former place (Refer name subscript)) =
      SubscriptCode slots (One (Prior (spot_of slots name.id))) (One (PriorAt (spot_of slots name.id)))
      (elements_of slots name.id) subscript
  ExpressionCode slots (Minus operand) = ExpressionCode slots operand ⨾ One Neg
  ExpressionCode slots (Negation operand) = ExpressionCode slots operand ⨾ One Not
  ExpressionCode slots (Chained first links) = ExpressionCode slots first ⨾ LinksCode slots links
  ExpressionCode slots (Quantification kind place name low high body) =
      QuantifiedCode kind (quantified_of slots name.id) (ExpressionCode slots low) (ExpressionCode slots high) (ExpressionCode slots body)

  -- a scalar, by one template, or an element of an array of so many, by another behind its index
  pub SubscriptCode : List Slot → Template → Template → ℕ → Subscript → Template
  SubscriptCode slots scalar element n Scalar = scalar
  SubscriptCode slots scalar element n (Element index) = ExpressionCode slots index ⨾ One (Bound n) ⨾ element

  -- operators of one level, from left to right
  pub LinksCode : List Slot → Links → Template
  LinksCode slots NoLink = Empty
  LinksCode slots (Linked op right links) = OperatorCode op (ExpressionCode slots right) ⨾ LinksCode slots links

-- so many words of a frame, which are pushed and dropped; for none there is no instruction
abbrev pub FrameCode : ℕ → Template
FrameCode zero = Empty
FrameCode (suc n) = One (Frame (suc n))

abbrev pub DropCode : ℕ → Template
DropCode zero = Empty
DropCode (suc n) = One (Drop (suc n))

-- a value that goes to a place: its index comes before the value
abbrev pub StoreCode : List Slot → Reference → Template → Template
StoreCode slots (Refer name Scalar) value = value ⨾ One (Store (spot_of slots name.id))
StoreCode slots (Refer name (Element index)) value =
    ExpressionCode slots index ⨾ One (Bound (elements_of slots name.id)) ⨾ value ⨾ One (StoreAt (spot_of slots name.id))

-- an item of a line
abbrev pub PrintedCode : List Slot → Printed → Template
PrintedCode slots (Words text) = Quoted text
PrintedCode slots (Amount value) = ExpressionCode slots value ⨾ One Item

abbrev pub ItemsCode : List Slot → List PrintItem → Template
ItemsCode slots [] = Empty
ItemsCode slots (item ∷ items) = PrintedCode slots item.what ⨾ ItemsCode slots items

abbrev pub ArgumentsCode : List Slot → List Expression → Template
ArgumentsCode slots [] = Empty
ArgumentsCode slots (argument ∷ arguments) = ExpressionCode slots argument ⨾ ArgumentsCode slots arguments

-- the first address of a procedure of process number p
abbrev pub procedure_start : Code → ℕ → ℕ → ℕ
procedure_start c p number = unwrap_or (option_map (λ one. one.start) (slice_get (part_of c p).procedures number)) 0

-- how many words the variables of its block have
abbrev pub procedure_words : List ProcedureDeclaration → ℕ → ℕ
procedure_words procedures number =
    unwrap_or (option_map (λ one. frame_words (frame_of (variables_of one.body))) (slice_get procedures number)) 0

-- a call of it with so many arguments
abbrev pub Called : ℕ → ℕ → ℕ → ℕ → Template
Called p number arguments words c a b = One (Call (procedure_start c p number) arguments words) c a b

-- the process whose code is made: its number, and its procedures
pub record Owner : Type 0 where
  pub number : ℕ
  pub procedures : List ProcedureDeclaration

-- Forms of statements, each by the template of a turn's beginning.
abbrev pub CallForm : Template → List Slot → Owner → Identifier → List Expression → Template
CallForm turn slots owner name arguments =
    turn ⨾ ArgumentsCode slots arguments
    ⨾ Called owner.number (procedure_of slots name.id) (length arguments) (procedure_words owner.procedures (procedure_of slots name.id))

abbrev pub IfForm : Template → Template → Template → Template
IfForm turn test body = Label (λ end. turn ⨾ test ⨾ One (JumpZero end) ⨾ body ⨾ At end)

abbrev pub IfElseForm : Template → Template → Template → Template → Template
IfElseForm turn test body other =
    Label (λ no. Label (λ end.
    turn ⨾ test ⨾ One (JumpZero no) ⨾ body ⨾ One (Jump end) ⨾ At no ⨾ other ⨾ At end))

abbrev pub WhileForm : Template → Template → Template → Template
WhileForm turn test body =
    Label (λ loop. Label (λ end.
    At loop ⨾ turn ⨾ test ⨾ One (JumpZero end) ⨾ body ⨾ One (Jump loop) ⨾ At end))

-- `receive`, and `receive` with an `else`
abbrev pub ReceiveForm : Template → ℕ → Template → Template
ReceiveForm turn channel taken = turn ⨾ One (There channel) ⨾ taken

abbrev pub ReceiveElseForm : Template → ℕ → Template → Template → Template
ReceiveElseForm turn channel taken other =
    Label (λ none. Label (λ end.
    turn ⨾ One (Absent channel none) ⨾ taken ⨾ One (Jump end) ⨾ At none ⨾ other ⨾ At end))

-- what the list of recovery blocks tells of one
pub record TellsOf (tree : Tree) (conversation : Option Identifier) (line bound : ℕ) (block : Block) : Type 0 where
  pub line_is : block.line ≡ line
  pub conversation_is : block.conversation ≡ conversation_of tree conversation
  pub bound_is : block.bound ≡ bound

-- a recovery block: its entry, the start of its alternates, these, and its acceptance test
abbrev pub RecoveryForm : Template → ℕ → (Block → Type 0) → (List ℕ → ℕ → Template) → Template → Template
RecoveryForm turn number Tells alternates test =
    WithBlock number (λ block.
    Only (Tells block) ⨾ turn ⨾ One (Enter number) ⨾ At block.restart ⨾ turn ⨾ One (Start number)
    ⨾ alternates block.alternates block.test ⨾ At block.test ⨾ turn ⨾ test ⨾ One (Test number))

-- Statements, by how a turn begins for a statement that stands at a place in the source.
module _ (begin : Option Place → Template) where
  unfoldable mutual
    -- a statement of a process
    pub CommandForm : Tree → List Slot → Owner → Command → Template
    CommandForm tree slots owner (Assignment to value) = begin (command_place (Assignment to value)) ⨾ StoreCode slots to (ExpressionCode slots value)
    CommandForm tree slots owner (Printing items) = begin (command_place (Printing items)) ⨾ ItemsCode slots items ⨾ One Print
    CommandForm tree slots owner (Sending channel value) =
        begin (command_place (Sending channel value)) ⨾ One (Room (channel_of slots channel.id)) ⨾ ExpressionCode slots value
        ⨾ One (Put (channel_of slots channel.id))
    CommandForm tree slots owner (Receiving channel to otherwise) =
        ReceiptForm tree slots owner (begin (command_place (Receiving channel to otherwise))) (channel_of slots channel.id)
        (StoreCode slots to (One (Take (channel_of slots channel.id)))) otherwise
    CommandForm tree slots owner (Conditional test body otherwise) =
        BranchesForm tree slots owner (begin (command_place (Conditional test body otherwise))) (ExpressionCode slots test)
        (BodyForm tree slots owner body) otherwise
    CommandForm tree slots owner (Loop test body) =
        WhileForm (begin (command_place (Loop test body))) (ExpressionCode slots test) (BodyForm tree slots owner body)
    CommandForm tree slots owner (Invocation procedure arguments) =
        CallForm (begin (command_place (Invocation procedure arguments))) slots owner procedure arguments
    CommandForm tree slots owner Failure = begin (command_place Failure) ⨾ One Fail
    CommandForm tree slots owner (Recovering block) = BlockForm tree slots owner block

    -- statements
    pub CommandsForm : Tree → List Slot → Owner → Commands → Template
    CommandsForm tree slots owner NoCommand = Empty
    CommandsForm tree slots owner (Then first rest) = CommandForm tree slots owner first ⨾ CommandsForm tree slots owner rest

    -- a block: the words of its variables are pushed, and dropped behind its statements
    pub BodyForm : Tree → List Slot → Owner → Body → Template
    BodyForm tree slots owner (Scope variables commands) =
        FrameCode (frame_words (frame_of variables)) ⨾ CommandsForm tree slots owner commands ⨾ DropCode (frame_words (frame_of variables))

    -- a receipt, by its `else`
    pub ReceiptForm : Tree → List Slot → Owner → Template → ℕ → Template → Otherwise → Template
    ReceiptForm tree slots owner turn channel taken NoElse = ReceiveForm turn channel taken
    ReceiptForm tree slots owner turn channel taken (Else other) = ReceiveElseForm turn channel taken (BodyForm tree slots owner other)

    -- an `if`, by its `else`
    pub BranchesForm : Tree → List Slot → Owner → Template → Template → Template → Otherwise → Template
    BranchesForm tree slots owner turn test body NoElse = IfForm turn test body
    BranchesForm tree slots owner turn test body (Else other) = IfElseForm turn test body (BodyForm tree slots owner other)

    -- a recovery block
    pub BlockForm : Tree → List Slot → Owner → RecoveryBlock → Template
    BlockForm tree slots owner (Recovers number conversation place test bound alternates) =
        RecoveryForm (begin (Some place)) number (TellsOf tree conversation place.line (natural bound.value))
        (AlternatesForm tree slots owner alternates) (ExpressionCode slots test)

    -- alternates, each at its address, and each but the last followed by a jump to the acceptance test
    pub AlternatesForm : Tree → List Slot → Owner → Alternates → List ℕ → ℕ → Template
    AlternatesForm tree slots owner NoAlternate addresses test = Only (addresses ≡ [])
    AlternatesForm tree slots owner (Alternate body others) addresses test =
        Listed addresses (λ more. BodyForm tree slots owner body ⨾ OthersForm tree slots owner others more test)

    pub OthersForm : Tree → List Slot → Owner → Alternates → List ℕ → ℕ → Template
    OthersForm tree slots owner NoAlternate addresses test = Only (addresses ≡ [])
    OthersForm tree slots owner (Alternate body others) addresses test =
        One (Jump test)
        ⨾ Listed addresses (λ more. BodyForm tree slots owner body ⨾ OthersForm tree slots owner others more test)

  -- procedures, each at its first address: the statements of its block, whose variables its call pushes, and the way back
  abbrev pub ProceduresForm : Tree → List Slot → Owner → List ProcedureDeclaration → List Procedure → Template
  ProceduresForm tree slots owner [] entries c a b = (entries ≡ []) × (b ≡ a)
  ProceduresForm tree slots owner (procedure ∷ others) entries c a b =
      (more : List Procedure) × (entries ≡ record { name = procedure.name.text; start = a } ∷ more)
      × (CommandsForm tree slots owner (commands_of procedure.body) ⨾ One Return ⨾ ProceduresForm tree slots owner others more) c a b

-- In code each turn begins with a `turn`, wherever its statement stands.
abbrev pub any_turn : Option Place → Template
any_turn place = One Turn

abbrev pub CommandCode : Tree → List Slot → Owner → Command → Template
CommandCode = CommandForm any_turn

abbrev pub CommandsCode : Tree → List Slot → Owner → Commands → Template
CommandsCode = CommandsForm any_turn

abbrev pub BodyCode : Tree → List Slot → Owner → Body → Template
BodyCode = BodyForm any_turn

abbrev pub ReceiptCode : Tree → List Slot → Owner → ℕ → Template → Otherwise → Template
ReceiptCode tree slots owner = ReceiptForm any_turn tree slots owner (One Turn)

abbrev pub BranchesCode : Tree → List Slot → Owner → Template → Template → Otherwise → Template
BranchesCode tree slots owner = BranchesForm any_turn tree slots owner (One Turn)

abbrev pub CallCode : List Slot → Owner → Identifier → List Expression → Template
CallCode = CallForm (One Turn)

abbrev pub BlockCode : Tree → List Slot → Owner → RecoveryBlock → Template
BlockCode = BlockForm any_turn

abbrev pub AlternatesCode : Tree → List Slot → Owner → Alternates → List ℕ → ℕ → Template
AlternatesCode = AlternatesForm any_turn

abbrev pub OthersCode : Tree → List Slot → Owner → Alternates → List ℕ → ℕ → Template
OthersCode = OthersForm any_turn

abbrev pub ProceduresCode : Tree → List Slot → Owner → List ProcedureDeclaration → List Procedure → Template
ProceduresCode = ProceduresForm any_turn
