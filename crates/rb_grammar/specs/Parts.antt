-- The parts of a text that the rows of the grammar are about. Those that hold statements are of an edition.
use Rattle.rb_base.specs.declared.edition.Edition.{Edition}
use Rattle.rb_grammar.specs.declared.level.Level.{Level}

pub data Part : Type 0 where
  Program : Part
  -- a program from its word `program` on
  Unmarked : Edition → Part
  -- the channels and conversations of a program
  Connections : Part
  Channel : Part
  Conversation : Part
  Names : Part
  -- names behind the first of a list
  MoreNames : Part
  Process : Edition → Part
  Processes : Edition → Part
  MoreProcesses : Edition → Part
  Procedures : Edition → Part
  Procedure : Edition → Part
  Parameters : Part
  Declarations : Part
  Declaration : Part
  -- the size of an array, if it has one
  Size : Part
  Block : Edition → Part
  Statements : Edition → Part
  Statement : Edition → Part
  -- the `else` of an `if`, if it has one
  OptionalElse : Edition → Part
  -- how a receipt ends: it waits, or it has a block
  ReceiptEnd : Edition → Part
  -- a recovery block, or a member's part of a conversation
  Recovery : Edition → Part
  Alternates : Edition → Part
  -- an alternate and the `else` behind it
  Alternate : Edition → Part
  -- what follows an alternate and its `else`
  OtherAlternates : Edition → Part
  Items : Part
  MoreItems : Part
  Item : Part
  Arguments : Part
  Expressions : Part
  MoreExpressions : Part
  Expression : Part
  -- operands of one level, with their operators
  Chain : Level → Part
  -- the operators behind the first operand, with theirs
  Links : Level → Part
  Operand : Level → Part
  Negation : Part
  Comparison : Part
  -- the operator of a comparison with its right operand, if there is one
  Compared : Part
  Factor : Part
  Atom : Part
  Place : Part
  -- the index of an element, if there is one
  Subscript : Part
  Number : Part
