-- How the names and texts of a tree are spelled: names as a source of its edition may have them, and texts as they may stand between
-- quotes.
use Rattle.std.specs.Prelude.{◌≡◌, ℕ, ◌≤◌, ◌&&◌, nat_eq, nat_le, Bool, true, false, not, List, length}
use Rattle.std.specs.List.{All, list_all}
use Rattle.rb_base.specs.declared.edition.Edition.{Edition}
use Rattle.rb_base.specs.Reserved.{is_reserved}
use Rattle.rb_base.specs.Bytes.{is_name}
use Rattle.rb_base.specs.declared.limits.TheConstants.{LONGEST_NAME, LONGEST_TEXT}
use Rattle.rb_syntax.specs.Tree.{Printed, Words, Amount, Command, Assignment, Printing, Sending, Receiving, Conditional, Loop, Invocation, Failure, Recovering, Commands, NoCommand, Then, Body, Scope, Otherwise, NoElse, Else, RecoveryBlock, Recovers, Alternates, NoAlternate, Alternate, ProcedureDeclaration, ProcessDeclaration, Tree}
use Rattle.rb_meaning.specs.Step.{commands_of}

-- a name, which is none of the words that the edition reserves
abbrev pub IsNaming : Edition → List ℕ → Type 0
IsNaming edition name = (is_name name ≡ true) × (length name ≤ LONGEST_NAME) × (is_reserved edition name ≡ false)

-- what may stand between the quotes of a text: bytes from the blank to `~` but the quote
abbrev pub is_quotable : ℕ → Bool
is_quotable b = nat_le 32 b && nat_le b 126 && not (nat_eq b 34)

abbrev pub IsQuotable : List ℕ → Type 0
IsQuotable text = (list_all is_quotable text ≡ true) × (length text ≤ LONGEST_TEXT)

-- a text that is printed
abbrev pub PrintedSpelled : Printed → Type 0
PrintedSpelled (Words text) = IsQuotable text
PrintedSpelled (Amount value) = Unit {0}

abbrev mutual
  -- the texts of a statement
  pub CommandSpelled : Command → Type 0
  CommandSpelled (Assignment to value) = Unit {0}
  CommandSpelled (Printing items) = All (λ item. PrintedSpelled item.what) items
  CommandSpelled (Sending channel value) = Unit {0}
  CommandSpelled (Receiving channel to otherwise) = OtherwiseSpelled otherwise
  CommandSpelled (Conditional test body otherwise) = BodySpelled body × OtherwiseSpelled otherwise
  CommandSpelled (Loop test body) = BodySpelled body
  CommandSpelled (Invocation procedure arguments) = Unit {0}
  CommandSpelled Failure = Unit {0}
  CommandSpelled (Recovering block) = RecoverySpelled block

  pub CommandsSpelled : Commands → Type 0
  CommandsSpelled NoCommand = Unit {0}
  CommandsSpelled (Then first rest) = CommandSpelled first × CommandsSpelled rest

  pub BodySpelled : Body → Type 0
  BodySpelled (Scope variables commands) = CommandsSpelled commands

  pub OtherwiseSpelled : Otherwise → Type 0
  OtherwiseSpelled NoElse = Unit {0}
  OtherwiseSpelled (Else body) = BodySpelled body

  pub RecoverySpelled : RecoveryBlock → Type 0
  RecoverySpelled (Recovers number conversation place test bound alternates) = AlternatesSpelled alternates

  pub AlternatesSpelled : Alternates → Type 0
  AlternatesSpelled NoAlternate = Unit {0}
  AlternatesSpelled (Alternate body others) = BodySpelled body × AlternatesSpelled others

-- a procedure: its name and its texts
pub record ProcedureSpelled (edition : Edition) (procedure : ProcedureDeclaration) : Type 0 where
  pub name : IsNaming edition procedure.name.text
  pub commands : CommandsSpelled (commands_of procedure.body)

-- a process: its name, those of its variables, its procedures and its texts
pub record ProcessSpelled (edition : Edition) (process : ProcessDeclaration) : Type 0 where
  pub name : IsNaming edition process.name.text
  pub variables : All (λ variable. IsNaming edition variable.name.text) process.variables
  pub procedures : All (ProcedureSpelled edition) process.procedures
  pub commands : CommandsSpelled process.commands

-- The names that lines, listings and schedules speak of, and all texts that are printed, are spelled as a source may spell them.
pub record IsSpelled (tree : Tree) : Type 0 where
  pub channels : All (λ channel. IsNaming tree.edition channel.name.text) tree.channels
  pub conversations : All (λ conversation. IsNaming tree.edition conversation.name.text) tree.conversations
  pub processes : All (ProcessSpelled tree.edition) tree.processes
