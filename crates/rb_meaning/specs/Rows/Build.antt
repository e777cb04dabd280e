-- The words in which the trees and the turns of the worked rows are written. Of all places only the line of the word
-- `ensure` shows in a run, and no number of a name or of a recovery block does: all other places are 1:1, and these
-- numbers are 0.
use Prim.Native.String.{String}
use Rattle.std.specs.Prelude.{ℕ, zero, suc, pos, ◌+◌, List, [], ◌∷◌, ◌++◌, replicate, codes, Some, None}
use Rattle.rb_base.specs.declared.place.Place.{Place}
use Rattle.rb_base.specs.declared.edition.Edition.{Edition}
use Rattle.rb_base.specs.declared.edition.Edition.TheVariants.{First, Second}
use Rattle.rb_syntax.specs.declared.expression.Number.{Number}
use Rattle.rb_syntax.specs.declared.expression.Op.{Op}
use Rattle.rb_syntax.specs.declared.expression.Quantifier.{Quantifier}
use Rattle.rb_syntax.specs.Tree.{Identifier, Expression, Literal, Variable, Former, Chained, Quantification, Reference, Refer, Scalar, Element, NoLink, Linked, Declaration, Words, Amount, PrintItem, Command, Assignment, Printing, Sending, Receiving, Conditional, Invocation, Recovering, Commands, NoCommand, Then, Body, Scope, NoElse, Else, Recovers, Alternates, NoAlternate, Alternate, ChannelDeclaration, ConversationDeclaration, ProcedureDeclaration, ProcessDeclaration, Tree}
use Rattle.rb_base.specs.declared.kept.Kept.{Kept}
use Rattle.rb_world.specs.Text.{record_text}
use Rattle.rb_meaning.specs.Meaning.{run_of, naming_of, survivors}

abbrev pub on_line : ℕ → Place
on_line line = record { line = line; column = 1 }

abbrev pub called : String → Identifier
called x = record { text = codes x; place = on_line 1; id = 0 }

abbrev pub natural_number : ℕ → Number
natural_number n = record { value = pos n; place = on_line 1 }

-- variables and elements of arrays: as places, as expressions, and after `prior`
abbrev pub variable : String → Reference
variable x = Refer (called x) Scalar

abbrev pub element : String → Expression → Reference
element x i = Refer (called x) (Element i)

abbrev pub of : String → Expression
of x = Variable (variable x)

abbrev pub at : String → Expression → Expression
at x i = Variable (element x i)

abbrev pub prior : String → Expression
prior x = Former (on_line 1) (variable x)

abbrev pub prior_at : String → Expression → Expression
prior_at x i = Former (on_line 1) (element x i)

-- other expressions
abbrev pub whole : ℕ → Expression
whole n = Literal (natural_number n)

abbrev pub two : Op → Expression → Expression → Expression
two op a b = Chained a (Linked op b NoLink)

abbrev pub over_numbers : Quantifier → String → Expression → Expression → Expression → Expression
over_numbers kind x low high body = Quantification kind (on_line 1) (called x) low high body

-- what a `print` prints
abbrev pub written : String → PrintItem
written text = record { place = on_line 1; what = Words (codes text) }

-- the longest text that a `print` may hold
abbrev pub full_text : PrintItem
full_text = record { place = on_line 1; what = Words (replicate 256 120) }

abbrev pub shown : Expression → PrintItem
shown e = record { place = on_line 1; what = Amount e }

-- blocks
abbrev pub in_order : List Command → Commands
in_order [] = NoCommand
in_order (c ∷ cs) = Then c (in_order cs)

abbrev pub block : List Command → Body
block cs = Scope [] (in_order cs)

abbrev pub block_with : List Declaration → List Command → Body
block_with variables cs = Scope variables (in_order cs)

abbrev pub scalar : String → Declaration
scalar x = record { name = called x; size = None }

abbrev pub array : String → ℕ → Declaration
array x n = record { name = called x; size = Some (natural_number n) }

-- statements
abbrev pub assign : String → Expression → Command
assign x e = Assignment (variable x) e

abbrev pub assign_at : String → Expression → Expression → Command
assign_at x i e = Assignment (element x i) e

abbrev pub print : List PrintItem → Command
print items = Printing items

abbrev pub send : String → Expression → Command
send c e = Sending (called c) e

abbrev pub receive : String → Reference → Command
receive c to = Receiving (called c) to NoElse

abbrev pub receive_else : String → Reference → Body → Command
receive_else c to body = Receiving (called c) to (Else body)

abbrev pub when : Expression → Body → Command
when e body = Conditional e body NoElse

abbrev pub when_else : Expression → Body → Body → Command
when_else e body other = Conditional e body (Else other)

abbrev pub invoke : String → List Expression → Command
invoke f arguments = Invocation (called f) arguments

abbrev pub alternates : List Body → Alternates
alternates [] = NoAlternate
alternates (b ∷ bs) = Alternate b (alternates bs)

abbrev pub ensure : ℕ → Expression → ℕ → List Body → Command
ensure line test bound bodies =
    Recovering (Recovers 0 None (on_line line) test (natural_number bound) (alternates bodies))

abbrev pub converse : String → ℕ → Expression → ℕ → List Body → Command
converse c line test bound bodies =
    Recovering (Recovers 0 (Some (called c)) (on_line line) test (natural_number bound) (alternates bodies))

-- declarations, and the whole program
abbrev pub channel_called : String → String → String → ℕ → ChannelDeclaration
channel_called c sender receiver n =
    record { name = called c; sender = called sender; receiver = called receiver; size = natural_number n }

abbrev pub conversation_called : String → List Identifier → ConversationDeclaration
conversation_called c members = record { name = called c; members = members }

abbrev pub procedure_called : String → List Identifier → Body → ProcedureDeclaration
procedure_called f parameters body = record { name = called f; parameters = parameters; body = body }

abbrev pub process_called : String → List Declaration → List ProcedureDeclaration → List Command → ProcessDeclaration
process_called p variables procedures cs =
    record { name = called p; variables = variables; procedures = procedures; commands = in_order cs }

abbrev pub program_in : Edition → String → List ChannelDeclaration → List ConversationDeclaration → List ProcessDeclaration → Tree
program_in edition x channels conversations processes = record {
  name = called x;
  channels = channels;
  conversations = conversations;
  processes = processes;
  names = 0;
  blocks = 0;
  edition = edition;
}

abbrev pub program_called : String → List ChannelDeclaration → List ConversationDeclaration → List ProcessDeclaration → Tree
program_called x channels conversations processes = program_in First x channels conversations processes

abbrev pub program_of_edition_2 : String → List ChannelDeclaration → List ConversationDeclaration → List ProcessDeclaration → Tree
program_of_edition_2 x channels conversations processes = program_in Second x channels conversations processes

-- turns: so many of one process, and so many rounds of the first n processes
abbrev pub first : ℕ
first = 0

abbrev pub second : ℕ
second = 1

abbrev pub third : ℕ
third = 2

abbrev pub times : ℕ → ℕ → List ℕ
times n p = replicate n p

abbrev pub numbers_from : ℕ → ℕ → List ℕ
numbers_from p zero = []
numbers_from p (suc n) = p ∷ numbers_from (p + 1) n

abbrev pub rounds : ℕ → ℕ → List ℕ
rounds zero n = []
rounds (suc k) n = numbers_from 0 n ++ rounds k n

-- a text so many times
abbrev pub repeated : ℕ → List ℕ → List ℕ
repeated zero text = []
repeated (suc n) text = text ++ repeated n text

-- a turn of a record, also one that starts an alternate; what survives of a run, and its text
abbrev pub kept : ℕ → ℕ → Kept
kept t p = record { turn = t; process = p; alternate = 0 }

abbrev pub started : ℕ → ℕ → ℕ → Kept
started t p a = record { turn = t; process = p; alternate = a }

abbrev pub survivors_after : Tree → List ℕ → List Kept
survivors_after tree turns = survivors ((run_of tree turns).0)

abbrev pub survived : Tree → List ℕ → List ℕ
survived tree turns = record_text (naming_of tree) (survivors_after tree turns)
