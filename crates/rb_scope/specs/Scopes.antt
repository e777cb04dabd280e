-- Scopes, and what a name means: its declaration in the innermost scope around it that has one.
use Rattle.std.specs.Prelude.{ℕ, ◌+◌, nat_le, Bool, cond, ◌&&◌, List, [], ◌∷◌, ◌++◌, length, Option, Some, None}
use Rattle.rb_base.specs.declared.limits.TheConstants.{MOST_ELEMENTS}
use Rattle.rb_syntax.specs.declared.expression.Number.{Number}
use Rattle.rb_syntax.specs.Tree.{Identifier, Declaration, ChannelDeclaration, ConversationDeclaration, ProcedureDeclaration, ProcessDeclaration, Body, Scope, Tree}
use Rattle.rb_meaning.specs.Environment.{same_name, natural, or_else}
use Rattle.rb_scope.specs.FirstFault.{is_before}
use Rattle.rb_scope.specs.declared.slot.Slot.{Slot}
use Rattle.rb_scope.specs.declared.slot.Slot.TheVariants.{Process, Channel, Conversation, Procedure, Global, Local}

-- a declaration: the name where it stands, what it stands for, and how many parameters a procedure has
pub record Declared : Type 0 where
  pub name : Identifier
  pub slot : Slot
  pub parameters : ℕ

-- a declaration of anything but a procedure
abbrev pub declared : Identifier → Slot → Declared
declared name slot = record { name = name; slot = slot; parameters = 0 }

-- a size that an array may have
abbrev pub is_array_size : ℕ → Bool
is_array_size n = nat_le 1 n && nat_le n MOST_ELEMENTS

-- how many words a variable takes: one, or the size of its array; a size that no array may have counts none
abbrev pub words_of : Option Number → ℕ
words_of None = 1
words_of (Some number) = cond (is_array_size (natural number.value)) (natural number.value) 0

-- how many words the variables of a list take
abbrev pub words_in : List Declaration → ℕ
words_in [] = 0
words_in (one ∷ others) = words_of one.size + words_in others

-- the number of elements of an array; one of a size that no array may have has none
abbrev pub elements : Option Number → Option ℕ
elements None = None
elements (Some number) = Some (words_of (Some number))

-- variables in a row, the first of which begins at this word
abbrev pub variables_from : (ℕ → Option ℕ → Slot) → ℕ → List Declaration → List Declared
variables_from slot at [] = []
variables_from slot at (one ∷ others) = declared one.name (slot at (elements one.size)) ∷ variables_from slot (at + words_of one.size) others

-- parameters in a row, the first of which is this word of the call
abbrev pub parameters_from : ℕ → List Identifier → List Declared
parameters_from at [] = []
parameters_from at (name ∷ names) = declared name (Local at None) ∷ parameters_from (at + 1) names

-- procedures in a row, the first of which has this number
abbrev pub procedures_from : ℕ → List ProcedureDeclaration → List Declared
procedures_from k [] = []
procedures_from k (one ∷ others) =
    record { name = one.name; slot = Procedure k; parameters = length one.parameters } ∷ procedures_from (k + 1) others

-- channels in a row, the first of which has this number
abbrev pub channels_from : ℕ → List ChannelDeclaration → List Declared
channels_from k [] = []
channels_from k (one ∷ others) = declared one.name (Channel k) ∷ channels_from (k + 1) others

-- the same of conversations
abbrev pub conversations_from : ℕ → List ConversationDeclaration → List Declared
conversations_from k [] = []
conversations_from k (one ∷ others) = declared one.name (Conversation k) ∷ conversations_from (k + 1) others

-- the same of processes
abbrev pub processes_from : ℕ → List ProcessDeclaration → List Declared
processes_from k [] = []
processes_from k (one ∷ others) = declared one.name (Process k) ∷ processes_from (k + 1) others

-- a declaration takes its place among others, which stand in the order of the text
abbrev pub take_place : Declared → List Declared → List Declared
take_place one [] = one ∷ []
take_place one (other ∷ others) = cond (is_before one.name.place other.name.place) (one ∷ other ∷ others) (other ∷ take_place one others)

-- declarations take their places among others in turn
abbrev pub in_text_order : List Declared → List Declared → List Declared
in_text_order [] others = others
in_text_order (one ∷ more) others = in_text_order more (take_place one others)

-- The scope of the program: its channels and conversations, which a text may mix, and then its processes.
abbrev pub program_scope : Tree → List Declared
program_scope tree =
    in_text_order (conversations_from 0 tree.conversations) (channels_from 0 tree.channels) ++ processes_from 0 tree.processes

-- the scope of a process: its variables and its procedures
abbrev pub process_scope : ProcessDeclaration → List Declared
process_scope process = variables_from Global 0 process.variables ++ procedures_from 0 process.procedures

-- the variables of a block
abbrev pub variables_in : Body → List Declaration
variables_in (Scope variables commands) = variables

-- the scope of a procedure: its parameters, and the variables of its own block
abbrev pub procedure_scope : ProcedureDeclaration → List Declared
procedure_scope procedure =
    parameters_from 0 procedure.parameters ++ variables_from Local (length procedure.parameters) (variables_in procedure.body)

-- the first declaration of a name in a scope, in the order of the text
abbrev pub declared_in : List ℕ → List Declared → Option Declared
declared_in x [] = None
declared_in x (one ∷ others) = cond (same_name one.name.text x) (Some one) (declared_in x others)

-- What a name means: its declaration in the first of these scopes that has one. The innermost scope comes first.
abbrev pub meaning_of : List ℕ → List (List Declared) → Option Declared
meaning_of x [] = None
meaning_of x (scope ∷ around) = or_else (declared_in x scope) (meaning_of x around)
