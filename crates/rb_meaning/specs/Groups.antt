-- What a program declares: channels and their ends, conversations with their members and parents, procedures. A
-- conversation's parent is the innermost conversation around its first `converse` in the text (nesting: Randell 1975).
use Rattle.std.specs.Prelude.{ℕ, ◌+◌, Bool, false, cond, List, [], ◌∷◌, map, position, slice_get, Option, Some, None}
use Rattle.std.specs.Option.{unwrap_or}
use Rattle.rb_syntax.specs.Tree.{Identifier, Command, Assignment, Printing, Sending, Receiving, Conditional, Loop, Invocation, Failure, Recovering, Commands, NoCommand, Then, Body, Scope, Otherwise, NoElse, Else, RecoveryBlock, Recovers, Alternates, NoAlternate, Alternate, ChannelDeclaration, ConversationDeclaration, ProcedureDeclaration, ProcessDeclaration, Tree}
use Rattle.rb_world.specs.Kind.{Ends, Membership, Facts}
use Rattle.rb_meaning.specs.Environment.{same_name, natural, or_else}

-- a number, and 0 where there is none.
abbrev pub number_or_zero : Option ℕ → ℕ
number_or_zero n = unwrap_or n 0

-- the number of a process by its name
abbrev pub process_number : Tree → List ℕ → ℕ
process_number tree x = number_or_zero (position (λ p. same_name p.name.text x) tree.processes)

-- the number of a channel by its name
abbrev pub channel_number : Tree → List ℕ → ℕ
channel_number tree x = number_or_zero (position (λ c. same_name c.name.text x) tree.channels)

-- the number of a conversation by its name
abbrev pub conversation_number : Tree → List ℕ → ℕ
conversation_number tree x = number_or_zero (position (λ c. same_name c.name.text x) tree.conversations)

-- a channel's sender, receiver and size, as it is declared
abbrev pub ends_of : Tree → ChannelDeclaration → Ends
ends_of tree channel = record {
  sender = process_number tree channel.sender.text;
  receiver = process_number tree channel.receiver.text;
  size = natural channel.size.value;
}

-- all channels of a program, in the order of declaration
abbrev pub channels_of : Tree → List Ends
channels_of tree = map (ends_of tree) tree.channels

-- The first `converse` for a conversation, with the conversation around it.
abbrev pub Around : Type 0
Around = Option Identifier

-- a recovery block is a `converse` for the conversation of this name
abbrev pub is_named : List ℕ → Option Identifier → Bool
is_named x None = false
is_named x (Some name) = same_name name.text x

-- inside a `converse` its conversation is the one around; an `ensure` is none
abbrev pub around_inside : Option Identifier → Around → Around
around_inside None around = around
around_inside (Some name) around = Some name

abbrev mutual
  -- what lies around the first `converse` for a conversation in a statement, if one is there
  pub first_in_command : List ℕ → Around → Command → Option Around
  first_in_command x around (Assignment to e) = None
  first_in_command x around (Printing items) = None
  first_in_command x around (Sending channel e) = None
  first_in_command x around (Receiving channel to otherwise) = first_in_otherwise x around otherwise
  first_in_command x around (Conditional test body otherwise) =
      or_else (first_in_body x around body) (first_in_otherwise x around otherwise)
  first_in_command x around (Loop test body) = first_in_body x around body
  first_in_command x around (Invocation procedure arguments) = None
  first_in_command x around Failure = None
  first_in_command x around (Recovering block) = first_in_block x around block

  -- the same in a list of statements
  pub first_in : List ℕ → Around → Commands → Option Around
  first_in x around NoCommand = None
  first_in x around (Then first rest) = or_else (first_in_command x around first) (first_in x around rest)

  -- the same in a block
  pub first_in_body : List ℕ → Around → Body → Option Around
  first_in_body x around (Scope variables commands) = first_in x around commands

  -- the same in an `else`
  pub first_in_otherwise : List ℕ → Around → Otherwise → Option Around
  first_in_otherwise x around NoElse = None
  first_in_otherwise x around (Else body) = first_in_body x around body

  -- the same in a recovery block, which may itself be that `converse`
  pub first_in_block : List ℕ → Around → RecoveryBlock → Option Around
  first_in_block x around (Recovers number conversation place test bound alternates) =
      cond (is_named x conversation) (Some around) (first_in_alternates x (around_inside conversation around) alternates)

  -- the same in the alternates of a recovery block
  pub first_in_alternates : List ℕ → Around → Alternates → Option Around
  first_in_alternates x around NoAlternate = None
  first_in_alternates x around (Alternate body others) =
      or_else (first_in_body x around body) (first_in_alternates x around others)

-- the same in the procedures of a process
abbrev pub first_in_procedures : List ℕ → List ProcedureDeclaration → Option Around
first_in_procedures x [] = None
first_in_procedures x (procedure ∷ procedures) =
    or_else (first_in_body x None procedure.body) (first_in_procedures x procedures)

-- the same in all processes: in each of them first in its procedures, then in its own statements
abbrev pub first_in_processes : List ℕ → List ProcessDeclaration → Option Around
first_in_processes x [] = None
first_in_processes x (process ∷ processes) =
    or_else (or_else (first_in_procedures x process.procedures) (first_in x None process.commands)) (first_in_processes x processes)

-- the parent by what lies around the first `converse`; none where nothing does, or there is no `converse`
abbrev pub parent_named : Tree → Option Around → Option ℕ
parent_named tree None = None
parent_named tree (Some None) = None
parent_named tree (Some (Some name)) = Some (conversation_number tree name.text)

-- a conversation's members, and its parent (nesting: Randell 1975)
abbrev pub membership_of : Tree → ConversationDeclaration → Membership
membership_of tree conversation = record {
  members = map (λ name. process_number tree name.text) conversation.members;
  parent = parent_named tree (first_in_processes conversation.name.text tree.processes);
}

-- all conversations of a program, in the order of declaration
abbrev pub groups_of : Tree → List Membership
groups_of tree = map (membership_of tree) tree.conversations

-- how many alternates it has.
abbrev pub count_alternates : Alternates → ℕ
count_alternates NoAlternate = 0
count_alternates (Alternate body others) = count_alternates others + 1

-- the number of a recovery block's conversation, if it has one
abbrev pub conversation_of : Tree → Option Identifier → Option ℕ
conversation_of tree None = None
conversation_of tree (Some name) = Some (conversation_number tree name.text)

-- a recovery block's number in the program, its line, conversation, turn bound and number of alternates
abbrev pub facts_of : Tree → RecoveryBlock → Facts
facts_of tree (Recovers number conversation place test bound alternates) = record {
  number = number;
  line = place.line;
  conversation = conversation_of tree conversation;
  bound = natural bound.value;
  alternates = count_alternates alternates;
}

-- a procedure of a process by its name
abbrev pub procedure_among : List ℕ → List ProcedureDeclaration → Option ProcedureDeclaration
procedure_among x [] = None
procedure_among x (procedure ∷ procedures) =
    cond (same_name procedure.name.text x) (Some procedure) (procedure_among x procedures)

-- the procedures of a process, and none where there is no process
abbrev pub procedures_of : Option ProcessDeclaration → List ProcedureDeclaration
procedures_of None = []
procedures_of (Some process) = process.procedures

-- the procedure of process number p by its name, if there is one
abbrev pub procedure_named : Tree → ℕ → List ℕ → Option ProcedureDeclaration
procedure_named tree p x = procedure_among x (procedures_of (slice_get tree.processes p))
