-- The rules of nesting, which a program must keep for recovery to leave no trace. Conversations nest properly, and inside
-- one its members speak with each other alone (Randell 1975). Each rule is a test of one use of a conversation or a
-- channel, and has the name of the fault that breaks it.
use Rattle.std.specs.Prelude.{◌≡◌, ℕ, ◌+◌, nat_eq, Bool, true, false, not, ◌&&◌, List, [], ◌∷◌, ◌++◌, slice_get, Option, Some, None}
use Rattle.std.specs.List.{list_any, list_all}
use Rattle.rb_syntax.specs.Tree.{Identifier, Command, Assignment, Printing, Sending, Receiving, Conditional, Loop, Invocation, Failure, Recovering, Commands, NoCommand, Then, Body, Scope, Otherwise, NoElse, Else, RecoveryBlock, Recovers, Alternates, NoAlternate, Alternate, ProcedureDeclaration, ProcessDeclaration, Tree}
use Rattle.rb_world.specs.Kind.{Ends}
use Rattle.rb_world.specs.World.{is_number}
use Rattle.rb_world.specs.Reject.{parent_of}
use Rattle.rb_world.specs.Turn.{members_of}
use Rattle.rb_world.specs.Plain.{when}
use Rattle.rb_meaning.specs.Environment.{or_else}
use Rattle.rb_meaning.specs.Groups.{channel_number, channels_of, conversation_number, conversation_of, count_alternates, groups_of}

-- where a statement stands: in which process, whether in one of its procedures, and in which recovery blocks, the innermost
-- first, each with its conversation if it has one
pub record Spot : Type 0 where
  pub process : ℕ
  pub in_procedure : Bool
  pub around : List (Option Identifier)

-- what is done there: a conversation is joined, with so many alternates, or a message is sent or received
pub data Deed : Type 0 where
  Joins : (alternates : ℕ) → Deed
  Sends : Deed
  Receives : Deed

-- a use of a conversation or a channel by its name
pub record Use : Type 0 where
  pub name : Identifier
  pub deed : Deed
  pub spot : Spot

-- a spot in an alternate of a recovery block
abbrev pub inside : Option Identifier → Spot → Spot
inside conversation spot = record { process = spot.process; in_procedure = spot.in_procedure; around = conversation ∷ spot.around }

-- a `converse` joins its conversation; an `ensure` joins none
abbrev pub joined : Option Identifier → Alternates → Spot → List Use
joined None alternates spot = []
joined (Some name) alternates spot = record { name = name; deed = Joins (count_alternates alternates); spot = spot } ∷ []

abbrev mutual
  -- the uses in a statement, in the order of the text
  pub uses_in_command : Spot → Command → List Use
  uses_in_command spot (Assignment to e) = []
  uses_in_command spot (Printing items) = []
  uses_in_command spot (Sending channel e) = record { name = channel; deed = Sends; spot = spot } ∷ []
  uses_in_command spot (Receiving channel to otherwise) = record { name = channel; deed = Receives; spot = spot } ∷ uses_in_otherwise spot otherwise
  uses_in_command spot (Conditional test body otherwise) = uses_in_body spot body ++ uses_in_otherwise spot otherwise
  uses_in_command spot (Loop test body) = uses_in_body spot body
  uses_in_command spot (Invocation procedure arguments) = []
  uses_in_command spot Failure = []
  uses_in_command spot (Recovering block) = uses_in_block spot block

  -- the same in a list of statements
  pub uses_in : Spot → Commands → List Use
  uses_in spot NoCommand = []
  uses_in spot (Then first rest) = uses_in_command spot first ++ uses_in spot rest

  -- the same in a block
  pub uses_in_body : Spot → Body → List Use
  uses_in_body spot (Scope variables commands) = uses_in spot commands

  -- the same in an `else`
  pub uses_in_otherwise : Spot → Otherwise → List Use
  uses_in_otherwise spot NoElse = []
  uses_in_otherwise spot (Else body) = uses_in_body spot body

  -- the same in a recovery block, which may itself be a `converse`
  pub uses_in_block : Spot → RecoveryBlock → List Use
  uses_in_block spot (Recovers number conversation place test bound alternates) =
      joined conversation alternates spot ++ uses_in_alternates (inside conversation spot) alternates

  -- the same in the alternates of a recovery block
  pub uses_in_alternates : Spot → Alternates → List Use
  uses_in_alternates spot NoAlternate = []
  uses_in_alternates spot (Alternate body others) = uses_in_body spot body ++ uses_in_alternates spot others

-- a spot in no recovery block
abbrev pub outside : ℕ → Bool → Spot
outside p in_procedure = record { process = p; in_procedure = in_procedure; around = [] }

-- the uses in the procedures of process number p
abbrev pub uses_in_procedures : ℕ → List ProcedureDeclaration → List Use
uses_in_procedures p [] = []
uses_in_procedures p (procedure ∷ procedures) = uses_in_body (outside p true) procedure.body ++ uses_in_procedures p procedures

-- the uses in the processes from number p on
abbrev pub uses_in_processes : ℕ → List ProcessDeclaration → List Use
uses_in_processes p [] = []
uses_in_processes p (process ∷ processes) =
    uses_in_procedures p process.procedures ++ (uses_in (outside p false) process.commands ++ uses_in_processes (p + 1) processes)

-- all uses of a program, in the order of its text
abbrev pub uses_of : Tree → List Use
uses_of tree = uses_in_processes 0 tree.processes

-- a rule for those who join, and one for messages
abbrev pub if_joins : Deed → Bool → Bool
if_joins (Joins alternates) rule = rule
if_joins Sends rule = true
if_joins Receives rule = true

abbrev pub if_speaks : Deed → Bool → Bool
if_speaks (Joins alternates) rule = true
if_speaks Sends rule = rule
if_speaks Receives rule = rule

-- a recovery block is a `converse`
abbrev pub is_converse : Option Identifier → Bool
is_converse None = false
is_converse (Some name) = true

-- the innermost conversation around a spot, if one is
abbrev pub innermost : List (Option Identifier) → Option Identifier
innermost [] = None
innermost (None ∷ around) = innermost around
innermost (Some name ∷ around) = Some name

-- process p is one of these members
abbrev pub is_member : ℕ → List ℕ → Bool
is_member p members = list_any (nat_eq p) members

-- both are the same conversation, or both are none
abbrev pub is_same_conversation : Option ℕ → Option ℕ → Bool
is_same_conversation None None = true
is_same_conversation None (Some d) = false
is_same_conversation (Some c) d = is_number d c

-- the members of a conversation by its number
abbrev pub members_in : Tree → ℕ → List ℕ
members_in tree c = members_of (slice_get (groups_of tree) c)

-- N1: a `converse` stands in no procedure, and in no alternate of an `ensure`.
abbrev pub keeps_n1 : Tree → Use → Bool
keeps_n1 tree one = if_joins one.deed (not one.spot.in_procedure && list_all is_converse one.spot.around)

-- N2: a `converse` stands in a member.
abbrev pub keeps_n2 : Tree → Use → Bool
keeps_n2 tree one = if_joins one.deed (is_member one.spot.process (members_in tree (conversation_number tree one.name.text)))

-- N4: the innermost conversation around a `converse`, or none, is the one around the first `converse` for its conversation.
abbrev pub keeps_n4 : Tree → Use → Bool
keeps_n4 tree one = if_joins one.deed
    (is_same_conversation (conversation_of tree (innermost one.spot.around))
    (parent_of (slice_get (groups_of tree) (conversation_number tree one.name.text))))

-- how many alternates there are where conversation c is joined, and none where it is not
abbrev pub joined_with : Deed → Bool → Option ℕ
joined_with (Joins alternates) of_it = when of_it (Some alternates)
joined_with Sends of_it = None
joined_with Receives of_it = None

-- how many the first of these uses has that joins conversation c
abbrev pub first_joined : Tree → ℕ → List Use → Option ℕ
first_joined tree c [] = None
first_joined tree c (one ∷ others) =
    or_else (joined_with one.deed (nat_eq (conversation_number tree one.name.text) c)) (first_joined tree c others)

-- how many alternates conversation c has, which are those of the first `converse` for it in the text
abbrev pub alternates_of : Tree → ℕ → Option ℕ
alternates_of tree c = first_joined tree c (uses_of tree)

-- where a conversation with so many alternates is joined, it is joined with as many
abbrev pub has_as_many : Deed → Option ℕ → Bool
has_as_many (Joins alternates) first = is_number first alternates
has_as_many Sends first = true
has_as_many Receives first = true

-- N5: a `converse` has as many alternates as the first `converse` for its conversation.
abbrev pub keeps_n5 : Tree → Use → Bool
keeps_n5 tree one = has_as_many one.deed (alternates_of tree (conversation_number tree one.name.text))

-- N8: no message is sent or received in a procedure.
abbrev pub keeps_n8 : Tree → Use → Bool
keeps_n8 tree one = if_speaks one.deed (not one.spot.in_procedure)

-- a process is this end of a channel
abbrev pub is_end : Deed → ℕ → Option Ends → Bool
is_end deed p None = false
is_end (Joins alternates) p (Some ends) = true
is_end Sends p (Some ends) = nat_eq ends.sender p
is_end Receives p (Some ends) = nat_eq ends.receiver p

-- N9: the sender of a channel sends on it, and its receiver receives from it.
abbrev pub keeps_n9 : Tree → Use → Bool
keeps_n9 tree one = if_speaks one.deed
    (is_end one.deed one.spot.process (slice_get (channels_of tree) (channel_number tree one.name.text)))

-- both ends of a channel are among these members
abbrev pub have_both : List ℕ → Option Ends → Bool
have_both members None = false
have_both members (Some ends) = is_member ends.sender members && is_member ends.receiver members

-- where a conversation lies around, both ends of the channel are its members
abbrev pub speaks_inside : Tree → Option Identifier → Option Ends → Bool
speaks_inside tree None ends = true
speaks_inside tree (Some name) ends = have_both (members_in tree (conversation_number tree name.text)) ends

-- N10: inside a conversation members speak with members alone.
abbrev pub keeps_n10 : Tree → Use → Bool
keeps_n10 tree one = if_speaks one.deed
    (speaks_inside tree (innermost one.spot.around) (slice_get (channels_of tree) (channel_number tree one.name.text)))

-- N12: a channel leads from one process to another.
abbrev pub keeps_n12 : Ends → Bool
keeps_n12 ends = not (nat_eq ends.sender ends.receiver)

-- a program in which every use, and every channel, keeps the rules
pub record IsNested (tree : Tree) : Type 0 where
  pub n1 : list_all (keeps_n1 tree) (uses_of tree) ≡ true
  pub n2 : list_all (keeps_n2 tree) (uses_of tree) ≡ true
  pub n4 : list_all (keeps_n4 tree) (uses_of tree) ≡ true
  pub n5 : list_all (keeps_n5 tree) (uses_of tree) ≡ true
  pub n8 : list_all (keeps_n8 tree) (uses_of tree) ≡ true
  pub n9 : list_all (keeps_n9 tree) (uses_of tree) ≡ true
  pub n10 : list_all (keeps_n10 tree) (uses_of tree) ≡ true
  pub n12 : list_all keeps_n12 (channels_of tree) ≡ true
