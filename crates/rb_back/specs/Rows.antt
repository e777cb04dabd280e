-- Worked sessions: what is written of each, or its first fault.
use Rattle.std.specs.Prelude.{◌≡◌, ℕ, List, [], ◌++◌, codes, length, map, Result, Ok, Err}
use Rattle.rb_base.specs.declared.fault.TextFault.{TextFault}
use Rattle.rb_base.specs.declared.fault.FaultName.{FaultName}
use Rattle.rb_base.specs.declared.fault.FaultName.TheVariants.{B1, B2, B3}
use Rattle.rb_syntax.specs.Tree.{Tree}
use Rattle.rb_meaning.specs.Rows.Blocks.{one_rejection_tree}
use Rattle.rb_meaning.specs.Rows.Build.{first, rounds, second, times}
use Rattle.rb_meaning.specs.Rows.Conversations.{broken_tree, conversation_tree}
use Rattle.rb_meaning.specs.Rows.Messages.{maybe_tree}
use Rattle.rb_script.specs.declared.order.Order.{Order}
use Rattle.rb_script.specs.Script.{script_of}
use Rattle.rb_script.specs.Shown.{tree_session_text}

-- what is written over the turns of a program, where its orders are followed
abbrev pub told : Tree → List ℕ → Result (List Order) TextFault → Result (List ℕ) TextFault
told tree turns (Ok orders) = Ok (tree_session_text tree turns orders)
told tree turns (Err fault) = Err fault

abbrev pub session_over : Tree → List ℕ → List ℕ → Result (List ℕ) TextFault
session_over tree turns text = told tree turns (script_of (map (λ process. process.name.text) tree.processes) (length turns) text)

-- what is written of this session
abbrev pub Tells : Tree → List ℕ → List ℕ → List ℕ → Type 0
Tells tree turns text written = session_over tree turns text ≡ Ok written

-- this session over twenty turns of one process has its first fault on this line
abbrev pub IsAtFault : List ℕ → FaultName → ℕ → Type 0
IsAtFault text name at = session_over one_rejection_tree (times 20 first) text ≡ Err (record { name = name; at = at })

-- forth over a rejection, and back
abbrev pub Rejection : Type 0
Rejection =
    Tells one_rejection_tree (times 20 first) (codes "step 4\nshow p\nstep 2\nshow p\nback 2\nshow p\n")
    (codes "at 4\np open 1\np.x = 6\nat 6\np open 1\np.x = 5\nat 4\np open 1\np.x = 6\n")

-- back over the entry of a recovery block, and forth again
abbrev pub Entry : Type 0
Entry =
    Tells one_rejection_tree (times 20 first) (codes "step 2\nshow p\nback 1\nshow p\nstep 1\nshow p\n")
    (codes "at 2\np open 1\np.x = 5\nat 1\np open 0\np.x = 5\nat 2\np open 1\np.x = 5\n")

-- before all turns, also at once, and behind the end, where turns are idle
abbrev pub FromEndToEnd : Type 0
FromEndToEnd =
    Tells one_rejection_tree (times 20 first) (codes "show p\nstep 20\nshow p\nback 20\nshow p")
    (codes "at 0\np open 0\np.x = 0\nat 20\np done\np.x = 7\nat 0\np open 0\np.x = 0\n")

-- lines that show nothing write nothing
abbrev pub NothingShown : Type 0
NothingShown = Tells one_rejection_tree (times 20 first) (codes "step 20\nback 20\n") []

abbrev pub EmptyText : Type 0
EmptyText = Tells one_rejection_tree (times 20 first) (codes "") []

-- comments, blanks and line ends
abbrev pub Comments : Type 0
Comments =
    Tells one_rejection_tree (times 20 first) (codes "# forth\n\n\tstep  1# one\r\nshow p\r")
    (codes "at 1\np open 0\np.x = 5\n")

-- back over the rejection of a conversation: both members stand as before it, by a turn of one of them
abbrev pub RejectedConversation : Type 0
RejectedConversation =
    Tells conversation_tree (rounds 12 2) (codes "step 12\nshow p\nshow q\nback 1\nshow p\nshow q\n")
    (codes "at 12\np open 1\np.a = 0\nat 12\nq open 1\nq.b = 0\nat 11\np open 1\np.a = 1\nat 11\nq open 1\nq.b = 5\n")

-- back over its pass
abbrev pub PassedConversation : Type 0
PassedConversation =
    Tells conversation_tree (rounds 12 2) (codes "step 22\nshow p\nshow q\nback 1\nshow p\nshow q\n")
    (codes "at 22\np done\np.a = 2\nat 22\nq done\nq.b = 6\nat 21\np open 1\np.a = 2\nat 21\nq open 1\nq.b = 6\n")

-- back over a failure
abbrev pub Failed : Type 0
Failed =
    Tells broken_tree (times 4 first ++ times 3 second) (codes "step 4\nshow p\nshow q\nback 1\nshow p\nstep 3\nshow q\nback 1\nshow q\n")
    (codes "at 4\np failed\np.a = 0\nat 4\nq open 0\nq.b = 0\nat 3\np open 1\np.a = 1\nat 6\nq failed\nq.b = 2\nat 5\nq open 0\nq.b = 2\n")

-- edition 2: back over a message that was received, and over none
abbrev pub Received : Type 0
Received =
    Tells maybe_tree (times 3 first ++ times 3 second ++ times 1 first ++ times 2 second)
    (codes "step 8\nshow q\nback 1\nshow q\nshow p\nback 3\nshow q\nstep 1\nshow q\n")
    (codes "at 8\nq open 0\nq.x = 7\nat 7\nq open 0\nq.x = 1\nat 7\np done\nat 4\nq open 0\nq.x = 0\nat 5\nq open 0\nq.x = 1\n")

-- no form of a line
abbrev pub UnknownVerb : Type 0
UnknownVerb = IsAtFault (codes "step 1\nsteps 1\n") B1 2

abbrev pub WithoutNumber : Type 0
WithoutNumber = IsAtFault (codes "# one\nstep\n") B1 2

abbrev pub TwoNumbers : Type 0
TwoNumbers = IsAtFault (codes "step 1 1\n") B1 1

abbrev pub NoTurns : Type 0
NoTurns = IsAtFault (codes "step 0\n") B1 1

abbrev pub TooMany : Type 0
TooMany = IsAtFault (codes "back 1000001\n") B1 1

abbrev pub NoNumber : Type 0
NoNumber = IsAtFault (codes "step p\n") B1 1

abbrev pub NoName : Type 0
NoName = IsAtFault (codes "show 1\n") B1 1

abbrev pub UnknownProcess : Type 0
UnknownProcess = IsAtFault (codes "show p\nshow q\n") B2 2

-- a step past the last turn, and one back past the beginning
abbrev pub PastTheLast : Type 0
PastTheLast = IsAtFault (codes "step 20\nback 1\nstep 2\n") B3 3

abbrev pub PastTheFirst : Type 0
PastTheFirst = IsAtFault (codes "step 4\nback 5\n") B3 2

-- the greatest number that a line may have
abbrev pub TheGreatest : Type 0
TheGreatest = IsAtFault (codes "step 1000000\n") B3 1

-- The first line with a fault counts, not the least fault of all.
abbrev pub FirstOfLines : Type 0
FirstOfLines = IsAtFault (codes "step 21\nshow q\nstep 0\n") B3 1
