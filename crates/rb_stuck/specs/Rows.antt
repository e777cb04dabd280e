-- Worked standings: what is written of programs after turns.
use Rattle.std.specs.Prelude.{◌≡◌, ℕ, List, [], ◌∷◌, codes}
use Rattle.rb_syntax.specs.Tree.{Tree}
use Rattle.rb_meaning.specs.Rows.Blocks.{one_rejection_tree}
use Rattle.rb_meaning.specs.Rows.Build.{assign, block, called, channel_called, conversation_called, converse, first, process_called, program_called, receive, rounds, scalar, send, times, variable, whole}
use Rattle.rb_meaning.specs.Rows.Messages.{end_of_wait_tree, maybe_tree}
use Rattle.rb_stuck.specs.Programs.{tree_standing_text}

-- this is written of a program after these turns
abbrev pub Stands : Tree → List ℕ → List ℕ → Type 0
Stands tree turns written = tree_standing_text tree turns ≡ written

--     program table;
--     channel salt from left to right size 1; channel bread from right to left size 1;
--     process left { var has; receive bread has; }
--     process right { var has; receive salt has; }
--     end.
abbrev pub deadlock_tree : Tree
deadlock_tree =
    let left = process_called "left" (scalar "has" ∷ []) [] (receive "bread" (variable "has") ∷ []) in
    let right = process_called "right" (scalar "has" ∷ []) [] (receive "salt" (variable "has") ∷ []) in
    program_called "table" (channel_called "salt" "left" "right" 1 ∷ channel_called "bread" "right" "left" 1 ∷ []) [] (left ∷ right ∷ [])

--     program w;
--     channel c from p to q size 1;
--     process p { send c 1; send c 2; }
--     process q { var y; y := 1; }
--     end.
abbrev pub full_tree : Tree
full_tree =
    let process_p = process_called "p" [] [] (send "c" (whole 1) ∷ send "c" (whole 2) ∷ []) in
    let process_q = process_called "q" (scalar "y" ∷ []) [] (assign "y" (whole 1) ∷ []) in
    program_called "w" (channel_called "c" "p" "q" 1 ∷ []) [] (process_p ∷ process_q ∷ [])

--     program t;
--     channel c from p to q size 1; conversation C (p, q);
--     process p { var x; converse C ensure 1 within 9 by { x := 1; } else error; send c 1; }
--     process q { var y; receive c y; converse C ensure 1 within 9 by { y := 2; } else error; }
--     end.
abbrev pub line_tree : Tree
line_tree =
    let conversed_1 = converse "C" 3 (whole 1) 9 (block (assign "x" (whole 1) ∷ []) ∷ []) in
    let conversed_2 = converse "C" 4 (whole 1) 9 (block (assign "y" (whole 2) ∷ []) ∷ []) in
    let process_p = process_called "p" (scalar "x" ∷ []) [] (conversed_1 ∷ send "c" (whole 1) ∷ []) in
    let process_q = process_called "q" (scalar "y" ∷ []) [] (receive "c" (variable "y") ∷ conversed_2 ∷ []) in
    program_called "t" (channel_called "c" "p" "q" 1 ∷ []) (conversation_called "C" (called "p" ∷ called "q" ∷ []) ∷ []) (process_p ∷ process_q ∷ [])

-- all are done
abbrev pub AllEnded : Type 0
AllEnded = Stands one_rejection_tree (times 20 first) (codes "ended\n")

-- a process goes on
abbrev pub GoesOn : Type 0
GoesOn = Stands one_rejection_tree (times 4 first) (codes "open\n")

-- each waits for the other, from the beginning on
abbrev pub Deadlock : Type 0
Deadlock = Stands deadlock_tree (rounds 1 2) (codes "stuck\nleft waits for message bread\nright waits for message salt\n")

abbrev pub FromTheBeginning : Type 0
FromTheBeginning = Stands deadlock_tree [] (codes "stuck\nleft waits for message bread\nright waits for message salt\n")

-- one waits for room, and the other is done
abbrev pub NoRoom : Type 0
NoRoom = Stands full_tree (rounds 3 2) (codes "stuck\np waits for room c\n")

-- one waits at the test line for a member that waits for what it would send behind the line
abbrev pub AtTheLine : Type 0
AtTheLine = Stands line_tree (rounds 4 2) (codes "stuck\np waits at line C\nq waits for message c\n")

-- in the next turn its block has used up its turns; after that turn it has failed
abbrev pub BoundNext : Type 0
BoundNext = Stands line_tree (rounds 10 2) (codes "open\n")

abbrev pub BehindTheBound : Type 0
BehindTheBound = Stands line_tree (rounds 11 2) (codes "stuck\nq waits for message c\n")

-- a wait inside a block, of which the bound comes later
abbrev pub InsideABlock : Type 0
InsideABlock = Stands end_of_wait_tree (times 2 1) (codes "stuck\nq waits for message c\n")

-- a receipt that goes on without a message
abbrev pub MayGoOn : Type 0
MayGoOn = Stands maybe_tree [] (codes "open\n")
