-- Messages, and what may be undone of them.
use Rattle.std.specs.Prelude.{◌≡◌, [], ◌∷◌, ◌++◌, codes}
use Rattle.rb_syntax.specs.declared.expression.Op.TheVariants.{Eq, Add, Mul, Div}
use Rattle.rb_syntax.specs.Tree.{Tree}
use Rattle.rb_meaning.specs.Meaning.{run_text}
use Rattle.rb_meaning.specs.Rows.Build.{array, assign, block, block_with, channel_called, element, ensure, first, of, print, process_called, program_called, program_of_edition_2, receive, receive_else, rounds, scalar, second, send, shown, times, two, variable, whole}

--     program v;
--     channel c from p to q size 2;
--     process p { var x;
--     ensure x = 2 within 9 by { x := 1; send c 10; } else by { x := 2; send c 20; } else error; }
--     process q { var y; receive c y; print y; }
--     end.
abbrev pub private_message_tree : Tree
private_message_tree =
    let alternate_1 = block (assign "x" (whole 1) ∷ send "c" (whole 10) ∷ []) in
    let alternate_2 = block (assign "x" (whole 2) ∷ send "c" (whole 20) ∷ []) in
    let ensured_1 = ensure 4 (two Eq (of "x") (whole 2)) 9 (alternate_1 ∷ alternate_2 ∷ []) in
    let process_p = process_called "p" (scalar "x" ∷ []) [] (ensured_1 ∷ []) in
    let process_q = process_called "q" (scalar "y" ∷ []) [] (receive "c" (variable "y") ∷ print (shown (of "y") ∷ []) ∷ []) in
    program_called "v" (channel_called "c" "p" "q" 2 ∷ []) [] (process_p ∷ process_q ∷ [])

-- A message that was sent in a block is seen once the block is accepted.
abbrev pub PrivateMessage : Type 0
PrivateMessage =
    run_text private_message_tree
    (times 4 first ++ times 1 second ++ times 1 first ++ times 1 second ++ times 3 first ++ times 1 second
    ++ times 1 first ++ times 2 second)
    ≡ codes "6 reject p ensure 4 1 test\n12 done p\n14 out q 20\n14 done q\nend 14\np done\np.x = 2\nq done\nq.y = 20\nc sent 1 taken 1\n"

--     program s;
--     channel c from p to q size 2;
--     process p { send c 1; send c 2; send c 3; }
--     process q { var y;
--     ensure y = 1 within 5 by { receive c y; } else error; }
--     end.
abbrev pub slot_tree : Tree
slot_tree =
    let ensured_1 = ensure 5 (two Eq (of "y") (whole 1)) 5 (block (receive "c" (variable "y") ∷ []) ∷ []) in
    let process_p = process_called "p" [] [] (send "c" (whole 1) ∷ send "c" (whole 2) ∷ send "c" (whole 3) ∷ []) in
    let process_q = process_called "q" (scalar "y" ∷ []) [] (ensured_1 ∷ []) in
    program_called "s" (channel_called "c" "p" "q" 2 ∷ []) [] (process_p ∷ process_q ∷ [])

-- A receipt frees its slot once it can't be undone.
abbrev pub SlotNotFree : Type 0
SlotNotFree =
    run_text slot_tree (times 2 first ++ times 3 second ++ times 1 first ++ times 1 second ++ times 1 first)
    ≡ codes "7 done q\n8 done p\nend 8\np done\nq done\nq.y = 1\nc sent 3 taken 1\n"

abbrev pub SlotLeftOpen : Type 0
SlotLeftOpen =
    run_text slot_tree (times 2 first ++ times 2 second)
    ≡ codes "end 4\np open 0\nq open 1\nq.y = 0\nc sent 2 taken 0\n"

--     program s;
--     channel c from p to q size 1;
--     process p { send c 1; send c 2; }
--     process q { var y;
--     ensure 1 within 20 by { receive c y; ensure 1 within 9 by { y := y + 1; } else error; y := y * 2; } else error; }
--     end.
abbrev pub room_outside_tree : Tree
room_outside_tree =
    let ensured_1 = ensure 5 (whole 1) 9 (block (assign "y" (two Add (of "y") (whole 1)) ∷ []) ∷ []) in
    let alternate_1 = block (receive "c" (variable "y") ∷ ensured_1 ∷ assign "y" (two Mul (of "y") (whole 2)) ∷ []) in
    let process_p = process_called "p" [] [] (send "c" (whole 1) ∷ send "c" (whole 2) ∷ []) in
    let process_q = process_called "q" (scalar "y" ∷ []) [] (ensure 5 (whole 1) 20 (alternate_1 ∷ []) ∷ []) in
    program_called "s" (channel_called "c" "p" "q" 1 ∷ []) [] (process_p ∷ process_q ∷ [])

-- Room is counted from the receiver's outermost block.
abbrev pub RoomOutside : Type 0
RoomOutside =
    run_text room_outside_tree
    (times 1 first ++ times 3 second ++ times 1 first ++ times 2 second ++ times 1 first ++ times 2 second
    ++ times 1 first ++ times 2 second ++ times 1 first)
    ≡ codes "13 done q\n14 done p\nend 14\np done\nq done\nq.y = 4\nc sent 2 taken 1\n"

--     program v;
--     channel c from p to q size 1;
--     process p { ensure 1 within 20 by { send c 5; ensure 1 within 9 by { } else error; } else error; }
--     process q { var y; receive c y; }
--     end.
abbrev pub seen_outside_tree : Tree
seen_outside_tree =
    let ensured_1 = ensure 3 (whole 1) 20 (block (send "c" (whole 5) ∷ ensure 3 (whole 1) 9 (block [] ∷ []) ∷ []) ∷ []) in
    let process_p = process_called "p" [] [] (ensured_1 ∷ []) in
    let process_q = process_called "q" (scalar "y" ∷ []) [] (receive "c" (variable "y") ∷ []) in
    program_called "v" (channel_called "c" "p" "q" 1 ∷ []) [] (process_p ∷ process_q ∷ [])

-- A message is seen once the sender's outermost block is accepted.
abbrev pub SeenOutside : Type 0
SeenOutside =
    run_text seen_outside_tree
    (times 3 first ++ times 1 second ++ times 2 first ++ times 1 second ++ times 1 first ++ times 1 second
    ++ times 1 first ++ times 1 second)
    ≡ codes "10 done p\n11 done q\nend 11\np done\nq done\nq.y = 5\nc sent 1 taken 1\n"

--     program r;
--     channel c from p to q size 2;
--     process p { send c 4; send c 9; }
--     process q { var y;
--     ensure y = 8 within 9 by { receive c y; } else by { receive c y; y := y + 4; } else error; }
--     end.
abbrev pub received_again_tree : Tree
received_again_tree =
    let alternate_1 = block (receive "c" (variable "y") ∷ []) in
    let alternate_2 = block (receive "c" (variable "y") ∷ assign "y" (two Add (of "y") (whole 4)) ∷ []) in
    let ensured_1 = ensure 5 (two Eq (of "y") (whole 8)) 9 (alternate_1 ∷ alternate_2 ∷ []) in
    let process_p = process_called "p" [] [] (send "c" (whole 4) ∷ send "c" (whole 9) ∷ []) in
    let process_q = process_called "q" (scalar "y" ∷ []) [] (ensured_1 ∷ []) in
    program_called "r" (channel_called "c" "p" "q" 2 ∷ []) [] (process_p ∷ process_q ∷ [])

-- A receipt that was undone takes the same message again.
abbrev pub ReceivedAgain : Type 0
ReceivedAgain =
    run_text received_again_tree (times 2 first ++ times 8 second)
    ≡ codes "2 done p\n6 reject q ensure 5 1 test\n10 done q\nend 10\np done\nq done\nq.y = 8\nc sent 2 taken 1\n"

--     program e;
--     channel c from p to q size 2;
--     channel d from q to p size 1;
--     process p { var x; send c 3; send c 4; receive d x; }
--     process q { var y; var z; receive c y; receive c z; send d y * 10 + z; }
--     end.
abbrev pub two_channels_tree : Tree
two_channels_tree =
    let test_1 = two Add (two Mul (of "y") (whole 10)) (of "z") in
    let process_p = process_called "p" (scalar "x" ∷ []) [] (send "c" (whole 3) ∷ send "c" (whole 4) ∷ receive "d" (variable "x") ∷ []) in
    let process_q =
    process_called "q" (scalar "y" ∷ scalar "z" ∷ []) [] (receive "c" (variable "y") ∷ receive "c" (variable "z") ∷ send "d" test_1 ∷ []) in
    program_called "e" (channel_called "c" "p" "q" 2 ∷ channel_called "d" "q" "p" 1 ∷ []) [] (process_p ∷ process_q ∷ [])

-- Messages come in the order in which they were sent.
abbrev pub TwoChannels : Type 0
TwoChannels =
    run_text two_channels_tree (rounds 4 2)
    ≡ codes "6 done q\n7 done p\nend 8\np done\np.x = 34\nq done\nq.y = 3\nq.z = 4\nc sent 2 taken 2\nd sent 1 taken 1\n"

--     edition 2; program e;
--     channel c from p to q size 2;
--     process p { ensure 1 within 9 by { send c 7; } else error; }
--     process q { var x; receive c x else { x := 1; } print x; receive c x else { x := 2; } print x; }
--     end.
abbrev pub maybe_tree : Tree
maybe_tree =
    let receipt_1 = receive_else "c" (variable "x") (block (assign "x" (whole 1) ∷ [])) in
    let receipt_2 = receive_else "c" (variable "x") (block (assign "x" (whole 2) ∷ [])) in
    let printing_1 = print (shown (of "x") ∷ []) in
    let printing_2 = print (shown (of "x") ∷ []) in
    let process_p = process_called "p" [] [] (ensure 3 (whole 1) 9 (block (send "c" (whole 7) ∷ []) ∷ []) ∷ []) in
    let process_q = process_called "q" (scalar "x" ∷ []) [] (receipt_1 ∷ printing_1 ∷ receipt_2 ∷ printing_2 ∷ []) in
    program_of_edition_2 "e" (channel_called "c" "p" "q" 2 ∷ []) [] (process_p ∷ process_q ∷ [])

abbrev pub MaybeReceived : Type 0
MaybeReceived =
    run_text maybe_tree (times 3 first ++ times 3 second ++ times 1 first ++ times 2 second)
    ≡ codes "6 out q 1\n7 done p\n9 out q 7\n9 done q\nend 9\np done\nq done\nq.x = 7\nc sent 1 taken 1\n"

--     edition 2; program f;
--     channel c from p to q size 1;
--     process p { send c 4; }
--     process q { var a[2]; var i; i := 2;
--     receive c a[i] else { var k; k := 1; i := k; }
--     receive c a[i] else { i := 0; }
--     receive c a[i] else { i := 0; } }
--     end.
abbrev pub maybe_element_tree : Tree
maybe_element_tree =
    let body_1 = block_with (scalar "k" ∷ []) (assign "k" (whole 1) ∷ assign "i" (of "k") ∷ []) in
    let receipt_1 = receive_else "c" (element "a" (of "i")) body_1 in
    let receipt_2 = receive_else "c" (element "a" (of "i")) (block (assign "i" (whole 0) ∷ [])) in
    let receipt_3 = receive_else "c" (element "a" (of "i")) (block (assign "i" (whole 0) ∷ [])) in
    let process_p = process_called "p" [] [] (send "c" (whole 4) ∷ []) in
    let process_q = process_called "q" (array "a" 2 ∷ scalar "i" ∷ []) [] (assign "i" (whole 2) ∷ receipt_1 ∷ receipt_2 ∷ receipt_3 ∷ []) in
    program_of_edition_2 "f" (channel_called "c" "p" "q" 1 ∷ []) [] (process_p ∷ process_q ∷ [])

-- Where nothing is there, no index is evaluated.
abbrev pub MaybeReceivedElement : Type 0
MaybeReceivedElement =
    run_text maybe_element_tree (times 4 second ++ times 1 first ++ times 3 second)
    ≡ codes "5 done p\n8 done q\nend 8\np done\nq done\nq.a = 0 4\nq.i = 0\nc sent 1 taken 1\n"

--     program i;
--     channel c from p to q size 2;
--     process p { send c 4; }
--     process q { var a[2];
--     ensure 1 within 9 by { receive c a[2]; } else by { receive c a[1]; } else error; }
--     end.
abbrev pub index_of_receipt_tree : Tree
index_of_receipt_tree =
    let alternate_1 = block (receive "c" (element "a" (whole 2)) ∷ []) in
    let alternate_2 = block (receive "c" (element "a" (whole 1)) ∷ []) in
    let process_p = process_called "p" [] [] (send "c" (whole 4) ∷ []) in
    let process_q = process_called "q" (array "a" 2 ∷ []) [] (ensure 5 (whole 1) 9 (alternate_1 ∷ alternate_2 ∷ []) ∷ []) in
    program_called "i" (channel_called "c" "p" "q" 2 ∷ []) [] (process_p ∷ process_q ∷ [])

-- A receipt that traps takes nothing.
abbrev pub IndexOfReceipt : Type 0
IndexOfReceipt =
    run_text index_of_receipt_tree (times 1 first ++ times 6 second)
    ≡ codes "1 done p\n4 reject q ensure 5 1 index\n7 done q\nend 7\np done\nq done\nq.a = 0 4\nc sent 1 taken 1\n"

--     program w;
--     channel c from p to q size 1;
--     process p { send c 1; send c 1 / 0; }
--     process q { var x; receive c x; }
--     end.
abbrev pub wait_first_tree : Tree
wait_first_tree =
    let process_p = process_called "p" [] [] (send "c" (whole 1) ∷ send "c" (two Div (whole 1) (whole 0)) ∷ []) in
    let process_q = process_called "q" (scalar "x" ∷ []) [] (receive "c" (variable "x") ∷ []) in
    program_called "w" (channel_called "c" "p" "q" 1 ∷ []) [] (process_p ∷ process_q ∷ [])

-- A send waits before it evaluates.
abbrev pub WaitFirst : Type 0
WaitFirst =
    run_text wait_first_tree (times 2 first ++ times 1 second ++ times 1 first)
    ≡ codes "3 done q\n4 error p zero\nend 4\np failed\nq done\nq.x = 1\nc sent 1 taken 1\n"

--     program w;
--     channel c from p to q size 1;
--     process p { }
--     process q { var y;
--     ensure 1 within 3 by { receive c y; } else by { y := 9; } else error; }
--     end.
abbrev pub end_of_wait_tree : Tree
end_of_wait_tree =
    let ensured_1 = ensure 5 (whole 1) 3 (block (receive "c" (variable "y") ∷ []) ∷ block (assign "y" (whole 9) ∷ []) ∷ []) in
    let process_p = process_called "p" [] [] [] in
    let process_q = process_called "q" (scalar "y" ∷ []) [] (ensured_1 ∷ []) in
    program_called "w" (channel_called "c" "p" "q" 1 ∷ []) [] (process_p ∷ process_q ∷ [])

-- Waiting uses up turns.
abbrev pub EndOfWait : Type 0
EndOfWait =
    run_text end_of_wait_tree (times 8 second)
    ≡ codes "0 done p\n5 reject q ensure 5 1 overrun\n8 done q\nend 8\np done\nq done\nq.y = 9\nc sent 0 taken 0\n"
