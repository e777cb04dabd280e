-- Conversations.
use Rattle.std.specs.Prelude.{◌≡◌, [], ◌∷◌, ◌++◌, codes}
use Rattle.rb_syntax.specs.declared.expression.Op.TheVariants.{Eq, Lt, Gt, Add}
use Rattle.rb_syntax.specs.Tree.{Failure, Loop, Tree}
use Rattle.rb_meaning.specs.Meaning.{run_text}
use Rattle.rb_meaning.specs.Rows.Build.{assign, block, called, channel_called, conversation_called, converse, ensure, first, of, print, process_called, program_called, program_of_edition_2, receive, receive_else, rounds, scalar, second, send, shown, third, times, two, variable, when, whole, written}

--     program k;
--     channel c from p to q size 4;
--     conversation C (p, q);
--     process p { var a;
--     converse C ensure a > 0 within 20 by { a := 1; send c 5; print "p1"; }
--     else by { a := 2; send c 6; print "p2"; } else error; }
--     process q { var b;
--     converse C ensure b = 6 within 20 by { receive c b; print "q", b; }
--     else by { receive c b; print "q", b; } else error; }
--     end.
abbrev pub conversation_tree : Tree
conversation_tree =
    let alternate_1 = block (assign "a" (whole 1) ∷ send "c" (whole 5) ∷ print (written "p1" ∷ []) ∷ []) in
    let alternate_2 = block (assign "a" (whole 2) ∷ send "c" (whole 6) ∷ print (written "p2" ∷ []) ∷ []) in
    let conversed_1 = converse "C" 5 (two Gt (of "a") (whole 0)) 20 (alternate_1 ∷ alternate_2 ∷ []) in
    let alternate_3 = block (receive "c" (variable "b") ∷ print (written "q" ∷ shown (of "b") ∷ []) ∷ []) in
    let alternate_4 = block (receive "c" (variable "b") ∷ print (written "q" ∷ shown (of "b") ∷ []) ∷ []) in
    let conversed_2 = converse "C" 8 (two Eq (of "b") (whole 6)) 20 (alternate_3 ∷ alternate_4 ∷ []) in
    let process_p = process_called "p" (scalar "a" ∷ []) [] (conversed_1 ∷ []) in
    let process_q = process_called "q" (scalar "b" ∷ []) [] (conversed_2 ∷ []) in
    program_called "k" (channel_called "c" "p" "q" 4 ∷ []) (conversation_called "C" (called "p" ∷ called "q" ∷ []) ∷ []) (process_p ∷ process_q ∷ [])

abbrev pub OneConversation : Type 0
OneConversation =
    run_text conversation_tree (rounds 12 2)
    ≡ codes "12 reject C 1 by q test\n22 pass C 2\n22 out p p2\n22 out q q 6\n22 done p\n22 done q\nend 24\np done\np.a = 2\nq done\nq.b = 6\nc sent 1 taken 1\n"

--     program l;
--     conversation C (p, q);
--     process p { var a;
--     converse C ensure a = 2 within 9 by { a := 1; } else by { a := 2; } else error; }
--     process q { var b; b := 1;
--     converse C ensure 1 within 9 by { b := b + 10; } else by { b := b + 20; } else error; }
--     end.
abbrev pub late_member_tree : Tree
late_member_tree =
    let alternate_1 = block (assign "a" (whole 1) ∷ []) in
    let alternate_2 = block (assign "a" (whole 2) ∷ []) in
    let conversed_1 = converse "C" 4 (two Eq (of "a") (whole 2)) 9 (alternate_1 ∷ alternate_2 ∷ []) in
    let alternate_3 = block (assign "b" (two Add (of "b") (whole 10)) ∷ []) in
    let alternate_4 = block (assign "b" (two Add (of "b") (whole 20)) ∷ []) in
    let conversed_2 = converse "C" 6 (whole 1) 9 (alternate_3 ∷ alternate_4 ∷ []) in
    let process_p = process_called "p" (scalar "a" ∷ []) [] (conversed_1 ∷ []) in
    let process_q = process_called "q" (scalar "b" ∷ []) [] (assign "b" (whole 1) ∷ conversed_2 ∷ []) in
    program_called "l" [] (conversation_called "C" (called "p" ∷ called "q" ∷ []) ∷ []) (process_p ∷ process_q ∷ [])

-- Who enters late begins at the present alternate.
abbrev pub LateMember : Type 0
LateMember =
    run_text late_member_tree (times 4 first ++ times 4 second ++ times 3 first ++ times 1 second)
    ≡ codes "4 reject C 1 by p test\n12 pass C 2\n12 done p\n12 done q\nend 12\np done\np.a = 2\nq done\nq.b = 21\n"

--     program n;
--     conversation C (p, q);
--     conversation D (p, q);
--     process p { var i; var a;
--     while i < 2 { i := i + 1;
--     converse C ensure 1 within 30 by {
--       converse D ensure 1 within 9 by { if i = 1 { fail; } } else by { fail; } else error;
--     } else by { a := a + 1; } else error; } }
--     process q { var j;
--     while j < 2 { j := j + 1;
--     converse C ensure 1 within 30 by {
--       converse D ensure 1 within 9 by { } else by { } else error;
--     } else by { } else error; } }
--     end.
abbrev pub nested_tree : Tree
nested_tree =
    let alternate_1 = block (when (two Eq (of "i") (whole 1)) (block (Failure ∷ [])) ∷ []) in
    let alternate_2 = block (converse "D" 7 (whole 1) 9 (alternate_1 ∷ block (Failure ∷ []) ∷ []) ∷ []) in
    let alternate_3 = block (assign "a" (two Add (of "a") (whole 1)) ∷ []) in
    let conversed_1 = converse "C" 6 (whole 1) 30 (alternate_2 ∷ alternate_3 ∷ []) in
    let loop_1 = Loop (two Lt (of "i") (whole 2)) (block (assign "i" (two Add (of "i") (whole 1)) ∷ conversed_1 ∷ [])) in
    let alternate_4 = block (converse "D" 12 (whole 1) 9 (block [] ∷ block [] ∷ []) ∷ []) in
    let conversed_2 = converse "C" 11 (whole 1) 30 (alternate_4 ∷ block [] ∷ []) in
    let loop_2 = Loop (two Lt (of "j") (whole 2)) (block (assign "j" (two Add (of "j") (whole 1)) ∷ conversed_2 ∷ [])) in
    let process_p = process_called "p" (scalar "i" ∷ scalar "a" ∷ []) [] (loop_1 ∷ []) in
    let process_q = process_called "q" (scalar "j" ∷ []) [] (loop_2 ∷ []) in
    program_called "n" []
    (conversation_called "C" (called "p" ∷ called "q" ∷ []) ∷ conversation_called "D" (called "p" ∷ called "q" ∷ []) ∷ [])
    (process_p ∷ process_q ∷ [])

abbrev pub NestedConversation : Type 0
NestedConversation =
    run_text nested_tree (rounds 23 2)
    ≡ codes "15 reject D 1 by p fail\n19 reject D 2 by p fail\n19 reject C 1 by p inner\n25 pass C 2\n41 pass D 1\n43 pass C 1\n44 done q\n45 done p\nend 46\np done\np.i = 2\np.a = 1\nq done\nq.j = 2\n"

--     program w; conversation C (p, q);
--     process p { var a; converse C ensure 0 within 9 by { a := 1; } else error; }
--     process q { var b; b := 2; converse C ensure 1 within 9 by { b := 3; } else error; } end.
abbrev pub broken_tree : Tree
broken_tree =
    let conversed_1 = converse "C" 2 (whole 0) 9 (block (assign "a" (whole 1) ∷ []) ∷ []) in
    let conversed_2 = converse "C" 3 (whole 1) 9 (block (assign "b" (whole 3) ∷ []) ∷ []) in
    let process_p = process_called "p" (scalar "a" ∷ []) [] (conversed_1 ∷ []) in
    let process_q = process_called "q" (scalar "b" ∷ []) [] (assign "b" (whole 2) ∷ conversed_2 ∷ []) in
    program_called "w" [] (conversation_called "C" (called "p" ∷ called "q" ∷ []) ∷ []) (process_p ∷ process_q ∷ [])

abbrev pub BrokenConversation : Type 0
BrokenConversation =
    run_text broken_tree (times 4 first ++ times 3 second)
    ≡ codes "4 reject C 1 by p test\n4 error p inner\n6 error q broken\nend 7\np failed\np.a = 0\nq failed\nq.b = 2\n"

--     program b;
--     conversation C (p, q, r);
--     process p { print "p"; converse C ensure 0 within 9 by { print "in"; } else error; print "no"; }
--     process q { var a; a := 1; converse C ensure 1 within 9 by { a := 2; } else error; }
--     process r { var a; while a < 2 { a := a + 1; converse C ensure 1 within 9 by { } else error; } }
--     end.
abbrev pub broken_for_three_tree : Tree
broken_for_three_tree =
    let conversed_1 = converse "C" 3 (whole 0) 9 (block (print (written "in" ∷ []) ∷ []) ∷ []) in
    let conversed_2 = converse "C" 4 (whole 1) 9 (block (assign "a" (whole 2) ∷ []) ∷ []) in
    let body_1 = block (assign "a" (two Add (of "a") (whole 1)) ∷ converse "C" 5 (whole 1) 9 (block [] ∷ []) ∷ []) in
    let process_p = process_called "p" [] [] (print (written "p" ∷ []) ∷ conversed_1 ∷ print (written "no" ∷ []) ∷ []) in
    let process_q = process_called "q" (scalar "a" ∷ []) [] (assign "a" (whole 1) ∷ conversed_2 ∷ []) in
    let process_r = process_called "r" (scalar "a" ∷ []) [] (Loop (two Lt (of "a") (whole 2)) body_1 ∷ []) in
    program_called "b" [] (conversation_called "C" (called "p" ∷ called "q" ∷ called "r" ∷ []) ∷ []) (process_p ∷ process_q ∷ process_r ∷ [])

-- All that are inside fail together; who enters later fails then.
abbrev pub BrokenForThree : Type 0
BrokenForThree =
    run_text broken_for_three_tree (times 1 first ++ times 4 second ++ times 4 first ++ times 4 third)
    ≡ codes "1 out p p\n9 reject C 1 by p test\n9 error p inner\n9 error q inner\n12 error r broken\nend 13\np failed\nq failed\nq.a = 1\nr failed\nr.a = 1\n"

--     program o;
--     conversation C (p, q);
--     process p { var a; converse C ensure 1 within 3 by { a := 1; } else by { a := 2; } else error; }
--     process q { var b; b := 1; b := 2; b := 3; converse C ensure 1 within 9 by { } else by { } else error; }
--     end.
abbrev pub overrun_at_the_line_tree : Tree
overrun_at_the_line_tree =
    let conversed_1 = converse "C" 3 (whole 1) 3 (block (assign "a" (whole 1) ∷ []) ∷ block (assign "a" (whole 2) ∷ []) ∷ []) in
    let conversed_2 = converse "C" 4 (whole 1) 9 (block [] ∷ block [] ∷ []) in
    let process_p = process_called "p" (scalar "a" ∷ []) [] (conversed_1 ∷ []) in
    let process_q = process_called "q" (scalar "b" ∷ []) [] (assign "b" (whole 1) ∷ assign "b" (whole 2) ∷ assign "b" (whole 3) ∷ conversed_2 ∷ []) in
    program_called "o" [] (conversation_called "C" (called "p" ∷ called "q" ∷ []) ∷ []) (process_p ∷ process_q ∷ [])

-- A process that waits at the test line uses turns.
abbrev pub OverrunAtTheLine : Type 0
OverrunAtTheLine =
    run_text overrun_at_the_line_tree (times 8 first ++ times 6 second)
    ≡ codes "5 reject C 1 by p overrun\n14 pass C 2\n14 done p\n14 done q\nend 14\np done\np.a = 2\nq done\nq.b = 3\n"

--     program u;
--     conversation C (p, q);
--     process p { converse C ensure 1 within 20 by { ensure 0 within 9 by { } else error; } else by { } else error; }
--     process q { var b; converse C ensure 1 within 20 by { b := 1; } else by { b := b + 2; } else error; }
--     end.
abbrev pub exhausted_inside_tree : Tree
exhausted_inside_tree =
    let conversed_1 = converse "C" 3 (whole 1) 20 (block (ensure 3 (whole 0) 9 (block [] ∷ []) ∷ []) ∷ block [] ∷ []) in
    let alternate_1 = block (assign "b" (whole 1) ∷ []) in
    let alternate_2 = block (assign "b" (two Add (of "b") (whole 2)) ∷ []) in
    let process_p = process_called "p" [] [] (conversed_1 ∷ []) in
    let process_q = process_called "q" (scalar "b" ∷ []) [] (converse "C" 4 (whole 1) 20 (alternate_1 ∷ alternate_2 ∷ []) ∷ []) in
    program_called "u" [] (conversation_called "C" (called "p" ∷ called "q" ∷ []) ∷ []) (process_p ∷ process_q ∷ [])

-- A block inside that has no alternate left fails the conversation's alternate, for all members.
abbrev pub ExhaustedInside : Type 0
ExhaustedInside =
    run_text exhausted_inside_tree (rounds 7 2)
    ≡ codes "9 reject p ensure 3 1 test\n9 reject C 1 by p inner\n14 pass C 2\n14 done p\n14 done q\nend 14\np done\nq done\nq.b = 2\n"

--     program i;
--     conversation C (p, q);
--     process p { converse C ensure 1 within 20 by { fail; } else by { } else error; }
--     process q { var a;
--     converse C ensure 1 within 6 by { a := 1; ensure 1 within 9 by { a := a + 1; print "x"; } else error; }
--     else by { print "y", a; } else error; }
--     end.
abbrev pub undone_inside_tree : Tree
undone_inside_tree =
    let ensured_1 = ensure 5 (whole 1) 9 (block (assign "a" (two Add (of "a") (whole 1)) ∷ print (written "x" ∷ []) ∷ []) ∷ []) in
    let alternate_1 = block (assign "a" (whole 1) ∷ ensured_1 ∷ []) in
    let alternate_2 = block (print (written "y" ∷ shown (of "a") ∷ []) ∷ []) in
    let process_p = process_called "p" [] [] (converse "C" 3 (whole 1) 20 (block (Failure ∷ []) ∷ block [] ∷ []) ∷ []) in
    let process_q = process_called "q" (scalar "a" ∷ []) [] (converse "C" 5 (whole 1) 6 (alternate_1 ∷ alternate_2 ∷ []) ∷ []) in
    program_called "i" [] (conversation_called "C" (called "p" ∷ called "q" ∷ []) ∷ []) (process_p ∷ process_q ∷ [])

-- A member goes back out of a block that it has open inside, and its turns are counted anew.
abbrev pub UndoneInside : Type 0
UndoneInside =
    run_text undone_inside_tree (times 6 second ++ times 3 first ++ times 3 second ++ times 2 first)
    ≡ codes "9 reject C 1 by p fail\n14 pass C 2\n14 out q y 0\n14 done p\n14 done q\nend 14\np done\nq done\nq.a = 0\n"

--     program n;
--     conversation C (p, q);
--     conversation D (p, q);
--     process p { var i;
--     while i < 2 { i := i + 1;
--     converse C ensure 1 within 8 by {
--     converse D ensure i > 1 within 30 by { } else by { while 1 { } } else error;
--     } else by { } else error; } }
--     process q { var j;
--     while j < 2 { j := j + 1;
--     converse C ensure 1 within 30 by {
--     converse D ensure 1 within 30 by { } else by { } else error;
--     } else by { } else error; } }
--     end.
abbrev pub first_again_tree : Tree
first_again_tree =
    let conversed_1 = converse "D" 7 (two Gt (of "i") (whole 1)) 30 (block [] ∷ block (Loop (whole 1) (block []) ∷ []) ∷ []) in
    let conversed_2 = converse "C" 6 (whole 1) 8 (block (conversed_1 ∷ []) ∷ block [] ∷ []) in
    let loop_1 = Loop (two Lt (of "i") (whole 2)) (block (assign "i" (two Add (of "i") (whole 1)) ∷ conversed_2 ∷ [])) in
    let alternate_1 = block (converse "D" 12 (whole 1) 30 (block [] ∷ block [] ∷ []) ∷ []) in
    let conversed_3 = converse "C" 11 (whole 1) 30 (alternate_1 ∷ block [] ∷ []) in
    let loop_2 = Loop (two Lt (of "j") (whole 2)) (block (assign "j" (two Add (of "j") (whole 1)) ∷ conversed_3 ∷ [])) in
    let process_p = process_called "p" (scalar "i" ∷ []) [] (loop_1 ∷ []) in
    let process_q = process_called "q" (scalar "j" ∷ []) [] (loop_2 ∷ []) in
    program_called "n" []
    (conversation_called "C" (called "p" ∷ called "q" ∷ []) ∷ conversation_called "D" (called "p" ∷ called "q" ∷ []) ∷ [])
    (process_p ∷ process_q ∷ [])

-- A conversation inside one that went back begins at alternate 1 again.
abbrev pub FirstAgain : Type 0
FirstAgain =
    run_text first_again_tree (rounds 23 2)
    ≡ codes "13 reject D 1 by p test\n23 reject C 1 by p overrun\n27 pass C 2\n41 pass D 1\n43 pass C 1\n44 done q\n45 done p\nend 46\np done\np.i = 2\nq done\nq.j = 2\n"

--     program n;
--     conversation C (p, q);
--     conversation D (p, q);
--     conversation E (p, q);
--     process p { var i;
--     while i < 2 { i := i + 1;
--     converse C ensure 1 within 10 by {
--     converse D ensure 1 within 40 by {
--     converse E ensure i > 1 within 40 by { } else by { while 1 { } } else error;
--     } else error;
--     } else by { } else error; } }
--     process q { var j;
--     while j < 2 { j := j + 1;
--     converse C ensure 1 within 40 by {
--     converse D ensure 1 within 40 by {
--     converse E ensure 1 within 40 by { } else by { } else error;
--     } else error;
--     } else by { } else error; } }
--     end.
abbrev pub first_again_further_tree : Tree
first_again_further_tree =
    let conversed_1 = converse "E" 9 (two Gt (of "i") (whole 1)) 40 (block [] ∷ block (Loop (whole 1) (block []) ∷ []) ∷ []) in
    let alternate_1 = block (converse "D" 8 (whole 1) 40 (block (conversed_1 ∷ []) ∷ []) ∷ []) in
    let conversed_2 = converse "C" 7 (whole 1) 10 (alternate_1 ∷ block [] ∷ []) in
    let loop_1 = Loop (two Lt (of "i") (whole 2)) (block (assign "i" (two Add (of "i") (whole 1)) ∷ conversed_2 ∷ [])) in
    let conversed_3 = converse "D" 15 (whole 1) 40 (block (converse "E" 16 (whole 1) 40 (block [] ∷ block [] ∷ []) ∷ []) ∷ []) in
    let conversed_4 = converse "C" 14 (whole 1) 40 (block (conversed_3 ∷ []) ∷ block [] ∷ []) in
    let loop_2 = Loop (two Lt (of "j") (whole 2)) (block (assign "j" (two Add (of "j") (whole 1)) ∷ conversed_4 ∷ [])) in
    let process_p = process_called "p" (scalar "i" ∷ []) [] (loop_1 ∷ []) in
    let process_q = process_called "q" (scalar "j" ∷ []) [] (loop_2 ∷ []) in
    program_called "n" []
    (conversation_called "C" (called "p" ∷ called "q" ∷ []) ∷ conversation_called "D" (called "p" ∷ called "q" ∷ [])
    ∷ conversation_called "E" (called "p" ∷ called "q" ∷ []) ∷ [])
    (process_p ∷ process_q ∷ [])

-- So does one further inside.
abbrev pub FirstAgainFurther : Type 0
FirstAgainFurther =
    run_text first_again_further_tree (rounds 28 2)
    ≡ codes "17 reject E 1 by p test\n27 reject C 1 by p overrun\n31 pass C 2\n49 pass E 1\n51 pass D 1\n53 pass C 1\n54 done q\n55 done p\nend 56\np done\np.i = 2\nq done\nq.j = 2\n"

--     program t;
--     conversation D (r, q);
--     conversation C (p, q, r);
--     process p { var a; converse C ensure 1 within 30 by { a := a + 1; } else by { a := 9; } else error; }
--     process q {
--     converse C ensure 1 within 30 by {
--     converse D ensure 1 within 9 by { fail; } else by { } else error;
--     } else by { } else error; }
--     process r { var a;
--     converse C ensure 1 within 30 by {
--     converse D ensure 1 within 9 by { a := 1; } else by { a := a + 2; } else error;
--     print "r", a;
--     } else by { } else error; }
--     end.
abbrev pub fewer_inside_tree : Tree
fewer_inside_tree =
    let alternate_1 = block (assign "a" (two Add (of "a") (whole 1)) ∷ []) in
    let alternate_2 = block (assign "a" (whole 9) ∷ []) in
    let alternate_3 = block (converse "D" 7 (whole 1) 9 (block (Failure ∷ []) ∷ block [] ∷ []) ∷ []) in
    let alternate_4 = block (assign "a" (whole 1) ∷ []) in
    let alternate_5 = block (assign "a" (two Add (of "a") (whole 2)) ∷ []) in
    let conversed_1 = converse "D" 11 (whole 1) 9 (alternate_4 ∷ alternate_5 ∷ []) in
    let alternate_6 = block (conversed_1 ∷ print (written "r" ∷ shown (of "a") ∷ []) ∷ []) in
    let process_p = process_called "p" (scalar "a" ∷ []) [] (converse "C" 4 (whole 1) 30 (alternate_1 ∷ alternate_2 ∷ []) ∷ []) in
    let process_q = process_called "q" [] [] (converse "C" 6 (whole 1) 30 (alternate_3 ∷ block [] ∷ []) ∷ []) in
    let process_r = process_called "r" (scalar "a" ∷ []) [] (converse "C" 10 (whole 1) 30 (alternate_6 ∷ block [] ∷ []) ∷ []) in
    program_called "t" []
    (conversation_called "D" (called "r" ∷ called "q" ∷ []) ∷ conversation_called "C" (called "p" ∷ called "q" ∷ called "r" ∷ []) ∷ [])
    (process_p ∷ process_q ∷ process_r ∷ [])

-- A rejection of D leaves p, which is in C alone, where it stands.
abbrev pub FewerInside : Type 0
FewerInside =
    run_text fewer_inside_tree (rounds 9 3)
    ≡ codes "14 reject D 1 by q fail\n21 pass D 2\n27 pass C 1\n27 out r r 2\n27 done p\n27 done q\n27 done r\nend 27\np done\np.a = 1\nq done\nr done\nr.a = 2\n"

--     program m;
--     channel c from p to q size 1;
--     conversation C (p, q);
--     process p { converse C ensure 1 within 20 by { ensure 1 within 9 by { send c 3; } else error; } else error; }
--     process q { var b; converse C ensure b = 3 within 20 by { receive c b; } else error; }
--     end.
abbrev pub private_inside_tree : Tree
private_inside_tree =
    let conversed_1 = converse "C" 4 (whole 1) 20 (block (ensure 4 (whole 1) 9 (block (send "c" (whole 3) ∷ []) ∷ []) ∷ []) ∷ []) in
    let conversed_2 = converse "C" 5 (two Eq (of "b") (whole 3)) 20 (block (receive "c" (variable "b") ∷ []) ∷ []) in
    let process_p = process_called "p" [] [] (conversed_1 ∷ []) in
    let process_q = process_called "q" (scalar "b" ∷ []) [] (conversed_2 ∷ []) in
    program_called "m" (channel_called "c" "p" "q" 1 ∷ []) (conversation_called "C" (called "p" ∷ called "q" ∷ []) ∷ []) (process_p ∷ process_q ∷ [])

-- A message from a block inside is seen by the members once the block is accepted.
abbrev pub PrivateInside : Type 0
PrivateInside =
    run_text private_inside_tree (rounds 7 2)
    ≡ codes "14 pass C 1\n14 done p\n14 done q\nend 14\np done\nq done\nq.b = 3\nc sent 1 taken 1\n"

--     edition 2; program d;
--     channel c from p to q size 4;
--     conversation C (p, q);
--     conversation D (p, q);
--     process p { converse C ensure 1 within 30 by { converse D ensure 1 within 20 by { send c 5; } else error; } else error; }
--     process q { var a;
--     converse C ensure 1 within 30 by { receive c a else { a := 1; } print a;
--     converse D ensure 1 within 20 by { receive c a else { } } else error; } else error;
--     print a; }
--     end.
abbrev pub not_yet_inside_tree : Tree
not_yet_inside_tree =
    let alternate_1 = block (converse "D" 5 (whole 1) 20 (block (send "c" (whole 5) ∷ []) ∷ []) ∷ []) in
    let receipt_1 = receive_else "c" (variable "a") (block (assign "a" (whole 1) ∷ [])) in
    let conversed_1 = converse "D" 8 (whole 1) 20 (block (receive_else "c" (variable "a") (block []) ∷ []) ∷ []) in
    let conversed_2 = converse "C" 7 (whole 1) 30 (block (receipt_1 ∷ print (shown (of "a") ∷ []) ∷ conversed_1 ∷ []) ∷ []) in
    let process_p = process_called "p" [] [] (converse "C" 5 (whole 1) 30 (alternate_1 ∷ []) ∷ []) in
    let process_q = process_called "q" (scalar "a" ∷ []) [] (conversed_2 ∷ print (shown (of "a") ∷ []) ∷ []) in
    program_of_edition_2 "d" (channel_called "c" "p" "q" 4 ∷ [])
    (conversation_called "C" (called "p" ∷ called "q" ∷ []) ∷ conversation_called "D" (called "p" ∷ called "q" ∷ []) ∷ [])
    (process_p ∷ process_q ∷ [])

-- A message from a conversation is seen by a member once it has entered.
abbrev pub NotYetInside : Type 0
NotYetInside =
    run_text not_yet_inside_tree (times 6 first ++ times 10 second ++ times 1 first ++ times 1 second)
    ≡ codes "15 pass D 1\n17 pass C 1\n17 out q 1\n17 done p\n18 out q 5\n18 done q\nend 18\np done\nq done\nq.a = 5\nc sent 1 taken 1\n"

--     program f;
--     channel c from p to q size 1;
--     conversation C (p, q);
--     process p {
--     converse C ensure 1 within 6 by { send c 1; send c 2; } else by { send c 3; } else error; send c 4; }
--     process q { var a; var b;
--     converse C ensure 1 within 20 by { receive c a; } else by { receive c a; } else error; receive c b; }
--     end.
abbrev pub full_channel_inside_tree : Tree
full_channel_inside_tree =
    let alternate_1 = block (send "c" (whole 1) ∷ send "c" (whole 2) ∷ []) in
    let alternate_2 = block (send "c" (whole 3) ∷ []) in
    let conversed_1 = converse "C" 5 (whole 1) 6 (alternate_1 ∷ alternate_2 ∷ []) in
    let alternate_3 = block (receive "c" (variable "a") ∷ []) in
    let alternate_4 = block (receive "c" (variable "a") ∷ []) in
    let conversed_2 = converse "C" 7 (whole 1) 20 (alternate_3 ∷ alternate_4 ∷ []) in
    let process_p = process_called "p" [] [] (conversed_1 ∷ send "c" (whole 4) ∷ []) in
    let process_q = process_called "q" (scalar "a" ∷ scalar "b" ∷ []) [] (conversed_2 ∷ receive "c" (variable "b") ∷ []) in
    program_called "f" (channel_called "c" "p" "q" 1 ∷ []) (conversation_called "C" (called "p" ∷ called "q" ∷ []) ∷ []) (process_p ∷ process_q ∷ [])

-- A receipt inside frees its slot at the pass, and messages that went back are sent anew.
abbrev pub FullChannelInside : Type 0
FullChannelInside =
    run_text full_channel_inside_tree (rounds 12 2)
    ≡ codes "15 reject C 1 by p overrun\n22 pass C 2\n23 done p\n24 done q\nend 24\np done\nq done\nq.a = 3\nq.b = 4\nc sent 2 taken 2\n"
