-- Recovery blocks of one process.
use Rattle.std.specs.Prelude.{◌≡◌, [], ◌∷◌, codes}
use Rattle.rb_syntax.specs.declared.expression.Op.TheVariants.{And, Eq, Lt, Gt, Add, Sub, Mul}
use Rattle.rb_syntax.specs.Tree.{Chained, NoLink, Linked, Loop, Tree}
use Rattle.rb_meaning.specs.Meaning.{run_text}
use Rattle.rb_meaning.specs.Rows.Build.{array, assign, assign_at, at, block, block_with, called, ensure, first, invoke, of, print, prior, procedure_called, process_called, program_called, scalar, shown, times, two, whole, written}

--     program a; process p { var x; x := 1; print "x", x; } end.
abbrev pub smallest_tree : Tree
smallest_tree =
    let printing_1 = print (written "x" ∷ shown (of "x") ∷ []) in
    let process_p = process_called "p" (scalar "x" ∷ []) [] (assign "x" (whole 1) ∷ printing_1 ∷ []) in
    program_called "a" [] [] (process_p ∷ [])

-- Two turns, in one line of a schedule or in two.
abbrev pub Smallest : Type 0
Smallest =
    run_text smallest_tree (times 2 first)
    ≡ codes "2 out p x 1\n2 done p\nend 2\np done\np.x = 1\n"

--     program a; process p { } end.
abbrev pub empty_tree : Tree
empty_tree =
    program_called "a" [] [] (process_called "p" [] [] [] ∷ [])

abbrev pub Empty : Type 0
Empty =
    run_text empty_tree []
    ≡ codes "0 done p\nend 0\np done\n"

--     program r; process p {
--     var x;
--     x := 5;
--     ensure x > 6 within 9
--     by { x := x + 1; print "one"; }
--     else by { x := x + 2; print "two"; }
--     else error; } end.
abbrev pub one_rejection_tree : Tree
one_rejection_tree =
    let alternate_1 = block (assign "x" (two Add (of "x") (whole 1)) ∷ print (written "one" ∷ []) ∷ []) in
    let alternate_2 = block (assign "x" (two Add (of "x") (whole 2)) ∷ print (written "two" ∷ []) ∷ []) in
    let ensured_1 = ensure 4 (two Gt (of "x") (whole 6)) 9 (alternate_1 ∷ alternate_2 ∷ []) in
    let process_p = process_called "p" (scalar "x" ∷ []) [] (assign "x" (whole 5) ∷ ensured_1 ∷ []) in
    program_called "r" [] [] (process_p ∷ [])

-- Nothing is printed of the alternate that was undone. Turns after the end are idle.
abbrev pub OneRejection : Type 0
OneRejection =
    run_text one_rejection_tree (times 20 first)
    ≡ codes "6 reject p ensure 4 1 test\n10 out p two\n10 done p\nend 20\np done\np.x = 7\n"

--     program m; process p { var x; var y;
--     x := 1;
--     ensure x = 10 within 30 by {
--       x := 2;
--       ensure 1 within 9 by { x := 3; y := 4; x := 5; } else error;
--       y := x;
--     } else by { y := x + y; x := 10; } else error;
--     } end.
abbrev pub merge_tree : Tree
merge_tree =
    let ensured_1 = ensure 5 (whole 1) 9 (block (assign "x" (whole 3) ∷ assign "y" (whole 4) ∷ assign "x" (whole 5) ∷ []) ∷ []) in
    let alternate_1 = block (assign "x" (whole 2) ∷ ensured_1 ∷ assign "y" (of "x") ∷ []) in
    let alternate_2 = block (assign "y" (two Add (of "x") (of "y")) ∷ assign "x" (whole 10) ∷ []) in
    let ensured_2 = ensure 3 (two Eq (of "x") (whole 10)) 30 (alternate_1 ∷ alternate_2 ∷ []) in
    let process_p = process_called "p" (scalar "x" ∷ scalar "y" ∷ []) [] (assign "x" (whole 1) ∷ ensured_2 ∷ []) in
    program_called "m" [] [] (process_p ∷ [])

-- The outer level is undone after the inner one was accepted: y is 0 again, and x is 1.
abbrev pub Merge : Type 0
Merge =
    run_text merge_tree (times 40 first)
    ≡ codes "12 reject p ensure 3 1 test\n16 done p\nend 40\np done\np.x = 10\np.y = 1\n"

--     program q; process p { var x;
--     x := 4;
--     ensure x = prior x + 1 within 20 by {
--       ensure x > prior x within 9 by { x := x + 3; } else error;
--       x := x - 2;
--     } else error;
--     print x; } end.
abbrev pub prior_tree : Tree
prior_tree =
    let ensured_1 = ensure 4 (two Gt (of "x") (prior "x")) 9 (block (assign "x" (two Add (of "x") (whole 3)) ∷ []) ∷ []) in
    let alternate_1 = block (ensured_1 ∷ assign "x" (two Sub (of "x") (whole 2)) ∷ []) in
    let ensured_2 = ensure 3 (two Eq (of "x") (two Add (prior "x") (whole 1))) 20 (alternate_1 ∷ []) in
    let printing_1 = print (shown (of "x") ∷ []) in
    let process_p = process_called "p" (scalar "x" ∷ []) [] (assign "x" (whole 4) ∷ ensured_2 ∷ printing_1 ∷ []) in
    program_called "q" [] [] (process_p ∷ [])

abbrev pub PriorAcrossAMerge : Type 0
PriorAcrossAMerge =
    run_text prior_tree (times 10 first)
    ≡ codes "10 out p 5\n10 done p\nend 10\np done\np.x = 5\n"

--     program e; process p { var x;
--     x := 3;
--     ensure x = 0 within 5 by { x := 8; } else by { x := x + 1; } else error;
--     x := 99; } end.
abbrev pub exhausted_tree : Tree
exhausted_tree =
    let alternate_1 = block (assign "x" (whole 8) ∷ []) in
    let alternate_2 = block (assign "x" (two Add (of "x") (whole 1)) ∷ []) in
    let ensured_1 = ensure 3 (two Eq (of "x") (whole 0)) 5 (alternate_1 ∷ alternate_2 ∷ []) in
    let process_p = process_called "p" (scalar "x" ∷ []) [] (assign "x" (whole 3) ∷ ensured_1 ∷ assign "x" (whole 99) ∷ []) in
    program_called "e" [] [] (process_p ∷ [])

abbrev pub Exhausted : Type 0
Exhausted =
    run_text exhausted_tree (times 9 first)
    ≡ codes "5 reject p ensure 3 1 test\n8 reject p ensure 3 2 test\n8 error p inner\nend 9\np failed\np.x = 3\n"

--     program b; process p { var x;
--     ensure x = 1 within 3 by { while 1 { x := 1; } }
--     else by { x := 1; } else error; } end.
abbrev pub bound_tree : Tree
bound_tree =
    let alternate_1 = block (Loop (whole 1) (block (assign "x" (whole 1) ∷ [])) ∷ []) in
    let alternate_2 = block (assign "x" (whole 1) ∷ []) in
    let ensured_1 = ensure 2 (two Eq (of "x") (whole 1)) 3 (alternate_1 ∷ alternate_2 ∷ []) in
    program_called "b" [] [] (process_called "p" (scalar "x" ∷ []) [] (ensured_1 ∷ []) ∷ [])

-- An alternate may use as many turns as its bound says; one more is an overrun.
abbrev pub TheBound : Type 0
TheBound =
    run_text bound_tree (times 8 first)
    ≡ codes "5 reject p ensure 2 1 overrun\n8 done p\nend 8\np done\np.x = 1\n"

--     program o; process p { var x;
--     ensure 1 within 12 by {
--       ensure x = 9 within 5 by { x := 1; x := 2; x := 3; }
--       else by { x := 4; x := 5; x := 6; } else by { x := 9; } else error;
--     } else by { x := 7; } else error; } end.
abbrev pub outer_bound_tree : Tree
outer_bound_tree =
    let alternate_1 = block (assign "x" (whole 1) ∷ assign "x" (whole 2) ∷ assign "x" (whole 3) ∷ []) in
    let alternate_2 = block (assign "x" (whole 4) ∷ assign "x" (whole 5) ∷ assign "x" (whole 6) ∷ []) in
    let alternate_3 = block (assign "x" (whole 9) ∷ []) in
    let alternate_4 = block (ensure 3 (two Eq (of "x") (whole 9)) 5 (alternate_1 ∷ alternate_2 ∷ alternate_3 ∷ []) ∷ []) in
    let alternate_5 = block (assign "x" (whole 7) ∷ []) in
    let process_p = process_called "p" (scalar "x" ∷ []) [] (ensure 2 (whole 1) 12 (alternate_4 ∷ alternate_5 ∷ []) ∷ []) in
    program_called "o" [] [] (process_p ∷ [])

abbrev pub OuterBound : Type 0
OuterBound =
    run_text outer_bound_tree (times 17 first)
    ≡ codes "8 reject p ensure 3 1 test\n13 reject p ensure 3 2 test\n14 reject p ensure 2 1 overrun\n17 done p\nend 17\np done\np.x = 7\n"

--     program t; process p { var x;
--     ensure x > 0 within 5 by {
--     ensure x = 1 within 3 by { x := 1; x := 2; x := 3; } else by { x := 1; } else error; }
--     else by { x := 7; } else error; } end.
abbrev pub two_bounds_tree : Tree
two_bounds_tree =
    let alternate_1 = block (assign "x" (whole 1) ∷ assign "x" (whole 2) ∷ assign "x" (whole 3) ∷ []) in
    let alternate_2 = block (assign "x" (whole 1) ∷ []) in
    let alternate_3 = block (ensure 3 (two Eq (of "x") (whole 1)) 3 (alternate_1 ∷ alternate_2 ∷ []) ∷ []) in
    let alternate_4 = block (assign "x" (whole 7) ∷ []) in
    let ensured_1 = ensure 2 (two Gt (of "x") (whole 0)) 5 (alternate_3 ∷ alternate_4 ∷ []) in
    program_called "t" [] [] (process_called "p" (scalar "x" ∷ []) [] (ensured_1 ∷ []) ∷ [])

-- Where two levels are beyond their bounds in one turn, the outer one is rejected.
abbrev pub TwoBounds : Type 0
TwoBounds =
    run_text two_bounds_tree (times 10 first)
    ≡ codes "7 reject p ensure 2 1 overrun\n10 done p\nend 10\np done\np.x = 7\n"

--     program sums; process p { var a[3]; var i; var s;
--     procedure add(k) { s := s + k; }
--     while i < 3 { a[i] := i * i + 1; i := i + 1; }
--     i := 0;
--     ensure s = a[0] + a[1] + a[2] and i = prior i within 40
--     by { while i < 3 { call add(a[i]); i := i + 1; } print "loop", s; }
--     else by { var t; t := a[0] + a[1]; call add(t + a[2]); print "direct", s; }
--     else error; print s; } end.
abbrev pub as_a_user_tree : Tree
as_a_user_tree =
    let assigned_1 = assign_at "a" (of "i") (two Add (two Mul (of "i") (of "i")) (whole 1)) in
    let assigned_2 = assign "i" (two Add (of "i") (whole 1)) in
    let sum_1 = Chained (at "a" (whole 0)) (Linked Add (at "a" (whole 1)) (Linked Add (at "a" (whole 2)) NoLink)) in
    let body_1 = block (invoke "add" (at "a" (of "i") ∷ []) ∷ assign "i" (two Add (of "i") (whole 1)) ∷ []) in
    let invoked_1 = invoke "add" (two Add (of "t") (at "a" (whole 2)) ∷ []) in
    let printing_1 = print (written "direct" ∷ shown (of "s") ∷ []) in
    let assigned_3 = assign "t" (two Add (at "a" (whole 0)) (at "a" (whole 1))) in
    let alternate_1 = block (Loop (two Lt (of "i") (whole 3)) body_1 ∷ print (written "loop" ∷ shown (of "s") ∷ []) ∷ []) in
    let alternate_2 = block_with (scalar "t" ∷ []) (assigned_3 ∷ invoked_1 ∷ printing_1 ∷ []) in
    let procedure_add = procedure_called "add" (called "k" ∷ []) (block (assign "s" (two Add (of "s") (of "k")) ∷ [])) in
    let loop_1 = Loop (two Lt (of "i") (whole 3)) (block (assigned_1 ∷ assigned_2 ∷ [])) in
    let ensured_1 = ensure 5 (two And (two Eq (of "s") sum_1) (two Eq (of "i") (prior "i"))) 40 (alternate_1 ∷ alternate_2 ∷ []) in
    let printing_2 = print (shown (of "s") ∷ []) in
    let process_p =
    process_called "p" (array "a" 3 ∷ scalar "i" ∷ scalar "s" ∷ []) (procedure_add ∷ [])
    (loop_1 ∷ assign "i" (whole 0) ∷ ensured_1 ∷ printing_2 ∷ []) in
    program_called "sums" [] [] (process_p ∷ [])

abbrev pub AsAUserWritesIt : Type 0
AsAUserWritesIt =
    run_text as_a_user_tree (times 50 first)
    ≡ codes "28 reject p ensure 5 1 test\n34 out p direct 8\n35 out p 8\n35 done p\nend 50\np done\np.a = 1 2 5\np.i = 0\np.s = 8\n"

--     program a; process p { var x; var y;
--     ensure 1 within 20 by { x := 1;
--     ensure 0 within 9 by { x := 2; } else error; }
--     else by { y := x + 1; } else error; } end.
abbrev pub cascade_tree : Tree
cascade_tree =
    let alternate_1 = block (assign "x" (whole 1) ∷ ensure 3 (whole 0) 9 (block (assign "x" (whole 2) ∷ []) ∷ []) ∷ []) in
    let alternate_2 = block (assign "y" (two Add (of "x") (whole 1)) ∷ []) in
    let ensured_1 = ensure 2 (whole 1) 20 (alternate_1 ∷ alternate_2 ∷ []) in
    program_called "a" [] [] (process_called "p" (scalar "x" ∷ scalar "y" ∷ []) [] (ensured_1 ∷ []) ∷ [])

-- A block without an alternate left fails the alternate around it.
abbrev pub Cascade : Type 0
Cascade =
    run_text cascade_tree (times 10 first)
    ≡ codes "7 reject p ensure 3 1 test\n7 reject p ensure 2 1 inner\n10 done p\nend 10\np done\np.x = 0\np.y = 1\n"

--     program a; process p { var x;
--     procedure f(n) { var t; t := n;
--     ensure t = prior n + 2 within 20 by { n := 9; t := 8; } else by { var t; t := 7; } else by { t := t + 2; } else error;
--     x := x * 10 + t; }
--     call f(3); call f(1); } end.
abbrev pub inside_a_call_tree : Tree
inside_a_call_tree =
    let alternate_1 = block (assign "n" (whole 9) ∷ assign "t" (whole 8) ∷ []) in
    let alternate_2 = block_with (scalar "t" ∷ []) (assign "t" (whole 7) ∷ []) in
    let alternate_3 = block (assign "t" (two Add (of "t") (whole 2)) ∷ []) in
    let ensured_1 = ensure 3 (two Eq (of "t") (two Add (prior "n") (whole 2))) 20 (alternate_1 ∷ alternate_2 ∷ alternate_3 ∷ []) in
    let assigned_1 = assign "x" (two Add (two Mul (of "x") (whole 10)) (of "t")) in
    let body_1 = block_with (scalar "t" ∷ []) (assign "t" (of "n") ∷ ensured_1 ∷ assigned_1 ∷ []) in
    let procedure_f = procedure_called "f" (called "n" ∷ []) body_1 in
    let invoked_1 = invoke "f" (whole 3 ∷ []) in
    let invoked_2 = invoke "f" (whole 1 ∷ []) in
    let process_p = process_called "p" (scalar "x" ∷ []) (procedure_f ∷ []) (invoked_1 ∷ invoked_2 ∷ []) in
    program_called "a" [] [] (process_p ∷ [])

-- Parameters and variables of a call go back too; a test sees no variable of an alternate.
abbrev pub InsideACall : Type 0
InsideACall =
    run_text inside_a_call_tree (times 28 first)
    ≡ codes "7 reject p ensure 3 1 test\n10 reject p ensure 3 2 test\n21 reject p ensure 3 1 test\n24 reject p ensure 3 2 test\n28 done p\nend 28\np done\np.x = 53\n"

--     program h; process p { var x; print "a";
--     ensure 1 within 30 by { print "b";
--     ensure x = 1 within 9 by { print "c"; } else by { x := 1; print "d"; } else error;
--     print "e"; } else error;
--     print "f"; } end.
abbrev pub held_lines_tree : Tree
held_lines_tree =
    let alternate_1 = block (print (written "c" ∷ []) ∷ []) in
    let alternate_2 = block (assign "x" (whole 1) ∷ print (written "d" ∷ []) ∷ []) in
    let ensured_1 = ensure 3 (two Eq (of "x") (whole 1)) 9 (alternate_1 ∷ alternate_2 ∷ []) in
    let ensured_2 = ensure 2 (whole 1) 30 (block (print (written "b" ∷ []) ∷ ensured_1 ∷ print (written "e" ∷ []) ∷ []) ∷ []) in
    let printing_1 = print (written "a" ∷ []) in
    let printing_2 = print (written "f" ∷ []) in
    let process_p = process_called "p" (scalar "x" ∷ []) [] (printing_1 ∷ ensured_2 ∷ printing_2 ∷ []) in
    program_called "h" [] [] (process_p ∷ [])

-- Lines are held until the outermost block is accepted; those of an undone alternate are gone.
abbrev pub HeldLines : Type 0
HeldLines =
    run_text held_lines_tree (times 15 first)
    ≡ codes "1 out p a\n8 reject p ensure 3 1 test\n14 out p b\n14 out p d\n14 out p e\n15 out p f\n15 done p\nend 15\np done\np.x = 1\n"

--     program a; process p { print ""; print "", 1, ""; } end.
abbrev pub nothing_to_print_tree : Tree
nothing_to_print_tree =
    let printing_1 = print (written "" ∷ []) in
    let printing_2 = print (written "" ∷ shown (whole 1) ∷ written "" ∷ []) in
    program_called "a" [] [] (process_called "p" [] [] (printing_1 ∷ printing_2 ∷ []) ∷ [])

abbrev pub NothingToPrint : Type 0
NothingToPrint =
    run_text nothing_to_print_tree (times 2 first)
    ≡ codes "1 out p \n2 out p  1 \n2 done p\nend 2\np done\n"
