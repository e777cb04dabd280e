-- Expressions, indices and scopes.
use Rattle.std.specs.Prelude.{◌≡◌, [], ◌∷◌, codes}
use Rattle.rb_syntax.specs.declared.expression.Op.TheVariants.{Or, And, Eq, Ne, Lt, Le, Gt, Ge, Add, Sub, Mul, Div, Rem}
use Rattle.rb_syntax.specs.declared.expression.Quantifier.TheVariants.{Every, Any, Total}
use Rattle.rb_syntax.specs.Tree.{Minus, Negation, Chained, NoLink, Linked, Loop, Tree}
use Rattle.rb_meaning.specs.Meaning.{run_text}
use Rattle.rb_meaning.specs.Rows.Build.{array, assign, assign_at, at, block, block_with, called, ensure, first, invoke, of, over_numbers, print, prior, prior_at, procedure_called, process_called, program_called, program_of_edition_2, scalar, shown, times, two, when, when_else, whole}

--     program a; process p { var x; var y; var z;
--     x := 2 or 1 / 0; y := x - 1 and 1 / 0; z := 5 and 7;
--     print x, y, z, 0 or 9, 0 or 0, not 0, not 3;
--     x := 0 or 1 / 0; } end.
abbrev pub short_circuit_tree : Tree
short_circuit_tree =
    let test_1 = two Or (whole 0) (whole 9) in
    let test_2 = two Or (whole 0) (whole 0) in
    let printing_1 =
    print (shown (of "x") ∷ shown (of "y") ∷ shown (of "z") ∷ shown test_1 ∷ shown test_2 ∷ shown (Negation (whole 0))
    ∷ shown (Negation (whole 3)) ∷ []) in
    let assigned_1 = assign "x" (two Or (whole 2) (two Div (whole 1) (whole 0))) in
    let assigned_2 = assign "y" (two And (two Sub (of "x") (whole 1)) (two Div (whole 1) (whole 0))) in
    let assigned_3 = assign "z" (two And (whole 5) (whole 7)) in
    let assigned_4 = assign "x" (two Or (whole 0) (two Div (whole 1) (whole 0))) in
    let process_p =
    process_called "p" (scalar "x" ∷ scalar "y" ∷ scalar "z" ∷ []) []
    (assigned_1 ∷ assigned_2 ∷ assigned_3 ∷ printing_1 ∷ assigned_4 ∷ []) in
    program_called "a" [] [] (process_p ∷ [])

-- The right operand of `and` and `or` is left out where the left one decides.
abbrev pub ShortCircuit : Type 0
ShortCircuit =
    run_text short_circuit_tree (times 5 first)
    ≡ codes "4 out p 1 0 1 1 0 1 0\n5 error p zero\nend 5\np failed\np.x = 1\np.y = 0\np.z = 1\n"

--     program a; process p { var x; var y;
--     x := -9223372036854775807 - 1;
--     print x % -1, -7 / 2, -7 % 2, 7 / -2, 7 % -2;
--     y := 5; y := x / -1; } end.
abbrev pub division_tree : Tree
division_tree =
    let test_1 = two Rem (of "x") (Minus (whole 1)) in
    let test_2 = two Div (Minus (whole 7)) (whole 2) in
    let test_3 = two Rem (Minus (whole 7)) (whole 2) in
    let test_4 = two Div (whole 7) (Minus (whole 2)) in
    let test_5 = two Rem (whole 7) (Minus (whole 2)) in
    let printing_1 = print (shown test_1 ∷ shown test_2 ∷ shown test_3 ∷ shown test_4 ∷ shown test_5 ∷ []) in
    let assigned_1 = assign "x" (two Sub (Minus (whole 9223372036854775807)) (whole 1)) in
    let assigned_2 = assign "y" (two Div (of "x") (Minus (whole 1))) in
    let process_p = process_called "p" (scalar "x" ∷ scalar "y" ∷ []) [] (assigned_1 ∷ printing_1 ∷ assign "y" (whole 5) ∷ assigned_2 ∷ []) in
    program_called "a" [] [] (process_p ∷ [])

-- Quotients are truncated towards zero. The least number has a remainder by -1 and no quotient.
abbrev pub Division : Type 0
Division =
    run_text division_tree (times 4 first)
    ≡ codes "2 out p 0 -3 -1 -3 1\n4 error p overflow\nend 4\np failed\np.x = -9223372036854775808\np.y = 5\n"

--     program a; process p {
--     print 1 < 2, 2 < 2, 2 <= 2, 3 <= 2, 2 > 1, 2 > 2, 2 >= 2, 2 >= 3, 2 = 2, 2 <> 2, -1 < 0;
--     print 1 - 2 - 3, 12 / 3 / 2, 2 + 3 * 4, (2 + 3) * 4, -(2 - 5); } end.
abbrev pub comparisons_tree : Tree
comparisons_tree =
    let test_1 = two Lt (whole 1) (whole 2) in
    let test_2 = two Lt (whole 2) (whole 2) in
    let test_3 = two Le (whole 2) (whole 2) in
    let test_4 = two Le (whole 3) (whole 2) in
    let test_5 = two Gt (whole 2) (whole 1) in
    let test_6 = two Gt (whole 2) (whole 2) in
    let test_7 = two Ge (whole 2) (whole 2) in
    let test_8 = two Ge (whole 2) (whole 3) in
    let test_9 = two Eq (whole 2) (whole 2) in
    let test_10 = two Ne (whole 2) (whole 2) in
    let test_11 = two Lt (Minus (whole 1)) (whole 0) in
    let sum_1 = Chained (whole 1) (Linked Sub (whole 2) (Linked Sub (whole 3) NoLink)) in
    let sum_2 = Chained (whole 12) (Linked Div (whole 3) (Linked Div (whole 2) NoLink)) in
    let test_12 = two Add (whole 2) (two Mul (whole 3) (whole 4)) in
    let test_13 = two Mul (two Add (whole 2) (whole 3)) (whole 4) in
    let test_14 = two Sub (whole 2) (whole 5) in
    let printing_1 =
    print (shown test_1 ∷ shown test_2 ∷ shown test_3 ∷ shown test_4 ∷ shown test_5 ∷ shown test_6 ∷ shown test_7
    ∷ shown test_8 ∷ shown test_9 ∷ shown test_10 ∷ shown test_11 ∷ []) in
    let printing_2 = print (shown sum_1 ∷ shown sum_2 ∷ shown test_12 ∷ shown test_13 ∷ shown (Minus test_14) ∷ []) in
    program_called "a" [] [] (process_called "p" [] [] (printing_1 ∷ printing_2 ∷ []) ∷ [])

abbrev pub Comparisons : Type 0
Comparisons =
    run_text comparisons_tree (times 2 first)
    ≡ codes "1 out p 1 0 1 0 1 0 1 0 1 0 1\n2 out p -4 2 14 20 3\n2 done p\nend 2\np done\n"

--     program a; process p { var a[3]; var i;
--     ensure prior a[i] = 7 or i = 1 within 9 by { a[3] := 1 / 0; } else by { a[-1] := 1 / 0; }
--     else by { a[0] := 1 / 0; } else by { a[1] := 8; i := 3; } else by { a[1] := 7; i := 1; } else error;
--     ensure prior a[i - 1] = 7 and a[i - 1] = 8 and prior i = 1 within 9 by { i := 2; a[1] := 8; } else error; } end.
abbrev pub index_first_tree : Tree
index_first_tree =
    let alternate_1 = block (assign_at "a" (whole 3) (two Div (whole 1) (whole 0)) ∷ []) in
    let alternate_2 = block (assign_at "a" (Minus (whole 1)) (two Div (whole 1) (whole 0)) ∷ []) in
    let alternate_3 = block (assign_at "a" (whole 0) (two Div (whole 1) (whole 0)) ∷ []) in
    let alternate_4 = block (assign_at "a" (whole 1) (whole 8) ∷ assign "i" (whole 3) ∷ []) in
    let alternate_5 = block (assign_at "a" (whole 1) (whole 7) ∷ assign "i" (whole 1) ∷ []) in
    let test_1 = two Or (two Eq (prior_at "a" (of "i")) (whole 7)) (two Eq (of "i") (whole 1)) in
    let test_2 = two Eq (prior_at "a" (two Sub (of "i") (whole 1))) (whole 7) in
    let test_3 = two Eq (at "a" (two Sub (of "i") (whole 1))) (whole 8) in
    let test_4 = two Eq (prior "i") (whole 1) in
    let alternate_6 = block (assign "i" (whole 2) ∷ assign_at "a" (whole 1) (whole 8) ∷ []) in
    let ensured_1 = ensure 2 test_1 9 (alternate_1 ∷ alternate_2 ∷ alternate_3 ∷ alternate_4 ∷ alternate_5 ∷ []) in
    let ensured_2 = ensure 4 (Chained test_2 (Linked And test_3 (Linked And test_4 NoLink))) 9 (alternate_6 ∷ []) in
    let process_p = process_called "p" (array "a" 3 ∷ scalar "i" ∷ []) [] (ensured_1 ∷ ensured_2 ∷ []) in
    program_called "a" [] [] (process_p ∷ [])

-- An index is checked before the value is evaluated. After `prior` it has its present value.
abbrev pub IndexFirst : Type 0
IndexFirst =
    run_text index_first_tree (times 20 first)
    ≡ codes "3 reject p ensure 2 1 index\n5 reject p ensure 2 2 index\n7 reject p ensure 2 3 zero\n11 reject p ensure 2 4 index\n20 done p\nend 20\np done\np.a = 0 8 0\np.i = 2\n"

--     program a; process p { var x; var y;
--     procedure f(x) { x := x + 1; if x < 3 { var y; y := x; call f(y); } y := y * 10 + x; }
--     x := 1; call f(x); } end.
abbrev pub scopes_tree : Tree
scopes_tree =
    let body_1 = block_with (scalar "y" ∷ []) (assign "y" (of "x") ∷ invoke "f" (of "y" ∷ []) ∷ []) in
    let choice_1 = when (two Lt (of "x") (whole 3)) body_1 in
    let assigned_1 = assign "x" (two Add (of "x") (whole 1)) in
    let assigned_2 = assign "y" (two Add (two Mul (of "y") (whole 10)) (of "x")) in
    let procedure_f = procedure_called "f" (called "x" ∷ []) (block (assigned_1 ∷ choice_1 ∷ assigned_2 ∷ [])) in
    let invoked_1 = invoke "f" (of "x" ∷ []) in
    let process_p = process_called "p" (scalar "x" ∷ scalar "y" ∷ []) (procedure_f ∷ []) (assign "x" (whole 1) ∷ invoked_1 ∷ []) in
    program_called "a" [] [] (process_p ∷ [])

-- A call sees its own frames and those of the process, and not its caller's.
abbrev pub Scopes : Type 0
Scopes =
    run_text scopes_tree (times 10 first)
    ≡ codes "10 done p\nend 10\np done\np.x = 1\np.y = 32\n"

--     program a; process p { var x;
--     procedure f(a, b) { call g(b, a); x := x + 1; }
--     procedure g(b, c) { var d; d := b * 100; x := d + c; }
--     call f(x + 7, 2); call f(1 / 0, x); } end.
abbrev pub arguments_tree : Tree
arguments_tree =
    let body_1 = block (invoke "g" (of "b" ∷ of "a" ∷ []) ∷ assign "x" (two Add (of "x") (whole 1)) ∷ []) in
    let assigned_1 = assign "d" (two Mul (of "b") (whole 100)) in
    let assigned_2 = assign "x" (two Add (of "d") (of "c")) in
    let body_2 = block_with (scalar "d" ∷ []) (assigned_1 ∷ assigned_2 ∷ []) in
    let procedure_f = procedure_called "f" (called "a" ∷ called "b" ∷ []) body_1 in
    let procedure_g = procedure_called "g" (called "b" ∷ called "c" ∷ []) body_2 in
    let invoked_1 = invoke "f" (two Add (of "x") (whole 7) ∷ whole 2 ∷ []) in
    let invoked_2 = invoke "f" (two Div (whole 1) (whole 0) ∷ of "x" ∷ []) in
    let process_p = process_called "p" (scalar "x" ∷ []) (procedure_f ∷ procedure_g ∷ []) (invoked_1 ∷ invoked_2 ∷ []) in
    program_called "a" [] [] (process_p ∷ [])

abbrev pub Arguments : Type 0
Arguments =
    run_text arguments_tree (times 6 first)
    ≡ codes "6 error p zero\nend 6\np failed\np.x = 208\n"

--     program a; process p { var x;
--     if x { x := 1; } else { var y; y := 5; x := y; }
--     if x { var y; x := x + y + 1; } else { x := 0; }
--     if 0 { x := 9; }
--     while x < 8 { var y; y := y + 1; x := x + y; } } end.
abbrev pub choices_tree : Tree
choices_tree =
    let body_1 = block (assign "x" (whole 1) ∷ []) in
    let body_2 = block_with (scalar "y" ∷ []) (assign "y" (whole 5) ∷ assign "x" (of "y") ∷ []) in
    let assigned_1 = assign "x" (Chained (of "x") (Linked Add (of "y") (Linked Add (whole 1) NoLink))) in
    let assigned_2 = assign "y" (two Add (of "y") (whole 1)) in
    let assigned_3 = assign "x" (two Add (of "x") (of "y")) in
    let choice_1 = when_else (of "x") body_1 body_2 in
    let choice_2 = when_else (of "x") (block_with (scalar "y" ∷ []) (assigned_1 ∷ [])) (block (assign "x" (whole 0) ∷ [])) in
    let choice_3 = when (whole 0) (block (assign "x" (whole 9) ∷ [])) in
    let loop_1 = Loop (two Lt (of "x") (whole 8)) (block_with (scalar "y" ∷ []) (assigned_2 ∷ assigned_3 ∷ [])) in
    let process_p = process_called "p" (scalar "x" ∷ []) [] (choice_1 ∷ choice_2 ∷ choice_3 ∷ loop_1 ∷ []) in
    program_called "a" [] [] (process_p ∷ [])

-- The variables of a block begin at 0 each time.
abbrev pub Choices : Type 0
Choices =
    run_text choices_tree (times 13 first)
    ≡ codes "13 done p\nend 13\np done\np.x = 8\n"

--     edition 2; program s; process p { var a[3]; var x; a[1] := 5; x := sum i from 0 to 2 : a[i]; ensure every i from 0 to 2 : a[i] >= prior a[i] within 9 by { a[2] := 1; } else error; print x, some i from 1 to 0 : 1; } end.
abbrev pub quantified_tree : Tree
quantified_tree =
    let alternate_1 = block (assign_at "a" (whole 2) (whole 1) ∷ []) in
    let test_1 = two Ge (at "a" (of "i")) (prior_at "a" (of "i")) in
    let ensured_1 = ensure 1 (over_numbers Every "i" (whole 0) (whole 2) test_1) 9 (alternate_1 ∷ []) in
    let printing_1 = print (shown (of "x") ∷ shown (over_numbers Any "i" (whole 1) (whole 0) (whole 1)) ∷ []) in
    let assigned_1 = assign_at "a" (whole 1) (whole 5) in
    let assigned_2 = assign "x" (over_numbers Total "i" (whole 0) (whole 2) (at "a" (of "i"))) in
    let process_p = process_called "p" (array "a" 3 ∷ scalar "x" ∷ []) [] (assigned_1 ∷ assigned_2 ∷ ensured_1 ∷ printing_1 ∷ []) in
    program_of_edition_2 "s" [] [] (process_p ∷ [])

abbrev pub Quantified : Type 0
Quantified =
    run_text quantified_tree (times 7 first)
    ≡ codes "7 out p 5 0\n7 done p\nend 7\np done\np.a = 0 5 1\np.x = 5\n"

--     edition 2; program r; process p { var x; x := sum i from 1 to 1025 : i; } end.
abbrev pub long_range_tree : Tree
long_range_tree =
    let assigned_1 = assign "x" (over_numbers Total "i" (whole 1) (whole 1025) (of "i")) in
    program_of_edition_2 "r" [] [] (process_called "p" (scalar "x" ∷ []) [] (assigned_1 ∷ []) ∷ [])

-- 1,025 numbers are too many.
abbrev pub LongRange : Type 0
LongRange =
    run_text long_range_tree (times 1 first)
    ≡ codes "1 error p range\nend 1\np failed\np.x = 0\n"

--     edition 2; program r; process p { var x; x := sum i from 1 to 1024 : i; } end.
abbrev pub longest_range_tree : Tree
longest_range_tree =
    let assigned_1 = assign "x" (over_numbers Total "i" (whole 1) (whole 1024) (of "i")) in
    program_of_edition_2 "r" [] [] (process_called "p" (scalar "x" ∷ []) [] (assigned_1 ∷ []) ∷ [])

-- 1,024 numbers are not.
abbrev pub LongestRange : Type 0
LongestRange =
    run_text longest_range_tree (times 1 first)
    ≡ codes "1 done p\nend 1\np done\np.x = 524800\n"

--     edition 2; program a; process p { var a[2]; var i; a[0] := 1; i := 4;
--     print every k from 0 to 5 : a[k], some k from 0 to 5 : a[k], every k from 0 to 0 : a[k], some k from 1 to 1 : a[k];
--     print sum i from 1 to i : i, sum k from 1 to 3 : (sum j from 1 to k : j * k), every k from 1 to 0 : 0;
--     print sum k from 1 to -9223372036854775807 : 1 / 0, sum k from 0 to 2 : 9223372036854775807 * (1 - k);
--     i := sum k from 0 to 1 : 9223372036854775807 - k; } end.
abbrev pub stops_early_tree : Tree
stops_early_tree =
    let test_1 = two Mul (of "j") (of "k") in
    let test_2 = two Div (whole 1) (whole 0) in
    let test_3 = two Mul (whole 9223372036854775807) (two Sub (whole 1) (of "k")) in
    let printing_1 = print (shown (over_numbers Every "k" (whole 0) (whole 5) (at "a" (of "k")))
    ∷ shown (over_numbers Any "k" (whole 0) (whole 5) (at "a" (of "k")))
    ∷ shown (over_numbers Every "k" (whole 0) (whole 0) (at "a" (of "k")))
    ∷ shown (over_numbers Any "k" (whole 1) (whole 1) (at "a" (of "k"))) ∷ []) in
    let printing_2 = print
    (shown (over_numbers Total "i" (whole 1) (of "i") (of "i"))
    ∷ shown (over_numbers Total "k" (whole 1) (whole 3) (over_numbers Total "j" (whole 1) (of "k") test_1))
    ∷ shown (over_numbers Every "k" (whole 1) (whole 0) (whole 0)) ∷ []) in
    let printing_3 =
    print (shown (over_numbers Total "k" (whole 1) (Minus (whole 9223372036854775807)) test_2)
    ∷ shown (over_numbers Total "k" (whole 0) (whole 2) test_3) ∷ []) in
    let assigned_1 = assign_at "a" (whole 0) (whole 1) in
    let assigned_2 = assign "i" (over_numbers Total "k" (whole 0) (whole 1) (two Sub (whole 9223372036854775807) (of "k"))) in
    let process_p =
    process_called "p" (array "a" 2 ∷ scalar "i" ∷ []) []
    (assigned_1 ∷ assign "i" (whole 4) ∷ printing_1 ∷ printing_2 ∷ printing_3 ∷ assigned_2 ∷ []) in
    program_of_edition_2 "a" [] [] (process_p ∷ [])

-- No number is tried after the one that decides; a limit stands outside the name's scope; a partial sum may trap.
abbrev pub StopsEarly : Type 0
StopsEarly =
    run_text stops_early_tree (times 6 first)
    ≡ codes "3 out p 0 1 1 0\n4 out p 10 25 1\n5 out p 0 0\n6 error p overflow\nend 6\np failed\np.a = 1 0\np.i = 4\n"
