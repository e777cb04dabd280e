-- Traps and limits.
use Rattle.std.specs.Prelude.{◌≡◌, [], ◌∷◌, ◌++◌, codes, replicate}
use Rattle.rb_syntax.specs.declared.expression.Op.TheVariants.{Eq, Lt, Add, Sub, Div}
use Rattle.rb_syntax.specs.Tree.{Minus, Failure, Loop, Tree}
use Rattle.rb_meaning.specs.Meaning.{run_text}
use Rattle.rb_meaning.specs.Rows.Build.{array, assign, assign_at, block, block_with, called, ensure, first, full_text, invoke, of, print, procedure_called, process_called, program_called, program_of_edition_2, repeated, scalar, times, two, when, whole, written}

--     program z; process p { var x; var a[3];
--     ensure 10 / x = 5 within 9 by { a[2] := 1; } else by { x := -9223372036854775807 - 2; }
--     else by { a[3] := 1; } else by { fail; } else by { x := 2; } else error; } end.
abbrev pub traps_tree : Tree
traps_tree =
    let alternate_1 = block (assign_at "a" (whole 2) (whole 1) ∷ []) in
    let alternate_2 = block (assign "x" (two Sub (Minus (whole 9223372036854775807)) (whole 2)) ∷ []) in
    let alternate_3 = block (assign_at "a" (whole 3) (whole 1) ∷ []) in
    let alternate_4 = block (assign "x" (whole 2) ∷ []) in
    let test_1 = two Eq (two Div (whole 10) (of "x")) (whole 5) in
    let ensured_1 = ensure 2 test_1 9 (alternate_1 ∷ alternate_2 ∷ alternate_3 ∷ block (Failure ∷ []) ∷ alternate_4 ∷ []) in
    program_called "z" [] [] (process_called "p" (scalar "x" ∷ array "a" 3 ∷ []) [] (ensured_1 ∷ []) ∷ [])

abbrev pub TrapsInTurn : Type 0
TrapsInTurn =
    run_text traps_tree (times 13 first)
    ≡ codes "4 reject p ensure 2 1 zero\n6 reject p ensure 2 2 overflow\n8 reject p ensure 2 3 index\n10 reject p ensure 2 4 fail\n13 done p\nend 13\np done\np.x = 2\np.a = 0 0 0\n"

--     program g; process p { procedure f() { call f(); } ensure 1 within 500 by { call f(); } else by { } else error; } end.
abbrev pub open_calls_tree : Tree
open_calls_tree =
    let procedure_f = procedure_called "f" [] (block (invoke "f" [] ∷ [])) in
    let ensured_1 = ensure 1 (whole 1) 500 (block (invoke "f" [] ∷ []) ∷ block [] ∷ []) in
    program_called "g" [] [] (process_called "p" [] (procedure_f ∷ []) (ensured_1 ∷ []) ∷ [])

-- The 257th open call is a trap.
abbrev pub OpenCalls : Type 0
OpenCalls =
    run_text open_calls_tree (times 261 first)
    ≡ codes "259 reject p ensure 1 1 calls\n261 done p\nend 261\np done\n"

--     program g; process p {
--     procedure f(n) { var t[7]; call f(n); }
--     ensure 1 within 500 by { call f(0); } else by { } else error; } end.
abbrev pub calls_before_words_tree : Tree
calls_before_words_tree =
    let procedure_f = procedure_called "f" (called "n" ∷ []) (block_with (array "t" 7 ∷ []) (invoke "f" (of "n" ∷ []) ∷ [])) in
    let ensured_1 = ensure 3 (whole 1) 500 (block (invoke "f" (whole 0 ∷ []) ∷ []) ∷ block [] ∷ []) in
    program_called "g" [] [] (process_called "p" [] (procedure_f ∷ []) (ensured_1 ∷ []) ∷ [])

-- The 257th call would have too many words too.
abbrev pub CallsBeforeWords : Type 0
CallsBeforeWords =
    run_text calls_before_words_tree (times 261 first)
    ≡ codes "259 reject p ensure 3 1 calls\n261 done p\nend 261\np done\n"

--     program h; process p { var i; ensure 1 within 99
--     by { while i < 15 { print T, T, T, T, T, T, T, T, T, T, T, T, T, T, T, T; i := i + 1; }
--     print T, T, T, T, T, T, T, T, T, T, T, T, T, T, T, ""; print ""; }
--     else by { print "ok"; } else error; } end.
-- Each T stands for a text of 256 times the letter x.
abbrev pub held_bytes_tree : Tree
held_bytes_tree =
    let printing_1 = print (replicate 16 full_text) in
    let loop_1 = Loop (two Lt (of "i") (whole 15)) (block (printing_1 ∷ assign "i" (two Add (of "i") (whole 1)) ∷ [])) in
    let printing_2 = print (replicate 15 full_text ++ written "" ∷ []) in
    let printing_3 = print (written "" ∷ []) in
    let alternate_1 = block (loop_1 ∷ printing_2 ∷ printing_3 ∷ []) in
    let alternate_2 = block (print (written "ok" ∷ []) ∷ []) in
    let process_p = process_called "p" (scalar "i" ∷ []) [] (ensure 1 (whole 1) 99 (alternate_1 ∷ alternate_2 ∷ []) ∷ []) in
    program_called "h" [] [] (process_p ∷ [])

-- 65,536 held bytes are allowed, and one more is a trap.
abbrev pub HeldBytes : Type 0
HeldBytes =
    run_text held_bytes_tree (times 53 first)
    ≡ codes "50 reject p ensure 1 1 hold\n53 out p ok\n53 done p\nend 53\np done\np.i = 0\n"

--     program a; process p { fail; } end.
abbrev pub fail_outside_tree : Tree
fail_outside_tree =
    program_called "a" [] [] (process_called "p" [] [] (Failure ∷ []) ∷ [])

abbrev pub FailOutside : Type 0
FailOutside =
    run_text fail_outside_tree (times 2 first)
    ≡ codes "1 error p fail\nend 2\np failed\n"

--     program h; process p { var a[1024]; var b[1024]; ensure 1 within 9 by { var t; } else by { } else error; } end.
abbrev pub full_process_tree : Tree
full_process_tree =
    let ensured_1 = ensure 1 (whole 1) 9 (block_with (scalar "t" ∷ []) [] ∷ block [] ∷ []) in
    let process_p = process_called "p" (array "a" 1024 ∷ array "b" 1024 ∷ []) [] (ensured_1 ∷ []) in
    program_called "h" [] [] (process_p ∷ [])

abbrev pub FullProcess : Type 0
FullProcess =
    run_text full_process_tree (times 4 first)
    ≡ codes "2 reject p ensure 1 1 stack\n4 done p\nend 4\np done\np.a ="
    ++ (repeated 1024 (codes " 0") ++ (codes "\np.b =" ++ (repeated 1024 (codes " 0") ++ codes "\n")))

--     program h; process p { ensure 1 within 9
--     by { var a[1024]; var b[1024]; if 1 { var t; } }
--     else by { var a[1024]; var b[1024]; } else error; } end.
abbrev pub full_blocks_tree : Tree
full_blocks_tree =
    let alternate_1 = block_with (array "a" 1024 ∷ array "b" 1024 ∷ []) (when (whole 1) (block_with (scalar "t" ∷ []) []) ∷ []) in
    let alternate_2 = block_with (array "a" 1024 ∷ array "b" 1024 ∷ []) [] in
    let process_p = process_called "p" [] [] (ensure 1 (whole 1) 9 (alternate_1 ∷ alternate_2 ∷ []) ∷ []) in
    program_called "h" [] [] (process_p ∷ [])

-- 2,048 words are allowed, and one more is a trap.
abbrev pub FullBlocks : Type 0
FullBlocks =
    run_text full_blocks_tree (times 5 first)
    ≡ codes "3 reject p ensure 1 1 stack\n5 done p\nend 5\np done\n"

--     edition 2; program h; process p { ensure 1 within 9
--     by { var a[1024]; var b[1024]; var c[1024]; var d[1024]; if 1 { var t; } }
--     else by { var a[1024]; var b[1024]; var c[1024]; var d[1024]; } else error; } end.
abbrev pub full_blocks_of_edition_2_tree : Tree
full_blocks_of_edition_2_tree =
    let choice_1 = when (whole 1) (block_with (scalar "t" ∷ []) []) in
    let alternate_1 = block_with (array "a" 1024 ∷ array "b" 1024 ∷ array "c" 1024 ∷ array "d" 1024 ∷ []) (choice_1 ∷ []) in
    let alternate_2 = block_with (array "a" 1024 ∷ array "b" 1024 ∷ array "c" 1024 ∷ array "d" 1024 ∷ []) [] in
    let process_p = process_called "p" [] [] (ensure 1 (whole 1) 9 (alternate_1 ∷ alternate_2 ∷ []) ∷ []) in
    program_of_edition_2 "h" [] [] (process_p ∷ [])

-- In edition 2 it is 4,096 words.
abbrev pub FullBlocksOfEdition2 : Type 0
FullBlocksOfEdition2 =
    run_text full_blocks_of_edition_2_tree (times 5 first)
    ≡ codes "3 reject p ensure 1 1 stack\n5 done p\nend 5\np done\n"

--     program d; process p { procedure f() { ensure 1 within 1000 by { call f(); } else error; } call f(); } end.
abbrev pub open_levels_tree : Tree
open_levels_tree =
    let procedure_f = procedure_called "f" [] (block (ensure 1 (whole 1) 1000 (block (invoke "f" [] ∷ []) ∷ []) ∷ [])) in
    program_called "d" [] [] (process_called "p" [] (procedure_f ∷ []) (invoke "f" [] ∷ []) ∷ [])

-- The 33rd open level is a trap; all 32 are exhausted in one turn.
abbrev pub OpenLevels : Type 0
OpenLevels =
    run_text open_levels_tree (times 98 first)
    ≡ codes "98 reject p ensure 1 1 depth\n" ++ (repeated 31 (codes "98 reject p ensure 1 1 inner\n") ++ codes "98 error p inner\nend 98\np failed\n")
