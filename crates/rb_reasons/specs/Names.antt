-- The names of faults and causes that are told of, and the name of a text.
use Rattle.std.specs.Prelude.{ℕ, nat_eq, Bool, not, List, [], ◌∷◌, ◌++◌, map, take_while, codes, Option}
use Rattle.std.specs.List.{find}
use Rattle.std.specs.Str.{str_eq_ignore_ascii_case}
use Rattle.rb_base.specs.Words.{fault_word, cause_word}
use Rattle.rb_base.specs.declared.fault.FaultName.TheVariants.{X1, X2, X3, X4, X5, Y1, Y2, S1, S2, S3, S4, S5, S6, S7, S8, S9, S10, S11, N1, N2, N3, N4, N5, N6, N7, N8, N9, N10, N11, N12, N13, T1, T2, T3, T4, V1, V2, V3, V4, B1, B2, B3, H1, H2, H3, H4, H5, I1, I2}
use Rattle.rb_base.specs.declared.event.Cause.TheVariants.{Test, Fail, Overrun, Zero, Overflow, Index, Stack, Range, Calls, Depth, Hold, Inner, Broken}

-- a file that is too long has a fault that is no fault of its text
abbrev pub of_source : List (List ℕ)
of_source = codes "L0" ∷ map fault_word (X1 ∷ X2 ∷ X3 ∷ X4 ∷ X5 ∷ Y1 ∷ Y2 ∷ [])

abbrev pub of_scopes : List (List ℕ)
of_scopes = map fault_word (S1 ∷ S2 ∷ S3 ∷ S4 ∷ S5 ∷ S6 ∷ S7 ∷ S8 ∷ S9 ∷ S10 ∷ S11 ∷ [])

abbrev pub of_nesting : List (List ℕ)
of_nesting = map fault_word (N1 ∷ N2 ∷ N3 ∷ N4 ∷ N5 ∷ N6 ∷ N7 ∷ N8 ∷ N9 ∷ N10 ∷ N11 ∷ N12 ∷ N13 ∷ [])

-- of schedules, records, sessions, histories and images
abbrev pub of_files : List (List ℕ)
of_files = map fault_word (T1 ∷ T2 ∷ T3 ∷ T4 ∷ V1 ∷ V2 ∷ V3 ∷ V4 ∷ B1 ∷ B2 ∷ B3 ∷ H1 ∷ H2 ∷ H3 ∷ H4 ∷ H5 ∷ I1 ∷ I2 ∷ [])

abbrev pub of_causes : List (List ℕ)
of_causes = map cause_word (Test ∷ Fail ∷ Overrun ∷ Zero ∷ Overflow ∷ Index ∷ Stack ∷ Range ∷ Calls ∷ Depth ∷ Hold ∷ Inner ∷ Broken ∷ [])

-- the names of all faults and of all causes
abbrev pub names : List (List ℕ)
names = (((of_source ++ of_scopes) ++ of_nesting) ++ of_files) ++ of_causes

-- the name that is this word but for the case of letters
abbrev pub named : List ℕ → Option (List ℕ)
named word = find (λ name. str_eq_ignore_ascii_case name word) names

-- a name ends before a colon
abbrev pub is_of_name : ℕ → Bool
is_of_name b = not (nat_eq b 58)

-- the name of a text
abbrev pub name_of : List ℕ → List ℕ
name_of text = take_while is_of_name text
