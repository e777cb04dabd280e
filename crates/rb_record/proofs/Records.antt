-- How the kept turns of a text follow from those of its lines.
use Rattle.std.proofs.Common.{◌≡◌, ℕ, ◌+◌, ◌≤◌, ◌<◌, List, [], ◌∷◌, ◌++◌, length, vec_len, Bool, true, false, cond, ◌&&◌, nat_eq, ◌==◌, nat_lt, nat_le, Option, Some, None, Result, Ok, Err, refl, ap, ◌∙◌, sym, subst, arith}
use Rattle.std.specs.Cmp.Lexicographic.{pointwise}
use Rattle.std.proofs.lemmas.Bool.Decides.{nat_tests}
use Rattle.std.proofs.lemmas.List.Quantifiers.{position-Some}
use Rattle.rb_base.specs.declared.names.Names.{Names}
use Rattle.rb_base.specs.declared.fault.TextFault.{TextFault}
use Rattle.rb_base.specs.declared.fault.FaultName.{FaultName}
use Rattle.rb_base.specs.declared.fault.FaultName.TheVariants.{V1, V3}
use Rattle.rb_base.specs.declared.limits.TheConstants.{MOST_TURNS}
use Rattle.rb_base.specs.Bytes.{is_name, is_number, digits_value}
use Rattle.rb_base.specs.Naming.{first_named, process_names}
use Rattle.rb_base.proofs.Named.{length_process_names}
use Rattle.rb_sched.specs.Schedule.{lines_of, words_of}
use Rattle.rb_base.specs.declared.kept.Kept.{Kept}
use Rattle.rb_record.specs.Record.{is_counted, kept_after, line_of_words, in_front, after_line, lines_kept, record_of}
use Rattle.rb_record.specs.Recorded.{IsKept, AreKept}

-- turns in front of those of the lines after them
abbrev pub all_in_front : List Kept → Result (List Kept) TextFault → Result (List Kept) TextFault
all_in_front [] others = others
all_in_front (kept ∷ turns) others = in_front kept (all_in_front turns others)

-- a turn more
all_in_front-append : (turns : List Kept) (kept : Kept) (others : Result (List Kept) TextFault)
    → all_in_front turns (in_front kept others) ≡ all_in_front (turns ++ kept ∷ []) others
all_in_front-append [] kept others = refl
all_in_front-append (one ∷ turns) kept others = ap (in_front one) (all_in_front-append turns kept others)

-- no line is left
all_in_front-Ok : (turns : List Kept) → all_in_front turns (Ok []) ≡ Ok turns
all_in_front-Ok [] = refl
all_in_front-Ok (one ∷ turns) = ap (in_front one) (all_in_front-Ok turns)

-- a fault stays
all_in_front-Err : (turns : List Kept) (fault : TextFault) → all_in_front turns (Err fault) ≡ Err fault
all_in_front-Err [] fault = refl
all_in_front-Err (one ∷ turns) fault = ap (in_front one) (all_in_front-Err turns fault)

-- the turns so far of a text that is read up to a line
pub record ReadUpTo (names : List (List ℕ)) (text : List ℕ) (turns : List Kept) (last at : ℕ) (rest : List ℕ) : Type 0 where
  pub goes_on : record_of names text ≡ all_in_front turns (lines_kept names last at (lines_of rest))

-- what a text comes to at its next line
at_line : (names : List (List ℕ)) (text line : List ℕ) (turns : List Kept) (last at : ℕ) (rest after : List ℕ)
    (answer : Result (Option Kept) FaultName)
    → ReadUpTo names text turns last at rest → lines_of rest ≡ line ∷ lines_of after → line_of_words names last (words_of line) ≡ answer
    → record_of names text ≡ all_in_front turns (after_line answer last at (λ n. lines_kept names n (at + 1) (lines_of after)))
at_line names text line turns last at rest after answer read cut given =
    read.goes_on
    ∙ ap (λ lines. all_in_front turns (lines_kept names last at lines)) cut
    ∙ ap (λ first. all_in_front turns (after_line first last at (λ n. lines_kept names n (at + 1) (lines_of after)))) given

-- a line without a turn is read
pub read_none : (names : List (List ℕ)) (text line : List ℕ) (turns : List Kept) (last at : ℕ) (rest after : List ℕ)
    → ReadUpTo names text turns last at rest → lines_of rest ≡ line ∷ lines_of after → line_of_words names last (words_of line) ≡ Ok None
    → ReadUpTo names text turns last (at + 1) after
read_none names text line turns last at rest after read cut given =
    record { goes_on = at_line names text line turns last at rest after (Ok None) read cut given }

-- a turn more is read
pub read_kept : (names : List (List ℕ)) (text line : List ℕ) (turns : List Kept) (last at : ℕ) (rest after : List ℕ) (kept : Kept)
    → ReadUpTo names text turns last at rest → lines_of rest ≡ line ∷ lines_of after
    → line_of_words names last (words_of line) ≡ Ok (Some kept) → ReadUpTo names text (turns ++ kept ∷ []) kept.turn (at + 1) after
read_kept names text line turns last at rest after kept read cut given =
    let others = lines_kept names kept.turn (at + 1) (lines_of after) in
    record {
      goes_on =
          at_line names text line turns last at rest after (Ok (Some kept)) read cut given
          ∙ all_in_front-append turns kept others;
    }

-- a line has a fault
pub read_fault : (names : List (List ℕ)) (text line : List ℕ) (turns : List Kept) (last at : ℕ) (rest after : List ℕ) (name : FaultName)
    → ReadUpTo names text turns last at rest → lines_of rest ≡ line ∷ lines_of after → line_of_words names last (words_of line) ≡ Err name
    → record_of names text ≡ Err (record { name = name; at = at })
read_fault names text line turns last at rest after name read cut given =
    at_line names text line turns last at rest after (Err name) read cut given
    ∙ all_in_front-Err turns (record { name = name; at = at })

-- nothing is left
none_left : (rest : List ℕ) → true ≡ (length rest == 0) → rest ≡ []
none_left [] e = refl
none_left (b ∷ bs) e = absurd (grind (arith, nat_tests))

-- all is read
pub read_all : (names : List (List ℕ)) (text : List ℕ) (turns : List Kept) (last at : ℕ) (rest : List ℕ) → ReadUpTo names text turns last at rest
    → true ≡ (length rest == 0) → record_of names text ≡ Ok turns
read_all names text turns last at rest read none =
    read.goes_on
    ∙ ap (λ r. all_in_front turns (lines_kept names last at (lines_of r))) (none_left rest none)
    ∙ all_in_front-Ok turns

-- both tests hold
both : (s t : Bool) → true ≡ (s && t) → (s ≡ true) × (t ≡ true)
both true true e = (refl, refl)
both true false e = absurd (cc)
both false t e = absurd (cc)

-- what counts is not above the greatest
counted_few : (word : List ℕ) → is_counted word ≡ true → digits_value 0 word ≤ MOST_TURNS
counted_few word e =
    let value = both (is_number word) (nat_lt 0 (digits_value 0 word) && nat_le (digits_value 0 word) MOST_TURNS) (sym e) in
    let few = both (nat_lt 0 (digits_value 0 word)) (nat_le (digits_value 0 word) MOST_TURNS) (sym value.1) in
    grind (arith, nat_tests)

-- what is kept of a known process
kept_after_is : (names : List (List ℕ)) (name : List ℕ) (before turn alternate : ℕ) (kept : Kept) → turn ≤ MOST_TURNS → alternate ≤ MOST_TURNS
    → kept_after before turn (first_named names name) alternate ≡ Ok (Some kept) → IsKept (length names) before kept
kept_after_is names name before turn alternate kept few_turns few_alternates e =
    by_place (first_named names name) (λ p found. (position-Some (λ n. pointwise nat_eq n name) names p [] found).0) e
  where
    by_test : (p : ℕ) (t : Bool) → p < length names → t ≡ nat_lt before turn
        → cond t (Ok (Some (record { turn = turn; process = p; alternate = alternate }))) (Err V3) ≡ Ok (Some kept)
        → IsKept (length names) before kept
    by_test p true known is e =
        let one : Kept = record { turn = turn; process = p; alternate = alternate } in
        let same : one ≡ kept = cc in
        subst (IsKept (length names) before) same
        (record { rises = grind (arith, nat_tests); few_turns = few_turns; known = known; few_alternates = few_alternates })
    by_test p false known is e = absurd (cc)

    by_place : (place : Option ℕ) → ((p : ℕ) → place ≡ Some p → p < length names)
        → kept_after before turn place alternate ≡ Ok (Some kept) → IsKept (length names) before kept
    by_place None within e = absurd (cc)
    by_place (Some p) within e = by_test p (nat_lt before turn) (within p refl) refl e

-- what a line keeps
line_is : (names words : List (List ℕ)) (before : ℕ) (kept : Kept) → line_of_words names before words ≡ Ok (Some kept)
    → IsKept (length names) before kept
line_is names [] before kept e = absurd (cc)
line_is names (turn ∷ []) before kept e = absurd (cc)
line_is names (turn ∷ name ∷ []) before kept e = by_test (is_counted turn && is_name name) refl e
  where
    by_test : (t : Bool) → t ≡ (is_counted turn && is_name name)
        → cond t (kept_after before (digits_value 0 turn) (first_named names name) 0) (Err V1) ≡ Ok (Some kept) → IsKept (length names) before kept
    by_test true is e = kept_after_is names name before _ 0 kept (counted_few turn (both (is_counted turn) (is_name name) is).0) (omega arith) e
    by_test false is e = absurd (cc)
line_is names (turn ∷ name ∷ alternate ∷ []) before kept e = by_test (is_counted turn && (is_name name && is_counted alternate)) refl e
  where
    by_test : (t : Bool) → t ≡ (is_counted turn && (is_name name && is_counted alternate))
        → cond t (kept_after before (digits_value 0 turn) (first_named names name) (digits_value 0 alternate)) (Err V1) ≡ Ok (Some kept)
        → IsKept (length names) before kept
    by_test true is e =
        let first = both (is_counted turn) (is_name name && is_counted alternate) is in
        let last = both (is_name name) (is_counted alternate) (sym first.1) in
        kept_after_is names name before _ _ kept (counted_few turn first.0) (counted_few alternate last.1) e
    by_test false is e = absurd (cc)
line_is names (turn ∷ name ∷ alternate ∷ more ∷ words) before kept e = absurd (cc)

-- what some lines keep
lines_are : (names lines : List (List ℕ)) (before at : ℕ) (turns : List Kept) → lines_kept names before at lines ≡ Ok turns
    → AreKept (length names) before turns
lines_are names [] before at turns e = let none : [] ≡ turns = cc in subst (AreKept (length names) before) none tt
lines_are names (line ∷ lines) before at turns e =
    by_line (line_of_words names before (words_of line)) (λ n us. lines_are names lines n (at + 1) us)
    (λ kept. line_is names (words_of line) before kept) e
  where
    by_others : (kept : Kept) (others : Result (List Kept) TextFault) → IsKept (length names) before kept
        → ((us : List Kept) → others ≡ Ok us → AreKept (length names) kept.turn us) → in_front kept others ≡ Ok turns
        → AreKept (length names) before turns
    by_others kept (Ok us) is later e = let all : kept ∷ us ≡ turns = cc in subst (AreKept (length names) before) all (is, later us refl)
    by_others kept (Err fault) is later e = absurd (cc)

    by_line : (answer : Result (Option Kept) FaultName)
        → ((n : ℕ) (us : List Kept) → lines_kept names n (at + 1) lines ≡ Ok us → AreKept (length names) n us)
        → ((kept : Kept) → answer ≡ Ok (Some kept) → IsKept (length names) before kept)
        → after_line answer before at (λ n. lines_kept names n (at + 1) lines) ≡ Ok turns → AreKept (length names) before turns
    by_line (Ok None) later is e = later before turns e
    by_line (Ok (Some kept)) later is e = by_others kept (lines_kept names kept.turn (at + 1) lines) (is kept refl) (later kept.turn) e
    by_line (Err name) later is e = absurd (cc)

-- turns that rise are few
are_few : (processes before : ℕ) (turns : List Kept) → before ≤ MOST_TURNS → AreKept processes before turns → before + length turns ≤ MOST_TURNS
are_few processes before [] few are = omega arith
are_few processes before (kept ∷ others) few are =
    let rises = are.0.rises in
    let later = are_few processes kept.turn others are.0.few_turns are.1 in
    omega arith

-- the turns of each record are known, and few
pub records_rise : (names : List (List ℕ)) (text : List ℕ) (turns : List Kept) → record_of names text ≡ Ok turns
    → AreKept (length names) 0 turns × (length turns ≤ MOST_TURNS)
records_rise names text turns e =
    let are = lines_are names (lines_of text) 0 1 turns e in
    (are, omega (arith, are_few (length names) 0 turns (omega arith) are))

-- the same of the processes of a program
pub records_rise_in : (names : Names) (text : List ℕ) (turns : List Kept) → record_of (process_names names) text ≡ Ok turns
    → AreKept (vec_len names.processes) 0 turns
records_rise_in names text turns e = subst (λ k. AreKept k 0 turns) (length_process_names names) (records_rise (process_names names) text turns e).0
