-- A record that is written is read back: its lines end where they were ended, each line has the words that it was made of, and the words
-- are the numbers and the name of its kept turn.
use Rattle.std.proofs.Common.{◌≡◌, ◌∙◌, ◌≤◌, ◌<◌, ◌+◌, ◌-◌, ◌*◌, ◌%◌, ◌^◌, ℕ, zero, suc, nat_eq, nat_le, nat_lt, Bool, true, false, cond, not, ◌&&◌, ◌||◌, List, [], ◌∷◌, ◌++◌, length, map, slice_get}
use Rattle.std.proofs.Common.{Option, Some, Result, Ok, Err, refl, sym, ap, ap₂, subst, append_assoc, decimal, le-leb, lt-ltb, true≢false, arith}
use Rattle.std.specs.List.{AllByRecursion, list_all}
use Rattle.std.proofs.lemmas.Bool.{and_parts, cond-true, cond-false, eqb-false, eqb-true}
use Rattle.std.proofs.lemmas.Bool.Decides.{nat_tests}
use Rattle.std.proofs.lemmas.Fmt.{decimal_by_steps}
use Rattle.std.proofs.lemmas.List.{append-nil}
use Rattle.std.proofs.lemmas.List.Folds.{list_all-append}
use Rattle.std.proofs.lemmas.Map.Keys.{IsDistinct-head, IsDistinct-tail}
use Rattle.rb_base.specs.Bytes.{digits_value, is_digit, is_name, is_name_byte, is_number}
use Rattle.rb_base.specs.Naming.{first_named}
use Rattle.rb_base.specs.declared.limits.TheConstants.{MOST_TURNS}
use Rattle.rb_base.specs.declared.fault.FaultName.{FaultName}
use Rattle.rb_base.specs.declared.fault.FaultName.TheVariants.{V1, V3}
use Rattle.rb_meaning.specs.Environment.{same_name}
use Rattle.rb_base.specs.declared.kept.Kept.{Kept}
use Rattle.rb_world.specs.Text.{Naming, ProcessNaming, kept_words, line_of, process_name, process_word, record_text}
use Rattle.rb_world.proofs.ListFacts.{none_some, some_same}
use Rattle.rb_world.proofs.Members.PlaceFacts.{position_first}
use Rattle.rb_scope.specs.Limits.{AreDistinct}
use Rattle.rb_scope.proofs.DistinctNames.{same_itself}
use Rattle.rb_sched.specs.Schedule.{end_word, is_space, lines_from, lines_of, without_comment, without_cr, words_from, words_of}
use Rattle.rb_record.specs.Record.{after_line, in_front, is_counted, kept_after, line_of_words, lines_kept, record_of}
use Rattle.rb_record.specs.Recorded.{AreKept, IsKept}

-- ---- bytes of names

-- bytes of which each may stand in a name
abbrev pub AreNameBytes : List ℕ → Type 0
AreNameBytes bytes = list_all is_name_byte bytes ≡ true

-- what may stand in a name is no other byte
other_byte : (b c : ℕ) → is_name_byte b ≡ true → is_name_byte c ≡ false → nat_eq b c ≡ false
other_byte b c name other = by_test (nat_eq b c) refl
  where
    by_test : (same : Bool) → nat_eq b c ≡ same → nat_eq b c ≡ false
    by_test true e = absurd (true≢false (sym name ∙ ap is_name_byte (eqb-true b c e) ∙ other))
    by_test false e = e

-- a digit may
digit_in_name : (d : ℕ) → is_digit d ≡ true → is_name_byte d ≡ true
digit_in_name d e = grind (arith, nat_tests)

digits_in_name : (ds : List ℕ) → list_all is_digit ds ≡ true → AreNameBytes ds
digits_in_name [] e = refl
digits_in_name (d ∷ ds) e =
    let parts = and_parts (is_digit d) (list_all is_digit ds) e in
    ap₂ ◌&&◌ (digit_in_name d parts.0) (digits_in_name ds parts.1)

-- a word: some such bytes
pub record IsWord (word : List ℕ) : Type 0 where
  pub some : word ≡ [] → ⊥
  pub bytes : AreNameBytes word

letter_in_name : (b : ℕ) (bs : List ℕ) → is_name (b ∷ bs) ≡ true → AreNameBytes (b ∷ bs)
letter_in_name b bs e = grind (arith, nat_tests)

none_there : (b : ℕ) (bs : List ℕ) → b ∷ bs ≡ [] → ⊥
none_there b bs e = cc

-- a name is a word, and so is a number
name_is_word : (word : List ℕ) → is_name word ≡ true → IsWord word
name_is_word [] e = absurd (true≢false (sym e))
name_is_word (b ∷ bs) e = record { some = none_there b bs; bytes = letter_in_name b bs e }

number_is_word : (word : List ℕ) → is_number word ≡ true → IsWord word
number_is_word [] e = absurd (true≢false (sym e))
number_is_word (d ∷ ds) e = record { some = none_there d ds; bytes = digits_in_name (d ∷ ds) e }

-- ---- numbers

-- a digit behind others
digits_more : (n : ℕ) (ds : List ℕ) (d : ℕ) → digits_value n (ds ++ d ∷ []) ≡ 10 * digits_value n ds + (d - 48)
digits_more n [] d = refl
digits_more n (e ∷ ds) d = digits_more (10 * n + (e - 48)) ds d

number_more : (ds : List ℕ) (d : ℕ) → is_number ds ≡ true → is_digit d ≡ true → is_number (ds ++ d ∷ []) ≡ true
number_more [] d e f = absurd (true≢false (sym e))
number_more (c ∷ ds) d e f =
    let parts = and_parts (is_digit c) (list_all is_digit ds) e in
    ap₂ ◌&&◌ parts.0 (list_all-append is_digit ds (d ∷ []) ∙ ap₂ ◌&&◌ parts.1 (ap (λ (b : Bool). b && true) f))

-- what is written of a number is one, and its value is the number
pub record Reads (n : ℕ) (ds : List ℕ) : Type 0 where
  pub number : is_number ds ≡ true
  pub value : digits_value 0 ds ≡ n

one_digit : (n : ℕ) → n < 10 → is_digit (48 + n) ≡ true
one_digit n few = grind (arith, nat_tests)

pub decimal_reads : (n : ℕ) → n < 2 ^ 64 → Reads n (decimal n)
decimal_reads =
    decimal_by_steps Reads
    (λ n few. record { number = ap (λ (b : Bool). b && true) (one_digit n few); value = omega arith })
    (λ n ds many front. record {
      number = number_more ds (48 + n % 10) front.number (one_digit (n % 10) (omega arith));
      value = digits_more 0 ds (48 + n % 10) ∙ ap (λ (v : ℕ). 10 * v + (48 + n % 10 - 48)) front.value ∙ omega arith;
    })

-- ---- lines

-- no byte of a text is this one
abbrev pub Without : ℕ → List ℕ → Type 0
Without c bytes = list_all (λ b. not (nat_eq b c)) bytes ≡ true

names_without : (c : ℕ) (bytes : List ℕ) → is_name_byte c ≡ false → AreNameBytes bytes → Without c bytes
names_without c [] other h = refl
names_without c (b ∷ bytes) other h =
    let parts = and_parts (is_name_byte b) (list_all is_name_byte bytes) h in
    ap₂ ◌&&◌ (ap not (other_byte b c parts.0 other)) (names_without c bytes other parts.1)

not_this : (b : Bool) → not b ≡ true → b ≡ false
not_this true e = absurd (true≢false (sym e))
not_this false e = refl

-- bytes before the next LF are passed
lines_pass : (line bytes rest : List ℕ) → Without 10 bytes → lines_from line (bytes ++ rest) ≡ lines_from (line ++ bytes) rest
lines_pass line [] rest h = ap (λ (l : List ℕ). lines_from l rest) (sym (append-nil line))
lines_pass line (b ∷ bytes) rest h =
    let parts = and_parts (not (nat_eq b 10)) (list_all (λ x. not (nat_eq x 10)) bytes) h in
    cond-false (nat_eq b 10) (line ∷ lines_from [] (bytes ++ rest)) (lines_from (line ++ b ∷ []) (bytes ++ rest)) (not_this (nat_eq b 10) parts.0)
    ∙ lines_pass (line ++ b ∷ []) bytes rest parts.1 ∙ ap (λ (l : List ℕ). lines_from l rest) (append_assoc line (b ∷ []) bytes)

-- ---- words

-- words with one blank between them
abbrev pub joined : List (List ℕ) → List ℕ
joined [] = []
joined (word ∷ []) = word
joined (word ∷ other ∷ words) = word ++ 32 ∷ joined (other ∷ words)

-- a line is its words so joined, and LF
line_is : (words : List (List ℕ)) → line_of words ≡ joined words ++ 10 ∷ []
line_is [] = refl
line_is (word ∷ []) = refl
line_is (word ∷ other ∷ words) =
    ap (λ (rest : List ℕ). word ++ 32 ∷ rest) (line_is (other ∷ words)) ∙ sym (append_assoc word (32 ∷ joined (other ∷ words)) (10 ∷ []))

-- what stands in no name and is no blank stands in no line
joined_without : (c : ℕ) (words : List (List ℕ)) → is_name_byte c ≡ false → nat_eq 32 c ≡ false
    → AllByRecursion IsWord words → Without c (joined words)
joined_without c [] other blank h = refl
joined_without c (word ∷ []) other blank h = names_without c word other h.0.bytes
joined_without c (word ∷ second ∷ words) other blank h =
    list_all-append (λ b. not (nat_eq b c)) word (32 ∷ joined (second ∷ words))
    ∙ ap₂ ◌&&◌ (names_without c word other h.0.bytes) (ap₂ ◌&&◌ (ap not blank) (joined_without c (second ∷ words) other blank h.1))

-- no CR ends it, and no comment begins in it
no_cr : (bytes : List ℕ) → Without 13 bytes → without_cr bytes ≡ bytes
no_cr [] h = refl
no_cr (b ∷ []) h = cond-false (nat_eq b 13) [] (b ∷ []) (not_this (nat_eq b 13) (and_parts (not (nat_eq b 13)) true h).0)
no_cr (b ∷ c ∷ bytes) h =
    ap (λ (rest : List ℕ). b ∷ rest) (no_cr (c ∷ bytes) (and_parts (not (nat_eq b 13)) (list_all (λ x. not (nat_eq x 13)) (c ∷ bytes)) h).1)

no_comment : (bytes : List ℕ) → Without 35 bytes → without_comment bytes ≡ bytes
no_comment [] h = refl
no_comment (b ∷ bytes) h =
    let parts = and_parts (not (nat_eq b 35)) (list_all (λ x. not (nat_eq x 35)) bytes) h in
    cond-false (nat_eq b 35) [] (b ∷ without_comment bytes) (not_this (nat_eq b 35) parts.0)
    ∙ ap (λ (rest : List ℕ). b ∷ rest) (no_comment bytes parts.1)

-- bytes of a word are passed
no_space : (b : ℕ) → is_name_byte b ≡ true → is_space b ≡ false
no_space b h = ap₂ ◌||◌ (other_byte b 32 h refl) (other_byte b 9 h refl)

words_pass : (word bytes rest : List ℕ) → AreNameBytes bytes → words_from word (bytes ++ rest) ≡ words_from (word ++ bytes) rest
words_pass word [] rest h = ap (λ (w : List ℕ). words_from w rest) (sym (append-nil word))
words_pass word (b ∷ bytes) rest h =
    let parts = and_parts (is_name_byte b) (list_all is_name_byte bytes) h in
    cond-false (is_space b) (end_word word (words_from [] (bytes ++ rest))) (words_from (word ++ b ∷ []) (bytes ++ rest)) (no_space b parts.0)
    ∙ words_pass (word ++ b ∷ []) bytes rest parts.1 ∙ ap (λ (w : List ℕ). words_from w rest) (append_assoc word (b ∷ []) bytes)

word_ends : (word : List ℕ) (words : List (List ℕ)) → IsWord word → end_word word words ≡ word ∷ words
word_ends [] words is = absurd (is.some refl)
word_ends (b ∷ bs) words is = refl

-- so the words are those that were joined
words_back : (words : List (List ℕ)) → AllByRecursion IsWord words → words_from [] (joined words) ≡ words
words_back [] h = refl
words_back (word ∷ []) h =
    ap (words_from []) (sym (append-nil word)) ∙ words_pass [] word [] h.0.bytes ∙ word_ends word [] h.0
words_back (word ∷ other ∷ words) h =
    words_pass [] word (32 ∷ joined (other ∷ words)) h.0.bytes
    ∙ ap (end_word word) (words_back (other ∷ words) h.1) ∙ word_ends word (other ∷ words) h.0

words_of_line : (words : List (List ℕ)) → AllByRecursion IsWord words → words_of (joined words) ≡ words
words_of_line words h =
    ap (λ (bytes : List ℕ). words_from [] (without_comment bytes)) (no_cr (joined words) (joined_without 13 words refl refl h))
    ∙ ap (words_from []) (no_comment (joined words) (joined_without 35 words refl refl h)) ∙ words_back words h

-- ---- names

abbrev pub names_in : Naming → List (List ℕ)
names_in names = map (λ process. process.name) names.processes

-- each is one
abbrev pub AreNames : List (List ℕ) → Type 0
AreNames names = AllByRecursion (λ name. is_name name ≡ true) names

-- a process of these has a name, which is one
pub record HasName (names : Naming) (p : ℕ) : Type 0 where
  pub at : slice_get (names_in names) p ≡ Some (process_word names p)
  pub is : is_name (process_word names p) ≡ true

name_at : (processes : List ProcessNaming) (p : ℕ) → p < length (map (λ process. process.name) processes)
    → slice_get (map (λ process. process.name) processes) p ≡ Some (process_name (slice_get processes p))
name_at [] p known = absurd (omega arith)
name_at (process ∷ processes) zero known = refl
name_at (process ∷ processes) (suc p) known = name_at processes p (omega (arith, known))

name_is : (names : List (List ℕ)) (p : ℕ) (name : List ℕ) → AreNames names → slice_get names p ≡ Some name → is_name name ≡ true
name_is [] p name h e = absurd (none_some e)
name_is (first ∷ names) zero name h e = subst (λ (x : List ℕ). is_name x ≡ true) (some_same e) h.0
name_is (first ∷ names) (suc p) name h e = name_is names p name h.1 e

has_name : (names : Naming) (p : ℕ) → AreNames (names_in names) → p < length (names_in names) → HasName names p
has_name names p h known =
    let at = name_at names.processes p known in
    record { at = at; is = name_is (names_in names) p (process_word names p) h at }

-- names that differ lead back to their places
apart : (x : List ℕ) (names : List (List ℕ)) (k : ℕ) (name : List ℕ) → AllByRecursion (λ y. same_name x y ≡ false) names
    → slice_get names k ≡ Some name → same_name x name ≡ false
apart x [] k name h e = absurd (none_some e)
apart x (first ∷ names) zero name h e = subst (λ y. same_name x y ≡ false) (some_same e) h.0
apart x (first ∷ names) (suc k) name h e = apart x names k name h.1 e

differ : (names : List (List ℕ)) (i k : ℕ) (a b : List ℕ) → AreDistinct names → i < k → slice_get names i ≡ Some a
    → slice_get names k ≡ Some b → same_name a b ≡ false
differ [] i k a b distinct below e f = absurd (none_some e)
differ (c ∷ names) i zero a b distinct below e f = absurd (omega arith)
differ (c ∷ names) zero (suc k) a b distinct below e f =
    subst (λ x. same_name x b ≡ false) (some_same e) (apart c names k b (IsDistinct-head same_name c names distinct) f)
differ (c ∷ names) (suc i) (suc k) a b distinct below e f =
    differ names i k a b (IsDistinct-tail same_name c names distinct) (omega arith) e f

found : (names : List (List ℕ)) (p : ℕ) (name : List ℕ) → AreDistinct names → slice_get names p ≡ Some name → first_named names name ≡ Some p
found names p name distinct at =
    position_first (λ other. same_name other name) names p name at (same_itself name)
    (λ i other below there. differ names i p other name distinct below there at)

-- ---- kept turns

-- a number that a record may have
counted : (n : ℕ) → 0 < n → n ≤ MOST_TURNS → is_counted (decimal n) ≡ true
counted n some few =
    let reads = decimal_reads n (omega arith) in
    ap₂ ◌&&◌ reads.number
    (ap₂ ◌&&◌ (ap (nat_lt 0) reads.value ∙ lt-ltb 0 n some) (ap (λ (v : ℕ). nat_le v MOST_TURNS) reads.value ∙ le-leb n MOST_TURNS few))

module _ (names : Naming) (are : AreNames (names_in names)) (distinct : AreDistinct (names_in names)) (before : ℕ) (kept : Kept)
    (is : IsKept (length (names_in names)) before kept) where
  abbrev named : HasName names kept.process
  named = has_name names kept.process are is.known

  turn_reads : Reads kept.turn (decimal kept.turn)
  turn_reads = decimal_reads kept.turn (let few = is.few_turns in omega arith)

  turn_counted : is_counted (decimal kept.turn) ≡ true
  turn_counted = counted kept.turn (let rises = is.rises in omega arith) is.few_turns

  -- it comes after the turn before it, of its process
  comes_after : (alternate : ℕ) → alternate ≡ kept.alternate
      → kept_after before (digits_value 0 (decimal kept.turn)) (first_named (names_in names) (process_word names kept.process)) alternate
      ≡ Ok (Some kept)
  comes_after alternate same =
      ap₂ (λ (turn : ℕ) (place : Option ℕ). kept_after before turn place alternate) turn_reads.value
      (found (names_in names) kept.process (process_word names kept.process) distinct named.at)
      ∙ cond-true (nat_lt before kept.turn) (Ok (Some (record { turn = kept.turn; process = kept.process; alternate = alternate }))) (Err V3)
      (lt-ltb before kept.turn is.rises)
      ∙ ap (λ (n : ℕ). Ok (Some (record { turn = kept.turn; process = kept.process; alternate = n }))) same

  -- without an alternate, and with one
  two_words : 0 ≡ kept.alternate → line_of_words (names_in names) before (decimal kept.turn ∷ process_word names kept.process ∷ []) ≡ Ok (Some kept)
  two_words none =
      cond-true (is_counted (decimal kept.turn) && is_name (process_word names kept.process)) _ (Err V1) (ap₂ ◌&&◌ turn_counted named.is)
      ∙ comes_after 0 none

  three_words : 0 < kept.alternate
      → line_of_words (names_in names) before (decimal kept.turn ∷ process_word names kept.process ∷ decimal kept.alternate ∷ []) ≡ Ok (Some kept)
  three_words some =
      let alternate = decimal_reads kept.alternate (let few = is.few_alternates in omega arith) in
      cond-true (is_counted (decimal kept.turn) && (is_name (process_word names kept.process) && is_counted (decimal kept.alternate))) _ (Err V1)
      (ap₂ ◌&&◌ turn_counted (ap₂ ◌&&◌ named.is (counted kept.alternate some is.few_alternates)))
      ∙ comes_after (digits_value 0 (decimal kept.alternate)) alternate.value

  -- the words of its line stand for it, and are words
  words_stand : (none : Bool) → nat_eq kept.alternate 0 ≡ none
      → line_of_words (names_in names) before (decimal kept.turn ∷ process_word names kept.process ∷ cond none [] (decimal kept.alternate ∷ []))
      ≡ Ok (Some kept)
  words_stand true e = two_words (sym (eqb-true kept.alternate 0 e))
  words_stand false e = three_words (let some = eqb-false kept.alternate 0 e in omega (arith, some))

  are_words : (none : Bool) → AllByRecursion IsWord (decimal kept.turn ∷ process_word names kept.process ∷ cond none [] (decimal kept.alternate ∷ []))
  are_words true = (number_is_word (decimal kept.turn) turn_reads.number, (name_is_word (process_word names kept.process) named.is, tt))
  are_words false =
      let alternate = decimal_reads kept.alternate (let few = is.few_alternates in omega arith) in (
        number_is_word (decimal kept.turn) turn_reads.number,
        (name_is_word (process_word names kept.process) named.is, (number_is_word (decimal kept.alternate) alternate.number, tt)),
      )

  -- so its line is read back
  line_back : line_of_words (names_in names) before (words_of (joined (kept_words names kept))) ≡ Ok (Some kept)
  line_back =
      ap (line_of_words (names_in names) before) (words_of_line (kept_words names kept) (are_words (nat_eq kept.alternate 0)))
      ∙ words_stand (nat_eq kept.alternate 0) refl

  line_without : Without 10 (joined (kept_words names kept))
  line_without = joined_without 10 (kept_words names kept) refl refl (are_words (nat_eq kept.alternate 0))

-- ---- records

module _ (names : Naming) (are : AreNames (names_in names)) (distinct : AreDistinct (names_in names)) where
  abbrev line_for : Kept → List ℕ
  line_for kept = joined (kept_words names kept)

  -- the lines of a record are those of its turns
  lines_back : (before : ℕ) (turns : List Kept) → AreKept (length (names_in names)) before turns
      → lines_of (record_text names turns) ≡ map line_for turns
  lines_back before [] h = refl
  lines_back before (kept ∷ turns) h =
      let rest = record_text names turns in
      ap (λ (bytes : List ℕ). lines_from [] (bytes ++ rest)) (line_is (kept_words names kept))
      ∙ ap (lines_from []) (append_assoc (line_for kept) (10 ∷ []) rest)
      ∙ lines_pass [] (line_for kept) (10 ∷ rest) (line_without names are distinct before kept h.0)
      ∙ ap (λ (lines : List (List ℕ)). line_for kept ∷ lines) (lines_back kept.turn turns h.1)

  -- and these stand for the turns
  turns_back : (before at : ℕ) (turns : List Kept) → AreKept (length (names_in names)) before turns
      → lines_kept (names_in names) before at (map line_for turns) ≡ Ok turns
  turns_back before at [] h = refl
  turns_back before at (kept ∷ turns) h =
      ap (λ (line : Result (Option Kept) FaultName). after_line line before at
      (λ last. lines_kept (names_in names) last (at + 1) (map line_for turns)))
      (line_back names are distinct before kept h.0)
      ∙ ap (in_front kept) (turns_back kept.turn (at + 1) turns h.1)

  pub records_read_back : (turns : List Kept) → AreKept (length (names_in names)) 0 turns
      → record_of (names_in names) (record_text names turns) ≡ Ok turns
  records_read_back turns h = ap (lines_kept (names_in names) 0 1) (lines_back 0 turns h) ∙ turns_back 0 1 turns h
