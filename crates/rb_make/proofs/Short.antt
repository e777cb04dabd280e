-- The texts of a trial are short enough to be read.
use Rattle.std.proofs.Common.{ℕ, zero, suc, ◌+◌, ◌-◌, ◌*◌, ◌≤◌, ◌<◌, List, [], ◌∷◌, codes, length, Bool, true, false, cond, nat_lt, arith, length-append, decimal}
use Rattle.std.specs.List.{concat, flat_map, range_with_len}
use Rattle.std.proofs.Math.Nat.{mul-le-mul_left}
use Rattle.std.proofs.lemmas.Fmt.{length-decimal-le}
use Rattle.rb_base.specs.declared.limits.TheConstants.{MOST_BYTES}
use Rattle.rb_make.specs.Trial.{channel_line, next_member, conversation_line, beginning, ending, first_process, sends_on, later_primary, later_alternate, later_process, source, schedule, processes_of, rounds_of, added_of, source_of, schedule_of}

-- a number has few digits
digits : (n : ℕ) → n < 100000 → length (decimal n) ≤ 5
digits n few = length-decimal-le 5 n (omega arith) (omega arith) (omega arith)

-- texts of numbers, each of which has so many bytes at the most
lengths : (text_of : ℕ → List ℕ) (most first n : ℕ) → ((j : ℕ) → j < first + n → length (text_of j) ≤ most)
    → length (flat_map text_of (range_with_len first n)) ≤ most * n
lengths text_of most first zero short = omega arith
lengths text_of most first (suc n) short =
    let here = short first (omega arith) in
    let others = lengths text_of most (first + 1) n (λ j within. short j (omega arith)) in
    omega (arith, length-append (text_of first) (flat_map text_of (range_with_len (first + 1) n)))

short_channel : (j : ℕ) → j < 99 → length (channel_line j) ≤ 60
unfolding channel_line
short_channel j few =
    let one : length (decimal j) ≤ 5 = digits j (omega arith) in
    let next : length (decimal (j + 1)) ≤ 5 = digits (j + 1) (omega arith) in
    simp length-append (omega arith)

short_member : (j : ℕ) → j < 99 → length (next_member j) ≤ 10
unfolding next_member
short_member j few =
    let one : length (decimal j) ≤ 5 = digits j (omega arith) in
    simp length-append (omega arith)

short_conversation : (k : ℕ) → 2 ≤ k → k ≤ 32 → length (conversation_line k) ≤ 400
unfolding conversation_line
short_conversation k some few =
    let members : length (flat_map next_member (range_with_len 2 (k - 1))) ≤ 10 * (k - 1) =
    lengths next_member 10 2 (k - 1) (λ j within. short_member j (omega arith)) in
    simp length-append (omega arith)

short_beginning : (j w : ℕ) → j < 99 → w < 99 → length (beginning j w) ≤ 150
unfolding beginning
short_beginning j w few_processes few_rounds =
    let one : length (decimal j) ≤ 5 = digits j (omega arith) in
    let rounds : length (decimal w) ≤ 5 = digits w (omega arith) in
    simp length-append (omega arith)

short_ending : length ending ≤ 40
unfolding ending
short_ending = omega arith

short_first : (w s : ℕ) → w < 99 → s < 99 → length (first_process w s) ≤ 400
unfolding first_process
short_first w s few_rounds small =
    let begins = short_beginning 1 w (omega arith) few_rounds in
    let added : length (decimal s) ≤ 5 = digits s (omega arith) in
    simp length-append (omega (arith, short_ending))

short_send : (k j : ℕ) → j < 99 → length (sends_on k j) ≤ 20
unfolding sends_on
short_send k j few = by_test (nat_lt j k)
  where
    by_test : (t : Bool) → length (cond t (concat (codes " send c" ∷ decimal j ∷ codes " x;" ∷ [])) []) ≤ 20
    by_test true = let one : length (decimal j) ≤ 5 = digits j (omega arith) in simp length-append (omega arith)
    by_test false = omega arith

short_primary : (k j : ℕ) → j < 99 → length (later_primary k j) ≤ 70
unfolding later_primary
short_primary k j few =
    let one : length (decimal j) ≤ 5 = digits j (omega arith) in
    let before : length (decimal (j - 1)) ≤ 5 = digits (j - 1) (omega arith) in
    let send = short_send k j few in
    simp length-append (omega arith)

short_alternate : (k j : ℕ) → j < 99 → length (later_alternate k j) ≤ 60
unfolding later_alternate
short_alternate k j few =
    let before : length (decimal (j - 1)) ≤ 5 = digits (j - 1) (omega arith) in
    let send = short_send k j few in
    simp length-append (omega arith)

short_later : (k w j : ℕ) → j < 99 → w < 99 → length (later_process k w j) ≤ 320
unfolding later_process
short_later k w j few_processes few_rounds =
    let begins = short_beginning j w few_processes few_rounds in
    let primary = short_primary k j few_processes in
    let alternate = short_alternate k j few_processes in
    simp length-append (omega (arith, short_ending))

short_source : (k w s : ℕ) → 2 ≤ k → k ≤ 32 → w < 99 → s < 99 → length (source k w s) ≤ MOST_BYTES
unfolding source
short_source k w s some few_processes few_rounds small =
    let channels = lengths channel_line 60 1 (k - 1) (λ j within. short_channel j (omega arith)) in
    let conversation = short_conversation k some few_processes in
    let first = short_first w s few_rounds small in
    let later = lengths (later_process k w) 320 2 (k - 1) (λ j within. short_later k w j (omega arith) few_rounds) in
    simp length-append (omega arith)

-- the source of a trial can be read
pub short_source_of : (n : ℕ) → length (source_of n) ≤ MOST_BYTES
short_source_of n = short_source (processes_of n) (rounds_of n) (added_of n) (omega arith) (omega arith) (omega arith) (omega arith)

-- a schedule has not many rounds
few_rounds : (k w : ℕ) → k ≤ 32 → w ≤ 50 → w * (8 * k + 60) < 100000
few_rounds k w few_processes few =
    let each : 8 * k + 60 ≤ 316 = omega arith in
    omega (arith, mul-le-mul_left w each)

-- the schedule of a trial can be read
pub short_schedule_of : (n : ℕ) → length (schedule_of n) ≤ MOST_BYTES
unfolding schedule
short_schedule_of n =
    let rounds : length (decimal (rounds_of n * (8 * processes_of n + 60))) ≤ 5 =
    digits (rounds_of n * (8 * processes_of n + 60)) (few_rounds (processes_of n) (rounds_of n) (omega arith) (omega arith)) in
    simp length-append (omega arith)
