-- Rounds over processes: how many turns they have, and what one turn leaves of them.
use Rattle.std.proofs.Common.{◌≡◌, ℕ, zero, suc, ◌+◌, ◌-◌, ◌*◌, ◌<◌, [], ◌∷◌, ◌++◌, length, replicate, refl, ap, ◌∙◌, sym, arith, length-append}
use Rattle.std.proofs.Math.Nat.{mul_comm}
use Rattle.rb_sched.specs.Schedule.{numbers_from, rounds}
use Rattle.rb_sched.specs.Rounds.{rounds_over, turns_left}

-- a round has as many turns as processes
pub length-numbers_from : (at n : ℕ) → length (numbers_from at n) ≡ n
length-numbers_from at zero = refl
length-numbers_from at (suc n) = ap suc (length-numbers_from (at + 1) n)

-- so many rounds have so many turns of each process
pub length-rounds_over : (first size n : ℕ) → length (rounds_over first size n) ≡ size * n
length-rounds_over first size zero = omega arith
length-rounds_over first size (suc n) =
    omega (arith, length-append (numbers_from first size) (rounds_over first size n), length-numbers_from first size, length-rounds_over first size n)

-- rounds over all processes begin at the first
pub rounds_over_all : (processes n : ℕ) → rounds_over 0 processes n ≡ rounds processes n
rounds_over_all processes zero = refl
rounds_over_all processes (suc n) = ap (λ xs. numbers_from 0 processes ++ xs) (rounds_over_all processes n)

-- rounds over one process are its turns
pub rounds_over_one : (p n : ℕ) → rounds_over p 1 n ≡ replicate n p
rounds_over_one p zero = refl
rounds_over_one p (suc n) = ap (λ xs. p ∷ xs) (rounds_over_one p n)

-- a round that begins at the first process is whole
pub turns_left_whole : (first end n : ℕ) → turns_left first end first n ≡ rounds_over first (end - first) n
turns_left_whole first end zero = refl
turns_left_whole first end (suc n) = refl

-- no process, no turn
pub rounds_none : (n : ℕ) → rounds 0 n ≡ []
rounds_none zero = refl
rounds_none (suc n) = rounds_none n

-- the turns of one process are all left at first
pub turns_left_one : (p n : ℕ) → turns_left p (p + 1) p n ≡ replicate n p
turns_left_one p n = let one : p + 1 - p ≡ 1 = omega arith in
    turns_left_whole p (p + 1) n ∙ ap (λ size. rounds_over p size n) one ∙ rounds_over_one p n

-- so are the rounds of all
pub turns_left_all : (processes n : ℕ) → turns_left 0 processes 0 n ≡ rounds processes n
turns_left_all processes n = let all : processes - 0 ≡ processes = omega arith in
    turns_left_whole 0 processes n ∙ ap (λ size. rounds_over 0 size n) all ∙ rounds_over_all processes n

-- a round with a process left
numbers_from-more : (at n m : ℕ) → n ≡ suc m → numbers_from at n ≡ at ∷ numbers_from (at + 1) m
numbers_from-more at n m e = ap (numbers_from at) e

-- a turn inside a round
pub turns_left_inside : (first end at n : ℕ) → ¬ (n ≡ 0) → at < end → ¬ (at + 1 ≡ end)
    → turns_left first end at n ≡ at ∷ turns_left first end (at + 1) n
turns_left_inside first end at zero some inside more = absurd (some refl)
turns_left_inside first end at (suc n) some inside more =
    let one : end - at ≡ suc (end - (at + 1)) = omega arith in
    ap (λ xs. xs ++ rounds_over first (end - first) n) (numbers_from-more at (end - at) (end - (at + 1)) one)

-- the last turn of a round
pub turns_left_last : (first end at n : ℕ) → ¬ (n ≡ 0) → at + 1 ≡ end → turns_left first end at n ≡ at ∷ turns_left first end first (n - 1)
turns_left_last first end at zero some last = absurd (some refl)
turns_left_last first end at (suc n) some last =
    let one : end - at ≡ suc 0 = omega arith in
    let fewer : suc n - 1 ≡ n = omega arith in
    ap (λ xs. xs ++ rounds_over first (end - first) n) (numbers_from-more at (end - at) 0 one)
    ∙ ap (λ xs. at ∷ xs) (sym (turns_left_whole first end n) ∙ ap (turns_left first end first) (sym fewer))

-- no round, no turn
pub turns_left_none : (first end at n : ℕ) → n ≡ 0 → turns_left first end at n ≡ []
turns_left_none first end at n e = ap (turns_left first end at) e

-- a round has a turn
pub turns_left_some : (first end at n : ℕ) → (0 < n → at < end) → turns_left first end at n ≡ [] → n ≡ 0
turns_left_some first end at zero inside e = refl
turns_left_some first end at (suc n) inside e =
    let now : at < end = inside (omega arith) in
    let one : end - at ≡ suc (end - (at + 1)) = omega arith in
    absurd (let same = ap (λ xs. xs ++ rounds_over first (end - first) n) (numbers_from-more at (end - at) (end - (at + 1)) one) in cc (e, same))

-- the rest of a round, and whole rounds
pub length_turns_left : (first end at n : ℕ) → ¬ (n ≡ 0) → length (turns_left first end at n) ≡ end - at + (n - 1) * (end - first)
length_turns_left first end at zero some = absurd (some refl)
length_turns_left first end at (suc n) some =
    let parts : length (turns_left first end at (suc n)) ≡ length (numbers_from at (end - at)) + length (rounds_over first (end - first) n) =
    length-append (numbers_from at (end - at)) (rounds_over first (end - first) n) in
    let fewer : suc n - 1 ≡ n = omega arith in
    parts
    ∙ ap (λ m. m + length (rounds_over first (end - first) n)) (length-numbers_from at (end - at))
    ∙ ap (λ m. end - at + m) (length-rounds_over first (end - first) n ∙ mul_comm (end - first) n ∙ ap (λ m. m * (end - first)) (sym fewer))

-- the same of all processes
pub length_rounds : (processes n : ℕ) → length (rounds processes n) ≡ processes * n
length_rounds processes n = ap length (sym (rounds_over_all processes n)) ∙ length-rounds_over 0 processes n
