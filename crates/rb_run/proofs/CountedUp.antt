-- The decimal digits of a number that is counted up.
use Rattle.std.proofs.Common.{◌≡◌, ℕ, ◌+◌, ◌-◌, ◌/◌, ◌%◌, ◌^◌, ◌<◌, List, [], ◌∷◌, ◌++◌, decimal, length, get_or, take, drop, inl, inr, sym, ap, ◌∙◌, arith}
use Rattle.std.specs.List.{refill}
use Rattle.std.proofs.Math.ListN.{set}
use Rattle.std.proofs.Math.Seq.{get_or-append_seam, set-append_seam, take-append_seam}
use Rattle.std.proofs.lemmas.Bool.{cases_lt}
use Rattle.std.proofs.lemmas.Fmt.{decimal_digit, decimal_step}
use Rattle.std.proofs.lemmas.List.{length-append}

-- a number, and what stands before its last digit, as it does in the next number where that digit is not 9
record HasFront (n : ℕ) : Type 0 where
  front : List ℕ
  now : decimal n ≡ front ++ (48 + n % 10) ∷ []
  next : n % 10 < 9 → decimal (n + 1) ≡ front ++ (48 + n % 10 + 1) ∷ []

has_front : (n : ℕ) → n + 1 < 2 ^ 64 → HasFront n
has_front n fits = elim (cases_lt n 10) [
  | inl alone ↦ record {
    front = [];
    now = decimal_digit n alone ∙ ap (λ (d : ℕ). d ∷ []) (omega arith);
    next = λ below. decimal_digit (n + 1) (omega arith) ∙ ap (λ (d : ℕ). d ∷ []) (omega arith);
  }
  | inr longer ↦ record {
    front = decimal (n / 10);
    now = decimal_step n longer (omega arith);
    next = λ below.
        let tens : (n + 1) / 10 ≡ n / 10 = omega arith in
        let ones : 48 + (n + 1) % 10 ≡ 48 + n % 10 + 1 = omega arith in
        decimal_step (n + 1) (omega arith) fits ∙ ap (λ (m : ℕ). decimal m ++ (48 + (n + 1) % 10) ∷ []) tens
        ∙ ap (λ (d : ℕ). decimal (n / 10) ++ d ∷ []) ones;
  }
]

-- the last digit of some digits, and what they are with another one in its place
last_one : (digits front : List ℕ) (d : ℕ) → digits ≡ front ++ d ∷ []
    → (get_or digits (length digits - 1) 0 ≡ d) × ((x : ℕ) → set digits (length digits - 1) x ≡ front ++ x ∷ [])
last_one digits front d e =
    let at : length digits - 1 ≡ length front = omega (arith, ap length e, length-append front (d ∷ [])) in (
      ap (λ (xs : List ℕ). get_or xs (length digits - 1) 0) e ∙ ap (λ (i : ℕ). get_or (front ++ d ∷ []) i 0) at ∙ get_or-append_seam front d [] 0,
      λ x. ap (λ (xs : List ℕ). set xs (length digits - 1) x) e ∙ ap (λ (i : ℕ). set (front ++ d ∷ []) i x) at ∙ set-append_seam front d [] x,
    )

-- where the last digit is below 9, the next number is written with it one higher
pub counted_up : (n digit : ℕ) (digits : List ℕ) → n + 1 < 2 ^ 64 → digits ≡ decimal n → digit ≡ get_or digits (length digits - 1) 0 → digit < 57
    → set digits (length digits - 1) (digit + 1) ≡ decimal (n + 1)
counted_up n digit digits fits is at below =
    let split : HasFront n = has_front n fits in
    let last = last_one digits split.front (48 + n % 10) (is ∙ split.now) in
    let same : digit ≡ 48 + n % 10 = at ∙ last.0 in
    let less : n % 10 < 9 = omega arith in
    last.1 (digit + 1) ∙ ap (λ (d : ℕ). split.front ++ (d + 1) ∷ []) same ∙ sym (split.next less)

-- as many as there were are written back whole
pub refilled : (xs ys : List ℕ) → length ys ≡ length xs → refill (length xs) xs ys ≡ ys
refilled xs ys e = ap (λ (n : ℕ). take n (ys ++ drop (length ys) xs)) (sym e) ∙ take-append_seam ys (drop (length ys) xs)
