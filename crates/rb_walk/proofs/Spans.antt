-- One number more of a quantified expression.
use Rattle.std.proofs.Common.{◌≡◌, ◌+◌, ◌-◌, ◌<◌, ◌≤◌, ℕ, ℤ, suc, pos, ◌+ℤ◌, true, false, cond, Ok, Err, refl, ap, ◌∙◌, arith, negsuc, w64, of_z, FitsSigned}
use Rattle.std.proofs.lemmas.Int.{ints}
use Rattle.std.proofs.lemmas.Bool.Decides.{nat_tests}
use Rattle.rb_base.specs.declared.event.Cause.{Cause}
use Rattle.rb_meaning.specs.Value.{Outcome, and_then, is_zero, fitting, every_from, some_from, sum_from}

-- what is left of a span once its first numbers were taken
one_less : (n i : ℕ) → i < n → n - i ≡ suc (n - (i + 1))
one_less n i h = omega arith

-- nothing is left once all were taken
none_left : (n i : ℕ) → n ≤ i → n - i ≡ 0
none_left n i h = omega arith

-- the number after
next : (a : ℤ) (i : ℕ) → (a +ℤ pos i) +ℤ pos 1 ≡ a +ℤ pos (i + 1)
next a i = omega (arith, ints)

-- one number more, by what the body comes to there
every_step : (n i : ℕ) (a : ℤ) (f : ℤ → Outcome) (body : Outcome) → i < n → f (a +ℤ pos i) ≡ body
    → every_from (n - i) (a +ℤ pos i) f ≡ and_then body (λ v. cond (is_zero v) (Ok (pos 0)) (every_from (n - (i + 1)) (a +ℤ pos (i + 1)) f))
every_step n i a f body h e =
    ap (λ m. every_from m (a +ℤ pos i) f) (one_less n i h)
    ∙ ap (λ b. and_then (f (a +ℤ pos i)) (λ v. cond (is_zero v) (Ok (pos 0)) (every_from (n - (i + 1)) b f))) (next a i)
    ∙ ap (λ o. and_then o (λ v. cond (is_zero v) (Ok (pos 0)) (every_from (n - (i + 1)) (a +ℤ pos (i + 1)) f))) e

-- the body traps
pub every_trap : (n i : ℕ) (a : ℤ) (f : ℤ → Outcome) (cause : Cause) → i < n → f (a +ℤ pos i) ≡ Err cause
    → every_from (n - i) (a +ℤ pos i) f ≡ Err cause
every_trap n i a f cause h e = every_step n i a f (Err cause) h e

-- the body does not hold
pub every_stop : (n i : ℕ) (a : ℤ) (f : ℤ → Outcome) (v : ℤ) → i < n → f (a +ℤ pos i) ≡ Ok v → is_zero v ≡ true
    → every_from (n - i) (a +ℤ pos i) f ≡ Ok (pos 0)
every_stop n i a f v h e z =
    every_step n i a f (Ok v) h e ∙ ap (λ b. cond b (Ok (pos 0)) (every_from (n - (i + 1)) (a +ℤ pos (i + 1)) f)) z

-- the body holds, and the rest decides
pub every_on : (n i : ℕ) (a : ℤ) (f : ℤ → Outcome) (v : ℤ) → i < n → f (a +ℤ pos i) ≡ Ok v → is_zero v ≡ false
    → every_from (n - i) (a +ℤ pos i) f ≡ every_from (n - (i + 1)) (a +ℤ pos (i + 1)) f
every_on n i a f v h e z =
    every_step n i a f (Ok v) h e ∙ ap (λ b. cond b (Ok (pos 0)) (every_from (n - (i + 1)) (a +ℤ pos (i + 1)) f)) z

-- the same where one has to hold
some_step : (n i : ℕ) (a : ℤ) (f : ℤ → Outcome) (body : Outcome) → i < n → f (a +ℤ pos i) ≡ body
    → some_from (n - i) (a +ℤ pos i) f ≡ and_then body (λ v. cond (is_zero v) (some_from (n - (i + 1)) (a +ℤ pos (i + 1)) f) (Ok (pos 1)))
some_step n i a f body h e =
    ap (λ m. some_from m (a +ℤ pos i) f) (one_less n i h)
    ∙ ap (λ b. and_then (f (a +ℤ pos i)) (λ v. cond (is_zero v) (some_from (n - (i + 1)) b f) (Ok (pos 1)))) (next a i)
    ∙ ap (λ o. and_then o (λ v. cond (is_zero v) (some_from (n - (i + 1)) (a +ℤ pos (i + 1)) f) (Ok (pos 1)))) e

-- the body traps
pub some_trap : (n i : ℕ) (a : ℤ) (f : ℤ → Outcome) (cause : Cause) → i < n → f (a +ℤ pos i) ≡ Err cause
    → some_from (n - i) (a +ℤ pos i) f ≡ Err cause
some_trap n i a f cause h e = some_step n i a f (Err cause) h e

-- the body holds
pub some_stop : (n i : ℕ) (a : ℤ) (f : ℤ → Outcome) (v : ℤ) → i < n → f (a +ℤ pos i) ≡ Ok v → is_zero v ≡ false
    → some_from (n - i) (a +ℤ pos i) f ≡ Ok (pos 1)
some_stop n i a f v h e z =
    some_step n i a f (Ok v) h e ∙ ap (λ b. cond b (some_from (n - (i + 1)) (a +ℤ pos (i + 1)) f) (Ok (pos 1))) z

-- the body does not hold, and the rest decides
pub some_on : (n i : ℕ) (a : ℤ) (f : ℤ → Outcome) (v : ℤ) → i < n → f (a +ℤ pos i) ≡ Ok v → is_zero v ≡ true
    → some_from (n - i) (a +ℤ pos i) f ≡ some_from (n - (i + 1)) (a +ℤ pos (i + 1)) f
some_on n i a f v h e z =
    some_step n i a f (Ok v) h e ∙ ap (λ b. cond b (some_from (n - (i + 1)) (a +ℤ pos (i + 1)) f) (Ok (pos 1))) z

-- the same for a sum so far
sum_step : (n i : ℕ) (a : ℤ) (f : ℤ → Outcome) (total : ℤ) (body : Outcome) → i < n → f (a +ℤ pos i) ≡ body
    → sum_from (n - i) (a +ℤ pos i) f total ≡ and_then body (λ v. and_then (fitting (total +ℤ v)) (sum_from (n - (i + 1)) (a +ℤ pos (i + 1)) f))
sum_step n i a f total body h e =
    ap (λ m. sum_from m (a +ℤ pos i) f total) (one_less n i h)
    ∙ ap (λ b. and_then (f (a +ℤ pos i)) (λ v. and_then (fitting (total +ℤ v)) (sum_from (n - (i + 1)) b f))) (next a i)
    ∙ ap (λ o. and_then o (λ v. and_then (fitting (total +ℤ v)) (sum_from (n - (i + 1)) (a +ℤ pos (i + 1)) f))) e

-- the body traps
pub sum_trap : (n i : ℕ) (a : ℤ) (f : ℤ → Outcome) (total : ℤ) (cause : Cause) → i < n → f (a +ℤ pos i) ≡ Err cause
    → sum_from (n - i) (a +ℤ pos i) f total ≡ Err cause
sum_trap n i a f total cause h e = sum_step n i a f total (Err cause) h e

-- the body is added, and the rest if the sum fits
pub sum_on : (n i : ℕ) (a : ℤ) (f : ℤ → Outcome) (total v : ℤ) (added : Outcome) → i < n → f (a +ℤ pos i) ≡ Ok v
    → fitting (total +ℤ v) ≡ added
    → sum_from (n - i) (a +ℤ pos i) f total ≡ and_then added (sum_from (n - (i + 1)) (a +ℤ pos (i + 1)) f)
sum_on n i a f total v added h e g =
    sum_step n i a f total (Ok v) h e ∙ ap (λ o. and_then o (sum_from (n - (i + 1)) (a +ℤ pos (i + 1)) f)) g

-- what a test against 0 says, where it reads the bits of a number
pub is_zero_bits : (z : ℤ) → FitsSigned w64 z → of_z w64 z ≡ 0 → is_zero z ≡ true
is_zero_bits (pos n) h e = grind (arith, nat_tests)
is_zero_bits (negsuc n) h e = absurd (omega arith)

-- and where they are not 0
pub not_zero_bits : (z : ℤ) → (of_z w64 z ≡ 0 → ⊥) → is_zero z ≡ false
not_zero_bits (pos n) h = grind (arith, nat_tests)
not_zero_bits (negsuc n) h = refl
