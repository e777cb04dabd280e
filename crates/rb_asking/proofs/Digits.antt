-- The value of digits only grows along them, so once it is too great for 64 bits it stays so.
use Rattle.std.proofs.Common.{◌≡◌, ℕ, ◌+◌, ◌*◌, ◌-◌, ◌^◌, ◌≤◌, cond, List, [], ◌∷◌, Option, Some, None, length, get_or, nat_lt, sym, ap, ◌∙◌, arith}
use Rattle.std.proofs.lemmas.Bool.Decides.{nat_tests}
use Rattle.rb_base.specs.Bytes.{digits_value}
use Rattle.rb_base.proofs.Digits.{digits_value-grows}

-- a number that has 64 bits, or none
abbrev pub in_64_bits : ℕ → Option ℕ
in_64_bits n = cond (nat_lt n (2 ^ 64)) (Some n) None

-- a number with more than 64 bits has only such above it
above : (n m : ℕ) → n ≤ m → in_64_bits n ≡ None → in_64_bits m ≡ None
above n m h e = grind (arith, nat_tests)

-- once the value has more than 64 bits, the whole has
pub above_stays : (n : ℕ) (rest digits : List ℕ) → 1 ≤ length rest → digits_value n rest ≡ digits_value 0 digits
    → in_64_bits (10 * n + (get_or rest 0 0 - 48)) ≡ None →
    in_64_bits (digits_value 0 digits) ≡ None
above_stays n [] digits h e f = absurd (omega arith)
above_stays n (d ∷ ds) digits h e f =
    sym (ap in_64_bits e) ∙ above (10 * n + (d - 48)) (digits_value n (d ∷ ds)) (digits_value-grows (10 * n + (d - 48)) ds) f
