-- What an acceptance test says, by the value that was found.
use Rattle.std.proofs.Common.{◌≡◌, ℤ, true, false, Ok, Err, subst, w64, of_z, FitsSigned}
use Rattle.rb_base.specs.declared.event.Cause.{Cause}
use Rattle.rb_meaning.specs.Value.{Outcome, is_zero}
use Rattle.rb_walk.proofs.Spans.{is_zero_bits, not_zero_bits}

-- the value is not 0
pub test_holds : (outcome : Outcome) (v : ℤ) → outcome ≡ Ok v → (of_z w64 v ≡ 0 → ⊥) → (w : ℤ) × (outcome ≡ Ok w) × (is_zero w ≡ false)
test_holds outcome v e nonzero = (v, e, not_zero_bits v nonzero)

-- the value is 0
pub test_fails : (outcome : Outcome) (v : ℤ) → outcome ≡ Ok v → FitsSigned w64 v → of_z w64 v ≡ 0 → (w : ℤ) → outcome ≡ Ok w → is_zero w ≡ true
test_fails outcome v e fits zero w e' =
    let same : v ≡ w = cc in
    let P : ℤ → Type 0 = λ n. is_zero n ≡ true in
    subst P same (is_zero_bits v fits zero)

-- there is no value, but a trap
pub test_traps : (outcome : Outcome) (cause : Cause) → outcome ≡ Err cause → (w : ℤ) → outcome ≡ Ok w → is_zero w ≡ true
test_traps outcome cause e w e' = absurd cc
