-- How many numbers a quantified expression goes over, and its counter on the way.
use Rattle.std.proofs.Common.{◌≡◌, ℕ, suc, ◌+◌, ℤ, pos, negsuc, ◌+ℤ◌, ◌-ℤ◌, int_lt, nat_lt, cond, Bool, true, false, Result, Ok, Err, refl, ap, ◌∙◌, arith}
use Rattle.std.proofs.lemmas.Int.{ints}
use Rattle.rb_base.specs.declared.event.Cause.{Cause}
use Rattle.rb_base.specs.declared.event.Cause.TheVariants.{Range}
use Rattle.rb_base.specs.declared.limits.TheConstants.{MOST_QUANTIFIED}
use Rattle.rb_meaning.specs.Environment.{natural}
use Rattle.rb_meaning.specs.Value.{few_numbers, span}

-- the counter is at its end, or before it
pub at_end : (x : ℤ) → int_lt x (x +ℤ pos 0) ≡ false
at_end x = grind (arith, ints)

pub before_end : (x : ℤ) (n : ℕ) → int_lt x (x +ℤ pos (suc n)) ≡ true
before_end x n = grind (arith, ints)

pub one_on : (x : ℤ) (n : ℕ) → x +ℤ pos (suc n) ≡ (x +ℤ pos 1) +ℤ pos n
one_on x n = omega (arith, ints)

-- so many numbers lie from x to y
gap_is : (x y z : ℤ) (n : ℕ) → z ≡ y -ℤ x → int_lt y x ≡ false → natural z + 1 ≡ suc n → y ≡ x +ℤ pos n
gap_is x y (pos k) n e l h =
    let same : k ≡ n = omega arith in
    let goal : y ≡ x +ℤ pos k = omega (arith, ints) in
    goal ∙ ap (λ i. x +ℤ pos i) same
gap_is x y (negsuc k) n e l h = absurd (grind (arith, ints))

none_there : {n : ℕ} → ◌≡◌ {A = Result ℕ Cause} (Ok 0) (Ok (suc n)) → ⊥
none_there e = cc

few_there : (k n : ℕ) (b : Bool) → cond b (Err Range) (Ok k) ≡ Ok (suc n) → k ≡ suc n
few_there k n true e = absurd cc
few_there k n false e = cc

pub span_is : (x y : ℤ) (n : ℕ) → span x y ≡ Ok (suc n) → y ≡ x +ℤ pos n
span_is x y n e = by (int_lt y x) refl e
  where
    by : (b : Bool) → int_lt y x ≡ b → cond b (Ok 0) (few_numbers (natural (y -ℤ x) + 1)) ≡ Ok (suc n) → y ≡ x +ℤ pos n
    by true h g = absurd (none_there g)
    by false h g = gap_is x y (y -ℤ x) n refl h (few_there (natural (y -ℤ x) + 1) n (nat_lt MOST_QUANTIFIED (natural (y -ℤ x) + 1)) g)
