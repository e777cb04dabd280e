-- Slots that are written and read.
use Rattle.std.proofs.Common.{◌≡◌, ◌≢◌, ◌≤◌, ◌<◌, ◌+◌, ◌*◌, ◌%◌, ◌/◌, ℕ, ℤ, pos, suc, List, [], length, slice_get, slice_set, option_map, unwrap_or, Option, Some, refl, sym, ap, ◌∙◌, arith, nat_le, leb-true, leb-false, Bool, true, false}
use Rattle.std.proofs.Math.Nat.{div-add-mod, mul-le-mul_left, mul-suc}
use Rattle.std.proofs.lemmas.Option.{unwrap_or-slice_get}
use Rattle.std.proofs.lemmas.List.{get_or-set_same, get_or-set_other}
use Rattle.rb_world.specs.Kind.{Ends}
use Rattle.rb_world.specs.Slots.{Slots, put_slot, size_on, slot_of}
use Rattle.rb_world.proofs.ListFacts.{slice_get-change_at}

-- numbers less than n apart are different modulo n
quotients_differ : (n i j r a b : ℕ) → n * i + r ≡ a → n * j + r ≡ b → a < b → b < a + n → ⊥
quotients_differ n i j r a b one other less near = by_order (nat_le (suc i) j) refl
  where
    not_above : j < suc i → j ≤ i
    not_above less' = omega (arith, less')

    by_order : (rises : Bool) → nat_le (suc i) j ≡ rises → ⊥
    by_order true e = omega (arith, one, other, near, mul-le-mul_left n (leb-true (suc i) j e), mul-suc n i)
    by_order false e = omega (arith, one, other, less, mul-le-mul_left n (not_above (leb-false (suc i) j e)))

pub mods_differ : (n a b : ℕ) → a < b → b < a + n → a % n ≢ b % n
mods_differ n a b less near same =
    quotients_differ n (a / n) (b / n) (a % n) a b (div-add-mod a n) (ap (λ r. n * (b / n) + r) same ∙ div-add-mod b n) less near

set_read : (values : List ℤ) (i : ℕ) (v : ℤ) → i < length values → unwrap_or (slice_get (slice_set values i v) i) (pos 0) ≡ v
set_read values i v within = unwrap_or-slice_get (slice_set values i v) i (pos 0) ∙ get_or-set_same values i v (pos 0) within

-- a message that was put into its slot is read there
pub put_read : (channels : List Ends) (slots : Slots) (c n : ℕ) (v : ℤ) (values : List ℤ) → slice_get slots c ≡ Some values
    → n % size_on channels c < length values
    → slot_of channels (put_slot channels c n v slots) c n ≡ v
put_read channels slots c n v values there within =
    ap (λ (list : Option (List ℤ)). unwrap_or (slice_get (unwrap_or list []) (n % size_on channels c)) (pos 0))
    (slice_get-change_at c (λ list. slice_set list (n % size_on channels c) v) slots
    ∙ ap (option_map (λ list. slice_set list (n % size_on channels c) v)) there)
    ∙ set_read values (n % size_on channels c) v within

-- and another, less than the size away, is still read in its own
pub put_other : (channels : List Ends) (slots : Slots) (c n k : ℕ) (v : ℤ) (values : List ℤ)
    → slice_get slots c ≡ Some values → k % size_on channels c ≢ n % size_on channels c
    → slot_of channels (put_slot channels c n v slots) c k ≡ slot_of channels slots c k
put_other channels slots c n k v values there apart =
    ap (λ (list : Option (List ℤ)). unwrap_or (slice_get (unwrap_or list []) (k % size_on channels c)) (pos 0))
    (slice_get-change_at c (λ list. slice_set list (n % size_on channels c) v) slots
    ∙ ap (option_map (λ list. slice_set list (n % size_on channels c) v)) there)
    ∙ (unwrap_or-slice_get (slice_set values (n % size_on channels c) v) (k % size_on channels c) (pos 0)
    ∙ get_or-set_other values (n % size_on channels c) (k % size_on channels c) v (pos 0) apart
    ∙ sym (unwrap_or-slice_get values (k % size_on channels c) (pos 0)))
    ∙ ap (λ (list : Option (List ℤ)). unwrap_or (slice_get (unwrap_or list []) (k % size_on channels c)) (pos 0)) (sym there)

-- slots keep their number
pub put_sized : (channels : List Ends) (slots : Slots) (c n : ℕ) (v : ℤ) (values : List ℤ) → slice_get slots c ≡ Some values
    → slice_get (put_slot channels c n v slots) c ≡ Some (slice_set values (n % size_on channels c) v)
put_sized channels slots c n v values there =
    slice_get-change_at c (λ list. slice_set list (n % size_on channels c) v) slots
    ∙ ap (option_map (λ list. slice_set list (n % size_on channels c) v)) there
