-- How many tokens are left where some were taken one after another.
use Rattle.std.proofs.Common.{◌≡◌, ◌<◌, ◌≤◌, ◌+◌, ◌*◌, ℕ, Result, Ok, Err, OnOk, arith}

pub and_fewer : {a b c : ℕ} → c < b → b < a → c < a
and_fewer h k = omega arith

pub no_more : {a b c : ℕ} → c ≤ b → b < a → c < a
no_more h k = omega arith

pub fewer_still : {a b c : ℕ} → c < b → b ≤ a → c < a
fewer_still h k = omega arith

pub at_most : {a b : ℕ} → b < a → b ≤ a
at_most h = omega arith

-- the last call takes some more, or no fewer are left
pub call_fewer : {T E : Type 0} {b : ℕ} (a c : ℕ) (r : Result T E) → OnOk r (c < b) → b < a → OnOk r (c < a)
call_fewer a c (Ok x) h k = and_fewer h k
call_fewer a c (Err e) h k = tt

pub call_at_most : {T E : Type 0} {b : ℕ} (a c : ℕ) (r : Result T E) → OnOk r (c < b) → b < a → OnOk r (c ≤ a)
call_at_most a c (Ok x) h k = at_most (and_fewer h k)
call_at_most a c (Err e) h k = tt

-- the last call takes none
pub call_takes_none : {T E : Type 0} {a c : ℕ} (r : Result T E) → c < a → OnOk r (c < a)
call_takes_none (Ok x) h = h
call_takes_none (Err e) h = tt

pub call_weaker : {T E : Type 0} (a c : ℕ) (r : Result T E) → OnOk r (c < a) → OnOk r (c ≤ a)
call_weaker a c (Ok x) h = at_most h
call_weaker a c (Err e) h = tt

-- so a call is smaller, which may nest a little deeper, by the measures of the two cycles
pub falls_40 : {a b t : ℕ} (i j : ℕ) → 40 * a + j ≡ t → i < 40 + j → b < a → 40 * b + i < t
falls_40 i j e h k = omega arith

pub falls_32 : {a b t : ℕ} (i j : ℕ) → 32 * a + j ≡ t → i < 32 + j → b < a → 32 * b + i < t
falls_32 i j e h k = omega arith
