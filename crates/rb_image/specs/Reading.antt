-- Reading from the front: what was read and the bytes behind it, or nothing where the bytes don't begin so. It is a tool of the readers
-- and of their proofs; what an image is says `Image` alone.
use Rattle.std.specs.Prelude.{◌≡◌, ℕ, ℤ, zero, suc, ◌/◌, ◌^◌, nat_lt, Bool, cond, List, [], ◌∷◌, length, take, drop, Option, Some, None, Result, Ok, Err}
use Rattle.std.specs.Int.{w64, from_be_bytes, cast_signed}
use Rattle.rb_code.specs.declared.instr.Spot.{Spot}
use Rattle.rb_code.specs.declared.instr.Spot.TheVariants.{Global, Local}
use Rattle.rb_image.specs.declared.refusal.FormRefusal.{FormRefusal}
use Rattle.rb_image.specs.declared.refusal.FormRefusal.TheVariants.{Form, Memory}

infixl 10 ◌>>=◌
abbrev pub ◌>>=◌ : {A B : Type 0} → Option A → (A → Option B) → Option B
None >>= f = None
(Some x) >>= f = f x

-- what a reader reads, and how one is made of others
abbrev pub Reading : Type 0 → Type 0
Reading X = List ℕ → Option (X × List ℕ)

abbrev pub both : {X Y : Type 0} → Reading X → Reading Y → Reading (X × Y)
both first second bytes = do
  x ← first bytes
  y ← second x.1
  Some ((x.0, y.0), y.1)

abbrev pub made : {X Y : Type 0} → (X → Y) → Reading X → Reading Y
made f reading bytes = reading bytes >>= λ x. Some (f x.0, x.1)

abbrev pub tested : {X : Type 0} → (X → Bool) → Reading X → Reading X
tested test reading bytes = reading bytes >>= λ x. cond (test x.0) (Some x) None

-- eight bytes as a number without a sign
unfoldable pub word_at : Reading ℕ
word_at bytes = cond (nat_lt (length bytes) 8) None (Some (from_be_bytes w64 (take 8 bytes), drop 8 bytes))

unfoldable pub integer_at : Reading ℤ
integer_at = made (cast_signed w64) word_at

-- a number of 32 bits
unfoldable pub natural_at : Reading ℕ
natural_at = tested (λ n. nat_lt n (2 ^ 32)) word_at

-- a text, no longer than what is left
unfoldable pub text_at : Reading (List ℕ)
text_at bytes = do
  n ← word_at bytes
  cond (nat_lt (length n.1) n.0) None (Some (take n.0 n.1, drop n.0 n.1))

-- so many items
unfoldable pub items_at : {X : Type 0} → Reading X → ℕ → Reading (List X)
items_at reading zero bytes = Some ([], bytes)
items_at reading (suc n) bytes = do
  first ← reading bytes
  others ← items_at reading n first.1
  Some (first.0 ∷ others.0, others.1)

-- a list of items of so many bytes at least, no longer than what is left
unfoldable pub list_at : {X : Type 0} → ℕ → Reading X → Reading (List X)
list_at least reading bytes = do
  n ← word_at bytes
  cond (nat_lt (length n.1 / least) n.0) None (items_at reading n.0 n.1)

-- the same of fewer than 2^32 items
unfoldable pub few_at : {X : Type 0} → ℕ → Reading X → Reading (List X)
few_at least reading = tested (λ xs. nat_lt (length xs) (2 ^ 32)) (list_at least reading)

-- what stands behind 0 or 1
abbrev pub optional_behind : ℕ → Reading (Option ℕ)
optional_behind zero bytes = Some (None, bytes)
optional_behind (suc zero) bytes = made (λ n. Some n) natural_at bytes
optional_behind (suc (suc n)) bytes = None

unfoldable pub optional_at : Reading (Option ℕ)
optional_at bytes = word_at bytes >>= λ n. optional_behind n.0 n.1

abbrev pub spot_behind : ℕ → Reading Spot
spot_behind zero bytes = made Global natural_at bytes
spot_behind (suc zero) bytes = made Local natural_at bytes
spot_behind (suc (suc n)) bytes = None

unfoldable pub spot_at : Reading Spot
spot_at bytes = word_at bytes >>= λ n. spot_behind n.0 n.1

-- What a function returned, seen by view, is what reading gives, unless memory ran out.
abbrev pub Fails : {Y : Type 0} → FormRefusal → Option Y → Type 0
Fails Memory read = Unit {0}
Fails Form read = read ≡ None

abbrev pub Gives : {X Y : Type 0} → (X → Y) → Result X FormRefusal → Option Y → Type 0
Gives view (Ok x) read = read ≡ Some (view x)
Gives view (Err e) read = Fails e read
