-- Lists of which one element or each has changed, and what is known of each.
use Rattle.std.proofs.Common.{◌≡◌, ℕ, zero, suc, ◌<◌, List, [], ◌∷◌, ◌++◌, length, map, take, drop, get_or, slice_get, Some, None, refl, ap, sym, ◌∙◌, arith}
use Rattle.std.specs.List.{AllByRecursion}
use Rattle.rb_world.specs.World.{change_at, last_of}
use Rattle.rb_world.proofs.ListFacts.{none_some, some_same}

-- the later of two changes stays
pub change_twice : {A : Type 0} (p : ℕ) (f : A → A) (x : A) (xs : List A) → change_at p (λ _. x) (change_at p f xs) ≡ change_at p (λ _. x) xs
change_twice p f x [] = refl
change_twice zero f x (y ∷ ys) = refl
change_twice {A} (suc p) f x (y ∷ ys) = ap (λ (zs : List A). y ∷ zs) (change_twice p f x ys)

-- a change of what was put there
pub change_after : {A : Type 0} (p : ℕ) (f : A → A) (x : A) (xs : List A) → change_at p f (change_at p (λ _. x) xs) ≡ change_at p (λ _. f x) xs
change_after p f x [] = refl
change_after zero f x (y ∷ ys) = refl
change_after {A} (suc p) f x (y ∷ ys) = ap (λ (zs : List A). y ∷ zs) (change_after p f x ys)

-- a change of what stands there
pub change_there : {A : Type 0} (p : ℕ) (f : A → A) (x : A) (xs : List A) → slice_get xs p ≡ Some x → change_at p f xs ≡ change_at p (λ _. f x) xs
change_there p f x [] e = refl
change_there {A} zero f x (y ∷ ys) e = ap (λ (z : A). f z ∷ ys) (some_same e)
change_there {A} (suc p) f x (y ∷ ys) e = ap (λ (zs : List A). y ∷ zs) (change_there p f x ys e)

-- what is put back where it stands changes nothing
pub same_there : {A : Type 0} (p : ℕ) (x : A) (xs : List A) → slice_get xs p ≡ Some x → change_at p (λ _. x) xs ≡ xs
same_there p x [] e = refl
same_there {A} zero x (y ∷ ys) e = ap (λ (z : A). z ∷ ys) (sym (some_same e))
same_there {A} (suc p) x (y ∷ ys) e = ap (λ (zs : List A). y ∷ zs) (same_there p x ys e)

pub all_of_each : {A : Type 0} (P : A → Type 0) (xs : List A) → ((n : ℕ) (x : A) → slice_get xs n ≡ Some x → P x) → AllByRecursion P xs
all_of_each P [] each = tt
all_of_each P (x ∷ xs) each = (each 0 x refl, all_of_each P xs (λ n. each (suc n)))

-- and holds still where a change keeps it
pub all_changed : {A : Type 0} (P : A → Type 0) (p : ℕ) (f : A → A) (xs : List A) → ((x : A) → P x → P (f x)) → AllByRecursion P xs
    → AllByRecursion P (change_at p f xs)
all_changed P p f [] keeps all = tt
all_changed P zero f (x ∷ xs) keeps all = (keeps x all.0, all.1)
all_changed P (suc p) f (x ∷ xs) keeps all = (all.0, all_changed P p f xs keeps all.1)

pub all_mapped : {A : Type 0} (P : A → Type 0) (f : A → A) (xs : List A) → ((x : A) → P x → P (f x)) → AllByRecursion P xs
    → AllByRecursion P (map f xs)
all_mapped P f [] keeps all = tt
all_mapped P f (x ∷ xs) keeps all = (keeps x all.0, all_mapped P f xs keeps all.1)

-- the last element stands at the last number
pub last_there : {A : Type 0} (xs : List A) (n : ℕ) (x : A) → suc n ≡ length xs → slice_get xs n ≡ Some x → last_of xs ≡ Some x
last_there [] n x long e = absurd (none_some e)
last_there (y ∷ []) zero x long e = e
last_there (y ∷ []) (suc n) x long e = absurd (none_some e)
last_there (y ∷ z ∷ zs) zero x long e = absurd (omega (arith, long))
last_there (y ∷ z ∷ zs) (suc n) x long e = last_there (z ∷ zs) n x (omega (arith, long)) e

pub last_found : {A : Type 0} (xs : List A) (x : A) → last_of xs ≡ Some x → (n : ℕ) × (slice_get xs n ≡ Some x)
last_found [] x e = absurd (none_some e)
last_found (y ∷ []) x e = (0, e)
last_found (y ∷ z ∷ zs) x e = let found = last_found (z ∷ zs) x e in (suc found.0, found.1)

-- a list with an element has a last one
pub none_last : {A : Type 0} (xs : List A) → 0 < length xs → last_of xs ≡ None → ⊥
none_last [] h e = omega (arith, h)
none_last (x ∷ []) h e = cc
none_last (x ∷ y ∷ ys) h e = none_last (y ∷ ys) (omega arith) e

-- what is not changed yet is as it was
pub rest_there : {A : Type 0} (f : A → A) (xs ys : List A) (i : ℕ) (d : A) → i < length xs → ys ≡ map f (take i xs) ++ drop i xs
    → get_or ys i d ≡ get_or xs i d
rest_there {A} f xs ys i d h e = ap (λ zs. get_or zs i d) e ∙ by xs i h
  where
    by : (xs : List A) (i : ℕ) → i < length xs → get_or (map f (take i xs) ++ drop i xs) i d ≡ get_or xs i d
    by [] i h = absurd (omega (arith, h))
    by (x ∷ xs) zero h = refl
    by (x ∷ xs) (suc i) h = by xs i (omega (arith, h))
