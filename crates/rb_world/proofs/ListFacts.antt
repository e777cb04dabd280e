-- Small facts of lists with one element changed, of options and of tests.
use Rattle.std.proofs.Common.{◌≡◌, ◌≤◌, ◌<◌, ◌++◌, ℕ, zero, suc, List, [], ◌∷◌, length, map, take, option_map, slice_get, unwrap_or, Option, Some, None, refl, sym, ap, ◌∙◌, subst, arith, Bool, true, false, ◌&&◌, true≢false, not-suc-le-zero, le_of_suc-le-suc}
use Rattle.rb_world.specs.World.{change_at, last_of, without_last}
use Rattle.rb_world.specs.Standing.{Each}

-- what is looked up where the change was made
pub slice_get-change_at : {A : Type 0} (p : ℕ) (f : A → A) (xs : List A) → slice_get (change_at p f xs) p ≡ option_map f (slice_get xs p)
slice_get-change_at p f [] = refl
slice_get-change_at zero f (x ∷ xs) = refl
slice_get-change_at (suc p) f (x ∷ xs) = slice_get-change_at p f xs

-- what is looked up elsewhere than where the change was made
pub slice_get-change_other : {A : Type 0} (p : ℕ) (f : A → A) (xs : List A) (r : ℕ) → (r ≡ p → ⊥) → slice_get (change_at p f xs) r ≡ slice_get xs r
slice_get-change_other p f [] r ne = refl
slice_get-change_other zero f (x ∷ xs) zero ne = absurd (ne refl)
slice_get-change_other zero f (x ∷ xs) (suc r) ne = refl
slice_get-change_other (suc p) f (x ∷ xs) zero ne = refl
slice_get-change_other (suc p) f (x ∷ xs) (suc r) ne = slice_get-change_other p f xs r (λ e. ne (ap suc e))

-- what a Some holds
pub some_same : {A : Type 0} {x y : A} → Some x ≡ Some y → x ≡ y
some_same {A} {x} e = ap (λ (o : Option A). unwrap_or o x) e

pub Each-change_at : {A : Type 0} (P : ℕ → A → Type 0) (p : ℕ) (f : A → A) (xs : List A) → Each P xs
    → ((x : A) → slice_get xs p ≡ Some x → P p (f x)) → Each P (change_at p f xs)
Each-change_at P p f [] each new r y e = each r y e
Each-change_at P zero f (x ∷ xs) each new zero y e = subst (P zero) (some_same e) (new x refl)
Each-change_at P zero f (x ∷ xs) each new (suc r) y e = each (suc r) y e
Each-change_at P (suc p) f (x ∷ xs) each new zero y e = each zero y e
Each-change_at P (suc p) f (x ∷ xs) each new (suc r) y e =
    Each-change_at (λ n. P (suc n)) p f xs (λ n. each (suc n)) new r y e

pub Each-map : {A : Type 0} (P : ℕ → A → Type 0) (f : A → A) (xs : List A) → Each P xs
    → ((r : ℕ) (x : A) → slice_get xs r ≡ Some x → P r x → P r (f x)) → Each P (map f xs)
Each-map P f [] each new r y e = each r y e
Each-map P f (x ∷ xs) each new zero y e = subst (P zero) (some_same e) (new zero x refl (each zero x refl))
Each-map P f (x ∷ xs) each new (suc r) y e =
    Each-map (λ n. P (suc n)) f xs (λ n. each (suc n)) (λ n. new (suc n)) r y e

pub length-change_at : {A : Type 0} (p : ℕ) (f : A → A) (xs : List A) → length (change_at p f xs) ≡ length xs
length-change_at p f [] = refl
length-change_at zero f (x ∷ xs) = refl
length-change_at (suc p) f (x ∷ xs) = ap suc (length-change_at p f xs)

pub length-without_last : {A : Type 0} (xs : List A) → length (without_last xs) ≤ length xs
length-without_last [] = omega arith
length-without_last (x ∷ []) = omega arith
length-without_last (x ∷ y ∷ ys) = omega (arith, length-without_last (y ∷ ys))

-- None holds nothing
pub none_some : {A : Type 0} {x : A} → None ≡ Some x → ⊥
none_some e = cc

-- lists that are equal have equal heads and tails
pub heads_same : {A : Type 0} {x y : A} {xs ys : List A} → x ∷ xs ≡ y ∷ ys → x ≡ y
heads_same e = cc

pub tails_same : {A : Type 0} {x y : A} {xs ys : List A} → x ∷ xs ≡ y ∷ ys → xs ≡ ys
tails_same e = cc

-- two tests that hold together
pub first_holds : (a b : Bool) → (a && b) ≡ true → a ≡ true
first_holds true b e = refl
first_holds false b e = e

pub second_holds : (a b : Bool) → (a && b) ≡ true → b ≡ true
second_holds true b e = e
second_holds false b e = absurd (true≢false (sym e))

-- what is looked up in the front of a longer list
pub slice_get-front : {A : Type 0} (xs ys : List A) (n : ℕ) → n < length xs → slice_get (xs ++ ys) n ≡ slice_get xs n
slice_get-front [] ys n h = absurd (not-suc-le-zero h)
slice_get-front (x ∷ xs) ys zero h = refl
slice_get-front (x ∷ xs) ys (suc n) h = slice_get-front xs ys n (le_of_suc-le-suc h)

-- what is taken of the front of a longer list
pub take-front : {A : Type 0} (xs ys : List A) (n : ℕ) → n ≤ length xs → take n (xs ++ ys) ≡ take n xs
take-front {A} xs ys zero h = refl
take-front {A} [] ys (suc n) h = absurd (not-suc-le-zero h)
take-front {A} (x ∷ xs) ys (suc n) h = ap (λ (zs : List A). x ∷ zs) (take-front xs ys n (le_of_suc-le-suc h))

-- a list is what stands before its last element, and that element
pub last_stands_last : {A : Type 0} (xs : List A) (x : A) → last_of xs ≡ Some x → xs ≡ without_last xs ++ x ∷ []
last_stands_last {A} [] x e = absurd (none_some e)
last_stands_last {A} (y ∷ []) x e = cc
last_stands_last {A} (y ∷ z ∷ zs) x e = ap (λ (ys : List A). y ∷ ys) (last_stands_last (z ∷ zs) x e)

-- there is an element at each number below the length
pub slice_get-there : {A : Type 0} (xs : List A) (n : ℕ) → n < length xs → (y : A) × (slice_get xs n ≡ Some y)
slice_get-there [] n h = absurd (not-suc-le-zero h)
slice_get-there (x ∷ xs) zero h = (x, refl)
slice_get-there (x ∷ xs) (suc n) h = slice_get-there xs n (le_of_suc-le-suc h)

-- so none below it finds nothing
pub nothing_within : {A : Type 0} (xs : List A) (n : ℕ) → n < length xs → slice_get xs n ≡ None → ⊥
nothing_within xs n few none = none_some (sym none ∙ (slice_get-there xs n few).1)

-- the element at the end of a list
pub slice_get-end : {A : Type 0} (xs : List A) (y : A) → slice_get (xs ++ y ∷ []) (length xs) ≡ Some y
slice_get-end [] y = refl
slice_get-end (x ∷ xs) y = slice_get-end xs y

-- one more than before
pub length-end : {A : Type 0} (xs : List A) (y : A) → length (xs ++ y ∷ []) ≡ suc (length xs)
length-end [] y = refl
length-end (x ∷ xs) y = ap suc (length-end xs y)

-- such a list is not empty
pub end-not_empty : {A : Type 0} (xs : List A) (y : A) → xs ++ y ∷ [] ≡ [] → ⊥
end-not_empty [] y e = cc
end-not_empty (x ∷ xs) y e = cc
