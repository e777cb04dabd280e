-- A list that is filled in, one element after another.
use Rattle.std.proofs.Common.{◌≡◌, ℕ, zero, suc, ◌+◌, ◌<◌, ◌≤◌, List, [], ◌∷◌, ◌++◌, get_or, length, map, take, slice_get, slice_set, Some, refl, ap, sym, ◌∙◌, subst, arith}
use Rattle.std.proofs.lemmas.List.{length-map, map-append, map_more, take_all}
use Rattle.rb_world.specs.Standing.{Each}
use Rattle.rb_world.proofs.ListFacts.{heads_same, none_some, some_same, tails_same}

-- one element more is as it should be
pub filled_more : {A : Type 0} (xs target : List A) (i : ℕ) (x : A) → i < length xs → slice_get target i ≡ Some x
    → take i xs ≡ take i target → take (i + 1) (slice_set xs i x) ≡ take (i + 1) target
filled_more [] target i x h there so_far = absurd (omega (arith, h))
filled_more (y ∷ xs) [] i x h there so_far = absurd (none_some there)
filled_more (y ∷ xs) (t ∷ target) zero x h there so_far = λ j. sym (some_same there) j ∷ []
filled_more (y ∷ xs) (t ∷ target) (suc i) x h there so_far =
    let k : suc (i + 1) ≡ suc i + 1 = omega arith in
    let rest = filled_more xs target i x (omega (arith, h)) there (tails_same so_far) in
    subst (λ n. take n (slice_set (y ∷ xs) (suc i) x) ≡ take n (t ∷ target)) k (λ j. heads_same so_far j ∷ rest j)

-- and once the last one is, all of it is
pub filled_all : {A : Type 0} (xs target : List A) (i : ℕ) → length xs ≤ i → length xs ≡ length target → take i xs ≡ take i target → xs ≡ target
filled_all xs target i over long so_far =
    sym (take_all i xs (omega (arith, over))) ∙ so_far ∙ take_all i target (omega (arith, over, long))

-- the image of a list with one element changed
image_set : {A B : Type 0} (f : A → B) (xs : List A) (i : ℕ) (x : A) → map f (slice_set xs i x) ≡ slice_set (map f xs) i (f x)
image_set f [] i x = refl
image_set f (y ∷ xs) zero x = refl
image_set f (y ∷ xs) (suc i) x = ap (λ (zs : List _). f y ∷ zs) (image_set f xs i x)

-- the same of the images
pub images_more : {A B : Type 0} (f : A → B) (xs : List A) (target : List B) (i : ℕ) (x : A) → i < length xs → slice_get target i ≡ Some (f x)
    → take i (map f xs) ≡ take i target → take (i + 1) (map f (slice_set xs i x)) ≡ take (i + 1) target
images_more f xs target i x h there so_far =
    ap (take (i + 1)) (image_set f xs i x)
    ∙ filled_more (map f xs) target i (f x) (omega (arith, h, length-map xs f)) there so_far

-- a number that is the same of the element that was there stays the same of all
pub numbers_stay : {A B C : Type 0} (g : B → C) (f : A → B) (xs : List A) (i : ℕ) (x y : A) → slice_get xs i ≡ Some y → g (f x) ≡ g (f y)
    → map g (map f (slice_set xs i x)) ≡ map g (map f xs)
numbers_stay g f [] i x y there same = refl
numbers_stay g f (z ∷ xs) zero x y there same = λ j. (same ∙ ap (λ one. g (f one)) (sym (some_same there))) j ∷ map g (map f xs)
numbers_stay g f (z ∷ xs) (suc i) x y there same = λ j. g (f z) ∷ numbers_stay g f xs i x y there same j

-- what holds of each element and of a new one
pub each_set : {A : Type 0} (P : A → Type 0) (xs : List A) (i : ℕ) (x : A) → Each (λ _ one. P one) xs → P x → Each (λ _ one. P one) (slice_set xs i x)
each_set P [] i x each new r y e = each r y e
each_set P (z ∷ xs) zero x each new zero y e = subst P (some_same e) new
each_set P (z ∷ xs) zero x each new (suc r) y e = each (suc r) y e
each_set P (z ∷ xs) (suc i) x each new zero y e = each zero y e
each_set P (z ∷ xs) (suc i) x each new (suc r) y e = each_set P xs i x (λ n. each (suc n)) new r y e

-- as long as before
pub long_set : {A : Type 0} (xs : List A) (i : ℕ) (x : A) → length (slice_set xs i x) ≡ length xs
long_set [] i x = refl
long_set (y ∷ xs) zero x = refl
long_set (y ∷ xs) (suc i) x = ap suc (long_set xs i x)

-- one more of the images of a list was pushed
pub pushed_more : {A B C : Type 0} (f : A → C) (h : B → C) (xs : List B) (i : ℕ) (x d : B) (ys new : List A) (y : A) → i < length xs → x ≡ get_or xs i d
    → new ≡ ys ++ y ∷ [] → f y ≡ h x → map f ys ≡ map h (take i xs) → map f new ≡ map h (take (i + 1) xs)
pushed_more f h xs i x d ys new y within is pushed same so_far =
    ap (map f) pushed ∙ map-append f ys (y ∷ [])
    ∙ (λ j. so_far j ++ (same ∙ ap h is) j ∷ [])
    ∙ sym (map_more h xs i d within)

-- and what holds of each holds of one more
pub each_pushed : {A : Type 0} (P : A → Type 0) (ys new : List A) (y : A) → new ≡ ys ++ y ∷ [] → Each (λ _ one. P one) ys → P y → Each (λ _ one. P one) new
each_pushed {A} P ys new y pushed each last = subst (λ (zs : List A). Each (λ _ one. P one) zs) (sym pushed) (at_end ys each)
  where
    at_end : (zs : List A) → Each (λ _ one. P one) zs → Each (λ _ one. P one) (zs ++ y ∷ [])
    at_end [] h zero x e = subst P (some_same e) last
    at_end [] h (suc r) x e = absurd (none_some e)
    at_end (z ∷ zs) h zero x e = h zero x e
    at_end (z ∷ zs) h (suc r) x e = at_end zs (λ n. h (suc n)) r x e

-- images of images
pub map-map : {A B C : Type 0} (g : B → C) (f : A → B) (xs : List A) → map g (map f xs) ≡ map (λ x. g (f x)) xs
map-map g f [] = refl
map-map g f (x ∷ xs) = ap (λ (ys : List _). g (f x) ∷ ys) (map-map g f xs)
