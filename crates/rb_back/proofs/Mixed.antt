-- Lists of which the front is that of another list.
use Rattle.std.proofs.Common.{◌≡◌, ◌≤◌, ◌<◌, ◌+◌, ℕ, zero, suc, List, [], ◌∷◌, ◌++◌, length, map, get_or, take, drop, slice_get, slice_set, Some, refl, sym, ap, ◌∙◌, arith, append-nil, drop_of_length-le}
use Rattle.std.proofs.lemmas.List.{length-drop, length-append, length-take-le, set-get_or, take-append-le, take_all}
use Rattle.std.proofs.lemmas.Slice.{drop-append-drop}
use Rattle.rb_base.specs.Lines.{belonging}

-- an element of the front more
pub set_next : {A : Type 0} (xs ys : List A) (n : ℕ) (y : A) → slice_get ys n ≡ Some y → n < length xs
    → slice_set (take n ys ++ drop n xs) n y ≡ take (suc n) ys ++ drop (suc n) xs
set_next [] ys n y e less = absurd (omega arith)
set_next (x ∷ xs) [] n y e less = absurd (cc)
set_next {A} (x ∷ xs) (z ∷ zs) zero y e less = ap (λ (a : A). a ∷ xs) (let same : z ≡ y = cc in sym same)
set_next {A} (x ∷ xs) (z ∷ zs) (suc n) y e less = ap (λ (rest : List A). z ∷ rest) (set_next xs zs n y e (omega arith))

-- the front that is the same as before, and what comes behind it
pub take_mixed : {A : Type 0} (xs ys : List A) (n : ℕ) → n ≤ length ys → take n (take n ys ++ drop n xs) ≡ take n ys
take_mixed xs ys n less =
    let long : length (take n ys) ≡ n = length-take-le n ys less in
    take-append-le n (take n ys) (drop n xs) (omega arith) ∙ take_all n (take n ys) (omega arith)

pub drop_mixed : {A : Type 0} (xs ys : List A) (n m : ℕ) → n ≤ length ys → n ≤ m → drop m (take n ys ++ drop n xs) ≡ drop m xs
drop_mixed xs ys n m less more = drop-append-drop n xs (take n ys) m more (length-take-le n ys less)

-- lists whose fronts are the same, and what follows up to a place
pub same_front : {A : Type 0} (d : A) (xs ys : List A) (n m : ℕ) → length xs ≡ length ys → n ≤ m → m ≤ length xs → take n xs ≡ take n ys
    → ((k : ℕ) → n ≤ k → k < m → get_or xs k d ≡ get_or ys k d) → take m xs ≡ take m ys
same_front d xs ys n zero long less within front same = refl
same_front d [] ys n (suc m) long less within front same = absurd (omega arith)
same_front d (x ∷ xs) [] n (suc m) long less within front same = absurd (omega arith)
same_front {A} d (x ∷ xs) (y ∷ ys) zero (suc m) long less within front same =
    ap (λ (a : A). a ∷ take m xs) (same 0 (omega arith) (omega arith))
    ∙ ap (λ (rest : List A). y ∷ rest)
    (same_front d xs ys 0 m (omega arith) (omega arith) (omega arith) refl (λ k from to. same (suc k) (omega arith) (omega arith)))
same_front {A} d (x ∷ xs) (y ∷ ys) (suc n) (suc m) long less within front same =
    ap (λ (a : A). a ∷ take m xs) (let head : x ≡ y = cc in head)
    ∙ ap (λ (rest : List A). y ∷ rest)
    (same_front d xs ys n m (omega arith) (omega arith) (omega arith) (let tail : take n xs ≡ take n ys = cc in tail)
    (λ k from to. same (suc k) (omega arith) (omega arith)))

-- a front that goes further, over elements that are the same
pub mixed_further : {A : Type 0} (d : A) (xs ys : List A) (n m : ℕ) → length xs ≡ length ys → n ≤ m → m ≤ length xs
    → ((k : ℕ) → n ≤ k → k < m → get_or xs k d ≡ get_or ys k d) → take n ys ++ drop n xs ≡ take m ys ++ drop m xs
mixed_further d xs ys zero zero long less within same = refl
mixed_further d xs ys (suc n) zero long less within same = absurd (omega arith)
mixed_further d [] ys n (suc m) long less within same = absurd (omega arith)
mixed_further d (x ∷ xs) [] n (suc m) long less within same = absurd (omega arith)
mixed_further {A} d (x ∷ xs) (y ∷ ys) zero (suc m) long less within same =
    ap (λ (a : A). a ∷ xs) (same 0 (omega arith) (omega arith))
    ∙ ap (λ (rest : List A). y ∷ rest)
    (mixed_further d xs ys 0 m (omega arith) (omega arith) (omega arith) (λ k from to. same (suc k) (omega arith) (omega arith)))
mixed_further {A} d (x ∷ xs) (y ∷ ys) (suc n) (suc m) long less within same =
    ap (λ (rest : List A). y ∷ rest)
    (mixed_further d xs ys n m (omega arith) (omega arith) (omega arith) (λ k from to. same (suc k) (omega arith) (omega arith)))

-- an element that is set, and set again
pub set_twice : {A : Type 0} (xs : List A) (p : ℕ) (x y : A) → slice_set (slice_set xs p x) p y ≡ slice_set xs p y
set_twice [] p x y = refl
set_twice (z ∷ zs) zero x y = refl
set_twice {A} (z ∷ zs) (suc p) x y = ap (λ (rest : List A). z ∷ rest) (set_twice zs p x y)

pub set_same : {A : Type 0} (xs : List A) (p : ℕ) (x : A) → x ≡ get_or xs p x → slice_set xs p x ≡ xs
set_same xs p x e = ap (slice_set xs p) e ∙ set-get_or xs p x

-- what belongs to a process once it is set
pub belonging_set : {A : Type 0} (lists : List (List A)) (p : ℕ) (list : List A) → p < length lists → belonging (slice_set lists p list) p ≡ list
belonging_set [] p list less = absurd (omega arith)
belonging_set (x ∷ xs) zero list less = refl
belonging_set (x ∷ xs) (suc p) list less = belonging_set xs p list (omega arith)

pub set_belonging : {A : Type 0} (lists : List (List A)) (p : ℕ) → slice_set lists p (belonging lists p) ≡ lists
set_belonging [] p = refl
set_belonging (x ∷ xs) zero = refl
set_belonging {A} (x ∷ xs) (suc p) = ap (λ (others : List (List A)). x ∷ others) (set_belonging xs p)

pub length_mixed : {A : Type 0} (xs ys : List A) (n : ℕ) → n ≤ length ys → length xs ≡ length ys → length (take n ys ++ drop n xs) ≡ length xs
length_mixed xs ys n less long = omega (arith, length-append (take n ys) (drop n xs), length-take-le n ys less, length-drop n xs)

-- all of the other list, where both are as long
pub mixed_all : {A : Type 0} (xs ys : List A) (n : ℕ) → n ≡ length xs → length xs ≡ length ys → take n ys ++ drop n xs ≡ ys
mixed_all {A} xs ys n all long =
    ap (λ (front : List A). front ++ drop n xs) (take_all n ys (omega arith))
    ∙ ap (λ (back : List A). ys ++ back) (drop_of_length-le xs (omega arith)) ∙ append-nil ys

-- an element more
pub take_next : {A : Type 0} (ys : List A) (n : ℕ) (y : A) → slice_get ys n ≡ Some y → take (n + 1) ys ≡ take n ys ++ y ∷ []
take_next {A} ys n y is = ap (λ m. take m ys) {x = n + 1} {y = suc n} (omega arith) ∙ next ys n is
  where
    next : (zs : List A) (m : ℕ) → slice_get zs m ≡ Some y → take (suc m) zs ≡ take m zs ++ y ∷ []
    next [] m e = absurd (cc)
    next (z ∷ zs) zero e = ap (λ (a : A). a ∷ []) (let same : z ≡ y = cc in same)
    next (z ∷ zs) (suc m) e = ap (λ (rest : List A). z ∷ rest) (next zs m e)

pub belonging_there : {A : Type 0} (lists : List (List A)) (n : ℕ) → n < length lists → slice_get lists n ≡ Some (belonging lists n)
belonging_there [] n less = absurd (omega arith)
belonging_there (x ∷ xs) zero less = refl
belonging_there (x ∷ xs) (suc n) less = belonging_there xs n (omega arith)

-- lists of which the lengths are told
pub told_long : {A B : Type 0} (lists : List (List A)) (f : B → ℕ) (items : List B) (p : ℕ) (one : B) → map length lists ≡ map f items
    → p < length items → one ≡ get_or items p one → f one ≡ length (belonging lists p)
told_long lists f [] p one e less is = absurd (omega arith)
told_long [] f (b ∷ bs) p one e less is = absurd (cc)
told_long (x ∷ xs) f (b ∷ bs) zero one e less is = ap f is ∙ (let head : length x ≡ f b = cc in sym head)
told_long (x ∷ xs) f (b ∷ bs) (suc p) one e less is =
    told_long xs f bs p one (let tails : map length xs ≡ map f bs = cc in tails) (omega arith) is

-- an element that is set behind the front
pub set_more : {A : Type 0} (xs ys old new : List A) (n : ℕ) (x y : A) → new ≡ slice_set old n x → old ≡ take n ys ++ drop n xs → x ≡ y
    → slice_get ys n ≡ Some y → n < length xs → new ≡ take (n + 1) ys ++ drop (n + 1) xs
set_more {A} xs ys old new n x y set is same there less =
    set ∙ ap (λ (zs : List A). slice_set zs n x) is ∙ ap (λ (z : A). slice_set (take n ys ++ drop n xs) n z) same
    ∙ set_next xs ys n y there less ∙ ap (λ m. take m ys ++ drop m xs) {x = suc n} {y = n + 1} (omega arith)
