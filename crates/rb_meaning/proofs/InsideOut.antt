-- Lists turned round, element by element: what is kept from the outside in, as it is seen from the inside out.
use Rattle.std.proofs.Common.{◌≡◌, List, [], ◌∷◌, ◌++◌, reverse, refl, sym, ap, ◌∙◌, append_assoc}
use Rattle.std.proofs.lemmas.List.{reverse-append, reverse-reverse, append-nil}
use Rattle.rb_world.specs.World.{without_last}
use Rattle.rb_world.proofs.ListFacts.{tails_same}

-- the elements of xs from the last to the first, and then the others
abbrev pub onto : {A : Type 0} → List A → List A → List A
onto others [] = others
onto others (x ∷ xs) = onto (x ∷ others) xs

-- one more at the end comes first
pub onto-more : {A : Type 0} (others xs : List A) (y : A) → onto others (xs ++ y ∷ []) ≡ y ∷ onto others xs
onto-more others [] y = refl
onto-more others (x ∷ xs) y = onto-more (x ∷ others) xs y

-- without the first of them the last of xs is gone
pub onto-front : {A : Type 0} (others : List A) (x : A) (xs : List A) (y : A) (ys : List A) → onto others (x ∷ xs) ≡ y ∷ ys
    → onto others (without_last (x ∷ xs)) ≡ ys
onto-front others x [] y ys e = tails_same e
onto-front others x (x' ∷ xs) y ys e = onto-front (x ∷ others) x' xs y ys e

-- once something is there, it is never empty
pub onto-some : {A : Type 0} (x : A) (others xs : List A) → [] ≡ onto (x ∷ others) xs → ⊥
onto-some x others [] e = cc
onto-some x others (y ∷ xs) e = onto-some y (x ∷ others) xs e

-- it is the reverse
pub onto-reverse : {A : Type 0} (others xs : List A) → onto others xs ≡ reverse xs ++ others
onto-reverse others [] = refl
onto-reverse others (x ∷ xs) =
    onto-reverse (x ∷ others) xs ∙ sym (append_assoc (reverse xs) (x ∷ []) others) ∙ ap (λ ys. ys ++ others) (sym (reverse-append (x ∷ []) xs))

-- what is turned round twice
pub onto-twice : {A : Type 0} (xs ys : List A) → ys ≡ onto [] xs → xs ≡ reverse ys
onto-twice xs ys e = sym (reverse-reverse xs) ∙ ap reverse (sym (append-nil (reverse xs)) ∙ sym (onto-reverse [] xs) ∙ sym e)
