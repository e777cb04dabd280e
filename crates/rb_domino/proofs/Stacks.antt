-- Vectors as stacks: what lies on top.
use Rattle.std.proofs.Common.{◌≡◌, ℕ, zero, suc, ◌+◌, ◌-◌, ◌<◌, Vec, List, [], ◌∷◌, ◌++◌, length, drop, reverse, slice_get, slice_index_or, slice_set, Option, Some, None, MatchOption, refl, ap, ◌∙◌, sym, subst, arith, length-append}
use Rattle.std.proofs.lemmas.List.{length-reverse, map-set, reverse-append, reverse-reverse}
use Rattle.rb_domino.specs.Board.{list_at, stack, stacks}

-- one more lies on top
pub stack_pushed : {X : Type 0} (xs : List X) (x : X) → stack (xs ++ x ∷ []) ≡ x ∷ stack xs
stack_pushed xs x = reverse-append xs (x ∷ [])

-- the last element
get_last : {X : Type 0} (xs : List X) (x : X) → slice_get (xs ++ x ∷ []) (length xs) ≡ Some x
get_last [] x = refl
get_last (y ∷ xs) x = get_last xs x

pub top_is : {X : Type 0} (xs : List X) (o : Option X) → o ≡ slice_get xs (length xs - 1)
    → MatchOption o (stack xs ≡ []) (λ x. stack xs ≡ x ∷ drop 1 (stack xs))
top_is {X} xs o is = by (stack xs) refl
  where
    by : (ys : List X) → stack xs ≡ ys → MatchOption o (stack xs ≡ []) (λ x. stack xs ≡ x ∷ drop 1 (stack xs))
    by [] e =
        let none : xs ≡ [] = sym (reverse-reverse xs) ∙ ap reverse e in
        let o_is : None ≡ o = sym (is ∙ ap (λ l. slice_get l (length l - 1)) none) in
        subst (λ o. MatchOption o (stack xs ≡ []) (λ x. stack xs ≡ x ∷ drop 1 (stack xs))) o_is e
    by (y ∷ ys) e =
        let whole : xs ≡ reverse ys ++ y ∷ [] = sym (reverse-reverse xs) ∙ ap reverse e ∙ reverse-append (y ∷ []) ys in
        let at : length (reverse ys ++ y ∷ []) - 1 ≡ length (reverse ys) = omega (arith, length-append (reverse ys) (y ∷ [])) in
        let o_is : Some y ≡ o = sym (is ∙ ap (λ l. slice_get l (length l - 1)) whole
        ∙ ap (slice_get (reverse ys ++ y ∷ [])) at ∙ get_last (reverse ys) y) in
        subst (λ o. MatchOption o (stack xs ≡ []) (λ x. stack xs ≡ x ∷ drop 1 (stack xs))) o_is (e ∙ ap (λ l. y ∷ drop 1 l) (sym e))

-- a stack on which something lay is shorter once its top was taken off
pub popped : {X : Type 0} (items : List X) (x : X) (o : Option X) (old new : ℕ) → stack items ≡ x ∷ drop 1 (stack items) → old ≡ length items
    → MatchOption o ((old ≡ 0) × (new ≡ 0)) (λ _. new + 1 ≡ old) → new < old
popped items x (Some y) old new some all by_pop = omega (arith, by_pop)
popped items x None old new some all by_pop = absurd (
    let filled = ap length some in
    let never : ⊥ = omega (arith, filled, length-reverse items, all, by_pop.0) in
    never
    )

-- the stack of one of many vectors
pub stack_read : {X A : Type 0} (vectors : List (Vec X A)) (q : ℕ) (vector : Vec X A) → q < length vectors → vector ≡ slice_index_or vectors q vector
    → list_at (stacks vectors) q ≡ stack vector.items
stack_read [] q vector within is = absurd (omega arith)
stack_read (v ∷ vs) zero vector within is = ap (λ w. stack w.items) (sym is)
stack_read (v ∷ vs) (suc q) vector within is = stack_read vs q vector (omega arith) is

-- one of many vectors is written
pub stacks_set : {X A : Type 0} (vectors : List (Vec X A)) (q : ℕ) (vector : Vec X A)
    → stacks (slice_set vectors q vector) ≡ slice_set (stacks vectors) q (stack vector.items)
stacks_set vectors q vector = map-set (λ v. stack v.items) vectors q vector
