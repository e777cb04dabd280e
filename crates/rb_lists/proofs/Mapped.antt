-- Tests of all elements of a list, and of a list that was made from another.
use Rattle.std.proofs.Common.{◌≡◌, ◌↔◌, ◌<◌, ◌+◌, Bool, true, false, IsTrue, MatchBool, List, [], ◌∷◌, ◌++◌, map, length, get_or, take, ℕ, refl, sym, ap, ◌∙◌, subst, arith, append_assoc}
use Rattle.std.specs.List.{All, AllByRecursion, AllWithin, HoldsAt}
use Rattle.std.proofs.lemmas.Bool.{false≢true}
use Rattle.std.proofs.lemmas.List.{map_push, take_more}
use Rattle.std.proofs.lemmas.List.Elements.{All-from_all_within, All-from_recursion, All-map, recursion_from_All}

unmapped : {X Y : Type 0} (P : X → Type 0) (f : Y → X) (ys : List Y) → AllByRecursion P (map f ys) → AllByRecursion (λ y. P (f y)) ys
unmapped P f [] all = tt
unmapped P f (y ∷ ys) all = (all.0, unmapped P f ys all.1)

-- what holds of what each element becomes
pub All-from_map : {X Y : Type 0} (P : X → Type 0) (f : Y → X) (ys : List Y) → All P (map f ys) → All (λ y. P (f y)) ys
All-from_map P f ys all =
    All-from_recursion (λ y. P (f y)) ys (unmapped P f ys (recursion_from_All P (map f ys) all))

-- a test of each element is a test of what each becomes
pub tells_of_map : {X Y : Type 0} (P : X → Type 0) (f : Y → X) (ys zs : List Y) (told : Bool) → zs ≡ ys
    → (IsTrue told ↔ All (λ y. P (f y)) zs) → IsTrue told ↔ All P (map f ys)
tells_of_map P f ys zs told e tells =
    let same = subst (λ xs. IsTrue told ↔ All (λ y. P (f y)) xs) e tells in
    ((λ t. All-map P f ys (same.0 t)), (λ all. same.1 (All-from_map P f ys all)))

-- the answer of `all`, where the closure tells of each element
pub tells_of_all : {X : Type 0} (P : X → Type 0) (told : Bool) (xs : List X)
    → MatchBool told (AllWithin P xs 0 (length xs)) ((k : ℕ) × (k < length xs) × HoldsAt (λ x. P x → ⊥) xs k) → IsTrue told ↔ All P xs
tells_of_all P true xs all = ((λ _. All-from_all_within P xs all), (λ _. refl))
tells_of_all P false [] some = ((λ e. absurd (false≢true e)), (λ _. absurd (omega arith)))
tells_of_all P false (x ∷ xs) some = ((λ e. absurd (false≢true e)), (λ all. absurd (some.2 x (all some.0 x some.1))))

-- what one element more becomes was pushed
pub pushed_one : {X Y : Type 0} (f : X → Y) (old named named' : List Y) (xs : List X) (i : ℕ) (x : X) (y : Y) → x ≡ get_or xs i x → i < length xs
    → y ≡ f x → named' ≡ named ++ y ∷ [] → named ≡ old ++ map f (take i xs) → named' ≡ old ++ map f (take (i + 1) xs)
pushed_one f old named named' xs i x y is h made these so_far =
    these
    ∙ ap (λ z. named ++ z ∷ []) made
    ∙ ap (λ ys. ys ++ f x ∷ []) so_far
    ∙ append_assoc old (map f (take i xs)) (f x ∷ [])
    ∙ ap (λ ys. old ++ ys) (sym (map_push f (take i xs) x) ∙ ap (λ z. map f (take i xs ++ z ∷ [])) is ∙ ap (map f) (sym (take_more xs i x h)))
