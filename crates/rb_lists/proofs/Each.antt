-- Tests of all elements of a list, from the first on.
use Rattle.std.proofs.Common.{◌≡◌, ◌↔◌, ◌<◌, ◌≤◌, ◌-◌, ◌&&◌, ◌||◌, not, Bool, true, false, IsTrue, List, [], ◌∷◌, length, take, drop, get_or, refl, sym, ap, ◌∙◌, subst, arith}
use Rattle.std.proofs.Math.Seq.{take-length}
use Rattle.std.specs.List.{All, AllByRecursion, list_all, list_any}
use Rattle.std.proofs.lemmas.Bool.{and_parts, false≢true, or_parts}
use Rattle.std.proofs.lemmas.List.Elements.{All-cons, All-nil, All-from_recursion, recursion_from_All}

-- the list behind its first element, as code takes it
abbrev pub behind : {X : Type 0} → List X → List X
behind xs = take (length xs - 1) (drop 1 xs)

behind_first : {X : Type 0} (x : X) (xs : List X) → behind (x ∷ xs) ≡ xs
behind_first x xs =
    let one : length (x ∷ xs) - 1 ≡ length xs = omega arith in
    ap (λ n. take n xs) one ∙ take-length xs

pub shorter : {X : Type 0} (rest : List X) → 1 ≤ length rest → length (behind rest) < length rest
shorter [] h = absurd (omega arith)
shorter (x ∷ xs) h =
    let same : length (behind (x ∷ xs)) ≡ length xs = ap length (behind_first x xs) in omega arith

first_of : {X : Type 0} (P : X → Type 0) (x : X) (xs : List X) → All P (x ∷ xs) → P x
first_of P x xs all = all 0 x (omega arith)

rest_of : {X : Type 0} (P : X → Type 0) (x : X) (xs : List X) → All P (x ∷ xs) → All P xs
rest_of P x xs all = All-from_recursion P xs (recursion_from_All P (x ∷ xs) all).1

-- a test of a list is one of the list that it is
pub tells_same : {X : Type 0} (P : X → Type 0) (xs ys : List X) (told : Bool) → xs ≡ ys → (IsTrue told ↔ All P xs) → IsTrue told ↔ All P ys
tells_same P xs ys told e tells = subst (λ zs. IsTrue told ↔ All P zs) e tells

-- the first is as wanted, so that the others tell
pub one_holds : {X : Type 0} (P : X → Type 0) (whole : Type 0) (rest : List X) (x d : X) → 1 ≤ length rest → x ≡ get_or rest 0 d → P x
    → (whole ↔ All P rest) → whole ↔ All P (behind rest)
one_holds P whole [] x d h is holds tells = absurd (omega arith)
one_holds P whole (y ∷ ys) x d h is holds tells =
    subst (λ zs. whole ↔ All P zs) (sym (behind_first y ys))
    ((λ w. rest_of P y ys (tells.0 w)), (λ all. tells.1 (All-cons P y ys (subst P is holds) all)))

-- the first is not, and that tells
pub one_lacks : {X : Type 0} (P : X → Type 0) (whole : Type 0) (rest : List X) (x d : X) → 1 ≤ length rest → x ≡ get_or rest 0 d → (P x → ⊥)
    → (whole ↔ All P rest) → IsTrue false ↔ whole
one_lacks P whole [] x d h is lacks tells = absurd (omega arith)
one_lacks P whole (y ∷ ys) x d h is lacks tells =
    ((λ e. absurd (false≢true e)), (λ w. absurd (lacks (subst P (sym is) (first_of P y ys (tells.0 w))))))

-- no other is left
pub all_hold : {X : Type 0} (P : X → Type 0) (whole : Type 0) (rest : List X) → length rest < 1 → (whole ↔ All P rest) → IsTrue true ↔ whole
all_hold P whole [] h tells = ((λ _. tells.1 (All-nil P)), (λ _. refl))
all_hold P whole (x ∷ xs) h tells = absurd (omega arith)

-- the same where a test tells of the first
pub one_passes : {X : Type 0} (P : X → Type 0) (whole : Type 0) (rest : List X) (x d : X) (told : Bool) → 1 ≤ length rest → x ≡ get_or rest 0 d
    → (IsTrue told ↔ P x) → told ≡ true → (whole ↔ All P rest) → whole ↔ All P (behind rest)
one_passes P whole rest x d told h is test passed tells = one_holds P whole rest x d h is (test.0 passed) tells

pub one_fails : {X : Type 0} (P : X → Type 0) (whole : Type 0) (rest : List X) (x d : X) (told : Bool) → 1 ≤ length rest → x ≡ get_or rest 0 d
    → (IsTrue told ↔ P x) → told ≡ false → (whole ↔ All P rest) → IsTrue false ↔ whole
one_fails P whole rest x d told h is test failed tells =
    one_lacks P whole rest x d h is (λ p. false≢true (sym failed ∙ test.1 p)) tells

-- a test that all pass
all_pass : {X : Type 0} (p : X → Bool) (xs : List X) → AllByRecursion (λ x. p x ≡ true) xs → list_all p xs ≡ true
all_pass p [] all = refl
all_pass p (x ∷ xs) all = ap (λ here. here && list_all p xs) all.0 ∙ all_pass p xs all.1

each_passes : {X : Type 0} (p : X → Bool) (xs : List X) → list_all p xs ≡ true → AllByRecursion (λ x. p x ≡ true) xs
each_passes p [] e = tt
each_passes p (x ∷ xs) e =
    let parts = and_parts (p x) (list_all p xs) e in
    (parts.0, each_passes p xs parts.1)

pub tells_test : {X : Type 0} (p : X → Bool) (xs ys : List X) (told : Bool) → xs ≡ ys → (IsTrue told ↔ All (λ x. p x ≡ true) xs)
    → IsTrue told ↔ (list_all p ys ≡ true)
tells_test p xs ys told e tells =
    let same = tells_same (λ x. p x ≡ true) xs ys told e tells in (
      (λ t. all_pass p ys (recursion_from_All (λ x. p x ≡ true) ys (same.0 t))),
      (λ all. same.1 (All-from_recursion (λ x. p x ≡ true) ys (each_passes p ys all))),
    )

-- a test that none passes, by a test that all fail it
none_passes : {X : Type 0} (p : X → Bool) (xs : List X) → AllByRecursion (λ x. p x ≡ false) xs → list_any p xs ≡ false
none_passes p [] all = refl
none_passes p (x ∷ xs) all = ap (λ here. here || list_any p xs) all.0 ∙ none_passes p xs all.1

all_fail : {X : Type 0} (p : X → Bool) (xs : List X) → list_any p xs ≡ false → AllByRecursion (λ x. p x ≡ false) xs
all_fail p [] e = tt
all_fail p (x ∷ xs) e =
    let parts = or_parts (p x) (list_any p xs) e in
    (parts.0, all_fail p xs parts.1)

pub any_unless : {X : Type 0} (p : X → Bool) (told : Bool) (xs : List X) → (IsTrue told ↔ All (λ x. p x ≡ false) xs)
    → not told ≡ list_any p xs
any_unless {X} p told xs tells = by told (list_any p xs) refl tells
  where
    by : (told any : Bool) → list_any p xs ≡ any → (IsTrue told ↔ All (λ x. p x ≡ false) xs) → not told ≡ any
    by true any e tells = sym (none_passes p xs (recursion_from_All (λ x. p x ≡ false) xs (tells.0 refl))) ∙ e
    by false true e tells = refl
    by false false e tells = absurd (false≢true (tells.1 (All-from_recursion (λ x. p x ≡ false) xs (all_fail p xs e))))
