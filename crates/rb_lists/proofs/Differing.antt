-- Names and numbers that differ, by tests.
use Rattle.std.proofs.Common.{◌≡◌, ◌↔◌, ◌<◌, ◌+◌, ◌⊎◌, ℕ, zero, suc, nat_eq, Bool, true, false, not, ◌&&◌, ◌||◌, IsTrue, List, [], ◌∷◌, Bor, Some, length, map, get_or, take, slice_get, refl, sym, ap, subst, ◌∙◌, inl, inr, arith}
use Rattle.std.specs.List.{All, AllByRecursion, IsDistinct, list_any}
use Rattle.std.proofs.lemmas.Bool.{and_parts, eqb-true, eq-eqb, false≢true, or_parts, true≢false, not-true}
use Rattle.std.proofs.lemmas.List.Elements.{All-from_recursion, All-more, recursion_from_All}
use Rattle.rb_world.specs.Kind.{Membership}
use Rattle.rb_world.proofs.ListFacts.{some_same}
use Rattle.rb_meaning.specs.Environment.{same_name}
use Rattle.rb_code.specs.SoundCode.Sound.{IsMember}
use Rattle.rb_lists.specs.Groups.{HasParent}
use Rattle.rb_lists.specs.Naming.{all_differ}

abbrev texts : List (Bor (List ℕ)) → List (List ℕ)
texts names = map (λ name. name.now) names

-- a name that is none of these
apart : (name : List ℕ) (names : List (Bor (List ℕ))) → list_any (λ other. same_name name other.now) names ≡ false
    → AllByRecursion (λ other. same_name name other ≡ false) (texts names)
apart name [] e = tt
apart name (other ∷ names) e =
    let parts = or_parts (same_name name other.now) (list_any (λ one. same_name name one.now) names) e in
    (parts.0, apart name names parts.1)

none_alike : (name : List ℕ) (names : List (Bor (List ℕ))) → AllByRecursion (λ other. same_name name other ≡ false) (texts names)
    → list_any (λ other. same_name name other.now) names ≡ false
none_alike name [] none = refl
none_alike name (other ∷ names) none =
    ap (λ here. here || list_any (λ one. same_name name one.now) names) none.0 ∙ none_alike name names none.1

differ_by : (names : List (Bor (List ℕ))) → all_differ names ≡ true → IsDistinct same_name (texts names)
unfolding IsDistinct
differ_by [] e = tt
differ_by (name ∷ names) e =
    let alike = list_any (λ (other : Bor (List ℕ)). same_name name.now other.now) names in
    let parts = and_parts (not alike) (all_differ names) e in
    (apart name.now names (not-true alike parts.0), differ_by names parts.1)

by_differ : (names : List (Bor (List ℕ))) → IsDistinct same_name (texts names) → all_differ names ≡ true
unfolding IsDistinct
by_differ [] distinct = refl
by_differ (name ∷ names) distinct =
    ap (λ alike. not alike && all_differ names) (none_alike name.now names distinct.0) ∙ by_differ names distinct.1

-- the test that names differ
pub tells_names : (told : Bool) (names : List (Bor (List ℕ))) (outer : List (List ℕ)) → texts names ≡ outer → told ≡ all_differ names
    → IsTrue told ↔ IsDistinct same_name outer
tells_names told names outer same e =
    ((λ t. subst (IsDistinct same_name) same (differ_by names (sym e ∙ t))), (λ d. e ∙ by_differ names (subst (IsDistinct same_name) (sym same) d)))

-- the test of a member
pub any_member : (p : ℕ) (members : List ℕ) → list_any (λ m. nat_eq m p) members ≡ true → IsMember p members
any_member p [] e = absurd (false≢true e)
any_member p (m ∷ members) e = by (nat_eq m p) refl (any_member p members) e
  where
    by : (b : Bool) → nat_eq m p ≡ b → (list_any (λ m. nat_eq m p) members ≡ true → IsMember p members)
        → (b || list_any (λ m. nat_eq m p) members) ≡ true → (m ≡ p) ⊎ IsMember p members
    by true same next e = inl (eqb-true m p same)
    by false same next e = inr (next e)

pub member_any : (p : ℕ) (members : List ℕ) → IsMember p members → list_any (λ m. nat_eq m p) members ≡ true
member_any p [] member = absurd member
member_any p (m ∷ members) (inl same) = ap (λ here. here || list_any (λ m. nat_eq m p) members) (eq-eqb m p same)
member_any p (m ∷ members) (inr later) = by (nat_eq m p) (member_any p members later)
  where
    by : (b : Bool) → list_any (λ m. nat_eq m p) members ≡ true → (b || list_any (λ m. nat_eq m p) members) ≡ true
    by true e = refl
    by false e = e

-- the test of a conversation whose parent is there
pub tells_parent : (groups : List Membership) (group around : Membership) (d : ℕ) (told : Bool) → group.parent ≡ Some d
    → slice_get groups d ≡ Some around → (IsTrue told ↔ All (λ m. IsMember m around.members) group.members)
    → IsTrue told ↔ HasParent groups group
tells_parent groups group around d told is there tells = (
  (λ t. record {
    parent = λ n at. (
      around,
      subst (λ k. slice_get groups k ≡ Some around) (some_same (sym is ∙ at)) there,
      tells.0 t,
    );
  }),
  (λ has.
      let of = has.parent d is in
      tells.1
      (subst (λ (one : Membership). All (λ m. IsMember m one.members) group.members) (some_same (sym of.1 ∙ there)) of.2)),
)

-- a number that stood before
pub repeats : (members : List ℕ) (i : ℕ) → i < length members → list_any (λ m. nat_eq m (get_or members i 0)) (take i members) ≡ true
    → IsDistinct nat_eq members → ⊥
unfolding IsDistinct
repeats [] i within e distinct = absurd (omega arith)
repeats (m ∷ members) zero within e distinct = false≢true e
repeats (m ∷ members) (suc i) within e distinct = by (nat_eq m (get_or members i 0)) refl (repeats members i (omega arith)) e
  where
    by : (b : Bool) → nat_eq m (get_or members i 0) ≡ b
        → (list_any (λ n. nat_eq n (get_or members i 0)) (take i members) ≡ true → IsDistinct nat_eq members → ⊥)
        → (b || list_any (λ n. nat_eq n (get_or members i 0)) (take i members)) ≡ true → ⊥
    by true same next e =
        true≢false (sym same ∙ All-from_recursion (λ n. nat_eq m n ≡ false) members distinct.0 i 0 (omega arith))
    by false same next e = next e distinct.1

-- and one that did not
one_more : (members : List ℕ) (i : ℕ) → i < length members → list_any (λ m. nat_eq m (get_or members i 0)) (take i members) ≡ false
    → IsDistinct nat_eq (take i members) → IsDistinct nat_eq (take (suc i) members)
unfolding IsDistinct
one_more [] i within e distinct = absurd (omega arith)
one_more (m ∷ members) zero within e distinct = (tt, tt)
one_more (m ∷ members) (suc i) within e distinct =
    let parts = or_parts (nat_eq m (get_or members i 0)) (list_any (λ (n : ℕ). nat_eq n (get_or members i 0)) (take i members)) e in
    let next : i + 1 ≡ suc i = omega arith in
    let more = All-more (λ n. nat_eq m n ≡ false) members i 0 (omega arith) (All-from_recursion (λ n. nat_eq m n ≡ false) (take i members) distinct.0) parts.0 in (
      recursion_from_All (λ n. nat_eq m n ≡ false) (take (suc i) members) (subst (λ k. All (λ n. nat_eq m n ≡ false) (take k members)) next more),
      one_more members i (omega arith) parts.1 distinct.1,
    )

pub differs_more : (members : List ℕ) (i : ℕ) → i < length members → list_any (λ m. nat_eq m (get_or members i 0)) (take i members) ≡ false
    → IsDistinct nat_eq (take i members) → IsDistinct nat_eq (take (i + 1) members)
differs_more members i within e distinct =
    let next : suc i ≡ i + 1 = omega arith in
    subst (λ k. IsDistinct nat_eq (take k members)) next (one_more members i within e distinct)

pub none_differ : IsDistinct nat_eq []
unfolding IsDistinct
none_differ = tt
