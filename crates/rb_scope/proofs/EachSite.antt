-- A fact of each site of a list is one of each site of its parts; and each site of a tree that is resolved keeps its rule, and has
-- its slot.
use Rattle.std.proofs.Common.{◌≡◌, ℕ, zero, suc, Bool, true, false, List, [], ◌∷◌, ◌++◌, Some, refl, subst}
use Rattle.std.specs.List.{All, AllByRecursion, flat_map, slice_get}
use Rattle.std.proofs.lemmas.List.Elements.{All-from_recursion, recursion_from_All}
use Rattle.rb_base.specs.declared.place.Place.{Place}
use Rattle.rb_base.specs.declared.fault.FaultName.{FaultName}
use Rattle.rb_syntax.specs.Tree.{Tree}
use Rattle.rb_scope.specs.Sites.{Site, tree_sites}
use Rattle.rb_scope.specs.Rules.{broken_at, faults_of, where_broken}
use Rattle.rb_scope.specs.Slots.{HasItsSlot}
use Rattle.rb_scope.specs.Resolved.{IsResolved}
use Rattle.rb_scope.specs.declared.slot.Slot.{Slot}

-- the two parts of a list
pub all_split : {A : Type 0} (P : A → Type 0) (xs ys : List A) → AllByRecursion P (xs ++ ys)
    → AllByRecursion P xs × AllByRecursion P ys
all_split P [] ys all = (tt, all)
all_split P (x ∷ xs) ys all =
    let rest = all_split P xs ys all.1 in ((all.0, rest.0), rest.1)

-- the parts of each of several
pub all_parts : {A B : Type 0} (P : B → Type 0) (parts : A → List B) (Q : A → Type 0) (xs : List A)
    → ((x : A) → AllByRecursion P (parts x) → Q x) → AllByRecursion P (flat_map parts xs) → AllByRecursion Q xs
all_parts P parts Q [] holds all = tt
all_parts P parts Q (x ∷ xs) holds all =
    let split = all_split P (parts x) (flat_map parts xs) all in (holds x split.0, all_parts P parts Q xs holds split.1)

pub of_parts : {A B : Type 0} (P : B → Type 0) (parts : A → List B) (Q : A → Type 0) (xs : List A)
    → ((x : A) → AllByRecursion P (parts x) → Q x) → AllByRecursion P (flat_map parts xs) → All Q xs
of_parts P parts Q xs holds all = All-from_recursion Q xs (all_parts P parts Q xs holds all)

-- two facts of each
pub all_both : {A : Type 0} (P Q : A → Type 0) (xs : List A) → AllByRecursion P xs → AllByRecursion Q xs
    → AllByRecursion (λ x. P x × Q x) xs
all_both P Q [] p q = tt
all_both P Q (x ∷ xs) p q = ((p.0, q.0), all_both P Q xs p.1 q.1)

-- a weaker fact of each
pub all_weaker : {A : Type 0} (P Q : A → Type 0) (xs : List A) → ((x : A) → P x → Q x) → AllByRecursion P xs → AllByRecursion Q xs
all_weaker P Q [] holds all = tt
all_weaker P Q (x ∷ xs) holds all = (holds x all.0, all_weaker P Q xs holds all.1)

-- both parts
pub all_append : {A : Type 0} (P : A → Type 0) (xs ys : List A) → AllByRecursion P xs → AllByRecursion P ys
    → AllByRecursion P (xs ++ ys)
all_append P [] ys p q = q
all_append P (x ∷ xs) ys p q = (p.0, all_append P xs ys p.1 q)

-- the one at a number
pub all_at : {A : Type 0} (P : A → Type 0) (xs : List A) (i : ℕ) (x : A) → AllByRecursion P xs → slice_get xs i ≡ Some x → P x
all_at P [] i x all e = absurd (cc)
all_at P (y ∷ xs) zero x all e =
    let same : y ≡ x = cc in subst P same all.0
all_at P (y ∷ xs) (suc i) x all e = all_at P xs i x all.1 e

-- lists without an element, end to end
pub first-empty : {A : Type 0} (xs ys : List A) → xs ++ ys ≡ [] → xs ≡ []
first-empty [] ys e = refl
first-empty (x ∷ xs) ys e = absurd (cc)

pub second-empty : {A : Type 0} (xs ys : List A) → xs ++ ys ≡ [] → ys ≡ []
second-empty [] ys e = e
second-empty (x ∷ xs) ys e = absurd (cc)

each-empty : {A B : Type 0} (parts : A → List B) (xs : List A) → flat_map parts xs ≡ [] → AllByRecursion (λ x. parts x ≡ []) xs
each-empty parts [] e = tt
each-empty parts (x ∷ xs) e = (
  first-empty (parts x) (flat_map parts xs) e,
  each-empty parts xs (second-empty (parts x) (flat_map parts xs) e),
)

-- the rule of a site is kept
abbrev pub IsKept : Site → Type 0
IsKept site = broken_at site ≡ []

-- the rule of a site is kept, and its name has its slot
abbrev pub IsSettled : List Slot → Site → Type 0
IsSettled slots site = HasItsSlot slots site × IsKept site

-- the same of all these sites
abbrev pub AreKept : List Site → Type 0
AreKept sites = AllByRecursion IsKept sites

abbrev pub AreSettled : List Slot → List Site → Type 0
AreSettled slots sites = AllByRecursion (IsSettled slots) sites

pub kept_of : (slots : List Slot) (sites : List Site) → AreSettled slots sites → AreKept sites
kept_of slots sites all = all_weaker (IsSettled slots) IsKept sites (λ site settled. settled.1) all

pub all_kept : (tree : Tree) → faults_of tree ≡ [] → AreKept (tree_sites tree)
all_kept tree e = each-empty broken_at (tree_sites tree) e

pub all_settled : (tree : Tree) (slots : List Slot) → IsResolved tree slots → AreSettled slots (tree_sites tree)
all_settled tree slots resolved =
    all_both (HasItsSlot slots) IsKept (tree_sites tree)
    (recursion_from_All (HasItsSlot slots) (tree_sites tree) resolved.slots_of.each) (all_kept tree resolved.no_fault)

-- a rule that is not broken
pub unbroken : (broken : Bool) (name : FaultName) (place : Place) → where_broken broken name place ≡ [] → broken ≡ false
unbroken true name place e = absurd (cc)
unbroken false name place e = refl
