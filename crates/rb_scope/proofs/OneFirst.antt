-- Of several faults whose names follow from their numbers one is the first, and only one.
use Rattle.std.proofs.Common.{◌≡◌, ℕ, zero, suc, ◌<◌, ◌⊎◌, inl, inr, Bool, true, false, List, [], ◌∷◌, ◌++◌, length, get_or, Option, Some, None, refl, sym, ap, subst, ◌∙◌, arith}
use Rattle.std.proofs.lemmas.Bool.Decides.{nat_tests}
use Rattle.std.specs.List.{Contains, flat_map}
use Rattle.rb_base.specs.declared.place.Place.{Place}
use Rattle.rb_base.specs.declared.fault.SourceFault.{SourceFault}
use Rattle.rb_base.specs.declared.fault.FaultName.{FaultName}
use Rattle.rb_scope.specs.FirstFault.{IsFirstOf, comes_before, number_of}
use Rattle.rb_scope.specs.Finding.{first_after}
use Rattle.rb_scope.specs.Rules.{where_broken}
use Rattle.rb_scope.proofs.Order.{earlier, first_kept, nothing_kept}

kept_or_none : (faults : List SourceFault) (kept : Option SourceFault) → first_after None faults ≡ kept
    → (faults ≡ []) ⊎ ((fault : SourceFault) × IsFirstOf faults fault)
kept_or_none faults None e = inl (nothing_kept faults e)
kept_or_none faults (Some fault) e = inr (fault, first_kept fault faults e)

-- there is no fault, or one is the first
pub judged : (faults : List SourceFault) → (faults ≡ []) ⊎ ((fault : SourceFault) × IsFirstOf faults fault)
judged faults = kept_or_none faults (first_after None faults) refl

-- the name of a fault follows from its number
abbrev pub IsNamed : (ℕ → FaultName) → SourceFault → Type 0
IsNamed names fault = names (number_of fault.name) ≡ fault.name

-- the name of each fault does
abbrev pub AreNamed : (ℕ → FaultName) → List SourceFault → Type 0
AreNamed names [] = Unit {0}
AreNamed names (fault ∷ faults) = IsNamed names fault × AreNamed names faults

pub named_where : (names : ℕ → FaultName) (broken : Bool) (name : FaultName) (place : Place) → names (number_of name) ≡ name
    → AreNamed names (where_broken broken name place)
named_where names true name place e = (e, tt)
named_where names false name place e = tt

pub named_both : (names : ℕ → FaultName) (xs ys : List SourceFault) → AreNamed names xs → AreNamed names ys → AreNamed names (xs ++ ys)
named_both names [] ys a b = b
named_both names (x ∷ xs) ys (h, a) b = (h, named_both names xs ys a b)

pub named_flat : {A : Type 0} (names : ℕ → FaultName) (f : A → List SourceFault) (xs : List A) → ((x : A) → AreNamed names (f x))
    → AreNamed names (flat_map f xs)
named_flat names f [] h = tt
named_flat names f (x ∷ xs) h = named_both names (f x) (flat_map f xs) (h x) (named_flat names f xs h)

-- by its index
named-at : (names : ℕ → FaultName) (faults : List SourceFault) (k : ℕ) (d : SourceFault) → AreNamed names faults
    → k < length faults → IsNamed names (get_or faults k d)
named-at names [] k d a h = absurd (omega arith)
named-at names (fault ∷ faults) zero d a h = a.0
named-at names (fault ∷ faults) (suc k) d a h = named-at names faults k d a.1 (omega arith)

named_contained : (names : ℕ → FaultName) (faults : List SourceFault) (fault : SourceFault) → AreNamed names faults
    → Contains faults fault → IsNamed names fault
named_contained names faults fault a (k, h, e) = subst (IsNamed names) e (named-at names faults k fault a h)

-- two triples of which none is earlier are the same
same-lines : (l c n l' c' n' : ℕ) → earlier l c n l' c' n' ≡ false → earlier l' c' n' l c n ≡ false → l ≡ l'
same-lines l c n l' c' n' h i = grind (arith, nat_tests)

same-columns : (l c n l' c' n' : ℕ) → earlier l c n l' c' n' ≡ false → earlier l' c' n' l c n ≡ false → c ≡ c'
same-columns l c n l' c' n' h i = grind (arith, nat_tests)

same-numbers : (l c n l' c' n' : ℕ) → earlier l c n l' c' n' ≡ false → earlier l' c' n' l c n ≡ false → n ≡ n'
same-numbers l c n l' c' n' h i = grind (arith, nat_tests)

same-fault : (names : ℕ → FaultName) (a b : SourceFault) → comes_before a b ≡ false → comes_before b a ≡ false
    → IsNamed names a → IsNamed names b → a ≡ b
same-fault names a b h i s t =
    let line = same-lines a.place.line a.place.column (number_of a.name) b.place.line b.place.column (number_of b.name) h i in
    let column = same-columns a.place.line a.place.column (number_of a.name) b.place.line b.place.column (number_of b.name) h i in
    let number = same-numbers a.place.line a.place.column (number_of a.name) b.place.line b.place.column (number_of b.name) h i in
    let name : a.name ≡ b.name = sym s ∙ ap names number ∙ t in
    λ j. record { name = name j; place = record { line = line j; column = column j } }

-- no two faults are both the first
pub one_first : (names : ℕ → FaultName) (faults : List SourceFault) (fault other : SourceFault) → AreNamed names faults
    → IsFirstOf faults fault → IsFirstOf faults other → fault ≡ other
one_first names faults fault other all f g =
    same-fault names fault other (g.first fault f.is_one) (f.first other g.is_one)
    (named_contained names faults fault all f.is_one) (named_contained names faults other all g.is_one)
