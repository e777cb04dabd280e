-- Faults are in a row: which comes before which, and the first so far of several.
use Rattle.std.proofs.Common.{◌≡◌, ℕ, zero, suc, ◌<◌, ◌≤◌, ◌⊎◌, inl, inr, nat_eq, nat_lt, Bool, true, false, cond, List, [], ◌∷◌, length, get_or, Some, None, refl, sym, ap, subst, ◌∙◌, arith}
use Rattle.std.proofs.lemmas.Bool.Decides.{nat_tests}
use Rattle.std.specs.List.{Contains}
use Rattle.rb_base.specs.declared.fault.SourceFault.{SourceFault}
use Rattle.rb_scope.specs.FirstFault.{comes_before, number_of, IsFirstOf}
use Rattle.rb_scope.specs.Finding.{first_with, first_after}

-- three numbers before three others: the first that differ decide
abbrev pub earlier : ℕ → ℕ → ℕ → ℕ → ℕ → ℕ → Bool
earlier l c n l' c' n' =
    cond (cond (nat_eq l l') (nat_lt c c') (nat_lt l l')) true (cond (cond (nat_eq l' l) (nat_lt c' c) (nat_lt l' l)) false (nat_lt n n'))

-- none of the three is earlier than itself
earlier-self : (l c n : ℕ) → earlier l c n l c n ≡ false
earlier-self l c n = grind (arith, nat_tests)

-- of two at most one is earlier
earlier-once : (l c n l' c' n' : ℕ) → earlier l c n l' c' n' ≡ true → earlier l' c' n' l c n ≡ false
earlier-once l c n l' c' n' h = grind (arith, nat_tests)

-- what it says that one is not earlier than another
first-le : (l c n l' c' n' : ℕ) → earlier l c n l' c' n' ≡ false → l' ≤ l
first-le l c n l' c' n' h = grind (arith, nat_tests)

second-le : (l c n l' c' n' : ℕ) → earlier l c n l' c' n' ≡ false → l' ≡ l → c' ≤ c
second-le l c n l' c' n' h e = grind (arith, nat_tests)

third-le : (l c n l' c' n' : ℕ) → earlier l c n l' c' n' ≡ false → l' ≡ l → c' ≡ c → n' ≤ n
third-le l c n l' c' n' h e f = grind (arith, nat_tests)

not-earlier : (l c n l' c' n' : ℕ) → l' ≤ l → (l' ≡ l → c' ≤ c) → (l' ≡ l → c' ≡ c → n' ≤ n) → earlier l c n l' c' n' ≡ false
not-earlier l c n l' c' n' a b d = grind (arith, nat_tests)

-- what is not later than one that is not later than another is not later than that
earlier-along : (l c n l' c' n' k d m : ℕ) → earlier l' c' n' l c n ≡ false → earlier k d m l' c' n' ≡ false → earlier k d m l c n ≡ false
earlier-along l c n l' c' n' k d m h i =
    let a : l ≤ l' = first-le l' c' n' l c n h in
    let b : l' ≤ k = first-le k d m l' c' n' i in
    not-earlier k d m l c n (omega arith)
    (λ e. let p : l ≡ l' = omega arith in let q : l' ≡ k = omega arith in
    let x : c ≤ c' = second-le l' c' n' l c n h p in let y : c' ≤ d = second-le k d m l' c' n' i q in omega arith)
    (λ e f. let p : l ≡ l' = omega arith in let q : l' ≡ k = omega arith in
    let x : c ≤ c' = second-le l' c' n' l c n h p in let y : c' ≤ d = second-le k d m l' c' n' i q in
    let v : c ≡ c' = omega arith in let w : c' ≡ d = omega arith in
    let z : n ≤ n' = third-le l' c' n' l c n h p v in let t : n' ≤ m = third-le k d m l' c' n' i q w in omega arith)

-- the same of faults
pub comes_before-self : (a : SourceFault) → comes_before a a ≡ false
comes_before-self a = earlier-self a.place.line a.place.column (number_of a.name)

pub comes_before-once : (a b : SourceFault) → comes_before a b ≡ true → comes_before b a ≡ false
comes_before-once a b h =
    earlier-once a.place.line a.place.column (number_of a.name) b.place.line b.place.column (number_of b.name) h

pub comes_before-along : (a b d : SourceFault) → comes_before b a ≡ false → comes_before d b ≡ false → comes_before d a ≡ false
comes_before-along a b d h i =
    earlier-along a.place.line a.place.column (number_of a.name) b.place.line b.place.column
    (number_of b.name) d.place.line d.place.column (number_of d.name) h i

-- no fault of a list comes before this one
abbrev pub NoneBefore : SourceFault → List SourceFault → Type 0
NoneBefore one [] = Unit {0}
NoneBefore one (other ∷ others) = (comes_before other one ≡ false) × NoneBefore one others

-- a fault is one of a list
abbrev pub IsIn : SourceFault → List SourceFault → Type 0
IsIn one [] = ⊥
IsIn one (other ∷ others) = (one ≡ other) ⊎ IsIn one others

-- the first of several, told from the front
abbrev pub IsLeast : SourceFault → List SourceFault → Type 0
IsLeast one faults = IsIn one faults × NoneBefore one faults

-- the first of two and of others is the first of all
chosen : (first fault r : SourceFault) (faults : List SourceFault) (b : Bool) → comes_before fault first ≡ b
    → IsLeast r (cond b fault first ∷ faults) → IsLeast r (first ∷ fault ∷ faults)
chosen first fault r faults true e (i, (h, n)) = (
  elim i [ inl p ↦ inr (inl p) | inr p ↦ inr (inr p) ],
  (comes_before-along r fault first h (comes_before-once fault first e), (h, n)),
)
chosen first fault r faults false e (i, (h, n)) = (
  elim i [ inl p ↦ inl p | inr p ↦ inr (inr p) ],
  (h, (comes_before-along r first fault h e, n)),
)

-- what is kept as the first is the first
kept : (first r : SourceFault) (faults : List SourceFault) → first_after (Some first) faults ≡ Some r → IsLeast r (first ∷ faults)
kept first r [] e =
    let same : r ≡ first = cc in
    (inl same, (ap (comes_before first) same ∙ comes_before-self first, tt))
kept first r (fault ∷ faults) e =
    chosen first fault r faults (comes_before fault first) refl (kept (cond (comes_before fault first) fault first) r faults e)

-- if nothing is kept there is nothing
some-kept : (first : SourceFault) (faults : List SourceFault) → first_after (Some first) faults ≡ None → ⊥
some-kept first [] e = cc
some-kept first (fault ∷ faults) e = some-kept (first_with (Some first) fault) faults e

pub nothing_kept : (faults : List SourceFault) → first_after None faults ≡ None → faults ≡ []
nothing_kept [] e = refl
nothing_kept (fault ∷ faults) e = absurd (some-kept fault faults e)

-- an entry that is in a list, by its index
contains : (one : SourceFault) (faults : List SourceFault) → IsIn one faults → Contains faults one
contains one [] h = absurd h
contains one (other ∷ others) (inl e) = (0, omega arith, sym e)
contains one (other ∷ others) (inr h) = let p : Contains others one = contains one others h in (suc p.0, omega arith, p.2)

-- none of a list comes before, by its index
none-at : (one : SourceFault) (faults : List SourceFault) (k : ℕ) (d : SourceFault) → NoneBefore one faults → k < length faults
    → comes_before (get_or faults k d) one ≡ false
none-at one [] k d n h = absurd (omega arith)
none-at one (other ∷ others) zero d (e, n) h = e
none-at one (other ∷ others) (suc k) d (e, n) h = none-at one others k d n (omega arith)

-- what is kept of several is the first of them
pub first_kept : (r : SourceFault) (faults : List SourceFault) → first_after None faults ≡ Some r → IsFirstOf faults r
first_kept r [] e = absurd (cc)
first_kept r (fault ∷ faults) e =
    let least = kept fault r faults e in
    record {
      is_one = contains r (fault ∷ faults) least.0;
      first = λ other (k, h, g). subst (λ o. comes_before o r ≡ false) g (none-at r (fault ∷ faults) k other least.1 h);
    }
