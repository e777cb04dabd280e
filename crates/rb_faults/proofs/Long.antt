-- A list that may have so many entries at most: its sites tell the first that is too many.
use Rattle.std.proofs.Common.{◌≡◌, ℕ, zero, suc, ◌+◌, ◌<◌, true, false, List, [], ◌∷◌, ◌++◌, append-nil, map, nat_eq, length, get_or, ◌≤◌, Option, Some, None, option_map, refl, sym, ap, ◌∙◌, arith}
use Rattle.std.proofs.lemmas.Bool.Decides.{nat_tests}
use Rattle.std.specs.List.{slice_get}
use Rattle.rb_base.specs.declared.place.Place.{Place}
use Rattle.rb_base.specs.declared.fault.SourceFault.{SourceFault}
use Rattle.rb_base.specs.declared.fault.FaultName.TheVariants.{S7}
use Rattle.rb_scope.specs.Sites.{Lists, list_sites}
use Rattle.rb_scope.specs.Rules.{where_broken}
use Rattle.rb_faults.specs.Finding.{visit, visited}

-- no entry, or one that is not the first too many
passes : (found : List SourceFault) (most before : ℕ) (place : Place) → nat_eq before most ≡ false → visit found (Lists most before place) ≡ found
unfolding visit
passes found most before place e = rw e (append-nil found)

-- behind the first that is too many nothing more is told
behind : {B : Type 0} (place : B → Place) (most before : ℕ) (found : List SourceFault) (xs : List B) → most < before
    → visited found (list_sites place most before xs) ≡ found
behind place most before found [] h = refl
behind place most before found (x ∷ xs) h =
    let not_here : nat_eq before most ≡ false = grind (arith, nat_tests) in
    ap (λ f. visited f (list_sites place most (before + 1) xs)) (passes found most before (place x) not_here)
    ∙ behind place most (before + 1) found xs (omega arith)

-- the fault of a list whose first entry that is too many stands here, if there is one
abbrev pub too_many : Option Place → List SourceFault
too_many None = []
too_many (Some place) = where_broken true S7 place

-- the faults so far with that of the first that is too many
abbrev pub with_extra : List SourceFault → Option Place → List SourceFault
with_extra found extra = found ++ too_many extra

here : (found : List SourceFault) (most before : ℕ) (place : Place) → nat_eq before most ≡ true
    → visit found (Lists most before place) ≡ with_extra found (Some place)
unfolding visit
here found most before place e = rw e refl

ahead : {B : Type 0} (place : B → Place) (most before k : ℕ) (found : List SourceFault) (xs : List B) → before + k ≡ most
    → visited found (list_sites place most before xs) ≡ with_extra found (option_map place (slice_get xs k))
ahead place most before k found [] h = sym (append-nil found)
ahead place most before zero found (x ∷ xs) h =
    let same : nat_eq before most ≡ true = grind (arith, nat_tests) in
    ap (λ f. visited f (list_sites place most (before + 1) xs)) (here found most before (place x) same)
    ∙ behind place most (before + 1) (with_extra found (Some (place x))) xs (omega arith)
ahead place most before (suc k) found (x ∷ xs) h =
    let not_here : nat_eq before most ≡ false = grind (arith, nat_tests) in
    ap (λ f. visited f (list_sites place most (before + 1) xs)) (passes found most before (place x) not_here)
    ∙ ahead place most (before + 1) k found xs (omega arith)

-- the entry of a list that was made of another
entry_of : {A B : Type 0} (f : A → B) (xs : List A) (k : ℕ) → slice_get (map f xs) k ≡ option_map f (slice_get xs k)
entry_of f [] k = refl
entry_of f (x ∷ xs) zero = refl
entry_of f (x ∷ xs) (suc k) = entry_of f xs k

twice : {A B : Type 0} (f : A → B) (g : B → Place) (o : Option A) → option_map g (option_map f o) ≡ option_map (λ x. g (f x)) o
twice f g None = refl
twice f g (Some x) = refl

-- all of a list: what is found is the fault of the entry with so many before it
pub counted : {A B : Type 0} (f : A → B) (place : B → Place) (most : ℕ) (found : List SourceFault) (xs : List A)
    → visited found (list_sites place most 0 (map f xs)) ≡ with_extra found (option_map (λ x. place (f x)) (slice_get xs most))
counted f place most found xs =
    ahead place most 0 most found (map f xs) (omega arith)
    ∙ ap (λ o. with_extra found (option_map place o)) (entry_of f xs most)
    ∙ ap (with_extra found) (twice f place (slice_get xs most))

-- an entry that is there
pub got : {A : Type 0} (xs : List A) (k : ℕ) (x : A) → k < length xs → x ≡ get_or xs k x → slice_get xs k ≡ Some x
got [] k x h e = absurd (omega arith)
got (y ∷ ys) zero x h e = ap Some (sym e)
got (y ∷ ys) (suc k) x h e = got ys k x (omega arith) e

-- an entry that is not there
none : {A : Type 0} (xs : List A) (k : ℕ) → length xs ≤ k → slice_get xs k ≡ None
none [] k h = refl
none (y ∷ ys) zero h = absurd (omega arith)
none (y ∷ ys) (suc k) h = none ys k (omega arith)

pub long : {A B : Type 0} (f : A → B) (place : B → Place) (most : ℕ) (found : List SourceFault) (xs : List A) (x : A) → most < length xs
    → x ≡ get_or xs most x
    → visited found (list_sites place most 0 (map f xs)) ≡ found ++ where_broken true S7 (place (f x))
long f place most found xs x h e =
    counted f place most found xs ∙ ap (λ o. with_extra found (option_map (λ y. place (f y)) o)) (got xs most x h e)

pub short : {A B : Type 0} (f : A → B) (place : B → Place) (most : ℕ) (found : List SourceFault) (xs : List A) → length xs ≤ most
    → visited found (list_sites place most 0 (map f xs)) ≡ found
short f place most found xs h =
    counted f place most found xs ∙ ap (λ o. with_extra found (option_map (λ y. place (f y)) o)) (none xs most h) ∙ append-nil found

-- the default is not asked for where an entry is there
same_entry : {A : Type 0} (xs : List A) (k : ℕ) (d e : A) → k < length xs → get_or xs k d ≡ get_or xs k e
same_entry [] k d e h = absurd (omega arith)
same_entry (y ∷ ys) zero d e h = refl
same_entry (y ∷ ys) (suc k) d e h = same_entry ys k d e (omega arith)

-- the same where the entry is a copy
pub long_copy : {A B : Type 0} (f : A → B) (place : B → Place) (most : ℕ) (found : List SourceFault) (xs : List A) (d : A) → most < length xs
    → visited found (list_sites place most 0 (map f xs))
    ≡ found ++ where_broken true S7 (place (f (get_or xs most d)))
long_copy f place most found xs d h = long f place most found xs (get_or xs most d) h (same_entry xs most d (get_or xs most d) h)
