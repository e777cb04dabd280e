-- Reading items one after another, as a loop does.
use Rattle.std.proofs.Common.{◌≡◌, ℕ, suc, ◌-◌, ◌+◌, ◌≤◌, ◌<◌, List, [], ◌∷◌, ◌++◌, Option, Some, None, refl, sym, ap, ◌∙◌, append_assoc, arith}
use Rattle.std.proofs.lemmas.List.{append-nil}
use Rattle.rb_image.specs.declared.refusal.FormRefusal.{FormRefusal}
use Rattle.rb_image.specs.declared.refusal.FormRefusal.TheVariants.{Form, Memory}
use Rattle.rb_image.specs.Reading.{◌>>=◌, Fails, Reading, items_at}

-- what was read before, and what is still read
abbrev pub with_front : {X : Type 0} → List X → Option (List X × List ℕ) → Option (List X × List ℕ)
with_front front read = read >>= λ x. Some (front ++ x.0, x.1)

regroup : {X : Type 0} (front : List X) (n : X) (read : Option (List X × List ℕ)) →
    with_front front (read >>= λ x. Some (n ∷ x.0, x.1)) ≡ with_front (front ++ n ∷ []) read
regroup {X} front n (Some x) = ap (λ (ns : List X). Some (ns, x.1)) (simp append_assoc)
regroup front n None = refl

pub goes_on : {X : Type 0} (reading : Reading X) (front : List X) (count i : ℕ) (bytes : List ℕ) (n : X) (after : List ℕ)
    (total : Option (List X × List ℕ)) → i < count → reading bytes ≡ Some (n, after)
    → with_front front (items_at reading (count - i) bytes) ≡ total
    → with_front (front ++ n ∷ []) (items_at reading (count - (i + 1)) after) ≡ total
unfolding items_at
goes_on reading front count i bytes n after total lt h so_far =
    let k : count - i ≡ suc (count - (i + 1)) = omega arith in
    let one : with_front front (items_at reading (count - i) bytes) ≡ with_front (front ++ n ∷ []) (items_at reading (count - (i + 1)) after) =
    rw (k, h) (regroup front n (items_at reading (count - (i + 1)) after)) in
    sym one ∙ so_far

pub ends : {X : Type 0} (reading : Reading X) (e : FormRefusal) (front : List X) (count i : ℕ) (bytes : List ℕ)
    (total : Option (List X × List ℕ)) → i < count → Fails e (reading bytes)
    → with_front front (items_at reading (count - i) bytes) ≡ total → Fails e total
unfolding items_at
ends reading Memory front count i bytes total lt h so_far = tt
ends reading Form front count i bytes total lt h so_far =
    let k : count - i ≡ suc (count - (i + 1)) = omega arith in
    let one : with_front front (items_at reading (count - i) bytes) ≡ None = rw (k, h) refl in
    sym so_far ∙ one

pub is_done : {X : Type 0} (reading : Reading X) (front : List X) (count i : ℕ) (bytes : List ℕ)
    (total : Option (List X × List ℕ)) → count ≤ i
    → with_front front (items_at reading (count - i) bytes) ≡ total → total ≡ Some (front, bytes)
unfolding items_at
is_done {X} reading front count i bytes total le so_far =
    let k : count - i ≡ 0 = omega arith in
    let one : with_front front (items_at reading (count - i) bytes) ≡ Some (front, bytes) =
    rw k (ap (λ (ns : List X). Some (ns, bytes)) (append-nil front)) in
    sym so_far ∙ one
