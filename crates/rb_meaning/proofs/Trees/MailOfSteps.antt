-- What a step may do to a process's mail: nothing, one value sent, or one taken. So a step moves a state as erasure asks.
use Rattle.std.proofs.Common.{◌≡◌, ◌+◌, ℕ, ℤ, zero, suc, nat_eq, Bool, true, false, cond, List, [], ◌∷◌, ◌++◌, length, option_map, slice_get, unwrap_or, Option, Some, refl, sym, ap, ◌∙◌, arith, length-append, add-zero}
use Rattle.std.proofs.lemmas.List.{append-nil}
use Rattle.std.proofs.lemmas.Bool.{eqb-true, eqb-false}
use Rattle.rb_world.specs.Kind.{Want, SendsOn}
use Rattle.rb_world.specs.World.{change_at}
use Rattle.rb_world.proofs.Erasing.ErasableKinds.{receives_on, sends_by, takes_by}
use Rattle.rb_world.proofs.ListFacts.{none_some, slice_get-change_at, slice_get-change_other}
use Rattle.rb_meaning.specs.State.{State}

-- what a step that goes on does to mail, by what stood first and the message that it was given
pub data Posts (want : Want) (message : Option ℤ) (s t : State) : Type 0 where
  Quiet : t.sent ≡ s.sent → t.taken ≡ s.taken → t.kept ≡ s.kept → ((c : ℕ) → sends_by want c ≡ 0)
      → ((c : ℕ) → takes_by want message c ≡ 0) → Posts want message s t
  Posted : (d : ℕ) (v : ℤ) → want ≡ SendsOn d → t.sent ≡ change_at d (λ values. values ++ v ∷ []) s.sent → t.taken ≡ s.taken
      → t.kept ≡ s.kept → Posts want message s t
  Collected : (d : ℕ) (v : ℤ) → receives_on want ≡ Some d → message ≡ Some v → t.sent ≡ s.sent
      → t.taken ≡ change_at d (λ n. n + 1) s.taken → t.kept ≡ s.kept → Posts want message s t

-- the list of a channel, in the lists of all channels
abbrev pub list_on : List (List ℤ) → ℕ → List ℤ
list_on xs c = unwrap_or (slice_get xs c) []

-- what a list has at a number at which another list of its length has something
pub also_there : {A B : Type 0} (ys : List A) (xs : List B) (c : ℕ) (a : A) → length xs ≡ length ys → slice_get ys c ≡ Some a
    → (x : B) × (slice_get xs c ≡ Some x)
also_there [] xs c a e at = absurd (none_some at)
also_there (b ∷ ys) [] c a e at = absurd cc
also_there (b ∷ ys) (x ∷ xs) zero a e at = (x, refl)
also_there (b ∷ ys) (x ∷ xs) (suc c) a e at = also_there ys xs c a (omega (arith, e)) at

-- a value that is sent joins one list, and the old list is the front of the new
pub front_of_sent : (d c : ℕ) (v : ℤ) (xs : List (List ℤ))
    → (rest : List ℤ) × (list_on (change_at d (λ values. values ++ v ∷ []) xs) c ≡ list_on xs c ++ rest)
front_of_sent d c v [] = ([], refl)
front_of_sent zero zero v (x ∷ xs) = (v ∷ [], refl)
front_of_sent zero (suc c) v (x ∷ xs) = ([], sym (append-nil (list_on xs c)))
front_of_sent (suc d) zero v (x ∷ xs) = ([], sym (append-nil x))
front_of_sent (suc d) (suc c) v (x ∷ xs) = front_of_sent d c v xs

-- how many values each list has
pub sent_here : (same : Bool) (d c : ℕ) (v : ℤ) (xs : List (List ℤ)) (x : List ℤ) → nat_eq d c ≡ same → slice_get xs c ≡ Some x
    → length (list_on (change_at d (λ values. values ++ v ∷ []) xs) c) ≡ length (list_on xs c) + cond same 1 0
sent_here true d c v xs x e at =
    ap (λ n. length (list_on (change_at n (λ values. values ++ v ∷ []) xs) c)) (eqb-true d c e)
    ∙ ap (λ o. length (unwrap_or o [])) (slice_get-change_at c (λ values. values ++ v ∷ []) xs)
    ∙ ap (λ o. length (unwrap_or (option_map (λ values. values ++ v ∷ []) o) [])) at
    ∙ length-append x (v ∷ [])
    ∙ ap (λ o. length (unwrap_or o []) + 1) (sym at)
sent_here false d c v xs x e at =
    ap (λ o. length (unwrap_or o [])) (slice_get-change_other d (λ values. values ++ v ∷ []) xs c (λ same. eqb-false d c e (sym same)))
    ∙ sym (add-zero (length (list_on xs c)))

-- how many values were taken from each channel
pub taken_here : (same : Bool) (d c : ℕ) (xs : List ℕ) (x : ℕ) → nat_eq d c ≡ same → slice_get xs c ≡ Some x
    → unwrap_or (slice_get (change_at d (λ n. n + 1) xs) c) 0 ≡ unwrap_or (slice_get xs c) 0 + cond same 1 0
taken_here true d c xs x e at =
    ap (λ n. unwrap_or (slice_get (change_at n (λ n. n + 1) xs) c) 0) (eqb-true d c e)
    ∙ ap (λ o. unwrap_or o 0) (slice_get-change_at c (λ n. n + 1) xs)
    ∙ ap (λ o. unwrap_or (option_map (λ n. n + 1) o) 0) at
    ∙ ap (λ o. unwrap_or o 0 + 1) (sym at)
taken_here false d c xs x e at =
    ap (λ o. unwrap_or o 0) (slice_get-change_other d (λ n. n + 1) xs c (λ same. eqb-false d c e (sym same)))
    ∙ sym (add-zero (unwrap_or (slice_get xs c) 0))
