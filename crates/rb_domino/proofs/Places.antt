-- The lines of processes, one after another.
use Rattle.std.proofs.Common.{◌≡◌, ℕ, zero, suc, ◌+◌, ◌<◌, ◌≤◌, min, List, [], ◌∷◌, ◌++◌, length, take, drop, slice_index_or, Option, Result, Ok, Err, IsErr, refl, sym, ap, ◌∙◌, add-one, append_assoc, arith}
use Rattle.std.proofs.lemmas.List.{append-nil}
use Rattle.rb_outside.specs.Outside.{Faults}
use Rattle.rb_outside.specs.Puts.{Puts}
use Rattle.rb_outside.proofs.Puts.{puts_both, puts_same, puts_stopped_at}
use Rattle.rb_domino.specs.Written.{line_text, place_text}

-- no process has a state
line_none : (names : List (List ℕ)) → line_text names [] ≡ []
line_none [] = refl
line_none (name ∷ names) = refl

-- the lines of the first, and those of the others
line_parts : (n : ℕ) (names : List (List ℕ)) (states : List ℕ)
    → line_text (take n names) (take n states) ++ line_text (drop n names) (drop n states) ≡ line_text names states
line_parts zero names states = refl
line_parts (suc n) [] states = refl
line_parts (suc n) (name ∷ names) [] = line_none (drop n names)
line_parts (suc n) (name ∷ names) (state ∷ states) =
    append_assoc (place_text name state) (line_text (take n names) (take n states)) (line_text (drop n names) (drop n states))
    ∙ ap (λ (bytes : List ℕ). place_text name state ++ bytes) (line_parts n names states)

-- one process more
line_more : (p : ℕ) (names : List (List ℕ)) (states : List ℕ) (name : List ℕ) (state : ℕ) → p < length names → p < length states
    → line_text (take p names) (take p states) ++ place_text (slice_index_or names p name) (slice_index_or states p state)
    ≡ line_text (take (suc p) names) (take (suc p) states)
line_more p [] states name state some also = absurd (omega arith)
line_more p (n ∷ names) [] name state some also = absurd (omega arith)
line_more zero (n ∷ names) (s ∷ states) name state some also = sym (append-nil (place_text n s))
line_more (suc p) (n ∷ names) (s ∷ states) name state some also =
    append_assoc (place_text n s) (line_text (take p names) (take p states))
    (place_text (slice_index_or names p name) (slice_index_or states p state))
    ∙ ap (λ (bytes : List ℕ). place_text n s ++ bytes) (line_more p names states name state (omega arith) (omega arith))

-- all processes
line_all : (n : ℕ) (names : List (List ℕ)) (states : List ℕ) → min (length names) (length states) ≤ n
    → line_text (take n names) (take n states) ≡ line_text names states
line_all n [] states all = none n
  where
    none : (n : ℕ) → line_text (take n []) (take n states) ≡ []
    none zero = refl
    none (suc n) = refl
line_all n (name ∷ names) [] all = none n
  where
    none : (n : ℕ) → line_text (take n (name ∷ names)) (take n []) ≡ []
    none zero = refl
    none (suc n) = refl
line_all zero (name ∷ names) (state ∷ states) all = absurd (omega arith)
line_all (suc n) (name ∷ names) (state ∷ states) all =
    ap (λ (bytes : List ℕ). place_text name state ++ bytes) (line_all n names states (omega arith))

-- the line of the next process was put
pub places_next : {T U E D : Type 0} (p : ℕ) (names : List (List ℕ)) (states : List ℕ) (name : List ℕ) (state : ℕ)
    → p < length names → p < length states
    → (w0 w1 w2 : Option (List ℕ)) (f0 f1 f2 : Faults) (v : T) (r : Result U E)
    → Puts {T = T} {E = D} (line_text (take p names) (take p states)) w0 w1 f0 f1 (Ok v)
    → Puts (place_text (slice_index_or names p name) (slice_index_or states p state)) w1 w2 f1 f2 r
    → Puts (line_text (take (p + 1) names) (take (p + 1) states)) w0 w2 f0 f2 r
places_next p names states name state some also w0 w1 w2 f0 f1 f2 v r so_far next =
    let more : line_text (take p names) (take p states) ++ place_text (slice_index_or names p name) (slice_index_or states p state)
    ≡ line_text (take (p + 1) names) (take (p + 1) states) =
    line_more p names states name state some also ∙ ap (λ k. line_text (take k names) (take k states)) (sym (add-one p)) in
    puts_same _ _ w0 w2 f0 f2 r more (puts_both _ _ w0 w1 w2 f0 f1 f2 v r so_far next)

-- putting stopped at a line
pub places_part : {T U E D : Type 0} (n : ℕ) (names : List (List ℕ)) (states : List ℕ) (w0 w1 : Option (List ℕ)) (f0 f1 : Faults) (e : E)
    (r : Result U D) → IsErr r → Puts {T = T} (line_text (take n names) (take n states)) w0 w1 f0 f1 (Err e)
    → Puts (line_text names states) w0 w1 f0 f1 r
places_part n names states w0 w1 f0 f1 e r h p =
    puts_same _ _ w0 w1 f0 f1 r (line_parts n names states) (puts_stopped_at _ (line_text (drop n names) (drop n states)) w0 w1 f0 f1 e r h p)

-- all lines were put
pub places_whole : {T D : Type 0} (n : ℕ) (names : List (List ℕ)) (states : List ℕ) (w0 w1 : Option (List ℕ)) (f0 f1 : Faults) (r : Result T D)
    → min (length names) (length states) ≤ n → Puts (line_text (take n names) (take n states)) w0 w1 f0 f1 r
    → Puts (line_text names states) w0 w1 f0 f1 r
places_whole n names states w0 w1 f0 f1 r all p = puts_same _ _ w0 w1 f0 f1 r (line_all n names states all) p
