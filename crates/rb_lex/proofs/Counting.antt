-- A place counts the LF before it, and the bytes since the last.
use Rattle.std.proofs.Common.{◌≡◌, ℕ, ◌+◌, ◌==◌, Bool, true, false, not, cond, List, [], ◌∷◌, ◌++◌, refl, ap, sym, subst, ◌∙◌, arith, reverse, count_by}
use Rattle.std.specs.List.{prefix_len}
use Rattle.std.proofs.lemmas.List.{reverse-append, reverse-reverse}
use Rattle.std.proofs.lemmas.List.Sums.{sum_by-append}
use Rattle.rb_base.specs.declared.place.Place.{Place}
use Rattle.rb_lex.specs.Bytes.{first_place, place_after, place_past}
use Rattle.rb_lex.specs.Laws.{since_last_lf, PlacesCount}
use Rattle.rb_lex.proofs.Standing.{place_past-append}

-- the place that the counts give
abbrev counted : List ℕ → Place
counted bytes = record { line = 1 + count_by (λ b. b == 10) bytes; column = 1 + since_last_lf bytes }

-- equal counts give equal places
same_place : (a b c d : ℕ) → a ≡ b → c ≡ d → (let p : Place = record { line = a; column = c } in p) ≡ record { line = b; column = d }
same_place a b c d e f =
    ap (λ l. let p : Place = record { line = l; column = c } in p) e ∙ ap (λ k. let p : Place = record { line = b; column = k } in p) f

-- one more byte, by whether it is LF
place-step : (is_lf : Bool) (lines since : ℕ)
    → (let p : Place = cond is_lf (record { line = (1 + lines) + 1; column = 1 }) (record { line = 1 + lines; column = (1 + since) + 1 }) in p)
    ≡ record { line = 1 + (lines + cond is_lf 1 0); column = 1 + cond (not is_lf) (1 + since) 0 }
place-step true lines since = same_place _ _ _ _ (omega arith) refl
place-step false lines since = same_place _ _ _ _ (omega arith) (omega arith)

-- the counts with one byte more
count_by-push : (bytes : List ℕ) (b : ℕ) → count_by (λ x. x == 10) (bytes ++ b ∷ []) ≡ count_by (λ x. x == 10) bytes + cond (b == 10) 1 0
count_by-push bytes b =
    sum_by-append (λ x. cond (x == 10) 1 0) bytes (b ∷ []) ∙ ap (λ n. count_by (λ x. x == 10) bytes + n) (omega arith)

since-push : (bytes : List ℕ) (b : ℕ) → since_last_lf (bytes ++ b ∷ []) ≡ cond (not (b == 10)) (1 + since_last_lf bytes) 0
since-push bytes b = ap (prefix_len (λ x. not (x == 10))) (reverse-append bytes (b ∷ []))

-- one byte more keeps the place counted
counted-push : (bytes : List ℕ) (b : ℕ) → place_past first_place bytes ≡ counted bytes
    → place_past first_place (bytes ++ b ∷ []) ≡ counted (bytes ++ b ∷ [])
counted-push bytes b h =
    place_past-append first_place bytes (b ∷ []) ∙ ap (λ p. place_after p b) h
    ∙ place-step (b == 10) (count_by (λ x. x == 10) bytes) (since_last_lf bytes)
    ∙ sym (same_place _ _ _ _ (ap (λ n. 1 + n) (count_by-push bytes b)) (ap (λ n. 1 + n) (since-push bytes b)))

-- by induction from the last byte
counted-reversed : (bytes : List ℕ) → place_past first_place (reverse bytes) ≡ counted (reverse bytes)
counted-reversed [] = refl
counted-reversed (b ∷ bs) =
    subst (λ l. place_past first_place l ≡ counted l) (sym (reverse-append (b ∷ []) bs)) (counted-push (reverse bs) b (counted-reversed bs))

-- the law
pub places_count : PlacesCount
places_count before =
    subst (λ l. place_past first_place l ≡ counted l) (reverse-reverse before) (counted-reversed (reverse before))
