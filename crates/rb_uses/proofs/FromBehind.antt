-- Lists that are looked through from behind.
use Rattle.std.proofs.Common.{◌≡◌, ℕ, ◌+◌, ◌-◌, ◌<◌, ◌≤◌, Bool, false, ◌||◌, List, [], ◌∷◌, ◌++◌, length, get_or, take, reverse, sym, ap, ◌∙◌, arith}
use Rattle.std.proofs.Math.Seq.{take-length}
use Rattle.std.proofs.lemmas.List.{reverse-append, take_more}
use Rattle.std.specs.List.{list_any}

at_last : {A : Type 0} (t : A → Bool) (xs : List A) (i : ℕ) (d : A) → i + 1 ≡ length xs → t (get_or xs i d) ≡ false
    → list_any t (reverse (take i xs)) ≡ list_any t (reverse xs)
at_last t xs i d next fails =
    let within : i < length xs = omega arith in
    let whole : xs ≡ take i xs ++ (get_or xs i d ∷ []) =
    sym (take-length xs) ∙ ap (λ n. take n xs) (sym next) ∙ take_more xs i d within
    in
    let back : list_any t (reverse xs) ≡ t (get_or xs i d) || list_any t (reverse (take i xs)) =
    ap (λ ys. list_any t (reverse ys)) whole ∙ ap (list_any t) (reverse-append (take i xs) (get_or xs i d ∷ []))
    in
    sym (back ∙ ap (λ b. b || list_any t (reverse (take i xs))) fails)

-- where the last fails a test, those before it pass it as all do
pub last_fails : {A : Type 0} (t : A → Bool) (xs : List A) (d : A) → 1 ≤ length xs → t (get_or xs (length xs - 1) d) ≡ false
    → list_any t (reverse (take (length xs - 1) xs)) ≡ list_any t (reverse xs)
last_fails t xs d some fails = at_last t xs (length xs - 1) d (omega arith) fails
