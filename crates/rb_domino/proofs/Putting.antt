-- Texts that are put part by part, as a list grows.
use Rattle.std.proofs.Common.{◌≡◌, ℕ, ◌+◌, ◌<◌, ◌≤◌, List, [], ◌∷◌, ◌++◌, length, take, drop, get_or, Option, Result, Ok, Err, IsErr, sym, ap, ◌∙◌}
use Rattle.std.specs.List.{flat_map}
use Rattle.std.proofs.lemmas.List.{append-nil, take_all, take_more, take-append-drop}
use Rattle.std.proofs.lemmas.Grind.{flat_map-append}
use Rattle.rb_outside.specs.Outside.{Faults}
use Rattle.rb_outside.specs.Puts.{Puts}
use Rattle.rb_outside.proofs.Puts.{puts_both, puts_same, puts_stopped_at}

-- one element more
pub grown : {X : Type 0} (f : X → List ℕ) (xs : List X) (i : ℕ) (d : X) → i < length xs
    → flat_map f (take i xs) ++ f (get_or xs i d) ≡ flat_map f (take (i + 1) xs)
grown f xs i d h =
    ap (λ (bytes : List ℕ). flat_map f (take i xs) ++ bytes) (sym (append-nil (f (get_or xs i d))))
    ∙ sym (flat_map-append f (take i xs) (get_or xs i d ∷ [])) ∙ ap (flat_map f) (sym (take_more xs i d h))

-- the next element was put
pub puts_next : {X T U E D : Type 0} (f : X → List ℕ) (xs : List X) (i : ℕ) (d : X) → i < length xs
    → (w0 w1 w2 : Option (List ℕ)) (f0 f1 f2 : Faults) (v : T) (r : Result U E)
    → Puts {T = T} {E = D} (flat_map f (take i xs)) w0 w1 f0 f1 (Ok v) → Puts (f (get_or xs i d)) w1 w2 f1 f2 r
    → Puts (flat_map f (take (i + 1) xs)) w0 w2 f0 f2 r
puts_next f xs i d h w0 w1 w2 f0 f1 f2 v r p q = puts_same _ _ w0 w2 f0 f2 r (grown f xs i d h) (puts_both _ _ w0 w1 w2 f0 f1 f2 v r p q)

-- putting stopped within the list
pub puts_part : {X T U E D : Type 0} (f : X → List ℕ) (xs : List X) (n : ℕ) (w0 w1 : Option (List ℕ)) (f0 f1 : Faults) (e : E) (r : Result U D)
    → IsErr r → Puts {T = T} (flat_map f (take n xs)) w0 w1 f0 f1 (Err e) → Puts (flat_map f xs) w0 w1 f0 f1 r
puts_part f xs n w0 w1 f0 f1 e r h p =
    let parts : flat_map f (take n xs) ++ flat_map f (drop n xs) ≡ flat_map f xs =
    sym (flat_map-append f (take n xs) (drop n xs)) ∙ ap (flat_map f) (take-append-drop n xs) in
    puts_same _ _ w0 w1 f0 f1 r parts (puts_stopped_at _ _ w0 w1 f0 f1 e r h p)

-- the whole list was put
pub puts_whole : {X T D : Type 0} (f : X → List ℕ) (xs : List X) (n : ℕ) (w0 w1 : Option (List ℕ)) (f0 f1 : Faults) (r : Result T D)
    → length xs ≤ n → Puts (flat_map f (take n xs)) w0 w1 f0 f1 r → Puts (flat_map f xs) w0 w1 f0 f1 r
puts_whole f xs n w0 w1 f0 f1 r h p = puts_same _ _ w0 w1 f0 f1 r (ap (flat_map f) (take_all n xs h)) p
