-- Items of a list, as the list grows: they are written, and they are in their ranges.
use Rattle.std.proofs.Common.{◌≡◌, ℕ, ◌+◌, ◌<◌, ◌≤◌, List, [], ◌∷◌, ◌++◌, length, map, take, Option, Result, Ok, get_or, sym, ap, ◌∙◌, subst}
use Rattle.std.specs.List.{AllByRecursion, flat_map}
use Rattle.rb_outside.specs.Outside.{Faults}
use Rattle.rb_outside.specs.Puts.{Puts}
use Rattle.rb_outside.proofs.Puts.{puts_same}
use Rattle.rb_trace.proofs.Spaced.{puts_next}
use Rattle.std.proofs.lemmas.List.{map_push, take_all, take_more}

all_push : {X : Type 0} (P : X → Type 0) (xs : List X) (x : X) → AllByRecursion P xs → P x → AllByRecursion P (xs ++ x ∷ [])
all_push P [] x all one = (one, tt)
all_push P (y ∷ ys) x all one = (all.0, all_push P ys x all.1 one)

-- one more
pub all_next : {X Y : Type 0} (P : Y → Type 0) (f : X → Y) (xs : List X) (i : ℕ) (d : X) → i < length xs
    → AllByRecursion P (map f (take i xs)) → P (f (get_or xs i d)) → AllByRecursion P (map f (take (i + 1) xs))
all_next {X} {Y} P f xs i d within all one =
    subst (AllByRecursion P)
    (sym (ap (map f) (take_more xs i d within) ∙ map_push f (take i xs) (get_or xs i d)))
    (all_push P (map f (take i xs)) (f (get_or xs i d)) all one)

-- all of them
pub all_whole : {X Y : Type 0} (P : Y → Type 0) (f : X → Y) (xs : List X) (n : ℕ) → length xs ≤ n
    → AllByRecursion P (map f (take n xs)) → AllByRecursion P (map f xs)
all_whole {X} {Y} P f xs n long all = subst (λ (ys : List X). AllByRecursion P (map f ys)) (take_all n xs long) all

-- an item that was read from its place is written behind those before it
pub puts_item : {X T U E D : Type 0} (f : X → List ℕ) (xs : List X) (i : ℕ) (x : X) → i < length xs → x ≡ get_or xs i x
    → (w0 w1 w2 : Option (List ℕ)) (f0 f1 f2 : Faults) (v : T) (r : Result U E)
    → Puts {T = T} {E = D} (flat_map f (take i xs)) w0 w1 f0 f1 (Ok v) → Puts (f x) w1 w2 f1 f2 r
    → Puts (flat_map f (take (i + 1) xs)) w0 w2 f0 f2 r
puts_item f xs i x within is w0 w1 w2 f0 f1 f2 v r p q =
    puts_next f xs i x within w0 w1 w2 f0 f1 f2 v r p (puts_same (f x) (f (get_or xs i x)) w1 w2 f1 f2 r (ap f is) q)
