-- An element that is written at its place, and lists that are made element by element.
use Rattle.std.proofs.Common.{◌≡◌, ◌<◌, ◌+◌, ◌++◌, ℕ, zero, suc, List, [], ◌∷◌, length, get_or, set, map, take, drop, refl, ap, sym, ◌∙◌, arith, not-suc-le-zero, le_of_suc-le-suc}
use Rattle.std.proofs.lemmas.List.{append-nil, get_or_default, map_more, take_all}
use Rattle.std.proofs.Math.ListN.{drop_of_length-le}
use Rattle.std.proofs.lemmas.List.Edits.{map_over_more}
use Rattle.rb_world.specs.World.{change_at}

-- to write what comes of an element is to change it at its place
pub set-changes : {A : Type 0} (f : A → A) (xs : List A) (i : ℕ) (x : A) → i < length xs → set xs i (f (get_or xs i x)) ≡ change_at i f xs
set-changes f [] i x h = absurd (not-suc-le-zero h)
set-changes f (y ∷ ys) zero x h = refl
set-changes {A} f (y ∷ ys) (suc i) x h = ap (λ (zs : List A). y ∷ zs) (set-changes f ys i x (le_of_suc-le-suc h))

-- the same of an element that was read, and written later
pub written : {A : Type 0} (f : A → A) (xs ys : List A) (i : ℕ) (x y : A) → xs ≡ ys → i < length ys → x ≡ get_or xs i x
    → y ≡ f x → set xs i y ≡ change_at i f ys
written f xs ys i x y same h read wrote =
    let h2 : i < length xs = omega (arith, h, ap length same) in
    ap (set xs i) (wrote ∙ ap f read) ∙ set-changes f xs i x h2 ∙ ap (change_at i f) same

-- one more element of a list whose elements are changed in order
pub one_more : {A : Type 0} (f : A → A) (xs ys : List A) (i : ℕ) (d y : A) → i < length xs → length ys ≡ length xs
    → ys ≡ map f (take i xs) ++ drop i xs → y ≡ f (get_or ys i d) → set ys i y ≡ map f (take (i + 1) xs) ++ drop (i + 1) xs
one_more f xs ys i d y h same so_far wrote =
    let h2 : i < length ys = omega (arith, h, same) in
    ap (set ys i) wrote ∙ map_over_more f xs ys i (get_or ys i d) h so_far (get_or_default ys i d (get_or ys i d) h2)

-- one more element is pushed, which is what the next one gives
pub pushed : {X Y : Type 0} (f : X → Y) (xs : List X) (i : ℕ) (d : X) (y : Y) (ys more : List Y) → i < length xs
    → ys ≡ map f (take i xs) → more ≡ ys ++ y ∷ [] → y ≡ f (get_or xs i d) → more ≡ map f (take (i + 1) xs)
pushed f xs i d y ys more h so_far after is = after ∙ (λ j. so_far j ++ is j ∷ []) ∙ sym (map_more f xs i d h)

-- a whole slice is written back
pub written_back : {A : Type 0} (old new : List A) (n : ℕ) → n ≡ length old → length new ≡ length old
    → take n (new ++ drop (length new) old) ≡ new
written_back {A} old new n whole same =
    let none : drop (length new) old ≡ [] = drop_of_length-le old (omega (arith, same)) in
    ap (λ (rest : List A). take n (new ++ rest)) none ∙ ap (take n) (append-nil new) ∙ take_all n new (omega (arith, whole, same))
