-- A list with one element changed.
use Rattle.std.proofs.Common.{◌≡◌, ◌<◌, ◌≤◌, ℕ, zero, suc, List, [], ◌∷◌, length, map, get_or, slice_set, refl, ap, arith}
use Rattle.rb_world.specs.World.{change_at}

-- a write of what the change makes of the element that is there
pub change_at-set : {A : Type 0} (f : A → A) (xs : List A) (i : ℕ) (d y : A) → i < length xs → y ≡ f (get_or xs i d)
    → change_at i f xs ≡ slice_set xs i y
change_at-set f [] i d y h e = absurd (omega arith)
change_at-set f (x ∷ xs) zero d y h e = ap (λ z. z ∷ xs) (cc)
change_at-set f (x ∷ xs) (suc i) d y h e = ap (λ zs. x ∷ zs) (change_at-set f xs i d y (omega arith) e)

-- a change beyond the end does nothing
pub change_at-past : {A : Type 0} (f : A → A) (xs : List A) (i : ℕ) → length xs ≤ i → change_at i f xs ≡ xs
change_at-past f [] i h = refl
change_at-past f (x ∷ xs) zero h = absurd (omega arith)
change_at-past f (x ∷ xs) (suc i) h = ap (λ zs. x ∷ zs) (change_at-past f xs i (omega arith))

-- the same of what the elements stand for
pub change_at-seen : {X A : Type 0} (view : X → A) (f : A → A) (xs : List X) (i : ℕ) (d y : X)
    → i < length xs → view y ≡ f (view (get_or xs i d)) → change_at i f (map view xs) ≡ map view (slice_set xs i y)
change_at-seen view f [] i d y h e = absurd (omega arith)
change_at-seen view f (x ∷ xs) zero d y h e = ap (λ z. z ∷ map view xs) (cc)
change_at-seen view f (x ∷ xs) (suc i) d y h e = ap (λ zs. view x ∷ zs) (change_at-seen view f xs i d y (omega arith) e)

-- the same beyond the end
pub change_at-seen_past : {X A : Type 0} (view : X → A) (f : A → A) (xs : List X) (i : ℕ) → length xs ≤ i → change_at i f (map view xs) ≡ map view xs
change_at-seen_past view f [] i h = refl
change_at-seen_past view f (x ∷ xs) zero h = absurd (omega arith)
change_at-seen_past view f (x ∷ xs) (suc i) h = ap (λ zs. view x ∷ zs) (change_at-seen_past view f xs i (omega arith))

-- for code that changes one element in its place
pub ruleset changes = (change_at-set, change_at-past, change_at-seen, change_at-seen_past)
