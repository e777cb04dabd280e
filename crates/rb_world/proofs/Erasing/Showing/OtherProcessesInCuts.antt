-- Worlds whose processes were changed one by one: what is looked up there, and that the same plain world shows another cut.
use Rattle.std.proofs.Common.{◌≡◌, ℕ, zero, suc, nat_eq, Bool, true, false, cond, List, [], ◌∷◌, map, option_map, slice_get, Option, Some, None, refl, sym, ap, ◌∙◌, subst, eqb-true}
use Rattle.std.proofs.lemmas.Bool.{eqb-false}
use Rattle.std.proofs.lemmas.Option.{slice_get-map}
use Rattle.rb_world.specs.World.{Process, change_at}
use Rattle.rb_world.specs.Standing.{Each}
use Rattle.rb_world.proofs.Erasing.ErasableKinds.{Parts}
use Rattle.rb_world.proofs.Erasing.Showing.Cuts.{ShowsOne, Shows}
use Rattle.rb_world.proofs.ListFacts.{none_some, some_same, slice_get-change_at, slice_get-change_other}

-- each element became what F says at its number
abbrev pub IsChanged : {A : Type 0} → (ℕ → A → A) → List A → List A → Type 0
IsChanged {A} F xs ys = (r : ℕ) → slice_get ys r ≡ option_map (F r) (slice_get xs r)

-- what a change at one place does, by the number
abbrev pub only_at : {A : Type 0} → ℕ → (A → A) → ℕ → A → A
only_at p f r x = cond (nat_eq r p) (f x) x

same_option : {A : Type 0} (o : Option A) → o ≡ option_map (λ x. x) o
same_option None = refl
same_option (Some x) = refl

changed_at : {A : Type 0} (p : ℕ) (f : A → A) (xs : List A) (r : ℕ) (here : Bool) → nat_eq r p ≡ here
    → slice_get (change_at p f xs) r ≡ option_map (λ x. cond here (f x) x) (slice_get xs r)
changed_at p f xs r true e =
    subst (λ (n : ℕ). slice_get (change_at p f xs) n ≡ option_map f (slice_get xs n)) (sym (eqb-true r p e)) (slice_get-change_at p f xs)
changed_at p f xs r false e = slice_get-change_other p f xs r (eqb-false r p e) ∙ same_option (slice_get xs r)

-- one process is changed
pub is_changed_at : {A : Type 0} (p : ℕ) (f : A → A) (xs : List A) → IsChanged (only_at p f) xs (change_at p f xs)
is_changed_at p f xs r = changed_at p f xs r (nat_eq r p) refl

-- who is there after a change
pub changed_there : {A : Type 0} (F : ℕ → A → A) (xs ys : List A) (r : ℕ) (x : A) → IsChanged F xs ys → slice_get xs r ≡ Some x
    → slice_get ys r ≡ Some (F r x)
changed_there F xs ys r x changed e = changed r ∙ ap (option_map (F r)) e

each_changed_at : {A : Type 0} (P : A → Type 0) (f : A → A) (o : Option A) (y : A) → Some y ≡ option_map f o → ((x : A) → o ≡ Some x → P (f x)) → P y
each_changed_at P f None y e one = absurd (none_some (sym e))
each_changed_at P f (Some x) y e one = subst P (sym (some_same e)) (one x refl)

-- what holds of each after a change
pub Each-changed : {A : Type 0} (P : ℕ → A → Type 0) (F : ℕ → A → A) (xs ys : List A) → IsChanged F xs ys
    → ((r : ℕ) (x : A) → slice_get xs r ≡ Some x → P r (F r x)) → Each P ys
Each-changed P F xs ys changed one r y e = each_changed_at (P r) (F r) (slice_get xs r) y (sym e ∙ changed r) (one r)

-- every element is changed
pub is_changed_each : {A : Type 0} (f : A → A) (xs : List A) → IsChanged (λ r. f) xs (map f xs)
is_changed_each f xs r = slice_get-map f xs r

-- one change after another
option_twice : {A : Type 0} (f g : A → A) (o : Option A) → option_map g (option_map f o) ≡ option_map (λ x. g (f x)) o
option_twice f g None = refl
option_twice f g (Some x) = refl

pub is_changed_twice : {A : Type 0} (F G : ℕ → A → A) (xs ys zs : List A) → IsChanged F xs ys → IsChanged G ys zs
    → IsChanged (λ r x. G r (F r x)) xs zs
is_changed_twice F G xs ys zs one two r = two r ∙ (ap (option_map (G r)) (one r) ∙ option_twice (F r) (G r) (slice_get xs r))

-- the same plain world shows another cut of the world after a change
pub shows_changed : {S E P : Type 0} (x : Parts S E P) (g f : ℕ → ℕ) (F : ℕ → Process S S → Process S S)
    (qs qs' : List (Process S S)) (us : List (Process S P))
    → IsChanged F qs qs'
    → ((r : ℕ) (q : Process S S) (u : Process S P) → slice_get qs r ≡ Some q → ShowsOne x (g r) q u → ShowsOne x (f r) (F r q) u)
    → Shows x g qs us → Shows x f qs' us
shows_changed x g f F [] [] us changed one shows = shows
shows_changed x g f F [] (r ∷ qs') us changed one shows = absurd (none_some (sym (changed zero)))
shows_changed x g f F (q ∷ qs) [] us changed one shows = absurd (none_some (changed zero))
shows_changed x g f F (q ∷ qs) (r ∷ qs') [] changed one shows = absurd shows
shows_changed {S = S} x g f F (q ∷ qs) (r ∷ qs') (u ∷ us) changed one shows = (
  subst (λ (z : Process S S). ShowsOne x (f zero) z u) (sym (some_same (changed zero))) (one zero q u refl shows.0),
  shows_changed x (λ n. g (suc n)) (λ n. f (suc n)) (λ n. F (suc n)) qs qs' us (λ n. changed (suc n)) (λ n. one (suc n)) shows.1,
)
