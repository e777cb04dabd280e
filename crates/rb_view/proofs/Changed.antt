-- What is told of two things that are there, and that nothing is told where one of them is not.
use Rattle.std.proofs.Common.{◌≡◌, ℕ, ◌+◌, ◌≤◌, List, [], ◌∷◌, ◌++◌, length, map, slice_get, option_map, Option, Some, None, refl, ap, sym, ◌∙◌}
use Rattle.std.proofs.lemmas.Option.{slice_get-map, slice_get_past}
use Rattle.rb_changes.specs.Changes.{change_of}
use Rattle.rb_changes.specs.Numbered.{numbered}

-- what is looked up among the images of a list
pub image_at : {A B : Type 0} (f : A → B) (xs : List A) (k : ℕ) (o : Option A) → slice_get xs k ≡ o → slice_get (map f xs) k ≡ option_map f o
image_at f xs k o e = slice_get-map f xs k ∙ ap (option_map f) e

module _ {B A : Type 0} (f : B → A → List ℕ) where
  pub both_there : (before : Option B) (after : Option A) (b : B) (a : A) → before ≡ Some b → after ≡ Some a → f b a ≡ change_of f before after
  both_there before after b a is then = sym (λ j. change_of f (is j) (then j))

  pub none_before : (before : Option B) (after : Option A) → before ≡ None → [] ≡ change_of f before after
  none_before before after is = sym (ap (λ (o : Option B). change_of f o after) is)

  pub none_after : (before : Option B) (after : Option A) → after ≡ None → [] ≡ change_of f before after
  none_after None after is = refl
  none_after (Some b) after is = sym (ap (λ (o : Option A). change_of f (Some b) o) is)

-- the same of the images of what stands at a number of two lists
module _ {X Y B A : Type 0} (f : B → A → List ℕ) (of : X → B) (to : Y → A) (xs : List X) (ys : List Y) (k : ℕ) where
  pub both_read : (x : X) (y : Y) → slice_get xs k ≡ Some x → slice_get ys k ≡ Some y
      → f (of x) (to y) ≡ change_of f (slice_get (map of xs) k) (slice_get (map to ys) k)
  both_read x y there too =
      both_there f (slice_get (map of xs) k) (slice_get (map to ys) k) (of x) (to y) (image_at of xs k (Some x) there) (image_at to ys k (Some y) too)

  pub first_past : length xs ≤ k → [] ≡ change_of f (slice_get (map of xs) k) (slice_get (map to ys) k)
  first_past past =
      none_before f (slice_get (map of xs) k) (slice_get (map to ys) k) (image_at of xs k None (slice_get_past xs k past))

  pub second_past : length ys ≤ k → [] ≡ change_of f (slice_get (map of xs) k) (slice_get (map to ys) k)
  second_past past =
      none_after f (slice_get (map of xs) k) (slice_get (map to ys) k) (image_at to ys k None (slice_get_past ys k past))

-- texts that are the same for each number
pub numbered_same : {A : Type 0} (f g : ℕ → A → List ℕ) (n : ℕ) (xs : List A) → ((k : ℕ) (x : A) → f k x ≡ g k x) → numbered f n xs ≡ numbered g n xs
numbered_same f g n [] same = refl
numbered_same f g n (x ∷ xs) same = λ j. same n x j ++ numbered_same f g (n + 1) xs same j
