-- Looking for a name among the names of texts.
use Rattle.std.proofs.Common.{◌≡◌, ◌∙◌, ℕ, Bool, true, false, List, [], ◌∷◌, ◌++◌, map, Option, Some, None, option_map, cond, Bor, refl, sym, ap, ap₂}
use Rattle.std.specs.List.{find}
use Rattle.std.specs.Option.{option_or, option_copied}
use Rattle.std.specs.Str.{str_eq_ignore_ascii_case}
use Rattle.std.proofs.lemmas.List.Folds.{find-append}
use Rattle.rb_reasons.specs.Names.{name_of}

-- what is found by its name has the name that is found
found_named : {X Y : Type 0} (of : X → Y) (p : Y → Bool) (xs : List X) → option_map of (find (λ x. p (of x)) xs) ≡ find p (map of xs)
found_named of p [] = refl
found_named {X} {Y} of p (x ∷ xs) = by (p (of x)) (found_named of p xs) where
  by : (b : Bool) → option_map of (find (λ x. p (of x)) xs) ≡ find p (map of xs)
      → option_map of (cond b (Some x) (find (λ x. p (of x)) xs)) ≡ cond b (Some (of x)) (find p (map of xs))
  by true rest = refl
  by false rest = rest

option_map-twice : {X Y Z : Type 0} (f : Y → Z) (g : X → Y) (o : Option X) → option_map (λ x. f (g x)) o ≡ option_map f (option_map g o)
option_map-twice f g None = refl
option_map-twice f g (Some x) = refl

-- the name of a text that is found by a name among texts with these names
pub found_in : (r : Option (Bor (Bor (List ℕ)))) (name : List ℕ) (texts : List (Bor (List ℕ))) (names : List (List ℕ)) →
    option_map (λ text. text.now) r ≡ find (λ text. str_eq_ignore_ascii_case (name_of text.now) name) texts → map (λ text. name_of text.now) texts ≡ names →
    option_map (λ text. name_of text.now.now) r ≡ find (λ word. str_eq_ignore_ascii_case word name) names
found_in r name texts names is all =
    option_map-twice (λ (text : Bor (List ℕ)). name_of text.now) (λ text. text.now) r ∙ ap (option_map (λ text. name_of text.now)) is
    ∙ found_named (λ text. name_of text.now) (λ word. str_eq_ignore_ascii_case word name) texts ∙ ap (find (λ word. str_eq_ignore_ascii_case word name)) all

-- a text that was copied
pub copied : (o : Option (Bor (Bor (List ℕ)))) → option_map (λ text. name_of text.now) (option_copied o) ≡ option_map (λ text. name_of text.now.now) o
copied None = refl
copied (Some text) = refl

-- the first of two that stand
option_map-or : {X Y : Type 0} (of : X → Y) (a b : Option X) → option_map of (option_or a b) ≡ option_or (option_map of a) (option_map of b)
option_map-or of None b = refl
option_map-or of (Some x) b = refl

-- what is found in two lists, one behind the other
pub found_behind : {X Y : Type 0} (of : X → Y) (p : Y → Bool) (a b : Option X) (xs ys : List Y) → option_map of a ≡ find p xs → option_map of b ≡ find p ys →
    option_map of (option_or a b) ≡ find p (xs ++ ys)
found_behind of p a b xs ys first second = option_map-or of a b ∙ ap₂ option_or first second ∙ sym (find-append p xs ys)
