-- What a command asks for with the words that it is given.
use Rattle.std.specs.Prelude.{ℕ, List, [], ◌∷◌, Option, Some, None, option_and_then, option_map}

-- one that takes one word
abbrev pub with_one : {R : Type 0} → (List ℕ → R) → List (List ℕ) → Option R
with_one of [] = None
with_one of (a ∷ []) = Some (of a)
with_one of (a ∷ b ∷ more) = None

-- one that takes one, or none
abbrev pub with_perhaps : {R : Type 0} → (Option (List ℕ) → R) → List (List ℕ) → Option R
with_perhaps of [] = Some (of None)
with_perhaps of (a ∷ []) = Some (of (Some a))
with_perhaps of (a ∷ b ∷ more) = None

-- one that takes one, and a second that may be left out
abbrev pub with_last : {R : Type 0} → (List ℕ → Option (List ℕ) → Option R) → List (List ℕ) → Option R
with_last of [] = None
with_last of (a ∷ []) = of a None
with_last of (a ∷ b ∷ []) = of a (Some b)
with_last of (a ∷ b ∷ c ∷ more) = None

-- one that takes two
abbrev pub with_two : {R : Type 0} → (List ℕ → List ℕ → R) → List (List ℕ) → Option R
with_two of [] = None
with_two of (a ∷ []) = None
with_two of (a ∷ b ∷ []) = Some (of a b)
with_two of (a ∷ b ∷ c ∷ more) = None

-- and one that takes three
abbrev pub with_three : {R : Type 0} → (List ℕ → List ℕ → List ℕ → R) → List (List ℕ) → Option R
with_three of [] = None
with_three of (a ∷ []) = None
with_three of (a ∷ b ∷ []) = None
with_three of (a ∷ b ∷ c ∷ []) = Some (of a b c)
with_three of (a ∷ b ∷ c ∷ d ∷ more) = None

-- what two words that were found ask for
abbrev pub two_given : {R : Type 0} → (List ℕ → List ℕ → R) → Option (List ℕ) → Option (List ℕ) → Option R
two_given of a b = option_and_then (λ x. option_map (of x) b) a

-- and what three ask for
abbrev pub three_given : {R : Type 0} → (List ℕ → List ℕ → List ℕ → R) → Option (List ℕ) → Option (List ℕ) → Option (List ℕ) → Option R
three_given of a b c = option_and_then (λ x. two_given (of x) b c) a
