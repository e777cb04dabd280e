-- The words of a command line, by what the system answers.
use Rattle.std.specs.Prelude.{◌≡◌, ℕ, List, drop, Result, Ok, Err}

-- all of these words behind the first, or 5 for want of memory
abbrev pub IsWordsOf : List (List ℕ) → Result (List (List ℕ)) ℕ → Type 0
IsWordsOf given (Ok words) = words ≡ drop 1 given
IsWordsOf given (Err number) = number ≡ 5

-- where the system gave none: 5 if memory was wanting, and else 6, as the words are no text
abbrev pub IsWithoutWords : Type 0 → Result (List (List ℕ)) ℕ → Type 0
IsWithoutWords wanting (Ok words) = ⊥
IsWithoutWords wanting (Err number) = (wanting → number ≡ 5) × ((wanting → ⊥) → number ≡ 6)
