-- What is noted of a turn.
use Rattle.std.specs.Prelude.{◌≡◌, ◌≤◌, ◌<◌, ◌+◌, ℕ, ℤ, pos, cond, List, [], ◌∷◌, ◌++◌, length, map, count_by, slice_index_or}
use Rattle.std.specs.Ordering.{int_eq}
use Rattle.rb_base.specs.Lines.{belonging}
use Rattle.rb_back.specs.declared.view.Change.{Change}
use Rattle.rb_back.specs.Picture.{Picture, is_word, redone_all, undone_all}

-- how many words of a process are others in two pictures, and how many of all processes
abbrev pub differing : List ℤ → List ℤ → ℕ
differing [] after = 0
differing (x ∷ xs) [] = 0
differing (x ∷ xs) (y ∷ ys) = cond (int_eq x y) 0 1 + differing xs ys

abbrev pub changed : List (List ℤ) → List (List ℤ) → ℕ
changed [] after = 0
changed (words ∷ others) [] = 0
changed (words ∷ others) (later ∷ more) = differing words later + changed others more

-- Behind some changes further ones were noted, that lead from one picture to another and back. On the way to words that are to be shown,
-- each of them that names a word makes one word more the same.
pub record Notes (target : List (List ℤ)) (old new : List Change) (before after : Picture) : Type 0 where
  pub noted : List Change
  pub joined : new ≡ old ++ noted
  pub forth : redone_all noted before ≡ after
  pub back : undone_all noted after ≡ before
  pub few : count_by is_word noted + changed after.words target ≤ changed before.words target

-- as many processes, with as many words each
abbrev pub AreAlike : List (List ℤ) → List (List ℤ) → Type 0
AreAlike before after = map length before ≡ map length after

-- all words but those of process number p are the same
abbrev pub OthersAreSame : ℕ → List (List ℤ) → List (List ℤ) → Type 0
OthersAreSame p before after = (r : ℕ) → (r ≡ p → ⊥) → belonging before r ≡ belonging after r

-- the words of a process from one place up to another are the same
abbrev pub AreSameWithin : ℕ → ℕ → List ℤ → List ℤ → Type 0
AreSameWithin from to before after = (k : ℕ) → from ≤ k → k < to → slice_index_or before k (pos 0) ≡ slice_index_or after k (pos 0)
