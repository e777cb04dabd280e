-- How many levels are open once one was put back or went, and what it holds.
use Rattle.std.proofs.Common.{◌≡◌, suc, ◌-◌, ℤ, List, [], ◌∷◌, ◌++◌, length, refl, ap, ◌∙◌, arith}
use Rattle.rb_cell.specs.Store.{Store}
use Rattle.rb_cache.specs.Copies.{Fits, Level, RecoveryCache, accepted, change_last, copies, last_copy, last_or}
use Rattle.rb_cache.proofs.Views.{last_or-push}
use Rattle.accounts.specs.Same.{SameCopies}

pub length_changed : (f : Level → Level) (levels : List Level) → length (change_last f levels) ≡ length levels
length_changed f [] = refl
length_changed f (l ∷ []) = refl
length_changed f (l ∷ m ∷ inner) = ap suc (length_changed f (m ∷ inner))

pub length_accepted : (levels : List Level) → length (accepted levels) ≡ length levels - 1
length_accepted [] = refl
length_accepted (top ∷ []) = refl
length_accepted (l ∷ top ∷ []) = refl
length_accepted (l ∷ m ∷ n ∷ inner) = let h = length_accepted (m ∷ n ∷ inner) in omega arith

-- the copy of the level that was opened last
pub last_opened : (words now : List ℤ) (outer : List (List ℤ)) (cache : RecoveryCache) → copies now cache ≡ outer ++ words ∷ []
    → last_copy now cache ≡ words
last_opened words now outer cache h = ap (λ (all : List (List ℤ)). last_or all []) h ∙ last_or-push outer words []

pub nothing_changed : (words : Store) (cache : RecoveryCache) → Fits words.words cache → SameCopies words cache words cache
nothing_changed words cache fits = record { copies_same = refl; fits = fits; levels = refl; limits = refl; words = refl; limit = refl }

pub both_changed : (a : Store) (j : RecoveryCache) (b : Store) (k : RecoveryCache) (c : Store) (l : RecoveryCache)
    → SameCopies a j b k → SameCopies b k c l → SameCopies a j c l
both_changed a j b k c l one two = record {
  copies_same = two.copies_same ∙ one.copies_same;
  fits = two.fits;
  levels = two.levels ∙ one.levels;
  limits = two.limits ∙ one.limits;
  words = two.words ∙ one.words;
  limit = two.limit ∙ one.limit;
}
