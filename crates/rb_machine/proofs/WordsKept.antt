-- A word by its place, as other words are written, added and cut off.
use Rattle.std.proofs.Common.{◌≡◌, ℕ, zero, suc, ◌+◌, ◌<◌, ◌≤◌, ℤ, pos, negsuc, ◌+ℤ◌, List, ◌++◌, length, take, ap, sym, subst, arith}
use Rattle.std.specs.Option.{unwrap_or}
use Rattle.std.proofs.Math.IntN.{+ℤ_one, suc_ℤ}
use Rattle.rb_world.proofs.ListFacts.{slice_get-front}
use Rattle.rb_world.proofs.Members.PlaceFacts.{slice_get-take}
use Rattle.rb_meaning.specs.Environment.{natural}
use Rattle.rb_code.specs.WordMachine.Workspace.{word_at}

-- words come behind it, or go
pub word_front : (words more : List ℤ) (place : ℕ) → place < length words → word_at (words ++ more) place ≡ word_at words place
word_front words more place lt = ap (λ o. unwrap_or o (pos 0)) (slice_get-front words more place lt)

pub word_left : (words : List ℤ) (n place : ℕ) → place < n → word_at (take n words) place ≡ word_at words place
word_left words n place lt = ap (λ o. unwrap_or o (pos 0)) (slice_get-take n words place lt)

-- a number does not fall as one is added
pub natural_kept : (x : ℤ) → natural x ≤ natural (x +ℤ pos 1)
natural_kept x = subst (λ y. natural x ≤ natural y) (sym (+ℤ_one x)) (by x)
  where
    by : (y : ℤ) → natural y ≤ natural (suc_ℤ y)
    by (pos n) = omega arith
    by (negsuc zero) = omega arith
    by (negsuc (suc n)) = omega arith

-- and rises by one at most
pub natural_risen : (x : ℤ) → natural (x +ℤ pos 1) ≤ natural x + 1
natural_risen x = subst (λ y. natural y ≤ natural x + 1) (sym (+ℤ_one x)) (by x)
  where
    by : (y : ℤ) → natural (suc_ℤ y) ≤ natural y + 1
    by (pos n) = omega arith
    by (negsuc zero) = omega arith
    by (negsuc (suc n)) = omega arith
