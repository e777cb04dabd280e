use Rattle.std.proofs.Common.{◌≡◌, ◌<◌, ℕ, true}
use Rattle.rb_code.specs.Instructions.Plain.{code as plain}
use Rattle.rb_back.specs.Stores.{HasStores}
use Rattle.rb_back.proofs.stores.are_ranges.Given as goal

-- each address so far has all that is stored
abbrev pub invariant-loop-at : goal.invariant-loop-at
invariant-loop-at l = l.all ≡ true → (a : ℕ) → a < l.at → HasStores (plain l.code) l.most l.ranges a
