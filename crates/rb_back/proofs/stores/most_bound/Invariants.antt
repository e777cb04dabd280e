use Rattle.std.proofs.Common.{◌≡◌, ◌≤◌, ◌<◌, ℕ, slice_get, Some}
use Rattle.rb_code.specs.declared.instr.Instr.TheVariants.{Bound}
use Rattle.rb_back.proofs.stores.most_bound.Given as goal

-- each one so far is at most this
abbrev pub invariant-loop-at : goal.invariant-loop-at
invariant-loop-at l = (a n : ℕ) → a < l.at → slice_get l.instrs a ≡ Some (Bound n) → n ≤ l.most
