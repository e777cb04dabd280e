use Rattle.std.proofs.Common.{◌⊎◌, ◌<◌, ◌-◌, ◌^◌, ℕ, length}
use Rattle.rb_code.specs.Instructions.Plain.{code as plain}
use Rattle.rb_code.specs.SoundCode.Sound.{IsMember}
use Rattle.rb_back.specs.Stores.{IsIn, MayStoreFrom}
use Rattle.rb_back.proofs.stores.stores_by_all.Given as goal

-- what is stored from an address is among all, or the address is left
abbrev pub invariant-loop-rest : goal.invariant-loop-rest
invariant-loop-rest l =
    (b k : ℕ) → IsMember b l.fn.addresses → k < 2 ^ 32 - 1 → MayStoreFrom (plain l.code) l.ranges b k → IsIn k l.all ⊎ IsMember b l.rest

abbrev pub decreases-loop-rest : goal.decreases-loop-rest
decreases-loop-rest l = length l.rest
