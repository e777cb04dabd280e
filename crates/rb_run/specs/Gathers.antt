-- What a call comes to that adds bytes to those that wait in a block.
use Rattle.std.specs.Prelude.{◌≡◌, ℕ, List, ◌++◌, Option, Result, OnOk, OnErr}
use Rattle.rb_outside.specs.Outside.{Faults, WrotePart, failed_once, then_written}

-- All the bytes that waited, and those that were added: a front of them was written, and the rest waits; or writing stopped among them.
pub record Gathers {T E : Type 0} (bytes waited waits : List ℕ) (old new : Option (List ℕ)) (before after : Faults)
    (result : Result T E) : Type 0 where
  pub ok : OnOk result ((front : List ℕ) × (front ++ waits ≡ waited ++ bytes) × (new ≡ then_written old front))
  pub quiet : OnOk result (after.count ≡ before.count)
  pub err : OnErr result (WrotePart old new (waited ++ bytes))
  pub failed : OnErr result (after ≡ failed_once before)
