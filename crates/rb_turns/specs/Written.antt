-- How a call ends that writes a text and takes memory before its first byte.
use Rattle.std.specs.Prelude.{◌≡◌, ℕ, List, Option, Result, Ok, Err}
use Rattle.rb_outside.specs.Outside.{Faults, WrotePart, failed_once, then_written}
use Rattle.rb_hall.specs.declared.command.Unwritten.{Unwritten}
use Rattle.rb_hall.specs.declared.command.Unwritten.TheVariants as unwritten

-- All of this text was written; or a prefix of it was, and then one call failed, after which none followed; or memory was wanting before anything
-- was written.
abbrev pub PutsOrMemory : {W : Type 0} → List ℕ → Option (List ℕ) → Option (List ℕ) → Faults → Faults → Result (Unit {0}) (Unwritten W) → Type 0
PutsOrMemory text old new before after (Ok done) = (new ≡ then_written old text) × (after.count ≡ before.count)
PutsOrMemory text old new before after (Err (unwritten.Refused fault known)) = ⊥
PutsOrMemory text old new before after (Err unwritten.Fault) = WrotePart old new text × (after ≡ failed_once before)
PutsOrMemory text old new before after (Err unwritten.Memory) = (new ≡ old) × (after ≡ before)
