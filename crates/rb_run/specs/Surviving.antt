-- What the call that writes the survivors of a run comes to.
use Rattle.std.specs.Prelude.{◌≡◌, ℕ, List, Option, Result, Ok, Err}
use Rattle.rb_outside.specs.Outside.{Faults}
use Rattle.rb_outside.specs.Puts.{Puts}
use Rattle.rb_world.specs.Kind.{Membership}
use Rattle.rb_meaning.specs.Laws.{IsErased}
use Rattle.rb_meaning.specs.Meaning.{run_of, survivors}
use Rattle.rb_code.specs.Instructions.Plain.{Code}
use Rattle.rb_code.specs.WordMachine.WordRun.{word_run}
use Rattle.rb_recovery.specs.Survivors.{word_survivors}
use Rattle.rb_run.specs.Sources.{OfItsSource}
use Rattle.rb_run.specs.declared.surviving.Ended.{Ended}
use Rattle.rb_run.specs.declared.surviving.Ended.TheVariants.{WriteFault, Memory}

-- The text was written whole; or a write failed, with a front of it written; or memory was wanting, with nothing written and no fault.
abbrev pub Survives : List ℕ → Option (List ℕ) → Option (List ℕ) → Faults → Faults → Result (Unit {0}) Ended → Type 0
Survives text old new before after (Ok done) = Puts {T = Unit {0}} {E = Ended} text old new before after (Ok done)
Survives text old new before after (Err WriteFault) = Puts {T = Unit {0}} {E = Ended} text old new before after (Err WriteFault)
Survives text old new before after (Err Memory) = (new ≡ old) × (after ≡ before)

-- Of whatever accepted source code stands for: the survivors of its word machine are those of the meaning, and a plain run of them ends in
-- the same states, and releases the same lines in the same turns.
abbrev pub IsErasedOver : Code → List Membership → List ℕ → Type 0
IsErasedOver c groups turns =
    OfItsSource c groups (λ tree. (word_survivors (word_run c groups turns).0 ≡ survivors (run_of tree turns).0) × IsErased tree turns)
