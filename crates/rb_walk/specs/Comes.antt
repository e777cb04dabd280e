-- What a step of a plain run answers.
use Rattle.std.specs.Prelude.{◌≡◌, ℕ, ℤ, true, false, List, ◌++◌, Result, Ok, Err}
use Rattle.rb_base.specs.declared.event.Cause.{Cause}
use Rattle.rb_meaning.specs.State.{State}
use Rattle.rb_meaning.specs.Value.{Outcome, is_zero}
use Rattle.rb_walk.specs.declared.halt.Halt.{Halt}
use Rattle.rb_walk.specs.declared.halt.Halt.TheVariants.{Stuck, Memory}

-- A step that goes on has come to this state; one that is stuck met a trap. Want of memory says nothing.
abbrev pub Comes : {A : Type 0} → Result State Cause → State → Result A Halt → Type 0
Comes outcome new (Ok _) = outcome ≡ Ok new
Comes outcome new (Err Stuck) = (cause : Cause) × (outcome ≡ Err cause)
Comes outcome new (Err Memory) = Unit {0}

-- The same of what is computed along the way.
abbrev pub Gives : {A B : Type 0} → (B → A) → Result A Cause → Result B Halt → Type 0
Gives view outcome (Ok b) = outcome ≡ Ok (view b)
Gives view outcome (Err Stuck) = (cause : Cause) × (outcome ≡ Err cause)
Gives view outcome (Err Memory) = Unit {0}

-- These bytes came at the end of a line, unless memory was short; it is never stuck.
abbrev pub AddsTo : {A : Type 0} → List ℕ → List ℕ → List ℕ → Result A Halt → Type 0
AddsTo old bytes new (Ok _) = new ≡ old ++ bytes
AddsTo old bytes new (Err Stuck) = ⊥
AddsTo old bytes new (Err Memory) = Unit {0}

-- The bytes that an outcome gives came at the end of a line, or it is a trap.
abbrev pub AddsAs : {A : Type 0} → List ℕ → Result (List ℕ) Cause → List ℕ → Result A Halt → Type 0
AddsAs old outcome new (Ok _) = (bytes : List ℕ) × (outcome ≡ Ok bytes) × (new ≡ old ++ bytes)
AddsAs old outcome new (Err Stuck) = (cause : Cause) × (outcome ≡ Err cause)
AddsAs old outcome new (Err Memory) = Unit {0}

-- An acceptance test holds, or is stuck at a trap or at 0.
abbrev pub Judges : {A : Type 0} → Outcome → Result A Halt → Type 0
Judges outcome (Ok _) = (v : ℤ) × (outcome ≡ Ok v) × (is_zero v ≡ false)
Judges outcome (Err Stuck) = (v : ℤ) → outcome ≡ Ok v → is_zero v ≡ true
Judges outcome (Err Memory) = ⊥
