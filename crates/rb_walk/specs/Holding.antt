-- A line joins the held lines of a plain run.
use Rattle.std.specs.Prelude.{◌≡◌, ◌+◌, ℕ, nat_lt, true, false, List, [], ◌∷◌, ◌++◌, length, Result, Ok, Err}
use Rattle.rb_meaning.specs.Step.{held_bytes, most_held}
use Rattle.rb_walk.specs.declared.halt.Halt.{Halt}
use Rattle.rb_walk.specs.declared.halt.Halt.TheVariants.{Stuck, Memory}

-- it is the last of them, or they would have too many bytes with it
abbrev pub Adds : {A : Type 0} → List (List ℕ) → List ℕ → List (List ℕ) → Result A Halt → Type 0
Adds old line new (Ok _) = (nat_lt most_held (held_bytes old + (length line + 1)) ≡ false) × (new ≡ old ++ line ∷ [])
Adds old line new (Err Stuck) = nat_lt most_held (held_bytes old + (length line + 1)) ≡ true
Adds old line new (Err Memory) = Unit {0}
