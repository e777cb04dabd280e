-- What the search holds in memory, as a table and the addresses that are to be followed.
use Rattle.std.specs.Prelude.{◌≡◌, ◌⊎◌, ℕ, ◌≤◌, Bool, true, false, List, slice_get, Option, Some, None, option_map, Contains}
use Rattle.rb_code.specs.SoundCode.Sound.{Table}
use Rattle.rb_entries.specs.declared.entry.Held.{Held}
use Rattle.rb_entries.specs.declared.cell.Cell.{Cell}
use Rattle.rb_flow.specs.Flow.{Keeps, Steps}
use Rattle.rb_flow.specs.Held.{IsHeld, entry_of}
use Rattle.rb_flow.specs.declared.lists.Lists.{Lists}
use Rattle.rb_search.specs.Search.{IsBelow, Pending}
use Rattle.rb_search.specs.declared.refusal.Refusal.{Refusal}
use Rattle.rb_search.specs.declared.refusal.Refusal.TheVariants.{Unsound, Memory}

abbrev pub held_in : Option Cell → Option Held
held_in None = None
held_in (Some cell) = cell.entry

abbrev pub pending_in : Option Cell → Bool
pending_in None = false
pending_in (Some cell) = cell.pending

abbrev pub found : Lists → List Cell → Table
found lists cells = λ a. option_map (entry_of lists) (held_in (slice_get cells a))

abbrev pub pending : List Cell → Pending
pending cells = λ a. pending_in (slice_get cells a)

-- the lists of all entries are there, and each address that is to be followed is in the list of those
pub record IsWell (lists : Lists) (cells : List Cell) (work : List ℕ) : Type 0 where
  pub held : (a : ℕ) (h : Held) → held_in (slice_get cells a) ≡ Some h → IsHeld lists h
  pub listed : (a : ℕ) → pending cells a ≡ true → Contains work a

-- the same where an address is being taken from it
pub record IsTaking (lists : Lists) (cells : List Cell) (work : List ℕ) (at : ℕ) : Type 0 where
  pub held : (a : ℕ) (h : Held) → held_in (slice_get cells a) ≡ Some h → IsHeld lists h
  pub listed : (a : ℕ) → pending cells a ≡ true → (a ≡ at) ⊎ Contains work a

-- a table has no entry from address n on
abbrev pub IsWithin : ℕ → Table → Type 0
IsWithin n t = (a : ℕ) → n ≤ a → t a ≡ None

-- no table that is at most as strong takes these steps
abbrev pub NoneTakes : ℕ → Table → Steps → Type 0
NoneTakes n f steps = (t : Table) → IsWithin n t → IsBelow f t → Keeps t steps → ⊥

-- what is refused as unsound is
abbrev pub IfUnsound : Refusal → Type 0 → Type 0
IfUnsound Unsound X = X
IfUnsound Memory X = Unit {0}
