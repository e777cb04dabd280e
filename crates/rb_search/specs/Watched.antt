-- Whether loops stay open, as one pass over the table finds it.
use Rattle.std.specs.Prelude.{◌≡◌, ℕ, ◌+◌, ◌<◌, ◌≤◌, nat_eq, nat_lt, Bool, true, false, cond, List, [], ◌∷◌, slice_get, Option, Some, None}
use Rattle.rb_code.specs.Instructions.Plain.{Code}
use Rattle.rb_code.specs.SoundCode.Sound.{Entry, Loop, Table, end_of_loop}
use Rattle.rb_code.specs.SoundCode.Sound.{IsOpen}
use Rattle.rb_code.specs.declared.instr.Instr.{Instr}
use Rattle.rb_code.specs.declared.instr.Instr.TheVariants.{Range}
use Rattle.rb_flow.specs.Flow.{either}
use Rattle.rb_entries.specs.Join.{same_loop}
use Rattle.rb_entries.specs.declared.entry.Loop.{Loop as HeldLoop}
use Rattle.rb_search.specs.declared.staying.Looked.{Looked}
use Rattle.rb_search.specs.declared.staying.Looked.TheVariants.{Closed, Watches}

-- the loops over one counter stay open
abbrev pub StaysOpen : Code → Table → ℕ → Type 0
StaysOpen c t k = (a b last x : ℕ) (e g : Entry) → slice_get c.instrs a ≡ Some (Range k b) → t a ≡ Some e
    → end_of_loop c k (a + 1) ≡ Some last → a < x → x ≤ last → t x ≡ Some g
    → IsOpen (record { counter = k; first = a + 1; last = last }) g.loops

abbrev pub is_open : Loop → List Loop → Bool
is_open loop [] = false
is_open loop (inner ∷ around) = either (same_loop inner loop) (is_open loop around)

-- the loop that is watched is past an address, or open there
abbrev pub is_kept : Option Loop → ℕ → List Loop → Bool
is_kept None x loops = true
is_kept (Some loop) x loops = either (nat_lt loop.last x) (is_open loop loops)

-- a loop that is begun at an address is watched from there on
abbrev pub begun : ℕ → ℕ → Option ℕ → Option Loop → Option Loop
begun k a None watched = watched
begun k a (Some last) watched = Some (record { counter = k; first = a + 1; last = last })

abbrev pub watched_by : Code → ℕ → ℕ → Option Instr → Option Loop → Option Loop
watched_by c k a (Some (Range j b)) watched = cond (nat_eq j k) (begun k a (end_of_loop c k (a + 1)) watched) watched
watched_by c k a _ watched = watched

abbrev pub watched_on : Code → ℕ → ℕ → Option Loop → Option Loop
watched_on c k a watched = watched_by c k a (slice_get c.instrs a) watched

-- a loop of the table begins before address n
pub record IsLoopOf (c : Code) (t : Table) (k n : ℕ) (loop : Loop) : Type 0 where
  pub a : ℕ
  pub b : ℕ
  pub e : Entry
  pub range : slice_get c.instrs a ≡ Some (Range k b)
  pub entry : t a ≡ Some e
  pub ends : end_of_loop c k (a + 1) ≡ Some loop.last
  pub same : loop ≡ record { counter = k; first = a + 1; last = loop.last }
  pub before : a < n

-- The pass stands in front of address n: so far loops stay open, and the one that goes on is watched.
pub record IsWatching (c : Code) (t : Table) (k n : ℕ) (watched : Option Loop) : Type 0 where
  pub kept : (a b last x : ℕ) (e g : Entry) → slice_get c.instrs a ≡ Some (Range k b) → t a ≡ Some e
      → end_of_loop c k (a + 1) ≡ Some last → a < x → x ≤ last → x < n → t x ≡ Some g
      → IsOpen (record { counter = k; first = a + 1; last = last }) g.loops
  pub watches : (a b last : ℕ) (e : Entry) → slice_get c.instrs a ≡ Some (Range k b) → t a ≡ Some e
      → end_of_loop c k (a + 1) ≡ Some last → a < n → n ≤ last
      → watched ≡ Some (record { counter = k; first = a + 1; last = last })
  pub is : (loop : Loop) → watched ≡ Some loop → IsLoopOf c t k n loop

-- what the pass finds at an address
abbrev pub IsLooked : Looked → Type 0 → (Option HeldLoop → Type 0) → Type 0
IsLooked Closed X P = X
IsLooked (Watches watched) X P = P watched
