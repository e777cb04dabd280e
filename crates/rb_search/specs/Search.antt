-- The search for a table: what it has found, and which addresses it has still to follow.
use Rattle.std.specs.Prelude.{◌≡◌, ◌⊎◌, ℕ, ◌<◌, Bool, true, false, List, [], ◌∷◌, filter, slice_get, Option, Some, None}
use Rattle.rb_code.specs.Instructions.Plain.{Code, Part}
use Rattle.rb_world.specs.Kind.{Membership}
use Rattle.rb_code.specs.SoundCode.Sound.{Entry, Has, HasTable, Table, is_in}
use Rattle.rb_code.specs.SoundCode.Reached.{Reached}
use Rattle.rb_flow.specs.Flow.{Keeps, Step, Steps, Takes, begins, flow_at}

-- addresses that are to be followed
abbrev pub Pending : Type 0
Pending = ℕ → Bool

-- a table says at least as much as another
abbrev pub IsBelow : Table → Table → Type 0
IsBelow f t = (a : ℕ) (e : Entry) → f a ≡ Some e → Has (t a) e

-- loops lie around the addresses that have an entry
abbrev pub LiesAround : Table → Type 0
LiesAround f = (a : ℕ) (e : Entry) → f a ≡ Some e → filter (is_in a) e.loops ≡ e.loops

-- one of these steps leads to an address
abbrev pub IsLedTo : ℕ → List Step → Type 0
IsLedTo a [] = ⊥
IsLedTo a (step ∷ steps) = (step.at ≡ a) ⊎ IsLedTo a steps

-- a table has an entry at an address
abbrev pub HasEntry : Option Entry → Type 0
HasEntry None = ⊥
HasEntry (Some e) = Unit {0}

-- what becomes of a table and of what is to be followed: it has at least these steps, says no more than before, and what changed is to
-- be followed; where a table takes the steps and was below, it is below still; and it has entries where it had some, and where the steps lead
pub record Gains (steps : List Step) (f : Table) (pending : Pending) (g : Table) (after : Pending) : Type 0 where
  pub takes : Takes g steps
  pub keeps : IsBelow f g
  pub others : (a : ℕ) → (after a ≡ true) ⊎ ((g a ≡ f a) × (after a ≡ pending a))
  pub least : (t : Table) → Takes t steps → IsBelow f t → IsBelow g t
  pub around : LiesAround f → LiesAround g
  pub only : (a : ℕ) → HasEntry (g a) → HasEntry (f a) ⊎ IsLedTo a steps

-- the same of what an instruction leads to
abbrev pub HasGained : Steps → Table → Pending → Table → Pending → Type 0
HasGained None f pending g after = ⊥
HasGained (Some steps) f pending g after = Gains steps f pending g after

module _ (c : Code) (groups : List Membership) where
  -- what is not to be followed was followed
  abbrev pub IsSettled : Table → Pending → Type 0
  IsSettled f pending = (a : ℕ) (e : Entry) → f a ≡ Some e → pending a ≡ false → Keeps f (flow_at c groups a e)

  -- the main bodies begin
  abbrev pub HasStarts : Table → Type 0
  HasStarts f = (p : ℕ) (part : Part) → slice_get c.processes p ≡ Some part → Has (f part.start) (begins p None 0)

  -- no table of the code says more than this one
  abbrev pub IsStrongest : Table → Type 0
  IsStrongest f = (t : Table) → HasTable c groups t → IsBelow f t

  -- each address that has an entry is reached
  abbrev pub IsReached : Table → Type 0
  IsReached f = (a : ℕ) → HasEntry (f a) → Reached c a

  -- each address that is reached has an entry
  abbrev pub Covers : Table → Type 0
  Covers f = (a : ℕ) → Reached c a → HasEntry (f a)

  -- a state of the search
  pub record IsSearching (f : Table) (pending : Pending) : Type 0 where
    pub settled : IsSettled f pending
    pub starts : HasStarts f
    pub strongest : IsStrongest f
    pub around : LiesAround f
    pub reached : IsReached f

  -- a state in which an address is being followed
  pub record IsFollowing (f : Table) (pending : Pending) (a : ℕ) : Type 0 where
    pub settled : (b : ℕ) (e : Entry) → f b ≡ Some e → pending b ≡ false → (b ≡ a → ⊥) → Keeps f (flow_at c groups b e)
    pub starts : HasStarts f
    pub strongest : IsStrongest f
    pub around : LiesAround f
    pub reached : IsReached f

  -- a state in which the main bodies of n processes have begun, and nothing was followed
  pub record IsBeginning (n : ℕ) (f : Table) (pending : Pending) : Type 0 where
    pub waits : (a : ℕ) (e : Entry) → f a ≡ Some e → pending a ≡ true
    pub starts : (p : ℕ) (part : Part) → p < n → slice_get c.processes p ≡ Some part → Has (f part.start) (begins p None 0)
    pub strongest : IsStrongest f
    pub around : LiesAround f
    pub reached : IsReached f

  -- The table that is found: it is one of the code, no table of the code says more, and it has an entry exactly where an address is reached.
  pub record IsFound (f : Table) : Type 0 where
    pub has : HasTable c groups f
    pub strongest : IsStrongest f
    pub reached : IsReached f
    pub covers : Covers f

  -- the code has no table
  abbrev pub HasNoTable : Type 0
  HasNoTable = (t : Table) → HasTable c groups t → ⊥
