-- Where a turn may store: for each address of a code words of variables, so that all that is executed from there on, until the turn ends,
-- changes no others.
use Rattle.std.specs.Prelude.{◌≡◌, ◌≤◌, ◌<◌, ◌+◌, ◌-◌, ◌^◌, ℕ, ℤ, pos, List, [], length, slice_get, slice_index_or, Option, Some, None}
use Rattle.rb_base.specs.declared.event.TurnKind.TheVariants.{Undone}
use Rattle.rb_world.specs.Kind.{Membership}
use Rattle.rb_world.specs.Turn.{move, turn}
use Rattle.rb_world.specs.World.{Process}
use Rattle.rb_code.specs.Instructions.Plain.{Code}
use Rattle.rb_code.specs.SoundCode.Reached.{successors}
use Rattle.rb_code.specs.SoundCode.Sound.{IsMember}
use Rattle.rb_code.specs.SoundCode.WellFormed.{IsSound}
use Rattle.rb_code.specs.WordMachine.Turn.{Copy, Standing}
use Rattle.rb_code.specs.WordMachine.WordKind.{word_kind}
use Rattle.rb_code.specs.WordMachine.WordRun.{variable_words, word_run}
use Rattle.rb_code.specs.declared.instr.Spot.{Spot}
use Rattle.rb_code.specs.declared.instr.Spot.TheVariants.{Global, Local}
use Rattle.rb_code.specs.declared.instr.Instr.{Instr}
use Rattle.rb_code.specs.declared.instr.Instr.TheVariants.{Turn, Bound, Store, StoreAt, Return}
use Rattle.rb_back.specs.declared.stores.Stores.{Stores}

-- a word is among these
abbrev pub IsIn : ℕ → Stores → Type 0
IsIn k stores = (stores.from ≤ k) × (k < stores.to)

-- an address without words of its own has all
abbrev pub MayBeIn : ℕ → Option Stores → Type 0
MayBeIn k None = Unit {0}
MayBeIn k (Some stores) = IsIn k stores

-- all of an address's words are among these
abbrev pub AreAllIn : Option Stores → Stores → Type 0
AreAllIn own stores = (k : ℕ) → k < 2 ^ 32 - 1 → MayBeIn k own → IsIn k stores

-- so many words from the first one of a variable of the process on; what a call keeps is none of these
abbrev pub LiesAt : Spot → ℕ → ℕ → Type 0
LiesAt (Global j) n k = (j ≤ k) × (k < j + n)
LiesAt (Local j) n k = ⊥

-- what an instruction itself may store, where each `bound` is at most a number; what a `return` leads to is not known
abbrev pub MayStore : ℕ → Instr → ℕ → Type 0
MayStore most (Store v) k = LiesAt v 1 k
MayStore most (StoreAt v) k = LiesAt v most k
MayStore most Return k = Unit {0}
MayStore most other k = ⊥

-- a turn that begins stores nothing more
abbrev pub UnlessTurn : Option Instr → Type 0 → Type 0
UnlessTurn None P = P
UnlessTurn (Some Turn) P = ⊥
UnlessTurn (Some other) P = P

-- what may be stored from an address on
abbrev pub MayStoreFrom : Code → List Stores → ℕ → ℕ → Type 0
MayStoreFrom c ranges a k = UnlessTurn (slice_get c.instrs a) (MayBeIn k (slice_get ranges a))

-- each `bound` is at most this
abbrev pub AreBoundBy : List Instr → ℕ → Type 0
AreBoundBy instrs most = (a n : ℕ) → slice_get instrs a ≡ Some (Bound n) → n ≤ most

-- An address has the words that its instruction stores, and all that are stored from where it leads.
pub record HasStores (c : Code) (most : ℕ) (ranges : List Stores) (a : ℕ) : Type 0 where
  pub own : (instr : Instr) (k : ℕ) → slice_get c.instrs a ≡ Some instr → k < 2 ^ 32 - 1 → MayStore most instr k
      → MayBeIn k (slice_get ranges a)
  pub behind : (instr : Instr) (b k : ℕ) → slice_get c.instrs a ≡ Some instr → IsMember b (successors c instr a) → k < 2 ^ 32 - 1
      → MayStoreFrom c ranges b k → MayBeIn k (slice_get ranges a)

-- so does each address
pub record AreRanges (c : Code) (ranges : List Stores) : Type 0 where
  pub most : ℕ
  pub bounds : AreBoundBy c.instrs most
  pub each : (a : ℕ) → HasStores c most ranges a

-- all words but those are the same
abbrev pub AreSameBut : Option Stores → List ℤ → List ℤ → Type 0
AreSameBut stores before after =
    (k : ℕ) → k < length before → (MayBeIn k stores → ⊥) → slice_index_or before k (pos 0) ≡ slice_index_or after k (pos 0)

-- In every run of sound code a turn of a process that neither takes anything back nor passes a test line changes no word of its variables
-- but those where its address stores.
abbrev pub StoresStay : Type 0
StoresStay = (c : Code) (groups : List Membership) (counts : List ℕ) → IsSound c groups counts → (ranges : List Stores) → AreRanges c ranges
    → (turns : List ℕ) (p : ℕ) (q r : Process Standing Copy) → slice_get (word_run c groups turns).0.processes p ≡ Some q
    → slice_get (turn (word_kind c groups) (length turns + 1) p (word_run c groups turns).0).0.processes p ≡ Some r
    → ((move (word_kind c groups) (length turns + 1) p (word_run c groups turns).0).kind ≡ Undone → ⊥)
    → (move (word_kind c groups) (length turns + 1) p (word_run c groups turns).0).passes ≡ []
    → AreSameBut (slice_get ranges q.state.at) (variable_words c q.state) (variable_words c r.state)
