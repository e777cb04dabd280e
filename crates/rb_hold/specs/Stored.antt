-- Lines as they lie in memory: one after another, each with LF at its end. All of it is this project's own.
use Rattle.std.specs.Prelude.{◌≡◌, ◌≤◌, ℕ, nat_eq, List, [], ◌∷◌, ◌++◌, cond, length, take, drop}
use Rattle.std.specs.List.{flat_map}
use Rattle.rb_base.specs.declared.limits.TheConstants.{MOST_HELD_BYTES}

-- a line as it is stored
abbrev pub ended : List ℕ → List ℕ
ended line = line ++ 10 ∷ []

-- lines as they are stored
abbrev pub stored : List (List ℕ) → List ℕ
stored lines = flat_map ended lines

-- the lines that follow a byte, with the byte at the front of the first
abbrev pub begun_with : ℕ → List (List ℕ) → List (List ℕ)
begun_with byte [] = (byte ∷ []) ∷ []
begun_with byte (line ∷ lines) = (byte ∷ line) ∷ lines

-- the lines of stored bytes: each LF ends one
abbrev pub lines_in : List ℕ → List (List ℕ)
lines_in [] = []
lines_in (byte ∷ bytes) = cond (nat_eq byte 10) ([] ∷ lines_in bytes) (begun_with byte (lines_in bytes))

-- bytes are stored lines, each with its LF
abbrev pub AreLines : List ℕ → Type 0
AreLines bytes = stored (lines_in bytes) ≡ bytes

-- The first bytes of a buffer are held lines, and the bytes from a place on are waiting lines; it has room for all that may
-- be held.
pub record IsBuffer (bytes : List ℕ) (held waiting room : ℕ) : Type 0 where
  pub held_within : held ≤ length bytes
  pub waiting_within : waiting ≤ length bytes
  pub few : length bytes ≤ MOST_HELD_BYTES
  pub has_room : MOST_HELD_BYTES ≤ room
  pub held_lines : AreLines (take held bytes)
  pub waiting_lines : AreLines (drop waiting bytes)
