-- Lines that are held back, and lines that were released and wait. All of it is this project's own.
use Rattle.std.specs.Prelude.{◌≡◌, ◌≢◌, ℕ, ◌+◌, ◌≤◌, List, length, take, sum_by, All}

-- Two lists of lines: those that are held, and those that were released and wait, both in order.
pub record TwoLists : Type 0 where
  pub held : List (List ℕ)
  pub released : List (List ℕ)

-- the held bytes of lines: those of each line, and one more for each
abbrev pub held_bytes : List (List ℕ) → ℕ
held_bytes lines = sum_by (λ line. length line + 1) lines

-- a line has no line end, LF, within it
abbrev pub IsLine : List ℕ → Type 0
IsLine line = All (λ byte. byte ≢ 10) line

-- the first k lines have so many held bytes
abbrev pub IsLengthOf : ℕ → ℕ → List (List ℕ) → Type 0
IsLengthOf n k lines = (k ≤ length lines) × (held_bytes (take k lines) ≡ n)
