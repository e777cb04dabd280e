-- Cuts. A cut gives each process its present state, or the recovery point of one of its open levels: process r is shown at its
-- level number f r, and as it is where it has no such level. So a cut is a function from processes to numbers.
use Rattle.std.specs.Prelude.{◌≡◌, ◌≤◌, ◌+◌, ℕ, zero, suc, nat_eq, cond, true, false, List, [], ◌∷◌, map, take, slice_get, Option, Some, None}
use Rattle.rb_world.specs.World.{Level, Process}
use Rattle.rb_world.specs.Standing.{is_failed}
use Rattle.rb_world.specs.Nested.{IsLevelOf}
use Rattle.rb_world.proofs.Erasing.ErasableKinds.{Parts}

-- a level as a plain run has it
abbrev pub plain_level : {S E P : Type 0} → Parts S E P → Level S → Level P
plain_level x level = record { facts = level.facts; alternate = 0; used = 0; copy = x.point level.copy }

-- levels as a plain run has them
abbrev pub plain_levels : {S E P : Type 0} → Parts S E P → List (Level S) → List (Level P)
plain_levels x levels = map (plain_level x) levels

-- the process as a plain run has it at the entry of its level number n, or as it is
abbrev pub shown_at : {S E P : Type 0} → Parts S E P → ℕ → Process S S → Option (Level S) → Process S P
shown_at x n q None = record { state = q.state; levels = plain_levels x q.levels; at_line = q.at_line; status = q.status }
shown_at x n q (Some level) = record { state = level.copy; levels = plain_levels x (take (n + 1) q.levels); at_line = false; status = q.status }

-- a process shown at its level number n
abbrev pub shown : {S E P : Type 0} → Parts S E P → ℕ → Process S S → Process S P
shown x n q = shown_at x n q (slice_get q.levels n)

-- every point of these levels is that of this one state
abbrev pub AreOwn : {S E P : Type 0} → Parts S E P → S → List (Level P) → Type 0
AreOwn x s [] = Unit {0}
AreOwn x s (level ∷ levels) = (level.copy ≡ x.point s) × AreOwn x s levels

-- How a plain run has a process that the cut shows at number n. One that has failed may still have levels there, in which
-- nothing was done.
pub data ShowsOne {S E P : Type 0} (x : Parts S E P) (n : ℕ) (q : Process S S) (u : Process S P) : Type 0 where
  Alive : is_failed q.status ≡ false → u ≡ shown x n q → ShowsOne x n q u
  Lost : is_failed q.status ≡ true → u.state ≡ q.state → u.at_line ≡ false → AreOwn x q.state u.levels → ShowsOne x n q u

-- a plain world's processes are those that the cut shows
abbrev pub Shows : {S E P : Type 0} → Parts S E P → (ℕ → ℕ) → List (Process S S) → List (Process S P) → Type 0
Shows x f [] [] = Unit {0}
Shows x f [] (u ∷ us) = ⊥
Shows x f (q ∷ qs) [] = ⊥
Shows x f (q ∷ qs) (u ∷ us) = ShowsOne x (f zero) q u × Shows x (λ r. f (suc r)) qs us

-- Where the cut shows process r at its level of a conversation, it shows everyone inside that conversation at their level of
-- it, or at one further out.
abbrev pub IsConsistent : {S : Type 0} → (ℕ → ℕ) → List (Process S S) → Type 0
IsConsistent {S} f qs = (r other c j : ℕ) (q q' : Process S S) → slice_get qs r ≡ Some q → slice_get qs other ≡ Some q'
    → IsLevelOf c q.levels (f r) → IsLevelOf c q'.levels j → f other ≤ j

-- the cut with process p shown at number n
abbrev pub with_shown : (ℕ → ℕ) → ℕ → ℕ → ℕ → ℕ
with_shown f p n r = cond (nat_eq r p) n (f r)
