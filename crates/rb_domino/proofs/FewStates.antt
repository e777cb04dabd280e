-- How many states all processes have: a line is a recovery point of one process at most, and each process has `now`.
use Rattle.std.proofs.Common.{◌≡◌, ℕ, zero, suc, ◌+◌, ◌≤◌, ◌<◌, ◌==◌, Bool, true, false, cond, List, [], ◌∷◌, length, map, refl, ap, arith}
use Rattle.std.proofs.lemmas.Bool.{eqb-true}
use Rattle.std.proofs.lemmas.List.Sums.{sum_by-cons}
use Rattle.rb_sched.specs.Schedule.{numbers_from}
use Rattle.rb_domino.specs.declared.line.Line.{Line}
use Rattle.rb_domino.specs.declared.line.Line.TheVariants.{Begin, Point, Send, Take, Fail}
use Rattle.rb_domino.specs.declared.state.State.{State}
use Rattle.rb_domino.specs.History.{Story}
use Rattle.rb_domino.specs.Recovery.{all_states, is_point_of, states_from, states_of}
use Rattle.rb_domino.specs.Board.{in_all}

-- how many elements the lists of n processes have, from process p on
abbrev lengths_from : (ℕ → List State) → ℕ → ℕ → ℕ
lengths_from lists p zero = 0
lengths_from lists p (suc n) = length (lists p) + lengths_from lists (p + 1) n

lengths_in_all : (lists : ℕ → List State) (p n : ℕ) → in_all (map lists (numbers_from p n)) ≡ lengths_from lists p n
lengths_in_all lists p zero = refl
lengths_in_all lists p (suc n) =
    omega (arith, sum_by-cons (length {A = State}) (lists p) (map lists (numbers_from (p + 1) n)), lengths_in_all lists (p + 1) n)

-- one state more for process q
abbrev with_one : ℕ → (ℕ → State) → (ℕ → List State) → ℕ → List State
with_one q state lists p = cond (q == p) (state p ∷ lists p) (lists p)

others_alike : (q p n : ℕ) (state : ℕ → State) (lists : ℕ → List State) → q < p
    → lengths_from (with_one q state lists) p n ≡ lengths_from lists p n
others_alike q p zero state lists lt = refl
others_alike q p (suc n) state lists lt =
    let here : length (with_one q state lists p) ≡ length (lists p) =
    ap (λ b. length (cond b (state p ∷ lists p) (lists p))) (apart (q == p) refl) in
    omega (arith, here, others_alike q (p + 1) n state lists (omega arith))
  where
    apart : (b : Bool) → (q == p) ≡ b → (q == p) ≡ false
    apart true e = absurd (let same : q ≡ p = eqb-true q p e in let never : ⊥ = omega arith in never)
    apart false e = e

one_at_most : (q p n : ℕ) (state : ℕ → State) (lists : ℕ → List State)
    → lengths_from (with_one q state lists) p n ≤ lengths_from lists p n + 1
one_at_most q p zero state lists = omega arith
one_at_most q p (suc n) state lists = by (q == p) refl (one_at_most q (p + 1) n state lists)
  where
    by : (b : Bool) → (q == p) ≡ b → lengths_from (with_one q state lists) (p + 1) n ≤ lengths_from lists (p + 1) n + 1
        → lengths_from (with_one q state lists) p (suc n) ≤ lengths_from lists p (suc n) + 1
    by true e later =
        let same : q ≡ p = eqb-true q p e in
        let here : length (with_one q state lists p) ≡ length (state p ∷ lists p) =
        ap (λ b. length (cond b (state p ∷ lists p) (lists p))) e in
        omega (arith, here, others_alike q (p + 1) n state lists (omega arith))
    by false e later =
        let here : length (with_one q state lists p) ≡ length (lists p) = ap (λ b. length (cond b (state p ∷ lists p) (lists p))) e in
        omega (arith, here, later)

-- the recovery points after a line
abbrev with_line : ℕ → Line → (ℕ → List State) → ℕ → List State
with_line at line points p = cond (is_point_of p line) (record { number = length (points p); place = at } ∷ points p) (points p)

line_adds_one : (line : Line) (at p n : ℕ) (points : ℕ → List State)
    → lengths_from (with_line at line points) p n ≤ lengths_from points p n + 1
line_adds_one (Begin q) at p n points = one_at_most q p n (λ k. record { number = length (points k); place = at }) points
line_adds_one (Point q) at p n points = one_at_most q p n (λ k. record { number = length (points k); place = at }) points
line_adds_one (Send m) at p n points = omega arith
line_adds_one (Take m) at p n points = omega arith
line_adds_one (Fail q) at p n points = omega arith

lines_add : (lines : List Line) (at p n : ℕ) (points : ℕ → List State)
    → lengths_from (λ k. states_from k at (points k) lines) p n ≤ lengths_from points p n + length lines + n
lines_add [] at p zero points = omega arith
lines_add [] at p (suc n) points = omega (arith, lines_add [] at (p + 1) n points)
lines_add (line ∷ lines) at p n points =
    omega (arith, lines_add lines (at + 1) p n (with_line at line points), line_adds_one line at p n points)

none_yet : (p n : ℕ) → lengths_from (λ k. []) p n ≡ 0
none_yet p zero = refl
none_yet p (suc n) = omega (arith, none_yet (p + 1) n)

pub few_states : (story : Story) → in_all (all_states story) ≤ length story.lines + length story.processes
few_states story =
    omega (
      arith,
      lengths_in_all (states_of story) 0 (length story.processes),
      lines_add story.lines 0 0 (length story.processes) (λ k. []),
      none_yet 0 (length story.processes),
    )
