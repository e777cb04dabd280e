-- The states of a process.
use Rattle.std.proofs.Common.{◌≡◌, ℕ, zero, suc, ◌+◌, ◌<◌, Bool, true, false, cond, inl, inr, List, [], ◌∷◌, length, map, slice_get, Some, refl, ap, ◌∙◌, sym, subst, arith}
use Rattle.std.specs.List.{AllByRecursion}
use Rattle.std.proofs.lemmas.List.{length-map}
use Rattle.rb_sched.specs.Schedule.{numbers_from}
use Rattle.rb_domino.specs.declared.line.Line.{Line}
use Rattle.rb_domino.specs.declared.analysis.TheConstants.{NOW}
use Rattle.rb_domino.specs.declared.state.State.{State}
use Rattle.rb_domino.specs.History.{Story}
use Rattle.rb_domino.specs.Recovery.{IsOneOf, all_states, is_point_of, left_to, states_from, states_of}
use Rattle.rb_domino.specs.RecoveryLine.{now_of}
use Rattle.rb_domino.proofs.Orderly.{all_weaker}
use Rattle.rb_domino.proofs.theorem.Descending.{Descend}

-- they descend
descends_from : (p at : ℕ) (points : List State) (lines : List Line) → AllByRecursion (λ s. s.place < at) points → Descend points
    → Descend (states_from p at points lines)
descends_from p at points [] all down = (all, down)
descends_from p at points (line ∷ lines) all down = by (is_point_of p line) (λ more. descends_from p (at + 1) more lines)
  where
    later : AllByRecursion (λ s. s.place < at + 1) points
    later = all_weaker (λ s. s.place < at) (λ s. s.place < at + 1) points (λ s h. omega arith) all

    by : (b : Bool)
        → ((more : List State) → AllByRecursion (λ s. s.place < at + 1) more → Descend more → Descend (states_from p (at + 1) more lines))
        → Descend (states_from p (at + 1) (cond b (record { number = length points; place = at } ∷ points) points) lines)
    by true rest = rest (record { number = length points; place = at } ∷ points) (omega arith, later) (all, down)
    by false rest = rest points later down

pub states_descend : (story : Story) (p : ℕ) → Descend (states_of story p)
states_descend story p = descends_from p 0 [] story.lines tt tt

-- the points of earlier lines are among them
keeps_points : (s : State) (p at : ℕ) (points : List State) (lines : List Line) → IsOneOf s points → IsOneOf s (states_from p at points lines)
keeps_points s p at points [] one = inr one
keeps_points s p at points (line ∷ lines) one = by (is_point_of p line) (λ more. keeps_points s p (at + 1) more lines)
  where
    by : (b : Bool) → ((more : List State) → IsOneOf s more → IsOneOf s (states_from p (at + 1) more lines))
        → IsOneOf s (states_from p (at + 1) (cond b (record { number = length points; place = at } ∷ points) points) lines)
    by true rest = rest (record { number = length points; place = at } ∷ points) (inr one)
    by false rest = rest points one

-- a state at a place
abbrev pub HasStateAt : List State → ℕ → Type 0
HasStateAt states place = (s : State) × IsOneOf s states × (s.place ≡ place)

point_from : (p at : ℕ) (points : List State) (lines : List Line) (j : ℕ) (line : Line) → slice_get lines j ≡ Some line
    → is_point_of p line ≡ true → HasStateAt (states_from p at points lines) (at + j)
point_from p at points [] j line is test = absurd (cc)
point_from p at points (l ∷ lines) zero line is test =
    let same : l ≡ line = cc in
    let here : is_point_of p l ≡ true = ap (is_point_of p) same ∙ test in
    let s : State = record { number = length points; place = at } in (
      s,
      subst (λ b. IsOneOf s (states_from p (at + 1) (cond b (s ∷ points) points) lines)) (sym here)
          (keeps_points s p (at + 1) (s ∷ points) lines (inl refl)),
      omega arith,
    )
point_from p at points (l ∷ lines) (suc j) line is test =
    let more = cond (is_point_of p l) (record { number = length points; place = at } ∷ points) points in
    let on : at + 1 + j ≡ at + suc j = omega arith in
    subst (HasStateAt (states_from p (at + 1) more lines)) on (point_from p (at + 1) more lines j line is test)

-- at each of its points a process has a state
pub point_is : (story : Story) (p j : ℕ) (line : Line) → slice_get story.lines j ≡ Some line → is_point_of p line ≡ true
    → HasStateAt (states_of story p) j
point_is story p j line is test =
    let on : 0 + j ≡ j = omega arith in
    subst (HasStateAt (states_of story p)) on (point_from p 0 [] story.lines j line is test)

-- `now` is put on at the end
now_from : (p at : ℕ) (points : List State) (lines : List Line)
    → (rest : List State) × (states_from p at points lines ≡ record { number = NOW; place = at + length lines } ∷ rest)
now_from p at points [] =
    let on : at ≡ at + 0 = omega arith in
    (points, ap (λ (k : ℕ). record { number = NOW; place = k } ∷ points) on)
now_from p at points (line ∷ lines) =
    let more = cond (is_point_of p line) (record { number = length points; place = at } ∷ points) points in
    let all = now_from p (at + 1) more lines in
    let on : at + 1 + length lines ≡ at + length (line ∷ lines) = omega arith in
    (all.0, all.1 ∙ ap (λ (k : ℕ). record { number = NOW; place = k } ∷ all.0) on)

-- the latest is `now`
pub now_first : (story : Story) (p : ℕ) → (rest : List State) × (states_of story p ≡ now_of story ∷ rest)
now_first story p =
    let all = now_from p 0 [] story.lines in
    let on : 0 + length story.lines ≡ length story.lines = omega arith in
    (all.0, all.1 ∙ ap (λ (k : ℕ). record { number = NOW; place = k } ∷ all.0) on)

-- what each has at first
list_of : (f : ℕ → List State) (k n p : ℕ) → p < n → left_to (map f (numbers_from k n)) p ≡ f (k + p)
list_of f k zero p below = absurd (let never : ⊥ = omega arith in never)
list_of f k (suc n) zero below = let on : k ≡ k + 0 = omega arith in ap f on
list_of f k (suc n) (suc p) below =
    let on : k + 1 + p ≡ k + suc p = omega arith in list_of f (k + 1) n p (omega arith) ∙ ap f on

pub first_left : (story : Story) (p : ℕ) → p < length story.processes → left_to (all_states story) p ≡ states_of story p
first_left story p below =
    let on : 0 + p ≡ p = omega arith in list_of (states_of story) 0 (length story.processes) p below ∙ ap (states_of story) on

count_numbers : (k n : ℕ) → length (numbers_from k n) ≡ n
count_numbers k zero = refl
count_numbers k (suc n) = ap suc (count_numbers (k + 1) n)

pub first_counted : (story : Story) → length (all_states story) ≡ length story.processes
first_counted story = length-map (numbers_from 0 (length story.processes)) (states_of story) ∙ count_numbers 0 (length story.processes)
