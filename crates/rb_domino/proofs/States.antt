-- The states of all processes, line by line.
use Rattle.std.proofs.Common.{◌≡◌, ◌≢◌, ℕ, zero, suc, ◌+◌, ◌-◌, ◌≤◌, ◌<◌, Bool, true, false, ◌==◌, cond, ◌⊎◌, inl, inr, List, [], ◌∷◌, length, map, replicate, get_or, take, drop, slice_set, refl, ap, ◌∙◌, sym, subst, arith, length-set, eq-eqb}
use Rattle.std.specs.List.{AllByRecursion}
use Rattle.std.proofs.lemmas.Bool.{cases_eq, eqb-true}
use Rattle.std.proofs.lemmas.List.{length-replicate}
use Rattle.std.proofs.Math.Seq.{take-length}
use Rattle.rb_base.specs.declared.limits.TheConstants.{MOST_BYTES}
use Rattle.rb_sched.specs.Schedule.{numbers_from}
use Rattle.rb_domino.specs.declared.line.Line.{Line}
use Rattle.rb_domino.specs.declared.line.Line.TheVariants.{Begin, Point, Send, Take, Fail}
use Rattle.rb_domino.specs.declared.analysis.TheConstants.{NOW}
use Rattle.rb_domino.specs.declared.state.State.{State}
use Rattle.rb_domino.specs.History.{Story}
use Rattle.rb_domino.specs.Recovery.{all_states, is_point_of, states_from, states_of}
use Rattle.rb_domino.specs.Board.{NamesKnown, PointsKnown, Topped, list_at, noted, with_point}
use Rattle.rb_domino.proofs.Falling.{list_same, list_other}

-- the states that the lines up to a place give
pub record Stacking (story : Story) (at : ℕ) (rest : List Line) (lists : List (List State)) : Type 0 where
  pub counted : length lists ≡ length story.processes
  pub each : (p : ℕ) → p < length story.processes → states_from p at (list_at lists p) rest ≡ states_of story p
  pub short : (p : ℕ) → length (list_at lists p) ≤ at
  pub known : AllByRecursion (NamesKnown (length story.processes) (length story.messages)) rest
  pub few : at + length rest ≤ MOST_BYTES

pub none_at : {X : Type 0} (n p : ℕ) → list_at {X = X} (replicate n []) p ≡ []
none_at zero zero = refl
none_at zero (suc p) = refl
none_at (suc n) zero = refl
none_at (suc n) (suc p) = none_at n p

-- before the first line
pub stacking_none : (story : Story) (lists : List (List State)) → lists ≡ replicate (length story.processes) []
    → AllByRecursion (NamesKnown (length story.processes) (length story.messages)) story.lines → length story.lines ≤ MOST_BYTES
    → Stacking story 0 story.lines lists
stacking_none story lists none known few = subst (Stacking story 0 story.lines) (sym none) (record {
  counted = length-replicate (length story.processes) [];
  each = λ p below. ap (λ points. states_from p 0 points story.lines) (none_at (length story.processes) p);
  short = λ p. omega (arith, ap (length {A = State}) (none_at {X = State} (length story.processes) p));
  known = known;
  few = omega arith;
})

-- what is known of a line's process
pub points_known : (p m : ℕ) (line : Line) → NamesKnown p m line → PointsKnown p line
points_known p m (Begin k) h = h
points_known p m (Point k) h = h
points_known p m (Send k) h = tt
points_known p m (Take k) h = tt
points_known p m (Fail k) h = tt

-- a point more on one of the lists
pointed_at : (at q : ℕ) (lists : List (List State)) (p : ℕ) → q < length lists
    → list_at (with_point at q lists) p ≡ cond (q == p) (record { number = length (list_at lists p); place = at } ∷ list_at lists p) (list_at lists p)
pointed_at at q lists p within = by (cases_eq p q)
  where
    by : (p ≡ q) ⊎ (p ≢ q) → list_at (with_point at q lists) p
        ≡ cond (q == p) (record { number = length (list_at lists p); place = at } ∷ list_at lists p) (list_at lists p)
    by (inl same) =
        ap (list_at (with_point at q lists)) same
        ∙ list_same lists q (record { number = length (list_at lists q); place = at } ∷ list_at lists q) within
        ∙ ap (λ n. record { number = length (list_at lists n); place = at } ∷ list_at lists n) (sym same)
        ∙ sym (ap (λ b. cond b (record { number = length (list_at lists p); place = at } ∷ list_at lists p) (list_at lists p))
        (eq-eqb q p (sym same)))
    by (inr apart) =
        list_other lists q p (record { number = length (list_at lists q); place = at } ∷ list_at lists q) apart
        ∙ sym (other (q == p) refl)
      where
        other : (b : Bool) → (q == p) ≡ b
            → cond b (record { number = length (list_at lists p); place = at } ∷ list_at lists p) (list_at lists p) ≡ list_at lists p
        other true e = absurd (apart (sym (eqb-true q p e)))
        other false e = refl

noted_at : (at : ℕ) (line : Line) (lists : List (List State)) (p : ℕ) → PointsKnown (length lists) line
    → list_at (noted at line lists) p ≡ cond (is_point_of p line) (record { number = length (list_at lists p); place = at } ∷ list_at lists p)
    (list_at lists p)
noted_at at (Begin q) lists p known = pointed_at at q lists p known
noted_at at (Point q) lists p known = pointed_at at q lists p known
noted_at at (Send m) lists p known = refl
noted_at at (Take m) lists p known = refl
noted_at at (Fail q) lists p known = refl

noted_counted : (at : ℕ) (line : Line) (lists : List (List State)) → length (noted at line lists) ≡ length lists
noted_counted at (Begin q) lists = length-set lists q (record { number = length (list_at lists q); place = at } ∷ list_at lists q)
noted_counted at (Point q) lists = length-set lists q (record { number = length (list_at lists q); place = at } ∷ list_at lists q)
noted_counted at (Send m) lists = refl
noted_counted at (Take m) lists = refl
noted_counted at (Fail q) lists = refl

-- a line more
pub stacking_more : (story : Story) (at : ℕ) (line : Line) (rest : List Line) (lists new : List (List State))
    → Stacking story at (line ∷ rest) lists → new ≡ noted at line lists → Stacking story (at + 1) rest new
stacking_more story at line rest lists new so_far is =
    let known : PointsKnown (length lists) line =
    subst (λ n. PointsKnown n line) (sym so_far.counted) (points_known (length story.processes) (length story.messages) line so_far.known.0) in
    subst (Stacking story (at + 1) rest) (sym is) (record {
      counted = noted_counted at line lists ∙ so_far.counted;
      each = λ p below. ap (λ points. states_from p (at + 1) points rest) (noted_at at line lists p known) ∙ so_far.each p below;
      short = λ p. shorter p (is_point_of p line) (noted_at at line lists p known);
      known = so_far.known.1;
      few = omega (arith, so_far.few);
    })
  where
    shorter : (p : ℕ) (b : Bool)
        → list_at (noted at line lists) p ≡ cond b (record { number = length (list_at lists p); place = at } ∷ list_at lists p) (list_at lists p)
        → length (list_at (noted at line lists) p) ≤ at + 1
    shorter p true e = let was = so_far.short p in omega (arith, ap (length {A = State}) e)
    shorter p false e = let was = so_far.short p in omega (arith, ap (length {A = State}) e)

-- lists with so many elements are what they are at each place
lists_are : (f : ℕ → List State) (k : ℕ) (lists : List (List State)) → ((p : ℕ) → p < length lists → list_at lists p ≡ f (k + p))
    → lists ≡ map f (numbers_from k (length lists))
lists_are f k [] each = refl
lists_are f k (list ∷ lists) each =
    let on : k + 0 ≡ k = omega arith in
    let head : list ≡ f k = each 0 (omega arith) ∙ ap f on in
    let tail : lists ≡ map f (numbers_from (k + 1) (length lists)) = lists_are f (k + 1) lists
    (λ p below. let next : k + suc p ≡ k + 1 + p = omega arith in each (suc p) (omega arith) ∙ ap f next) in
    λ i. head i ∷ tail i

-- at the end `now` lies on each
pub topped : (story : Story) (at n : ℕ) (rest : List Line) (lists new : List (List State)) → Stacking story at rest lists → rest ≡ []
    → n ≡ length lists → Topped at n lists new → new ≡ all_states story
topped story at n rest lists new so_far none all top =
    let counted : length new ≡ length story.processes = top.counted ∙ so_far.counted in
    lists_are (states_of story) 0 new (λ p below. let low : p < length story.processes = omega arith in
    let on : 0 + p ≡ p = omega arith in
    top.done p (omega arith)
    ∙ ap (λ ls. states_from p at (list_at lists p) ls) (sym none)
    ∙ so_far.each p low ∙ ap (states_of story) (sym on))
    ∙ ap (λ m. map (states_of story) (numbers_from 0 m)) counted

-- `now` lies on one more
pub topped_more : (end p : ℕ) (old lists new : List (List State)) → p < length lists
    → new ≡ slice_set lists p (record { number = NOW; place = end } ∷ list_at lists p)
    → Topped end p old lists → Topped end (p + 1) old new
topped_more end p old lists new within is top = subst (Topped end (p + 1) old) (sym is) (record {
  counted = length-set lists p (record { number = NOW; place = end } ∷ list_at lists p) ∙ top.counted;
  done = λ q below. done q below (cases_eq q p);
  left = λ q above. let apart : q ≢ p = omega arith in
      list_other lists p q (record { number = NOW; place = end } ∷ list_at lists p) apart ∙ top.left q (omega arith);
})
  where
    done : (q : ℕ) → q < p + 1 → (q ≡ p) ⊎ (q ≢ p)
        → list_at (slice_set lists p (record { number = NOW; place = end } ∷ list_at lists p)) q
        ≡ record { number = NOW; place = end } ∷ list_at old q
    done q below (inl same) =
        ap (list_at (slice_set lists p (record { number = NOW; place = end } ∷ list_at lists p))) same
        ∙ list_same lists p (record { number = NOW; place = end } ∷ list_at lists p) within
        ∙ ap (λ (own : List State). record { number = NOW; place = end } ∷ own) (top.left p (omega arith) ∙ ap (list_at old) (sym same))
    done q below (inr apart) =
        list_other lists p q (record { number = NOW; place = end } ∷ list_at lists p) apart ∙ top.done q (omega arith)

-- the first line of what is left, and the others
pub stacking_step : (story : Story) (at n : ℕ) (rest : List Line) (lists new : List (List State)) → n ≡ length rest → 0 < length rest
    → Stacking story at rest lists → new ≡ noted at (get_or rest 0 (Begin 0)) lists → Stacking story (at + 1) (take (n - 1) (drop 1 rest)) new
stacking_step story at n [] lists new all some so_far is = absurd (let never : ⊥ = omega arith in never)
stacking_step story at n (line ∷ rest) lists new all some so_far is =
    let fewer : n - 1 ≡ length rest = omega arith in
    let whole : take (n - 1) rest ≡ rest = ap (λ k. take k rest) fewer ∙ take-length rest in
    subst (λ (ls : List Line). Stacking story (at + 1) ls new) (sym whole) (stacking_more story at line rest lists new so_far is)

pub first_known : (story : Story) (at : ℕ) (rest : List Line) (lists : List (List State)) → 0 < length rest → Stacking story at rest lists
    → PointsKnown (length story.processes) (get_or rest 0 (Begin 0))
first_known story at [] lists some so_far = absurd (let never : ⊥ = omega arith in never)
first_known story at (line ∷ rest) lists some so_far = points_known (length story.processes) (length story.messages) line so_far.known.0
