-- What is left of a turn falls as it goes ahead, as a loop begins, as it goes back, and as it ends.
use Rattle.std.proofs.Common.{◌≡◌, inl, inr, ℕ, suc, ◌+◌, ◌<◌, ◌≤◌, ◌&&◌, nat_le, Bool, true, false, cond, List, [], ◌∷◌, ◌++◌, length, filter, slice_set, Option, Some, None, refl, ap, sym, ◌∙◌, subst, arith, le-leb, leb-true}
use Rattle.std.proofs.lemmas.Bool.{and_parts}
use Rattle.std.proofs.lemmas.List.{get_or-set_same, get_or-set_other}
use Rattle.std.proofs.lemmas.Option.{unwrap_or-slice_get}
use Rattle.rb_base.specs.declared.limits.TheConstants.{MOST_QUANTIFIED}
use Rattle.rb_code.specs.WordMachine.Workspace.{Counting, Workspace}
use Rattle.rb_code.specs.WordMachine.Act.{counter_at, counting}
use Rattle.rb_code.specs.SoundCode.Sound.{IsOpen, IsSet, Loop, is_in}
use Rattle.rb_code.specs.SoundCode.Stands.{BeganBefore, Counts, LoopsFit}
use Rattle.rb_code.proofs.Looping.FallingNumbers.{left, goes_ahead, goes_again, leaves, opens}
use Rattle.rb_code.proofs.Looping.OpenLoops.{few_open, fit_less, left_unset, not_three, open_loops, own_counter, set_less, some_times, times_left}

-- a counter that is set or goes, and the others stay
pub counter_same : (k : ℕ) (v : Option Counting) (m : Workspace) → k < length m.counters → counter_at k (counting k v m) ≡ v
counter_same k v m lt =
    unwrap_or-slice_get (slice_set m.counters k v) k None ∙ get_or-set_same m.counters k v None lt

pub counter_other : (j k : ℕ) (v : Option Counting) (m : Workspace) → (j ≡ k → ⊥) → counter_at j (counting k v m) ≡ counter_at j m
counter_other j k v m other =
    unwrap_or-slice_get (slice_set m.counters k v) j None
    ∙ (get_or-set_other m.counters k j v None other ∙ sym (unwrap_or-slice_get m.counters j None))

-- loops over other counters stay as they are
pub loops_other : (k : ℕ) (v : Option Counting) (m : Workspace) (loops : List Loop) → (IsSet k loops → ⊥)
    → open_loops (counting k v m) loops ≡ open_loops m loops
loops_other k v m [] unset = refl
loops_other k v m (x ∷ loops) unset =
    ap (λ others. others ++ (x.first, times_left (counter_at x.counter (counting k v m))) ∷ [])
    (loops_other k v m loops (λ s. unset (inr s)))
    ∙ ap (λ o. open_loops m loops ++ (x.first, times_left o) ∷ []) (counter_other x.counter k v m (λ e. unset (inl e)))

pub fit_other : (k : ℕ) (v : Option Counting) (m : Workspace) (loops : List Loop) → (IsSet k loops → ⊥) → LoopsFit m loops
    → LoopsFit (counting k v m) loops
fit_other k v m [] unset h = tt
fit_other k v m (x ∷ loops) unset (low, count, own, after, rest) = (
  low,
  subst Counts (sym (counter_other x.counter k v m (λ e. unset (inl e)))) count,
  own,
  after,
  fit_other k v m loops (λ s. unset (inr s)) rest,
)

module _ (n : ℕ) (m : Workspace) where
  -- what is left, at these loops and this address
  abbrev pub left_at : List Loop → ℕ → ℕ
  left_at loops a = left n MOST_QUANTIFIED 2 (open_loops m loops) a

  -- ahead, maybe out of loops
  pub ahead : (loops : List Loop) (a b : ℕ) → LoopsFit m loops → BeganBefore (a + 1) loops → a < b → a < n
      → left_at (filter (is_in b) loops) b < left_at loops a
  ahead [] a b fit began lt in_code = goes_ahead n MOST_QUANTIFIED some_times 2 [] a b tt lt in_code
  ahead (x ∷ []) a b fit began lt in_code = by (is_in b x)
    where
      by : (p : Bool) → left_at (cond p (x ∷ []) []) b < left_at (x ∷ []) a
      by true = goes_ahead n MOST_QUANTIFIED some_times 2 (open_loops m (x ∷ [])) a b (few_open n m (x ∷ []) fit) lt in_code
      by false =
          let here = began.0 in
          leaves n MOST_QUANTIFIED some_times 2 [] [] (x.first, times_left (counter_at x.counter m)) [] a b
          (few_open n m (x ∷ []) fit) tt (omega arith) (omega arith)
  ahead (x ∷ y ∷ []) a b fit began lt in_code = by (is_in b x) (is_in b y)
    where
      at_x : ℕ × ℕ
      at_x = (x.first, times_left (counter_at x.counter m))

      at_y : ℕ × ℕ
      at_y = (y.first, times_left (counter_at y.counter m))

      by : (p q : Bool) → left_at (cond p (x ∷ cond q (y ∷ []) []) (cond q (y ∷ []) [])) b < left_at (x ∷ y ∷ []) a
      by true true =
          goes_ahead n MOST_QUANTIFIED some_times 2 (open_loops m (x ∷ y ∷ [])) a b (few_open n m (x ∷ y ∷ []) fit) lt in_code
      by true false =
          let few = few_open n m (x ∷ y ∷ []) fit in
          let here = began.1.0 in
          leaves n MOST_QUANTIFIED some_times 2 [] (at_x ∷ []) at_y (at_x ∷ []) a b few (few.1.0, tt) fit.3.0 (omega arith)
      by false true =
          let few = few_open n m (x ∷ y ∷ []) fit in
          let here = began.0 in
          leaves n MOST_QUANTIFIED some_times 2 (at_y ∷ []) [] at_x [] a b few (few.0, tt) (omega arith) (omega arith)
      by false false =
          let few = few_open n m (x ∷ y ∷ []) fit in
          let here = began.1.0 in
          leaves n MOST_QUANTIFIED some_times 2 [] [] at_y (at_x ∷ []) a b few tt (omega arith) (omega arith)
  ahead (x ∷ y ∷ z ∷ more) a b fit began lt in_code = absurd (not_three m x y z more fit)

-- an address is in a loop that it lies between the ends of, and not in one that ends before it
pub in_loop : (a : ℕ) (loop : Loop) → loop.first ≤ a → a ≤ loop.last → is_in a loop ≡ true
in_loop a loop low high = ap (λ p. p && nat_le a loop.last) (le-leb loop.first a low) ∙ le-leb a loop.last high

pub behind_loop : (a : ℕ) (loop : Loop) → loop.last < a → is_in a loop ≡ false
behind_loop a loop high = by (is_in a loop) refl
  where
    by : (p : Bool) → is_in a loop ≡ p → is_in a loop ≡ false
    by true e = absurd (let h = leb-true a loop.last (and_parts (nat_le loop.first a) (nat_le a loop.last) e).1 in omega arith)
    by false e = e

pub before_loop : (a : ℕ) (loop : Loop) → a < loop.first → is_in a loop ≡ false
before_loop a loop low = by (is_in a loop) refl
  where
    by : (p : Bool) → is_in a loop ≡ p → is_in a loop ≡ false
    by true e = absurd (let h = leb-true loop.first a (and_parts (nat_le loop.first a) (nat_le a loop.last) e).0 in omega arith)
    by false e = e

-- the filter of a list whose first element passes, and of one whose first does not
pub keeps_first : (test : Loop → Bool) (loop : Loop) (around : List Loop) → test loop ≡ true
    → filter test (loop ∷ around) ≡ loop ∷ filter test around
keeps_first test loop around e = ap (λ p. cond p (loop ∷ filter test around) (filter test around)) e

pub drops_first : (test : Loop → Bool) (loop : Loop) (around : List Loop) → test loop ≡ false
    → filter test (loop ∷ around) ≡ filter test around
drops_first test loop around e = ap (λ p. cond p (loop ∷ filter test around) (filter test around)) e

-- the innermost loop, once its counter was set
module _ (n : ℕ) (m : Workspace) (k : ℕ) (v : Counting) (two : length m.counters ≡ 2) (low : k < 2) where
  abbrev pub set : Workspace
  set = counting k (Some v) m

  set_is : counter_at k set ≡ Some v
  set_is = counter_same k (Some v) m (omega arith)

  pub innermost_fits : (loop : Loop) (around : List Loop) → loop.counter ≡ k → Counts (Some v) → (IsSet k around → ⊥)
      → BeganBefore loop.first around → LoopsFit m around → LoopsFit set (loop ∷ around)
  innermost_fits loop around e count unset after fit = (
    subst (λ j. j < 2) (sym e) low,
    subst (λ j. Counts (counter_at j set)) (sym e) (subst Counts (sym set_is) count),
    (λ s. unset (subst (λ j. IsSet j around) e s)),
    after,
    fit_other k (Some v) m around unset fit,
  )

  innermost_is : (loop : Loop) (around : List Loop) → loop.counter ≡ k → (IsSet k around → ⊥)
      → open_loops set (loop ∷ around) ≡ open_loops m around ++ (loop.first, times_left (Some v)) ∷ []
  innermost_is loop around e unset =
      ap (λ others. others ++ (loop.first, times_left (counter_at loop.counter set)) ∷ []) (loops_other k (Some v) m around unset)
      ∙ ap (λ o. open_loops m around ++ (loop.first, times_left o) ∷ []) (ap (λ j. counter_at j set) e ∙ set_is)

  -- a loop begins at the next address
  begins_at : (loop : Loop) (loops : List Loop) (a : ℕ) → loop.counter ≡ k → loop.first ≡ a + 1 → a < loop.last → Counts (Some v)
      → (IsSet k loops → ⊥) → LoopsFit m loops → BeganBefore (a + 1) loops → a < n
      → left n MOST_QUANTIFIED 2 (open_loops m (filter (is_in (a + 1)) loops) ++ (a + 1, times_left (Some v)) ∷ []) (a + 1)
      < left_at n m loops a
  begins_at loop [] a e first last count unset fit began in_code =
      opens n MOST_QUANTIFIED some_times 2 [] a (a + 1) (times_left (Some v)) tt (count, tt) (omega arith) in_code
  begins_at loop (y ∷ []) a e first last count unset fit began in_code = by (is_in (a + 1) y)
    where
      at_y : ℕ × ℕ
      at_y = (y.first, times_left (counter_at y.counter m))

      by : (p : Bool)
          → left n MOST_QUANTIFIED 2 (open_loops m (cond p (y ∷ []) []) ++ (a + 1, times_left (Some v)) ∷ []) (a + 1)
          < left_at n m (y ∷ []) a
      by true =
          let few = few_open n m (y ∷ []) fit in
          opens n MOST_QUANTIFIED some_times 2 (at_y ∷ []) a (a + 1) (times_left (Some v)) few (few.0, (count, tt)) (omega arith) in_code
      by false =
          let here = began.0 in
          leaves n MOST_QUANTIFIED some_times 2 [] ((a + 1, times_left (Some v)) ∷ []) at_y [] a (a + 1) (few_open n m (y ∷ []) fit)
          (count, tt) (omega arith) (omega arith)
  begins_at loop (y ∷ z ∷ more) a e first last count unset fit began in_code =
      absurd (not_three set loop y z more
      (innermost_fits loop (y ∷ z ∷ more) e count unset (subst (λ f. BeganBefore f (y ∷ z ∷ more)) (sym first) began) fit))

  pub begins : (loop : Loop) (loops : List Loop) (a : ℕ) → loop.counter ≡ k → loop.first ≡ a + 1 → a < loop.last → Counts (Some v)
      → (IsSet k loops → ⊥) → LoopsFit m loops → BeganBefore (a + 1) loops → a < n
      → left_at n set (filter (is_in (a + 1)) (loop ∷ loops)) (a + 1) < left_at n m loops a
  begins loop loops a e first last count unset fit began in_code =
      let inside = in_loop (a + 1) loop (omega arith) (omega arith) in
      let others = filter (is_in (a + 1)) loops in
      let is : open_loops set (filter (is_in (a + 1)) (loop ∷ loops)) ≡ open_loops m others ++ (a + 1, times_left (Some v)) ∷ [] =
      ap (open_loops set) (keeps_first (is_in (a + 1)) loop loops inside)
      ∙ (innermost_is loop others e (λ s. unset (set_less (is_in (a + 1)) k loops s))
      ∙ ap (λ f. open_loops m others ++ (f, times_left (Some v)) ∷ []) first) in
      subst (λ l. left n MOST_QUANTIFIED 2 l (a + 1) < left_at n m loops a) (sym is)
      (begins_at loop loops a e first last count unset fit began in_code)

  -- a loop goes back to its first address, once less
  again_at : (loop : Loop) (around : List Loop) (a : ℕ) → LoopsFit m (loop ∷ around) → loop.first < n
      → times_left (counter_at loop.counter m) ≡ suc (times_left (Some v))
      → left n MOST_QUANTIFIED 2 (open_loops m (filter (is_in loop.first) around) ++ (loop.first, times_left (Some v)) ∷ []) loop.first
      < left_at n m (loop ∷ around) a
  again_at loop [] a fit in_code less =
      let few = few_open n m (loop ∷ []) fit in
      subst (λ x. left n MOST_QUANTIFIED 2 ((loop.first, times_left (Some v)) ∷ []) loop.first < left n MOST_QUANTIFIED 2 ((loop.first, x) ∷ []) a)
      (sym less)
      (goes_again n MOST_QUANTIFIED some_times 2 [] loop.first a (times_left (Some v)) [] (subst (λ x. x < MOST_QUANTIFIED) less few.0, tt))
  again_at loop (y ∷ []) a fit in_code less = by (is_in loop.first y)
    where
      at_y : ℕ × ℕ
      at_y = (y.first, times_left (counter_at y.counter m))

      by : (p : Bool)
          → left n MOST_QUANTIFIED 2 (open_loops m (cond p (y ∷ []) []) ++ (loop.first, times_left (Some v)) ∷ []) loop.first
          < left_at n m (loop ∷ y ∷ []) a
      by true =
          let few = few_open n m (loop ∷ y ∷ []) fit in
          subst (λ x. left n MOST_QUANTIFIED 2 (at_y ∷ (loop.first, times_left (Some v)) ∷ []) loop.first
          < left n MOST_QUANTIFIED 2 (at_y ∷ (loop.first, x) ∷ []) a) (sym less)
          (goes_again n MOST_QUANTIFIED some_times 2 (at_y ∷ []) loop.first a (times_left (Some v)) []
          (few.0, (subst (λ x. x < MOST_QUANTIFIED) less few.1.0, tt)))
      by false =
          let few = few_open n m (loop ∷ y ∷ []) fit in
          let after = fit.3.0 in
          let low_v : times_left (Some v) < MOST_QUANTIFIED = omega (arith, few.1.0) in
          leaves n MOST_QUANTIFIED some_times 2 [] ((loop.first, times_left (Some v)) ∷ []) at_y
          ((loop.first, times_left (counter_at loop.counter m)) ∷ []) a loop.first few (low_v, tt) after (omega arith)
  again_at loop (y ∷ z ∷ more) a fit in_code less = absurd (not_three m loop y z more fit)

  innermost_back : (loop : Loop) (around : List Loop) (a : ℕ) → loop.counter ≡ k → LoopsFit m (loop ∷ around) → loop.first ≤ loop.last
      → loop.first < n → times_left (counter_at loop.counter m) ≡ suc (times_left (Some v))
      → left_at n set (filter (is_in loop.first) (loop ∷ around)) loop.first < left_at n m (loop ∷ around) a
  innermost_back loop around a e fit high in_code less =
      let inside = in_loop loop.first loop (omega arith) high in
      let others = filter (is_in loop.first) around in
      let is : open_loops set (filter (is_in loop.first) (loop ∷ around)) ≡ open_loops m others ++ (loop.first, times_left (Some v)) ∷ [] =
      ap (open_loops set) (keeps_first (is_in loop.first) loop around inside)
      ∙ innermost_is loop others e (λ s. fit.2 (subst (λ j. IsSet j around) (sym e) (set_less (is_in loop.first) k around s))) in
      subst (λ l. left n MOST_QUANTIFIED 2 l loop.first < left_at n m (loop ∷ around) a) (sym is) (again_at loop around a fit in_code less)

  -- the outer one of two goes back before the first address of the inner one, which is left
  outer_back : (inner loop : Loop) (a : ℕ) → loop.counter ≡ k → LoopsFit m (inner ∷ loop ∷ []) → loop.first ≤ loop.last
      → times_left (counter_at loop.counter m) ≡ suc (times_left (Some v))
      → left_at n set (filter (is_in loop.first) (inner ∷ loop ∷ [])) loop.first < left_at n m (inner ∷ loop ∷ []) a
  outer_back inner loop a e fit high less =
      let few = few_open n m (inner ∷ loop ∷ []) fit in
      let at_inner : ℕ × ℕ = (inner.first, times_left (counter_at inner.counter m)) in
      let is : open_loops set (filter (is_in loop.first) (inner ∷ loop ∷ [])) ≡ (loop.first, times_left (Some v)) ∷ [] =
      ap (open_loops set) (drops_first (is_in loop.first) inner (loop ∷ []) (before_loop loop.first inner fit.3.0)
      ∙ keeps_first (is_in loop.first) loop [] (in_loop loop.first loop (omega arith) high))
      ∙ innermost_is loop [] e (λ s. s) in
      subst (λ l. left n MOST_QUANTIFIED 2 l loop.first < left_at n m (inner ∷ loop ∷ []) a) (sym is)
      (subst (λ x. left n MOST_QUANTIFIED 2 ((loop.first, times_left (Some v)) ∷ []) loop.first
      < left n MOST_QUANTIFIED 2 ((loop.first, x) ∷ at_inner ∷ []) a) (sym less)
      (goes_again n MOST_QUANTIFIED some_times 2 [] loop.first a (times_left (Some v)) (at_inner ∷ [])
      (subst (λ x. x < MOST_QUANTIFIED) less few.0, few.1)))

  -- an open loop goes back
  pub goes_back : (loop : Loop) (loops : List Loop) (a : ℕ) → loop.counter ≡ k → IsOpen loop loops → LoopsFit m loops
      → loop.first ≤ loop.last → loop.first < n → times_left (counter_at loop.counter m) ≡ suc (times_left (Some v))
      → left_at n set (filter (is_in loop.first) loops) loop.first < left_at n m loops a
  goes_back loop [] a e h fit high in_code less = absurd h
  goes_back loop (x ∷ around) a e (inl is) fit high in_code less =
      subst (λ l. left_at n set (filter (is_in loop.first) (l ∷ around)) loop.first < left_at n m (l ∷ around) a) (sym is)
      (innermost_back loop around a e (subst (λ l. LoopsFit m (l ∷ around)) is fit) high in_code less)
  goes_back loop (x ∷ []) a e (inr h) fit high in_code less = absurd h
  goes_back loop (x ∷ y ∷ []) a e (inr (inl is)) fit high in_code less =
      subst (λ l. left_at n set (filter (is_in loop.first) (x ∷ l ∷ [])) loop.first < left_at n m (x ∷ l ∷ []) a) (sym is)
      (outer_back x loop a e (subst (λ l. LoopsFit m (x ∷ l ∷ [])) is fit) high less)
  goes_back loop (x ∷ y ∷ []) a e (inr (inr h)) fit high in_code less = absurd h
  goes_back loop (x ∷ y ∷ z ∷ more) a e (inr h) fit high in_code less = absurd (not_three m x y z more fit)

  pub again_fits : (loop : Loop) (loops : List Loop) → loop.counter ≡ k → Counts (Some v) → IsOpen loop loops → LoopsFit m loops
      → LoopsFit set loops
  again_fits loop [] e count h fit = absurd h
  again_fits loop (x ∷ around) e count (inl is) fit =
      let own : x.counter ≡ k = ap (λ l. l.counter) is ∙ e in
      innermost_fits x around own count (λ s. fit.2 (subst (λ j. IsSet j around) (sym own) s)) fit.3 fit.4
  again_fits loop (x ∷ around) e count (inr h) fit = (
    fit.0,
    subst Counts (sym (counter_other x.counter k (Some v) m (λ same. own_counter m loop x around h fit (same ∙ sym e)))) fit.1,
    fit.2,
    fit.3,
    again_fits loop around e count h fit.4,
  )

-- an open loop ends at its last address, and its counter goes
module _ (m : Workspace) (k : ℕ) (loop : Loop) (loops : List Loop) (a : ℕ) (is : loop.counter ≡ k) (last : loop.last ≡ a)
    (is_open : IsOpen loop loops) (fit : LoopsFit m loops) where
  unset : IsSet k (filter (is_in (a + 1)) loops) → ⊥
  unset s =
      left_unset (is_in (a + 1)) m loop loops is_open fit (behind_loop (a + 1) loop (omega arith))
      (subst (λ j. IsSet j (filter (is_in (a + 1)) loops)) (sym is) s)

  pub ends : (n : ℕ) → BeganBefore (a + 1) loops → a < n
      → left_at n (counting k None m) (filter (is_in (a + 1)) loops) (a + 1) < left_at n m loops a
  ends n began in_code =
      subst (λ l. left n MOST_QUANTIFIED 2 l (a + 1) < left_at n m loops a)
      (sym (loops_other k None m (filter (is_in (a + 1)) loops) unset)) (ahead n m loops a (a + 1) fit began (omega arith) in_code)

  pub ended_fits : LoopsFit (counting k None m) (filter (is_in (a + 1)) loops)
  ended_fits = fit_other k None m (filter (is_in (a + 1)) loops) unset (fit_less (is_in (a + 1)) m loops fit)
