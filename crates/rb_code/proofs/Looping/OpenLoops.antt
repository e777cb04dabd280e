-- The open loops of an entry, with how often each still goes back: they fall at each step ahead and at each `again`.
use Rattle.std.proofs.Common.{◌≡◌, inl, inr, ℕ, zero, suc, ◌+◌, ◌<◌, ◌≤◌, ℤ, pos, negsuc, ◌+ℤ◌, ◌-ℤ◌, int_lt, nat_le, Bool, true, false, cond, List, [], ◌∷◌, ◌++◌, length, drop, filter, slice_get, Option, Some, None, unwrap_or, refl, ap, sym, ◌∙◌, subst, arith, leb-true, true≢false}
use Rattle.std.proofs.lemmas.Bool.{and_parts}
use Rattle.std.proofs.lemmas.Int.{ints}
use Rattle.rb_base.specs.declared.limits.TheConstants.{MOST_QUANTIFIED}
use Rattle.rb_meaning.specs.Environment.{natural}
use Rattle.rb_code.specs.WordMachine.Workspace.{Counting, Workspace}
use Rattle.rb_code.specs.WordMachine.Act.{counter_at}
use Rattle.rb_code.specs.SoundCode.Sound.{IsOpen, IsSet, Loop, is_in}
use Rattle.rb_code.specs.SoundCode.Stands.{BeganBefore, Counts, LoopsFit}
use Rattle.rb_code.proofs.Looping.FallingNumbers.{Few}

-- one number nearer to the end of a counter
pub nearer : (a b : ℤ) → int_lt a b ≡ true → natural (b -ℤ a) ≡ suc (natural (b -ℤ (a +ℤ pos 1)))
nearer a b less = by (b -ℤ a) (b -ℤ (a +ℤ pos 1)) refl refl
  where
    by : (x y : ℤ) → b -ℤ a ≡ x → b -ℤ (a +ℤ pos 1) ≡ y → natural x ≡ suc (natural y)
    by (pos n) (pos m) e f = omega (arith, ints)
    by (negsuc n) (pos m) e f = absurd (omega (arith, ints))
    by (pos n) (negsuc m) e f = absurd (omega (arith, ints))
    by (negsuc n) (negsuc m) e f = absurd (omega (arith, ints))

-- how often a counter still goes back
abbrev pub times_left : Option Counting → ℕ
times_left None = 0
times_left (Some counter) = natural (counter.end -ℤ counter.now)

-- each open loop with its first address and how often it still goes back, the outermost first
abbrev pub open_loops : Workspace → List Loop → List (ℕ × ℕ)
open_loops m [] = []
open_loops m (loop ∷ around) = open_loops m around ++ (loop.first, times_left (counter_at loop.counter m)) ∷ []

few_times : (counter : Option Counting) → Counts counter → times_left counter < MOST_QUANTIFIED
few_times None h = absurd h
few_times (Some counter) h = h

pub some_times : 0 < MOST_QUANTIFIED
some_times = omega arith

-- of two counters one is 0 and the other 1
one_each : (j k : ℕ) → j < 2 → k < 2 → (k ≡ j → ⊥) → j + k ≡ 1
one_each zero zero a b h = absurd (h refl)
one_each zero (suc zero) a b h = refl
one_each zero (suc (suc k)) a b h = absurd (omega arith)
one_each (suc zero) zero a b h = refl
one_each (suc zero) (suc zero) a b h = absurd (h refl)
one_each (suc zero) (suc (suc k)) a b h = absurd (omega arith)
one_each (suc (suc j)) k a b h = absurd (omega arith)

-- no three loops are open
pub not_three : (m : Workspace) (x y z : Loop) (more : List Loop) → LoopsFit m (x ∷ y ∷ z ∷ more) → ⊥
not_three m x y z more (low_x, count_x, own_x, after_x, (low_y, count_y, own_y, after_y, inner)) =
    let a = one_each x.counter y.counter low_x low_y (λ e. own_x (inl e)) in
    let b = one_each x.counter z.counter low_x inner.0 (λ e. own_x (inr (inl e))) in
    let d = one_each y.counter z.counter low_y inner.0 (λ e. own_y (inl e)) in
    absurd (omega arith)

pub few_open : (n : ℕ) (m : Workspace) (loops : List Loop) → LoopsFit m loops → Few n MOST_QUANTIFIED 2 (open_loops m loops)
few_open n m [] h = tt
few_open n m (x ∷ []) h = (few_times (counter_at x.counter m) h.1, tt)
few_open n m (x ∷ y ∷ []) h = (few_times (counter_at y.counter m) h.4.1, (few_times (counter_at x.counter m) h.1, tt))
few_open n m (x ∷ y ∷ z ∷ more) h = absurd (not_three m x y z more h)

-- an open loop has set its counter, which counts
pub open_set : (loop : Loop) (loops : List Loop) → IsOpen loop loops → IsSet loop.counter loops
open_set loop [] h = absurd h
open_set loop (x ∷ around) (inl e) = inl (ap (λ l. l.counter) e)
open_set loop (x ∷ around) (inr h) = inr (open_set loop around h)

pub open_counts : (m : Workspace) (loop : Loop) (loops : List Loop) → IsOpen loop loops → LoopsFit m loops
    → (loop.counter < 2) × Counts (counter_at loop.counter m)
open_counts m loop [] h fit = absurd h
open_counts m loop (x ∷ around) (inl e) fit = subst (λ (l : Loop). (l.counter < 2) × Counts (counter_at l.counter m)) e (fit.0, fit.1)
open_counts m loop (x ∷ around) (inr h) fit = open_counts m loop around h fit.4

-- no other open loop has its counter
pub own_counter : (m : Workspace) (loop x : Loop) (around : List Loop) → IsOpen loop around → LoopsFit m (x ∷ around)
    → x.counter ≡ loop.counter → ⊥
own_counter m loop x around h fit e = fit.2 (subst (λ j. IsSet j around) (sym e) (open_set loop around h))

-- some of the loops are left
module _ (test : Loop → Bool) where
  pub set_less : (k : ℕ) (loops : List Loop) → IsSet k (filter test loops) → IsSet k loops
  set_less k [] h = h
  set_less k (x ∷ loops) h = by (set_less k loops) (test x) h
    where
      by : (IsSet k (filter test loops) → IsSet k loops) → (b : Bool) → IsSet k (cond b (x ∷ filter test loops) (filter test loops))
          → IsSet k (x ∷ loops)
      by others true (inl e) = inl e
      by others true (inr h) = inr (others h)
      by others false h = inr (others h)

  began_less : (a : ℕ) (loops : List Loop) → BeganBefore a loops → BeganBefore a (filter test loops)
  began_less a [] h = tt
  began_less a (x ∷ loops) h = by (began_less a loops h.1) (test x)
    where
      by : BeganBefore a (filter test loops) → (b : Bool) → BeganBefore a (cond b (x ∷ filter test loops) (filter test loops))
      by others true = (h.0, others)
      by others false = others

  pub fit_less : (m : Workspace) (loops : List Loop) → LoopsFit m loops → LoopsFit m (filter test loops)
  fit_less m [] h = tt
  fit_less m (x ∷ loops) (low, count, own, after, rest) = by (fit_less m loops rest) (test x)
    where
      by : LoopsFit m (filter test loops) → (b : Bool) → LoopsFit m (cond b (x ∷ filter test loops) (filter test loops))
      by others true = (low, count, (λ s. own (set_less x.counter loops s)), began_less x.first loops after, others)
      by others false = others

  -- where an open loop is left, its counter is not set
  pub left_unset : (m : Workspace) (loop : Loop) (loops : List Loop) → IsOpen loop loops → LoopsFit m loops → test loop ≡ false
      → IsSet loop.counter (filter test loops) → ⊥
  left_unset m loop [] h fit out s = h
  left_unset m loop (x ∷ around) (inl e) fit out s =
      by (set_less loop.counter around) (test x) (ap test e ∙ out) s
    where
      by : (IsSet loop.counter (filter test around) → IsSet loop.counter around) → (b : Bool) → b ≡ false
          → IsSet loop.counter (cond b (x ∷ filter test around) (filter test around)) → ⊥
      by less true q s = true≢false q
      by less false q s = fit.2 (subst (λ (l : Loop). IsSet l.counter around) (sym e) (less s))
  left_unset m loop (x ∷ around) (inr h) fit out s =
      by (left_unset m loop around h fit.4 out) (test x) s
    where
      by : (IsSet loop.counter (filter test around) → ⊥) → (b : Bool)
          → IsSet loop.counter (cond b (x ∷ filter test around) (filter test around)) → ⊥
      by others true (inl e) = own_counter m loop x around h fit e
      by others true (inr s) = others s
      by others false s = others s

  less_long : (loops : List Loop) → length (filter test loops) ≤ length loops
  less_long [] = omega arith
  less_long (x ∷ loops) = by (less_long loops) (test x)
    where
      by : length (filter test loops) ≤ length loops → (b : Bool)
          → length (cond b (x ∷ filter test loops) (filter test loops)) ≤ length (x ∷ loops)
      by others true = omega arith
      by others false = omega arith

  -- where none is left, each passes the test
  none_left : (x : Loop) (loops : List Loop) → filter test (x ∷ loops) ≡ x ∷ loops → (test x ≡ true) × (filter test loops ≡ loops)
  none_left x loops e = by (test x) refl e
    where
      by : (b : Bool) → test x ≡ b → cond b (x ∷ filter test loops) (filter test loops) ≡ x ∷ loops → (test x ≡ true) × (filter test loops ≡ loops)
      by true q e = (q, ap (drop 1) e)
      by false q e = absurd (let i = less_long loops in let j = ap length e in omega arith)

-- the loops that lie around an address began there or before
pub began_here : (a : ℕ) (loops : List Loop) → filter (is_in a) loops ≡ loops → BeganBefore (a + 1) loops
began_here a [] e = tt
began_here a (x ∷ loops) e =
    let h = none_left (is_in a) x loops e in
    (let p = leb-true x.first a (and_parts (nat_le x.first a) (nat_le a x.last) h.0).0 in omega arith, began_here a loops h.1)

-- loops are as they were where the counters are
pub same_fit : (m later : Workspace) (loops : List Loop) → later.counters ≡ m.counters → LoopsFit m loops → LoopsFit later loops
same_fit m later [] e h = tt
same_fit m later (x ∷ loops) e (low, count, own, after, rest) =
    (low, subst (λ cs. Counts (unwrap_or (slice_get cs x.counter) None)) (sym e) count, own, after, same_fit m later loops e rest)

pub same_open : (m later : Workspace) (loops : List Loop) → later.counters ≡ m.counters → open_loops later loops ≡ open_loops m loops
same_open m later [] e = refl
same_open m later (x ∷ loops) e =
    ap (λ others. others ++ (x.first, times_left (counter_at x.counter later)) ∷ []) (same_open m later loops e)
    ∙ ap (λ cs. open_loops m loops ++ (x.first, times_left (unwrap_or (slice_get cs x.counter) None)) ∷ []) e
