-- The counters of quantified expressions: those that the meaning knows by name are set in the machine, each under its number.
use Rattle.std.proofs.Common.{◌≡◌, ◌<◌, ◌≤◌, ℕ, zero, suc, ℤ, List, [], ◌∷◌, length, slice_get, slice_set, cond, Bool, true, false, Option, Some, None, refl, sym, ap, ◌∙◌, subst, arith}
use Rattle.std.proofs.lemmas.List.{length-set}
use Rattle.rb_world.proofs.ListFacts.{none_some, some_same}
use Rattle.rb_meaning.specs.Environment.{same_name}
use Rattle.rb_meaning.specs.Value.{Counters, counter_of}
use Rattle.rb_scope.specs.Frames.{counter_among}
use Rattle.rb_code.specs.WordMachine.Workspace.{Counting}
use Rattle.rb_code.proofs.Agreeing.ResultsReached.{KeptBelow}

-- a counter is set to this number
abbrev pub IsSetTo : List (Option Counting) → ℕ → ℤ → Type 0
IsSetTo set k v = (end : ℤ) × (slice_get set k ≡ Some (Some (record { now = v; end = end })))

-- the counters around, each below q, are those that the meaning has
abbrev pub CountersFit : ℕ → List (List ℕ × ℕ) → Counters → List (Option Counting) → Type 0
CountersFit q [] [] set = Unit {0}
CountersFit q [] (other ∷ counters) set = ⊥
CountersFit q (one ∷ around) [] set = ⊥
CountersFit q (one ∷ around) (other ∷ counters) set =
    (one.0 ≡ other.0) × (one.1 < q) × IsSetTo set one.1 other.1 × CountersFit q around counters set

-- inside one more
pub fit_more : (q r : ℕ) (around : List (List ℕ × ℕ)) (counters : Counters) (set : List (Option Counting)) → q ≤ r
    → CountersFit q around counters set → CountersFit r around counters set
fit_more q r [] [] set h fit = tt
fit_more q r [] (other ∷ counters) set h fit = absurd fit
fit_more q r (one ∷ around) [] set h fit = absurd fit
fit_more q r (one ∷ around) (other ∷ counters) set h fit =
    let l = fit.1 in (fit.0, omega arith, fit.2, fit_more q r around counters set h fit.3)

-- others may change
pub fit_kept : (q : ℕ) (around : List (List ℕ × ℕ)) (counters : Counters) (old new : List (Option Counting)) → KeptBelow q old new
    → CountersFit q around counters old → CountersFit q around counters new
fit_kept q [] [] old new k fit = tt
fit_kept q [] (other ∷ counters) old new k fit = absurd fit
fit_kept q (one ∷ around) [] old new k fit = absurd fit
fit_kept q (one ∷ around) (other ∷ counters) old new k fit =
    (fit.0, fit.1, (fit.2.0, k.same one.1 fit.1 ∙ fit.2.1), fit_kept q around counters old new k fit.3)

-- a name that has a counter has its number in the meaning, and one that has none has none
pub number_there : (q : ℕ) (around : List (List ℕ × ℕ)) (counters : Counters) (set : List (Option Counting)) (x : List ℕ) (k : ℕ)
    → CountersFit q around counters set → counter_among around x ≡ Some k → (v : ℤ) × (counter_of counters x ≡ Some v) × IsSetTo set k v
number_there q [] [] set x k fit e = absurd (none_some e)
number_there q [] (other ∷ counters) set x k fit e = absurd fit
number_there q (one ∷ around) [] set x k fit e = absurd fit
number_there q (one ∷ around) (other ∷ counters) set x k fit e =
    by (number_there q around counters set x k fit.3) (same_name one.0 x) refl e
  where
    by : (counter_among around x ≡ Some k → (v : ℤ) × (counter_of counters x ≡ Some v) × IsSetTo set k v) → (b : Bool) → same_name one.0 x ≡ b
        → cond b (Some one.1) (counter_among around x) ≡ Some k → (v : ℤ) × (counter_of (other ∷ counters) x ≡ Some v) × IsSetTo set k v
    by next true h g = (
      other.1,
      ap (λ y. cond (same_name y x) (Some other.1) (counter_of counters x)) (sym fit.0) ∙ ap (λ b. cond b (Some other.1) (counter_of counters x)) h,
      subst (λ n. IsSetTo set n other.1) (some_same g) fit.2,
    )
    by next false h g =
        let rest = next g in (
          rest.0,
          ap (λ y. cond (same_name y x) (Some other.1) (counter_of counters x)) (sym fit.0)
              ∙ ap (λ b. cond b (Some other.1) (counter_of counters x)) h ∙ rest.1,
          rest.2,
        )

pub no_number : (q : ℕ) (around : List (List ℕ × ℕ)) (counters : Counters) (set : List (Option Counting)) (x : List ℕ)
    → CountersFit q around counters set → counter_among around x ≡ None → counter_of counters x ≡ None
no_number q [] [] set x fit e = refl
no_number q [] (other ∷ counters) set x fit e = absurd fit
no_number q (one ∷ around) [] set x fit e = absurd fit
no_number q (one ∷ around) (other ∷ counters) set x fit e = by (no_number q around counters set x fit.3) (same_name one.0 x) refl e
  where
    by : (counter_among around x ≡ None → counter_of counters x ≡ None) → (b : Bool) → same_name one.0 x ≡ b
        → cond b (Some one.1) (counter_among around x) ≡ None → counter_of (other ∷ counters) x ≡ None
    by next true h g = absurd (none_some (sym g))
    by next false h g =
        ap (λ y. cond (same_name y x) (Some other.1) (counter_of counters x)) (sym fit.0)
        ∙ ap (λ b. cond b (Some other.1) (counter_of counters x)) h ∙ next g

-- a counter that is set: the others stay, and it has its number
pub get_set_same : {A : Type 0} (xs : List A) (k : ℕ) (x : A) → k < length xs → slice_get (slice_set xs k x) k ≡ Some x
get_set_same [] k x h = absurd (omega arith)
get_set_same (y ∷ ys) zero x h = refl
get_set_same (y ∷ ys) (suc k) x h = get_set_same ys k x (omega arith)

get_set_below : {A : Type 0} (xs : List A) (k j : ℕ) (x : A) → j < k → slice_get (slice_set xs k x) j ≡ slice_get xs j
get_set_below [] k j x h = refl
get_set_below (y ∷ ys) zero j x h = absurd (omega arith)
get_set_below (y ∷ ys) (suc k) zero x h = refl
get_set_below (y ∷ ys) (suc k) (suc j) x h = get_set_below ys k j x (omega arith)

pub kept_set : (k : ℕ) (set : List (Option Counting)) (one : Option Counting) → KeptBelow k set (slice_set set k one)
kept_set k set one = record { many = length-set set k one; same = λ j h. get_set_below set k j one h }

pub is_set : (k : ℕ) (set : List (Option Counting)) (one : Option Counting) → k < length set → slice_get (slice_set set k one) k ≡ Some one
is_set k set one h = get_set_same set k one h
