-- Counts that rise event by event.
use Rattle.std.proofs.Common.{◌≡◌, ◌<◌, ◌≤◌, ◌+◌, ◌-◌, ◌^◌, ℕ, Bool, List, [], ◌∷◌, ◌++◌, length, take, get_or, count_by, cond, sym, subst, arith}
use Rattle.std.proofs.lemmas.List.{take_more}
use Rattle.std.proofs.lemmas.List.Sums.{count_by-le-length, sum_by-append}
use Rattle.rb_base.specs.declared.event.Event.{Event}
use Rattle.rb_meaning.specs.Laws.{is_rejection}
use Rattle.rb_world.specs.Text.{is_done}
use Rattle.rb_run.specs.Counting.{AreBelow, IsMore, is_error, is_pass}
use Rattle.rb_run.specs.declared.counting.Counts.{Counts}

-- of two lists together
counted_both : (test : Event → Bool) (xs ys : List Event) → count_by test (xs ++ ys) ≡ count_by test xs + count_by test ys
counted_both test xs ys = sum_by-append (λ (x : Event). cond (test x) 1 0) xs ys

-- counts that have risen twice have risen by both
pub more_both : (old now later : Counts) (n m : ℕ) (xs ys : List Event) → IsMore old n xs now → IsMore now m ys later
    → IsMore old (n + m) (xs ++ ys) later
more_both old now later n m xs ys one other = record {
  out = omega (arith, one.out, other.out);
  reject = omega (arith, one.reject, other.reject, counted_both is_rejection xs ys);
  pass = omega (arith, one.pass, other.pass, counted_both is_pass xs ys);
  error = omega (arith, one.error, other.error, counted_both is_error xs ys);
  done = omega (arith, one.done, other.done, counted_both is_done xs ys);
}

-- by one more event of a list
pub one_more : (old now later : Counts) (n i : ℕ) (xs : List Event) (d : Event) → i < length xs → IsMore old n (take i xs) now
    → IsMore now 0 (get_or xs i d ∷ []) later → IsMore old n (take (i + 1) xs) later
one_more old now later n i xs d within so_far next =
    let none : n + 0 ≡ n = omega arith in
    subst (λ (all : List Event). IsMore old n all later) (sym (take_more xs i d within))
    (subst (λ (m : ℕ). IsMore old m (take i xs ++ get_or xs i d ∷ []) later) none
    (more_both old now later n 0 (take i xs) (get_or xs i d ∷ []) so_far next))

-- as many events as a report has room for are few
pub still_below : (old now : Counts) (n : ℕ) (xs : List Event) → AreBelow (2 ^ 63) old → n < 2 ^ 32 → length xs ≤ 96 → IsMore old n xs now
    → AreBelow (2 ^ 64 - 1) now
still_below old now n xs below few short more = record {
  out = omega (arith, below.out, more.out);
  reject = omega (arith, below.reject, more.reject, count_by-le-length is_rejection xs);
  pass = omega (arith, below.pass, more.pass, count_by-le-length is_pass xs);
  error = omega (arith, below.error, more.error, count_by-le-length is_error xs);
  done = omega (arith, below.done, more.done, count_by-le-length is_done xs);
}
