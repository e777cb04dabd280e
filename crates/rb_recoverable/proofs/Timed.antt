-- The clock of the marks, and the deadline up to which it counts turns with no look at them, through each change.
use Rattle.std.proofs.Common.{◌≡◌, ℕ, zero, suc, ◌+◌, ◌<◌, ◌≤◌, List, [], ◌∷◌, ◌++◌, map, length, take, sym, ◌∙◌, subst, arith}
use Rattle.std.specs.Prelude.{get_or, slice_set}
use Rattle.std.specs.List.{AllByRecursion}
use Rattle.std.proofs.lemmas.List.{length-set, take_all, take_more}
use Rattle.std.proofs.Math.Seq.{take-suc-set}
use Rattle.rb_recoverable.specs.Inside.{HasBegun, IsTimed, IsWithin, KeepDeadlines}
use Rattle.rb_recoverable.specs.Marks.{earlier}
use Rattle.rb_recoverable.specs.declared.recoverable.LevelMark.{LevelMark}

-- what holds of each element
every_push : {A : Type 0} (P : A → Type 0) (xs : List A) (x : A) → AllByRecursion P xs → P x → AllByRecursion P (xs ++ x ∷ [])
every_push P [] x a h = (h, tt)
every_push P (y ∷ xs) x a h = (a.0, every_push P xs x a.1 h)

every_take : {A : Type 0} (P : A → Type 0) (k : ℕ) (xs : List A) → AllByRecursion P xs → AllByRecursion P (take k xs)
every_take P zero xs a = tt
every_take P (suc k) [] a = tt
every_take P (suc k) (x ∷ xs) a = (a.0, every_take P k xs a.1)

every_at : {A : Type 0} (P : A → Type 0) (xs : List A) (k : ℕ) (d : A) → k < length xs → AllByRecursion P xs → P (get_or xs k d)
every_at P [] k d h a = absurd (omega arith)
every_at P (x ∷ xs) zero d h a = a.0
every_at P (x ∷ xs) (suc k) d h a = every_at P xs k d (omega arith) a.1

pub every_weaker : {A : Type 0} (P Q : A → Type 0) → ((x : A) → P x → Q x) → (xs : List A) → AllByRecursion P xs → AllByRecursion Q xs
every_weaker P Q f [] a = tt
every_weaker P Q f (x ∷ xs) a = (f x a.0, every_weaker P Q f xs a.1)

-- one mark more, whose deadline is one of all others
keep_push : (marks : List LevelMark) (m : LevelMark) → KeepDeadlines marks → AllByRecursion (IsWithin m.around) marks → KeepDeadlines (marks ++ m ∷ [])
keep_push [] m h a = (tt, tt)
keep_push (x ∷ marks) m h a = (every_push (λ (inner : LevelMark). IsWithin inner.around x) marks m h.0 a.0, keep_push marks m h.1 a.1)

keep_take : (k : ℕ) (marks : List LevelMark) → KeepDeadlines marks → KeepDeadlines (take k marks)
keep_take zero marks h = tt
keep_take (suc k) [] h = tt
keep_take (suc k) (x ∷ marks) h = (every_take (λ (inner : LevelMark). IsWithin inner.around x) k marks h.0, keep_take k marks h.1)

-- the deadline that a mark keeps is one of those around it
keep_at : (marks : List LevelMark) (k : ℕ) (d : LevelMark) → k < length marks → KeepDeadlines marks
    → AllByRecursion (IsWithin (get_or marks k d).around) (take k marks)
keep_at [] k d h a = absurd (omega arith)
keep_at (x ∷ marks) zero d h a = tt
keep_at (x ∷ marks) (suc k) d h a = (every_at (λ (inner : LevelMark). IsWithin inner.around x) marks k d (omega arith) a.0, keep_at marks k d (omega arith) a.1)

module _ (clock deadline : ℕ) (marks : List LevelMark) (timed : IsTimed clock deadline marks) where
  -- the clock goes on
  pub timed_tick : IsTimed (clock + 1) deadline marks
  timed_tick = record {
    begun = every_weaker (HasBegun clock) (HasBegun (clock + 1)) (λ m h. omega arith) marks timed.begun;
    within = timed.within;
    around = timed.around;
  }

  -- a level is opened
  pub timed_open : (d : ℕ) (m : LevelMark) → m.since ≤ clock → m.around ≤ deadline → d ≤ deadline → d ≤ m.since + m.facts.bound
      → IsTimed clock d (marks ++ m ∷ [])
  timed_open d m begun around outer own = record {
    begun = every_push (HasBegun clock) marks m timed.begun begun;
    within = every_push (IsWithin d) marks m (every_weaker (IsWithin deadline) (IsWithin d) (λ x h. omega arith) marks timed.within) own;
    around = keep_push marks m timed.around (every_weaker (IsWithin deadline) (IsWithin m.around) (λ x h. omega arith) marks timed.within);
  }

  -- only the levels around one are left
  module _ (k : ℕ) (m : LevelMark) (within : k < length marks) (mark_is : get_or marks k m ≡ m) where
    pub timed_outer : IsTimed clock m.around (take k marks)
    timed_outer = record {
      begun = every_take (HasBegun clock) k marks timed.begun;
      within = subst (λ (x : LevelMark). AllByRecursion (IsWithin x.around) (take k marks)) mark_is (keep_at marks k m within timed.around);
      around = keep_take k marks timed.around;
    }

    pub begun_at : m.since ≤ clock
    begun_at = subst (HasBegun clock) mark_is (every_at (HasBegun clock) marks k m within timed.begun)

-- the same and itself
pub timed_up_to : (clock deadline : ℕ) (marks : List LevelMark) → IsTimed clock deadline marks → (k d : ℕ) (m : LevelMark) → k < length marks
    → get_or marks k m ≡ m → d ≤ m.around → d ≤ m.since + m.facts.bound → IsTimed clock d (take (k + 1) marks)
timed_up_to clock deadline marks timed k d m within mark_is outer own =
    subst (IsTimed clock d) (sym (take_more marks k m within))
    (subst (λ (x : LevelMark). IsTimed clock d (take k marks ++ x ∷ [])) (sym mark_is)
    (timed_open clock m.around (take k marks) (timed_outer clock deadline marks timed k m within mark_is) d m
    (begun_at clock deadline marks timed k m within mark_is) (omega arith) outer own))

-- a level begins anew
abbrev pub next_of : ℕ → LevelMark → LevelMark
next_of clock mark = record mark { alternate = mark.alternate + 1; since = clock }

-- the innermost one, whose bound counts from now on
pub timed_last : (clock deadline : ℕ) (marks : List LevelMark) → IsTimed clock deadline marks → (k d : ℕ) (m : LevelMark) → k + 1 ≡ length marks
    → get_or marks k m ≡ m → d ≤ m.around → d ≤ clock + m.facts.bound → IsTimed clock d (slice_set marks k (next_of clock m))
timed_last clock deadline marks timed k d m last mark_is outer own =
    subst (IsTimed clock d) (sym whole)
    (timed_open clock m.around (take k marks) (timed_outer clock deadline marks timed k m (omega arith) mark_is) d (next_of clock m)
    (omega arith) (omega arith) outer own)
  where
    whole : slice_set marks k (next_of clock m) ≡ take k marks ++ next_of clock m ∷ []
    whole =
        sym (take_all (suc k) (slice_set marks k (next_of clock m)) (omega (arith, length-set marks k (next_of clock m))))
        ∙ take-suc-set marks k (next_of clock m) (omega arith)

-- another one: its bound is no sooner
every_set : {A : Type 0} (P : A → Type 0) (xs : List A) (k : ℕ) (x y : A) → k < length xs → get_or xs k x ≡ x → (P x → P y)
    → AllByRecursion P xs → AllByRecursion P (slice_set xs k y)
every_set P [] k x y h e f a = absurd (omega arith)
every_set P (z ∷ xs) zero x y h e f a = (f (subst P e a.0), a.1)
every_set P (z ∷ xs) (suc k) x y h e f a = (a.0, every_set P xs k x y (omega arith) e f a.1)

keep_set : (clock : ℕ) (marks : List LevelMark) (k : ℕ) (m : LevelMark) → k < length marks → get_or marks k m ≡ m → m.since ≤ clock
    → KeepDeadlines marks → KeepDeadlines (slice_set marks k (next_of clock m))
keep_set clock [] k m h e begun a = absurd (omega arith)
keep_set clock (x ∷ marks) zero m h e begun a = (
  every_weaker (λ (inner : LevelMark). IsWithin inner.around m) (λ (inner : LevelMark). IsWithin inner.around (next_of clock m))
      (λ inner i. omega arith) marks (subst (λ (y : LevelMark). AllByRecursion (λ (inner : LevelMark). IsWithin inner.around y) marks) e a.0),
  a.1,
)
keep_set clock (x ∷ marks) (suc k) m h e begun a = (
  every_set (λ (inner : LevelMark). IsWithin inner.around x) marks k m (next_of clock m) (omega arith) e (λ i. i) a.0,
  keep_set clock marks k m (omega arith) e begun a.1,
)

pub timed_next : (clock deadline : ℕ) (marks : List LevelMark) → IsTimed clock deadline marks → (k : ℕ) (m : LevelMark) → k < length marks
    → get_or marks k m ≡ m → IsTimed clock deadline (slice_set marks k (next_of clock m))
timed_next clock deadline marks timed k m within mark_is =
    let begun = begun_at clock deadline marks timed k m within mark_is in
    record {
      begun = every_set (HasBegun clock) marks k m (next_of clock m) within mark_is (λ h. omega arith) timed.begun;
      within = every_set (IsWithin deadline) marks k m (next_of clock m) within mark_is (λ h. omega arith) timed.within;
      around = keep_set clock marks k m within mark_is begun timed.around;
    }

-- no deadline is kept
none_within : (marks : List LevelMark) → AllByRecursion (IsWithin 0) marks
none_within [] = tt
none_within (x ∷ marks) = (omega arith, none_within marks)

none_around : (x : LevelMark) (marks : List LevelMark) → AllByRecursion (λ (inner : LevelMark). IsWithin inner.around x) (map earlier marks)
none_around x [] = tt
none_around x (y ∷ marks) = (omega arith, none_around x marks)

none_kept : (marks : List LevelMark) → KeepDeadlines (map earlier marks)
none_kept [] = tt
none_kept (x ∷ marks) = (none_around (earlier x) marks, none_kept marks)

all_begun : (clock : ℕ) (marks : List LevelMark) → AllByRecursion (HasBegun clock) marks → AllByRecursion (HasBegun clock) (map earlier marks)
all_begun clock [] a = tt
all_begun clock (x ∷ marks) a = (let h = a.0 in omega arith, all_begun clock marks a.1)

pub timed_earlier : (clock deadline : ℕ) (marks : List LevelMark) → IsTimed clock deadline marks → IsTimed clock 0 (map earlier marks)
timed_earlier clock deadline marks timed = record {
  begun = all_begun clock marks timed.begun;
  within = none_within (map earlier marks);
  around = none_kept marks;
}
