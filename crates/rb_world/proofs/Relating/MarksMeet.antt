-- Lists of levels that differ in their copies alone, and what becomes of the copies when levels change.
use Rattle.std.proofs.Common.{◌≡◌, ℕ, ◌+◌, zero, suc, Bool, cond, not, ◌||◌, List, [], ◌∷◌, ◌++◌, length, map, option_map, position, slice_get, take, Option, Some, None, refl, ap, ap₂, nat_lt, ◌∙◌}
use Rattle.std.specs.List.{list_any, position_or_len}
use Rattle.rb_world.specs.Kind.{Facts}
use Rattle.rb_world.specs.World.{Level, change_at, is_number, is_of, last_of, without_last, copy_of}
use Rattle.rb_world.specs.Reject.{next_alternate}
use Rattle.rb_world.specs.Turn.{is_last_of, is_over, one_used, tried_at}
use Rattle.rb_world.proofs.Relating.Simulation.{copies_of}

-- both hold nothing, or related things
abbrev pub OptionsMeet : {A B : Type 0} → (A → B → Type 0) → Option A → Option B → Type 0
OptionsMeet R None None = Unit {0}
OptionsMeet R None (Some y) = ⊥
OptionsMeet R (Some x) None = ⊥
OptionsMeet R (Some x) (Some y) = R x y

-- the same but for the copy
pub record SameMark {C D : Type 0} (l : Level C) (m : Level D) : Type 0 where
  pub facts : l.facts ≡ m.facts
  pub alternate : l.alternate ≡ m.alternate
  pub used : l.used ≡ m.used

abbrev pub SameMarks : {C D : Type 0} → List (Level C) → List (Level D) → Type 0
SameMarks [] [] = Unit {0}
SameMarks [] (m ∷ ms) = ⊥
SameMarks (l ∷ ls) [] = ⊥
SameMarks (l ∷ ls) (m ∷ ms) = SameMark l m × SameMarks ls ms

-- what a test of marks finds is the same
pub same_over : {C D : Type 0} (l : Level C) (m : Level D) → SameMark l m → is_over l ≡ is_over m
same_over l m e = ap₂ (λ (facts : Facts) used. nat_lt facts.bound used) e.facts e.used

pub same_of : {C D : Type 0} (c : ℕ) (l : Level C) (m : Level D) → SameMark l m → is_of c l ≡ is_of c m
same_of c l m e = ap (λ (facts : Facts). is_number facts.conversation c) e.facts

pub same_length : {C D : Type 0} (ls : List (Level C)) (ms : List (Level D)) → SameMarks ls ms → length ls ≡ length ms
same_length [] [] e = refl
same_length [] (m ∷ ms) e = absurd e
same_length (l ∷ ls) [] e = absurd e
same_length (l ∷ ls) (m ∷ ms) e = ap suc (same_length ls ms e.1)

module _ {C D : Type 0} (f : Level C → Bool) (g : Level D → Bool) (same : (l : Level C) (m : Level D) → SameMark l m → f l ≡ g m) where
  same_prefix : (ls : List (Level C)) (ms : List (Level D)) → SameMarks ls ms → position_or_len f ls ≡ position_or_len g ms
  same_prefix [] [] e = refl
  same_prefix [] (m ∷ ms) e = absurd e
  same_prefix (l ∷ ls) [] e = absurd e
  same_prefix (l ∷ ls) (m ∷ ms) e =
      ap₂ (λ (b : Bool) (n : ℕ). cond (not b) (1 + n) 0) (same l m e.0) (same_prefix ls ms e.1)

  pub same_position : (ls : List (Level C)) (ms : List (Level D)) → SameMarks ls ms → position f ls ≡ position g ms
  same_position ls ms e =
      ap₂ (λ (n length : ℕ). cond (nat_lt n length) (Some n) None) (same_prefix ls ms e) (same_length ls ms e)

  pub same_any : (ls : List (Level C)) (ms : List (Level D)) → SameMarks ls ms → list_any f ls ≡ list_any g ms
  same_any [] [] e = refl
  same_any [] (m ∷ ms) e = absurd e
  same_any (l ∷ ls) [] e = absurd e
  same_any (l ∷ ls) (m ∷ ms) e = ap₂ ◌||◌ (same l m e.0) (same_any ls ms e.1)

-- levels by their numbers, and the last
pub get_marks : {C D : Type 0} (ls : List (Level C)) (ms : List (Level D)) (j : ℕ) → SameMarks ls ms
    → OptionsMeet SameMark (slice_get ls j) (slice_get ms j)
get_marks [] [] j e = tt
get_marks [] (m ∷ ms) j e = absurd e
get_marks (l ∷ ls) [] j e = absurd e
get_marks (l ∷ ls) (m ∷ ms) zero e = e.0
get_marks (l ∷ ls) (m ∷ ms) (suc j) e = get_marks ls ms j e.1

pub last_marks : {C D : Type 0} (ls : List (Level C)) (ms : List (Level D)) → SameMarks ls ms → OptionsMeet SameMark (last_of ls) (last_of ms)
last_marks [] [] e = tt
last_marks [] (m ∷ ms) e = absurd e
last_marks (l ∷ ls) [] e = absurd e
last_marks (l ∷ []) (m ∷ []) e = e.0
last_marks (l ∷ []) (m ∷ m' ∷ ms) e = absurd e.1
last_marks (l ∷ l' ∷ ls) (m ∷ []) e = absurd e.1
last_marks (l ∷ l' ∷ ls) (m ∷ m' ∷ ms) e = last_marks (l' ∷ ls) (m' ∷ ms) e.1

pub same_tried : {C D : Type 0} (l : Option (Level C)) (m : Option (Level D)) → OptionsMeet SameMark l m → tried_at l ≡ tried_at m
same_tried None None e = refl
same_tried None (Some m) e = absurd e
same_tried (Some l) None e = absurd e
same_tried (Some l) (Some m) e = e.alternate

pub same_last_of : {C D : Type 0} (c : ℕ) (l : Option (Level C)) (m : Option (Level D)) → OptionsMeet SameMark l m → is_last_of c l ≡ is_last_of c m
same_last_of c None None e = refl
same_last_of c None (Some m) e = absurd e
same_last_of c (Some l) None e = absurd e
same_last_of c (Some l) (Some m) e = same_of c l m e

-- changes of levels
pub used_marks : {C D : Type 0} (ls : List (Level C)) (ms : List (Level D)) → SameMarks ls ms → SameMarks (map one_used ls) (map one_used ms)
used_marks [] [] e = tt
used_marks [] (m ∷ ms) e = absurd e
used_marks (l ∷ ls) [] e = absurd e
used_marks (l ∷ ls) (m ∷ ms) e =
    (record { facts = e.0.facts; alternate = e.0.alternate; used = ap (λ n. n + 1) e.0.used }, used_marks ls ms e.1)

pub next_marks : {C D : Type 0} (j : ℕ) (ls : List (Level C)) (ms : List (Level D)) → SameMarks ls ms
    → SameMarks (change_at j next_alternate ls) (change_at j next_alternate ms)
next_marks j [] [] e = tt
next_marks j [] (m ∷ ms) e = absurd e
next_marks j (l ∷ ls) [] e = absurd e
next_marks zero (l ∷ ls) (m ∷ ms) e =
    (record { facts = e.0.facts; alternate = ap (λ n. n + 1) e.0.alternate; used = refl }, e.1)
next_marks (suc j) (l ∷ ls) (m ∷ ms) e = (e.0, next_marks j ls ms e.1)

pub take_marks : {C D : Type 0} (j : ℕ) (ls : List (Level C)) (ms : List (Level D)) → SameMarks ls ms → SameMarks (take j ls) (take j ms)
take_marks zero ls ms e = tt
take_marks (suc j) [] [] e = tt
take_marks (suc j) [] (m ∷ ms) e = absurd e
take_marks (suc j) (l ∷ ls) [] e = absurd e
take_marks (suc j) (l ∷ ls) (m ∷ ms) e = (e.0, take_marks j ls ms e.1)

pub front_marks : {C D : Type 0} (ls : List (Level C)) (ms : List (Level D)) → SameMarks ls ms → SameMarks (without_last ls) (without_last ms)
front_marks [] [] e = tt
front_marks [] (m ∷ ms) e = absurd e
front_marks (l ∷ ls) [] e = absurd e
front_marks (l ∷ []) (m ∷ []) e = tt
front_marks (l ∷ []) (m ∷ m' ∷ ms) e = absurd e.1
front_marks (l ∷ l' ∷ ls) (m ∷ []) e = absurd e.1
front_marks (l ∷ l' ∷ ls) (m ∷ m' ∷ ms) e = (e.0, front_marks (l' ∷ ls) (m' ∷ ms) e.1)

pub more_marks : {C D : Type 0} (ls : List (Level C)) (ms : List (Level D)) (l : Level C) (m : Level D) → SameMarks ls ms
    → SameMark l m → SameMarks (ls ++ l ∷ []) (ms ++ m ∷ [])
more_marks [] [] l m e one = (one, tt)
more_marks [] (m' ∷ ms) l m e one = absurd e
more_marks (l' ∷ ls) [] l m e one = absurd e
more_marks (l' ∷ ls) (m' ∷ ms) l m e one = (e.0, more_marks ls ms l m e.1 one)

-- the copies of levels that changed
pub copies-used : {C : Type 0} (ls : List (Level C)) → copies_of (map one_used ls) ≡ copies_of ls
copies-used [] = refl
copies-used (l ∷ ls) = ap (λ cs. l.copy ∷ cs) (copies-used ls)

pub copies-next : {C : Type 0} (j : ℕ) (ls : List (Level C)) → copies_of (change_at j next_alternate ls) ≡ copies_of ls
copies-next j [] = refl
copies-next zero (l ∷ ls) = refl
copies-next (suc j) (l ∷ ls) = ap (λ cs. l.copy ∷ cs) (copies-next j ls)

pub copies-take : {C : Type 0} (j : ℕ) (ls : List (Level C)) → copies_of (take j ls) ≡ take j (copies_of ls)
copies-take zero ls = refl
copies-take (suc j) [] = refl
copies-take (suc j) (l ∷ ls) = ap (λ cs. l.copy ∷ cs) (copies-take j ls)

pub copies-front : {C : Type 0} (ls : List (Level C)) → copies_of (without_last ls) ≡ without_last (copies_of ls)
copies-front [] = refl
copies-front (l ∷ []) = refl
copies-front (l ∷ m ∷ ls) = ap (λ cs. l.copy ∷ cs) (copies-front (m ∷ ls))

pub copies-more : {C : Type 0} (ls : List (Level C)) (l : Level C) → copies_of (ls ++ l ∷ []) ≡ copies_of ls ++ l.copy ∷ []
copies-more [] l = refl
copies-more (m ∷ ls) l = ap (λ cs. m.copy ∷ cs) (copies-more ls l)

pub copies-last : {C : Type 0} (ls : List (Level C)) → copy_of (last_of ls) ≡ last_of (copies_of ls)
copies-last [] = refl
copies-last (l ∷ []) = refl
copies-last (l ∷ m ∷ ls) = copies-last (m ∷ ls)

-- the recovery point that is innermost once the last level is gone
pub last-front : {C : Type 0} (ls : List (Level C)) → copy_of (last_of (without_last ls)) ≡ last_of (without_last (copies_of ls))
last-front ls = copies-last (without_last ls) ∙ ap last_of (copies-front ls)

pub copies-get : {C : Type 0} (ls : List (Level C)) (j : ℕ) → slice_get (copies_of ls) j ≡ option_map (λ (l : Level C). l.copy) (slice_get ls j)
copies-get [] j = refl
copies-get (l ∷ ls) zero = refl
copies-get (l ∷ ls) (suc j) = copies-get ls j
