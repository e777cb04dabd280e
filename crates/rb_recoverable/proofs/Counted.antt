-- A turn is counted by the clock, or mark by mark.
use Rattle.std.proofs.Common.{◌≡◌, ℕ, ◌+◌, ◌-◌, ◌<◌, ◌≤◌, Bool, true, false, not, cond, List, [], ◌∷◌, ◌++◌, length, map, take, drop, set, get_or, refl, ap, sym, ◌∙◌, arith}
use Rattle.std.specs.Prelude.{position, nat_lt, ◌&&◌, Option, Some, None}
use Rattle.std.specs.List.{AllByRecursion, list_all, position_or_len}
use Rattle.std.specs.Option.{is_none}
use Rattle.std.proofs.lemmas.Bool.Decides.{nat_tests}
use Rattle.std.proofs.lemmas.List.{length-append, length-map, length-take-le, get_or_default, length-drop}
use Rattle.std.proofs.lemmas.List.Edits.{map_over_more}
use Rattle.rb_recoverable.specs.Inside.{IsWithin}
use Rattle.rb_recoverable.specs.Marks.{is_mark_over}
use Rattle.rb_recoverable.specs.declared.recoverable.LevelMark.{LevelMark}

-- an element changes in its place
pub one_more : {A : Type 0} (f : A → A) (xs ys : List A) (i : ℕ) (d y : A) → i < length xs → ys ≡ map f (take i xs) ++ drop i xs
    → y ≡ f (get_or ys i d) → set ys i y ≡ map f (take (i + 1) xs) ++ drop (i + 1) xs
one_more f xs ys i d y within so_far wrote =
    let long = length-map (take i xs) f ∙ length-take-le i xs (omega arith) in
    let there : i < length ys = omega (arith, ap length so_far, length-append (map f (take i xs)) (drop i xs), long, length-drop i xs) in
    ap (set ys i) wrote ∙ map_over_more f xs ys i (get_or ys i d) within so_far (get_or_default ys i d (get_or ys i d) there)

-- none passes
none_if : (b : Bool) (n : ℕ) → is_none (cond b (Some n) None) ≡ not b
none_if true n = refl
none_if false n = refl

none_below : (k : ℕ) → nat_lt 0 (1 + k) ≡ true
none_below k = grind (arith, nat_tests)

one_below : (n k : ℕ) → nat_lt (1 + n) (1 + k) ≡ nat_lt n k
one_below n k = grind (arith, nat_tests)

one_before : (b rest : Bool) (n k : ℕ) → not (nat_lt n k) ≡ rest → not (nat_lt (cond (not b) (1 + n) 0) (1 + k)) ≡ (not b && rest)
one_before true rest n k e = ap not (none_below k)
one_before false rest n k e = ap not (one_below n k) ∙ e

none_before : {A : Type 0} (p : A → Bool) (xs : List A) → not (nat_lt (position_or_len p xs) (length xs)) ≡ list_all (λ x. not (p x)) xs
none_before p [] = refl
none_before p (x ∷ xs) =
    ap (λ k. not (nat_lt (cond (not (p x)) (1 + position_or_len p xs) 0) k)) (omega arith)
    ∙ one_before (p x) (list_all (λ y. not (p y)) xs) (position_or_len p xs) (length xs) (none_before p xs)

none_first : {A : Type 0} (p : A → Bool) (xs : List A) → is_none (position p xs) ≡ list_all (λ x. not (p x)) xs
none_first p xs = none_if (nat_lt (position_or_len p xs) (length xs)) (position_or_len p xs) ∙ none_before p xs

nothing : {A : Type 0} (o : Option A) → is_none o ≡ true → o ≡ None
nothing None e = refl
nothing (Some x) e = absurd (cc)

-- before a deadline no level is over its bound
in_bound : (clock deadline since bound : ℕ) → deadline ≤ since + bound → clock ≤ deadline → not (nat_lt bound (clock - since)) ≡ true
in_bound clock deadline since bound h e = grind (arith, nat_tests)

all_in_bound : (clock deadline : ℕ) (marks : List LevelMark) → AllByRecursion (IsWithin deadline) marks → clock ≤ deadline
    → list_all (λ mark. not (is_mark_over clock mark)) marks ≡ true
all_in_bound clock deadline [] within h = refl
all_in_bound clock deadline (m ∷ marks) within h =
    ap (λ b. b && list_all (λ mark. not (is_mark_over clock mark)) marks) (in_bound clock deadline m.since m.facts.bound within.0 h)
    ∙ all_in_bound clock deadline marks within.1 h

pub none_over : (clock deadline : ℕ) (marks : List LevelMark) → AllByRecursion (IsWithin deadline) marks → clock ≤ deadline
    → position (is_mark_over clock) marks ≡ None
none_over clock deadline marks within h =
    nothing (position (is_mark_over clock) marks) (none_first (is_mark_over clock) marks ∙ all_in_bound clock deadline marks within h)
