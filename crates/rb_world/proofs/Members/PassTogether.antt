-- A turn in which the test line of a conversation is passed: all its members leave it together, and nobody leaves another.
use Rattle.std.proofs.Common.{◌≡◌, ◌≢◌, ◌<◌, ℕ, zero, suc, nat_eq, Bool, true, false, cond, ◌&&◌, ◌||◌, List, [], ◌∷◌, map, option_map, slice_get, Option, Some, refl, sym, ap, ◌∙◌, eqb-true, true≢false, arith}
use Rattle.std.specs.List.{list_any, list_all}
use Rattle.std.proofs.lemmas.Option.{slice_get-map}
use Rattle.rb_world.specs.Kind.{Kind}
use Rattle.rb_world.specs.World.{Level, Process, World, is_of, last_of, settled, without_last}
use Rattle.rb_world.specs.Turn.{all_leave, is_last_of, leaves, one_used, stands_at}
use Rattle.rb_world.specs.Nested.{AreNested, IsLevelOf}
use Rattle.rb_world.proofs.ListFacts.{first_holds, none_some, second_holds, some_same}
use Rattle.rb_world.proofs.Keeping.NestedSame.{same_number}
use Rattle.rb_world.proofs.Members.PlaceFacts.{inside_level, passes_of}
use Rattle.rb_world.proofs.Members.Together.{Carries, Keeps}

-- where the last element of a list stands, beyond all others
pub record LastAt {A : Type 0} (xs : List A) (x : A) : Type 0 where
  pub at : ℕ
  pub there : slice_get xs at ≡ Some x
  pub before : (n : ℕ) (y : A) → slice_get (without_last xs) n ≡ Some y → (n < at) × (slice_get xs n ≡ Some y)

before_further : {A : Type 0} (y z : A) (xs : List A) (x : A) → (last : LastAt (z ∷ xs) x) → (n : ℕ) (v : A)
    → slice_get (without_last (y ∷ z ∷ xs)) n ≡ Some v
    → (n < suc last.at) × (slice_get (y ∷ z ∷ xs) n ≡ Some v)
before_further y z xs x last zero v e = (omega arith, e)
before_further y z xs x last (suc n) v e = let one : (n < last.at) × (slice_get (z ∷ xs) n ≡ Some v) =
    last.before n v e in (omega (arith, one.0), one.1)

one_last_further : {A : Type 0} (y z : A) (xs : List A) (x : A) → LastAt (z ∷ xs) x → LastAt (y ∷ z ∷ xs) x
one_last_further y z xs x last = record { at = suc last.at; there = last.there; before = before_further y z xs x last }

-- a list that has a last element has it at a number
pub last_at : {A : Type 0} (xs : List A) (x : A) → last_of xs ≡ Some x → LastAt xs x
last_at [] x e = absurd (none_some e)
last_at (y ∷ []) x e = record { at = 0; there = e; before = λ n z none. absurd (none_some none) }
last_at (y ∷ z ∷ xs) x e = one_last_further y z xs x (last_at (z ∷ xs) x e)

-- what is not the last stays
pub kept_without_last : {A : Type 0} (xs : List A) (i : ℕ) (x : A) → slice_get xs i ≡ Some x → (last_of xs ≡ Some x → ⊥)
    → slice_get (without_last xs) i ≡ Some x
kept_without_last [] i x e other = absurd (none_some e)
kept_without_last (y ∷ []) zero x e other = absurd (other e)
kept_without_last (y ∷ []) (suc i) x e other = absurd (none_some e)
kept_without_last (y ∷ z ∷ xs) zero x e other = e
kept_without_last (y ∷ z ∷ xs) (suc i) x e other = kept_without_last (z ∷ xs) i x e other

-- a test that all pass is passed by each member
all_pass_at : (test : ℕ → Bool) (m n : ℕ) (members : List ℕ) → (test n && list_all test members) ≡ true → (same : Bool) → nat_eq m n ≡ same
    → (same || list_any (nat_eq m) members) ≡ true
    → (list_all test members ≡ true → list_any (nat_eq m) members ≡ true → test m ≡ true) → test m ≡ true
all_pass_at test m n members all true e any further = ap test (eqb-true m n e) ∙ first_holds (test n) (list_all test members) all
all_pass_at test m n members all false e any further = further (second_holds (test n) (list_all test members) all) any

-- the same of a whole list
pub all_pass : (test : ℕ → Bool) (m : ℕ) (members : List ℕ) → list_all test members ≡ true → list_any (nat_eq m) members ≡ true → test m ≡ true
all_pass test m [] all any = absurd (true≢false (sym any))
all_pass test m (n ∷ members) all any = all_pass_at test m n members all (nat_eq m n) refl any (all_pass test m members)

-- the innermost level is of the same conversation once it has used one turn more
pub last_used : {C : Type 0} (c : ℕ) (levels : List (Level C)) → is_last_of c (last_of (map one_used levels)) ≡ is_last_of c (last_of levels)
last_used c [] = refl
last_used c (x ∷ []) = refl
last_used c (x ∷ y ∷ levels) = last_used c (y ∷ levels)

-- the conversation of a last level
pub of_last : {C : Type 0} (c : ℕ) (last : Option (Level C)) (level : Level C) → is_last_of c last ≡ true
    → last ≡ Some level → level.facts.conversation ≡ Some c
of_last c last level is e = passes_of c level (ap (is_last_of c) (sym e) ∙ is)

-- what is found in a list of images
pub map_found : {A : Type 0} (f : A → A) (xs : List A) (r : ℕ) (z : A) → slice_get (map f xs) r ≡ Some z
    → (y : A) × (slice_get xs r ≡ Some y) × (f y ≡ z)
map_found f [] r z e = absurd (none_some e)
map_found f (x ∷ xs) zero z e = (x, refl, some_same e)
map_found f (x ∷ xs) (suc r) z e = map_found f xs r z e

-- a member that leaves keeps its level of another conversation
module _ {S C M : Type 0} (k : Kind S C M) where
  leaves_carries : (c d : ℕ) (y : Process S C) → c ≢ d → (there : Bool) → stands_at d y ≡ there
      → Carries c y.levels (cond there (settled k (k.accept y.state) (without_last y.levels)) y).levels
  leaves_carries c d y other true e i at = (
    at.level,
    kept_without_last y.levels i at.level at.there
        (λ last. other
        (some_same
        (sym at.of_it ∙ of_last d (last_of y.levels) at.level (second_holds y.at_line (is_last_of d (last_of y.levels)) e) last))),
    refl,
  )
  leaves_carries c d y other false e i at = (at.level, at.there, refl)

  -- so all levels of another conversation are kept where the members of one leave
  pub leave_keeps : (c d : ℕ) (x : World S C M) → c ≢ d → Keeps c x (all_leave k d x)
  leave_keeps c d x other r y here =
      (leaves k d y, slice_get-map (leaves k d) x.processes r ∙ ap (option_map (leaves k d)) here, leaves_carries c d y other (stands_at d y) refl)

  -- a member that leaves is not inside any more
  pub left_not_inside : (c : ℕ) (levels : List (Level C)) (level : Level C) → AreNested k.groups levels
      → last_of levels ≡ Some level → level.facts.conversation ≡ Some c
      → (inside : Bool) → list_any (is_of c) (without_last levels) ≡ inside → list_any (is_of c) (without_last levels) ≡ false
  left_not_inside c levels level nested last of_it true is =
      let found : (n : ℕ) × IsLevelOf c (without_last levels) n = inside_level c (without_last levels) is in
      let end : LastAt levels level = last_at levels level last in
      let before : (found.0 < end.at) × (slice_get levels found.0 ≡ Some found.1.level) = end.before found.0 found.1.level found.1.there in
      let same : found.0 ≡ end.at =
      same_number k.groups levels levels nested nested c found.0 end.at
      (record { level = found.1.level; there = before.1; of_it = found.1.of_it })
      (record { level = level; there = end.there; of_it = of_it }) in
      absurd (omega (arith, before.0))
  left_not_inside c levels level nested last of_it false is = is
