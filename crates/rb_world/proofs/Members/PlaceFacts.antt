-- Where a conversation's level stands among nested levels: at one number, which is the same in every process that has it, and just
-- inside the same conversations in each of them.
use Rattle.std.proofs.Common.{◌≡◌, ◌⊎◌, inl, inr, ◌<◌, ◌≤◌, ℕ, zero, suc, Bool, true, false, cond, ◌||◌, nat_lt, List, [], ◌∷◌, length, position, slice_get, take, get_or, Option, Some, None, refl, sym, ap, ◌∙◌, subst, eq-eqb, lt-ltb, le-ltb, true≢false, suc-ne-zero, arith}
use Rattle.std.proofs.lemmas.Bool.{cases_eq, cases_lt}
use Rattle.std.specs.List.{list_any, position_or_len}
use Rattle.std.proofs.lemmas.Option.{slice_get-get_or, slice_get_within}
use Rattle.std.proofs.lemmas.List.Sums.{position_or_len_is}
use Rattle.rb_world.specs.Kind.{Membership}
use Rattle.rb_world.specs.World.{Level, is_number, is_of}
use Rattle.rb_world.specs.Reject.{parent_of}
use Rattle.rb_world.specs.Nested.{AreNested, HasOutside, IsLevelOf}
use Rattle.rb_world.proofs.LevelFacts.{of_number, one_conversation}
use Rattle.rb_world.proofs.Keeping.NestedSame.{SharesLevel, shares_level}
use Rattle.rb_world.proofs.ListFacts.{none_some, some_same}

-- what is looked up below the end of a list's first elements
pub slice_get-take : {A : Type 0} (n : ℕ) (xs : List A) (i : ℕ) → i < n → slice_get (take n xs) i ≡ slice_get xs i
slice_get-take zero xs i below = absurd (omega arith)
slice_get-take (suc n) [] i below = refl
slice_get-take (suc n) (x ∷ xs) zero below = refl
slice_get-take (suc n) (x ∷ xs) (suc i) below = slice_get-take n xs i (omega arith)

-- the first elements up to one that is there
pub length-take_to : {A : Type 0} (j : ℕ) (xs : List A) {x : A} → slice_get xs j ≡ Some x → length (take (suc j) xs) ≡ suc j
length-take_to j [] e = absurd (none_some e)
length-take_to zero (y ∷ xs) e = refl
length-take_to (suc j) (y ∷ xs) e = ap suc (length-take_to j xs e)

-- the first that passes a test
position_is : {A : Type 0} (test : A → Bool) (xs : List A) (j : ℕ) → position_or_len test xs ≡ j → j < length xs → position test xs ≡ Some j
position_is test xs j e within =
    ap (λ (b : Bool). cond b (Some (position_or_len test xs)) None) (lt-ltb (position_or_len test xs) (length xs) (omega arith)) ∙ ap Some e

-- the place of an element that passes, where none before it does
pub position_first : {A : Type 0} (test : A → Bool) (xs : List A) (j : ℕ) (x : A) → slice_get xs j ≡ Some x → test x ≡ true
    → ((i : ℕ) (y : A) → i < j → slice_get xs i ≡ Some y → test y ≡ false) → position test xs ≡ Some j
position_first test xs j x there passes none =
    let within : j < length xs = slice_get_within xs j x there in
    position_is test xs j
    (position_or_len_is test xs j x (omega arith)
    (λ i below. none i (get_or xs i x) below (slice_get-get_or xs i x (omega arith)))
    (λ _. ap test (some_same (sym (slice_get-get_or xs j x within) ∙ there)) ∙ passes))
    within

-- none passes
left_fails : (a b : Bool) → (a || b) ≡ false → a ≡ false
left_fails true b e = e
left_fails false b e = refl

right_fails : (a b : Bool) → (a || b) ≡ false → b ≡ false
right_fails true b e = absurd (true≢false e)
right_fails false b e = e

-- where none passes, the one at a number does not
pub any_none : {A : Type 0} (test : A → Bool) (xs : List A) (i : ℕ) (x : A) → list_any test xs ≡ false → slice_get xs i ≡ Some x → test x ≡ false
any_none test [] i x none e = absurd (none_some e)
any_none test (y ∷ xs) zero x none e = ap test (sym (some_same e)) ∙ left_fails (test y) (list_any test xs) none
any_none test (y ∷ xs) (suc i) x none e = any_none test xs i x (right_fails (test y) (list_any test xs) none) e

no_position : {A : Type 0} (test : A → Bool) (xs : List A) (n : ℕ) → n ≡ length xs → cond (nat_lt n (length xs)) (Some n) None ≡ None
no_position test xs n e = rw e (ap (λ (b : Bool). cond b (Some (length xs)) None) (le-ltb (length xs) (length xs) (omega arith)))

-- and there is no first place
pub position_none : {A : Type 0} (test : A → Bool) (xs : List A) → list_any test xs ≡ false → position test xs ≡ None
position_none test [] none = refl
position_none test (y ∷ xs) none =
    no_position test (y ∷ xs) (position_or_len test (y ∷ xs))
    (position_or_len_is test (y ∷ xs) (length (y ∷ xs)) y (omega arith)
    (λ i below. any_none test (y ∷ xs) i (get_or (y ∷ xs) i y) none (slice_get-get_or (y ∷ xs) i y below))
    (λ none. absurd (omega arith)))

-- an element that is at a number, and passes
pub record PassesAt {A : Type 0} (test : A → Bool) (xs : List A) : Type 0 where
  pub at : ℕ
  pub found : A
  pub there : slice_get xs at ≡ Some found
  pub passes : test found ≡ true

one_further : {A : Type 0} (test : A → Bool) (y : A) (xs : List A) → PassesAt test xs → PassesAt test (y ∷ xs)
one_further test y xs one = record { at = suc one.at; found = one.found; there = one.there; passes = one.passes }

here_or_further : {A : Type 0} (test : A → Bool) (y : A) (xs : List A) (here : Bool) → test y ≡ here → (here || list_any test xs) ≡ true
    → (list_any test xs ≡ true → PassesAt test xs) → PassesAt test (y ∷ xs)
here_or_further test y xs true e any further = record { at = 0; found = y; there = refl; passes = e }
here_or_further test y xs false e any further = one_further test y xs (further any)

-- where one passes, it stands at a number
pub any_found : {A : Type 0} (test : A → Bool) (xs : List A) → list_any test xs ≡ true → PassesAt test xs
any_found test [] e = absurd (true≢false (sym e))
any_found test (y ∷ xs) e = here_or_further test y xs (test y) refl e (any_found test xs)

is_number-own : (o : Option ℕ) (c : ℕ) → o ≡ Some c → is_number o c ≡ true
is_number-own o c e = ap (λ (x : Option ℕ). is_number x c) e ∙ eq-eqb c c refl

-- a level of no conversation is of none
pub not_of : {C : Type 0} {levels : List (Level C)} {j d : ℕ} {level : Level C} → slice_get levels j ≡ Some level
    → level.facts.conversation ≡ None → IsLevelOf d levels j → ⊥
not_of {C} there alone at =
    none_some (sym alone ∙ (ap (λ (l : Level C). l.facts.conversation) (some_same (sym there ∙ at.there)) ∙ at.of_it))

module _ {C : Type 0} where
  -- a level of a conversation passes the test of it
  pub of_passes : (c : ℕ) (level : Level C) → level.facts.conversation ≡ Some c → is_of c level ≡ true
  of_passes c level e = is_number-own level.facts.conversation c e

  -- and what passes it is a level of the conversation
  pub passes_of : (c : ℕ) (level : Level C) → is_of c level ≡ true → level.facts.conversation ≡ Some c
  passes_of c level e = of_number level.facts.conversation c e

  -- who is inside a conversation has a level of it
  pub inside_level : (c : ℕ) (levels : List (Level C)) → list_any (is_of c) levels ≡ true → (i : ℕ) × IsLevelOf c levels i
  inside_level c levels any =
      let one : PassesAt (is_of c) levels = any_found (is_of c) levels any in
      (one.at, record { level = one.found; there = one.there; of_it = passes_of c one.found one.passes })

-- a level of no conversation is none of a conversation
conversation_out_at : {C : Type 0} (levels : List (Level C)) (i j d : ℕ) (level : Level C) → slice_get levels j ≡ Some level
    → level.facts.conversation ≡ None
    → IsLevelOf d levels i → j ≤ i → (j < i → ⊥) → (j ≡ i) ⊎ (j ≡ i → ⊥) → ⊥
conversation_out_at levels i j d level there alone at within further (inl same) = not_of there alone (subst (IsLevelOf d levels) (sym same) at)
conversation_out_at levels i j d level there alone at within further (inr other) = further (omega arith)

further_out : (i j : ℕ) → (j ≤ i → ⊥) → (i < j) ⊎ (j ≤ i) → i < j
further_out i j never (inl below) = below
further_out i j never (inr within) = absurd (never within)

module _ {C : Type 0} (groups : List Membership) where
  -- what lies around a conversation's level
  same_around_at : (levels levels' : List (Level C)) → AreNested groups levels → AreNested groups levels' → (i j c e : ℕ)
      → IsLevelOf c levels i → IsLevelOf c levels' i → IsLevelOf e levels j → j ≤ i → (j ≡ i) ⊎ (j ≡ i → ⊥) → IsLevelOf e levels' j
  same_around_at levels levels' nested nested' i j c e at at' around within (inl same) =
      let one : c ≡ e = one_conversation c e i levels at (subst (IsLevelOf e levels) same around) in
      subst (λ (d : ℕ). IsLevelOf d levels' j) one (subst (IsLevelOf c levels') (sym same) at')
  same_around_at levels levels' nested nested' i j c e at at' around within (inr other) =
      let shared : SharesLevel levels levels' j = shares_level groups levels levels' nested nested' c i i j at at' (omega arith) in
      subst (λ (d : ℕ). IsLevelOf d levels' j) (one_conversation shared.conversation e j levels shared.one around) shared.other

  -- a conversation around that of a level, in one list, is around it in every other that has such a level
  pub same_around : (levels levels' : List (Level C)) → AreNested groups levels → AreNested groups levels' → (i j c e : ℕ)
      → IsLevelOf c levels i → IsLevelOf c levels' i → IsLevelOf e levels j → j ≤ i → IsLevelOf e levels' j
  same_around levels levels' nested nested' i j c e at at' around within =
      same_around_at levels levels' nested nested' i j c e at at' around within (cases_eq j i)

  -- no conversation's level stands further in than one of none
  conversation_out_from : (levels : List (Level C)) → AreNested groups levels → (i j : ℕ) (level : Level C) → slice_get levels j ≡ Some level
      → level.facts.conversation ≡ None → (parent : Option ℕ) → HasOutside parent levels i → j < i → ⊥
  conversation_out_from levels nested zero j level there alone parent out within = omega arith
  conversation_out_from levels nested (suc i) j level there alone None out within = suc-ne-zero i out
  conversation_out_from levels nested (suc i) j level there alone (Some d) out within =
      conversation_out_at levels i j d level there alone out (omega arith)
      (conversation_out_from levels nested i j level there alone (parent_of (slice_get groups d)) (nested i d out))
      (cases_eq j i)

  -- so a conversation's level stands further out than each level of none
  pub conversation_out : (levels : List (Level C)) → AreNested groups levels → (i j c : ℕ) (level : Level C) → IsLevelOf c levels i
      → slice_get levels j ≡ Some level → level.facts.conversation ≡ None → i < j
  conversation_out levels nested i j c level at there alone =
      further_out i j
      (λ within. conversation_out_at levels i j c level there alone at within
      (conversation_out_from levels nested i j level there alone (parent_of (slice_get groups c)) (nested i c at)) (cases_eq j i))
      (cases_lt i j)
