-- Where processes go back to: one of them alone to a private level, or all that are inside a conversation, each to its level of it.
use Rattle.std.proofs.Common.{◌≡◌, ◌≤◌, ◌<◌, ◌⊎◌, inl, inr, ℕ, ◌+◌, zero, suc, Bool, true, false, cond, not, nat_eq, nat_lt, List, [], ◌∷◌, length, map, position, option_map, slice_get, get_or, Option, Some, None, refl, sym, ap, ◌∙◌, subst, arith, eqb-true, ltb-true}
use Rattle.std.specs.List.{position_or_len}
use Rattle.std.proofs.lemmas.Bool.{eq-eqb, lt-ltb}
use Rattle.std.proofs.lemmas.Option.{cond_some, slice_get_cases, slice_get_within}
use Rattle.std.proofs.lemmas.List.Quantifiers.{position-Some}
use Rattle.rb_world.specs.World.{Level, Process, World, change_at, is_number, is_of}
use Rattle.rb_world.specs.Reject.{at_place, put_back, where_inside}
use Rattle.rb_world.specs.Nested.{IsLevelOf}
use Rattle.rb_world.proofs.TurnFacts.{RejectsAt}
use Rattle.rb_world.proofs.Erasing.ErasableKinds.{Nothing, Parts, whole}
use Rattle.rb_world.proofs.Erasing.Showing.OtherProcessesInCuts.{IsChanged, is_changed_at, is_changed_each}
use Rattle.rb_world.proofs.Erasing.Showing.CutsWhenPutBack.{IsUpTo, back_at, AreLine}
use Rattle.rb_world.proofs.LevelFacts.{of_number, one_conversation}
use Rattle.rb_world.proofs.ListFacts.{none_some, some_same}

-- process p alone goes back to level j
abbrev pub alone_at : ℕ → ℕ → ℕ → Option ℕ
alone_at p j r = cond (nat_eq r p) (Some j) None

-- whoever is inside conversation c goes back to its level of it
abbrev pub place_of : {S C : Type 0} → ℕ → Option (Process S C) → Option ℕ
place_of c None = None
place_of c (Some q) = position (is_of c) q.levels

abbrev pub line_of : {S C : Type 0} → ℕ → List (Process S C) → ℕ → Option ℕ
line_of c qs r = place_of c (slice_get qs r)

alone_is : (p j r m : ℕ) (here : Bool) → nat_eq r p ≡ here → cond here (Some j) None ≡ Some m → (r ≡ p) × (j ≡ m)
alone_is p j r m true e is = (eqb-true r p e, some_same is)
alone_is p j r m false e is = absurd (none_some is)

alone_by : {S E P : Type 0} (x : Parts S E P) (j : ℕ) (here : Bool) (o : Option (Process S S))
    → option_map (λ q. cond here (put_back (whole x) j q) q) o ≡ option_map (at_place (put_back (whole x)) (cond here (Some j) None)) o
alone_by x j true o = refl
alone_by x j false o = refl

-- the world after one process went back alone
pub alone_changed : {S E P : Type 0} (x : Parts S E P) (p j : ℕ) (qs : List (Process S S))
    → IsChanged (back_at x (alone_at p j)) qs (change_at p (put_back (whole x) j) qs)
alone_changed x p j qs r = is_changed_at p (put_back (whole x) j) qs r ∙ alone_by x j (nat_eq r p) (slice_get qs r)

-- it goes back to a level of no conversation
private_not_of : {C : Type 0} (c i : ℕ) (levels : List (Level C)) (level : Level C) → slice_get levels i ≡ Some level
    → level.facts.conversation ≡ None
    → IsLevelOf c levels i → ⊥
private_not_of {C} c i levels level there alone of_c =
    none_some (sym alone ∙ (ap (λ (l : Level C). l.facts.conversation) (some_same (sym there ∙ of_c.there)) ∙ of_c.of_it))

alone_there : {S : Type 0} (p j r m : ℕ) (q q' : Process S S) (w : World S S Nothing) (level : Level S)
    → RejectsAt p q w j level → slice_get w.processes r ≡ Some q'
    → (r ≡ p) × (j ≡ m) → slice_get q'.levels m ≡ Some level
alone_there {S} p j r m q q' w level rejects at (same, is) =
    let who : q ≡ q' = some_same (sym rejects.runs.there ∙ (ap (slice_get w.processes) (sym same) ∙ at)) in
    ap (slice_get q'.levels) (sym is) ∙ (ap (λ (z : Process S S). slice_get z.levels j) (sym who) ∙ rejects.place)

pub alone_line : {S : Type 0} (p j : ℕ) (q : Process S S) (w : World S S Nothing) (level : Level S)
    → RejectsAt p q w j level → level.facts.conversation ≡ None
    → AreLine (alone_at p j) w.processes
alone_line p j q w level rejects private = record {
  there = λ r m q' at is. (level, alone_there p j r m q q' w level rejects at (alone_is p j r m (nat_eq r p) refl is));
  together = λ r other c m i q' q'' at there is of_c of_other. absurd (private_not_of c m q'.levels level
      (alone_there p j r m q q' w level rejects at (alone_is p j r m (nat_eq r p) refl is)) private of_c);
}

-- the first place at which a test passes
found_by : {A : Type 0} (test : A → Bool) (xs : List A) (i : ℕ) → position test xs ≡ Some i
    → ((x : A) × (i < length xs) × (slice_get xs i ≡ Some x) × (get_or xs i x ≡ x)) ⊎ ((length xs ≤ i) × (slice_get xs i ≡ None))
    → (x : A) × (slice_get xs i ≡ Some x) × (test x ≡ true)
found_by test xs i e (inl (x, few, there, same)) = (x, there, ap test (sym same) ∙ (position-Some test xs i x e).1)
found_by test xs i e (inr (past, none)) =
    let found = cond_some (nat_lt (position_or_len test xs) (length xs)) (position_or_len test xs) i e in
    absurd (omega (arith, past, ltb-true (position_or_len test xs) (length xs) found.0, found.1))

pub found_at : {A : Type 0} (test : A → Bool) (xs : List A) (i : ℕ) → position test xs ≡ Some i
    → (x : A) × (slice_get xs i ≡ Some x) × (test x ≡ true)
found_at test xs i e = found_by test xs i e (slice_get_cases xs i).1

first_up_to : {A : Type 0} (test : A → Bool) (xs : List A) (i : ℕ) (x : A) → slice_get xs i ≡ Some x → test x ≡ true → position_or_len test xs ≤ i
first_up_to test [] i x there holds = absurd (none_some there)
first_up_to test (y ∷ xs) zero x there holds =
    let now : test y ≡ true = ap test (some_same there) ∙ holds in
    subst (λ (b : Bool). cond (not b) (1 + position_or_len test xs) 0 ≤ 0) (sym now) (omega arith)
first_up_to test (y ∷ xs) (suc i) x there holds = first_later test xs i (test y) (first_up_to test xs i x there holds)
  where
    first_later : {A : Type 0} (test : A → Bool) (xs : List A) (i : ℕ) (now : Bool) → position_or_len test xs ≤ i
        → cond (not now) (1 + position_or_len test xs) 0 ≤ suc i
    first_later test xs i true few = omega arith
    first_later test xs i false few = omega (arith, few)

pub position_up_to : {A : Type 0} (test : A → Bool) (xs : List A) (i : ℕ) (x : A) → slice_get xs i ≡ Some x → test x ≡ true
    → IsUpTo (position test xs) i
position_up_to test xs i x there holds =
    let few : position_or_len test xs ≤ i = first_up_to test xs i x there holds in
    subst (λ (b : Bool). IsUpTo (cond b (Some (position_or_len test xs)) None) i)
    (sym (lt-ltb (position_or_len test xs) (length xs) (omega (arith, few, slice_get_within xs i x there)))) few

-- a level that the test finds is one of the conversation
pub level_found : {C : Type 0} (c : ℕ) (levels : List (Level C)) (i : ℕ) → position (is_of c) levels ≡ Some i → IsLevelOf c levels i
level_found c levels i e =
    let found = found_at (is_of c) levels i e in
    record { level = found.0; there = found.1; of_it = of_number found.0.facts.conversation c found.2 }

-- a level of the conversation is found, or one further out
pub found_up_to : {C : Type 0} (c : ℕ) (levels : List (Level C)) (i : ℕ) → IsLevelOf c levels i → IsUpTo (position (is_of c) levels) i
found_up_to c levels i at =
    position_up_to (is_of c) levels i at.level at.there (ap (λ (o : Option ℕ). is_number o c) at.of_it ∙ eq-eqb c c refl)

inside_by : {S E P : Type 0} (x : Parts S E P) (c : ℕ) (o : Option (Process S S))
    → option_map (where_inside (put_back (whole x)) c) o ≡ option_map (at_place (put_back (whole x)) (place_of c o)) o
inside_by x c None = refl
inside_by x c (Some q) = refl

-- the world after all inside a conversation went back
pub together_changed : {S E P : Type 0} (x : Parts S E P) (c : ℕ) (qs : List (Process S S))
    → IsChanged (back_at x (line_of c qs)) qs (map (where_inside (put_back (whole x)) c) qs)
together_changed x c qs r = is_changed_each (where_inside (put_back (whole x)) c) qs r ∙ inside_by x c (slice_get qs r)

pub together_line : {S : Type 0} (c : ℕ) (qs : List (Process S S)) → AreLine (line_of c qs) qs
together_line {S = S} c qs = record {
  there = λ r j q at is.
      let found = level_found c q.levels j (ap (place_of c) (sym at) ∙ is) in
      (found.level, found.there);
  together = λ r other d j i q q' at there is of_d of_other.
      let same : d ≡ c = one_conversation d c j q.levels of_d (level_found c q.levels j (ap (place_of c) (sym at) ∙ is)) in
      subst (λ (o : Option (Process S S)). IsUpTo (place_of c o) i) (sym there)
      (found_up_to c q'.levels i (subst (λ (n : ℕ). IsLevelOf n q'.levels i) same of_other));
}
