-- What becomes of the levels of one process, and of the alternates that they try, where a level of p or a conversation is put back.
--
-- Between the steps of a cascade the last conversation that was put back and has no alternate left is spent: its levels still try the
-- last one, while the conversation is at alternate 1 again. It lies right inside the level of p that comes next.
use Rattle.std.proofs.Common.{◌≡◌, ◌≢◌, ◌⊎◌, inl, inr, ◌<◌, ◌≤◌, ◌+◌, ℕ, zero, suc, false, List, length, option_map, slice_get, take, Option, Some, None, sym, ap, ◌∙◌, subst, true≢false, arith}
use Rattle.std.specs.List.{list_any}
use Rattle.std.proofs.lemmas.Bool.{cases_eq, cases_lt}
use Rattle.std.proofs.lemmas.Option.{slice_get_within}
use Rattle.rb_world.specs.Kind.{Membership}
use Rattle.rb_world.specs.World.{Level, Talk, change_at, is_of}
use Rattle.rb_world.specs.Reject.{first_again, next_alternate, next_talk, parent_of, reset_below}
use Rattle.rb_world.specs.Nested.{AreNested, HasOutside, IsLevelOf}
use Rattle.rb_world.specs.Present.{IsPresent, TryPresent}
use Rattle.rb_world.proofs.ListFacts.{none_some, slice_get-change_at, slice_get-change_other, some_same}
use Rattle.rb_world.proofs.LevelFacts.{any_level, get_take, one_conversation}
use Rattle.rb_world.proofs.Keeping.NestedSame.{same_number}
use Rattle.rb_world.proofs.Members.PlaceFacts.{not_of, slice_get-take}
use Rattle.rb_world.proofs.Members.PresentTalks.{not_below, not_below_of, talk_beside, talk_changed}

-- conversation e is spent, where so many levels of p are left
pub record IsSpentAt {C : Type 0} (groups : List Membership) (e : ℕ) (own : List (Level C)) (left : ℕ) : Type 0 where
  pub parent : ℕ
  pub around : parent_of (slice_get groups e) ≡ Some parent
  pub level : IsLevelOf e own left

-- each level tries the present alternate of its conversation, or that is spent
abbrev pub MayTry : {C : Type 0} → List Membership → List Talk → List (Level C) → ℕ → List (Level C) → Type 0
MayTry groups talks own left levels = (i e : ℕ) (at : IsLevelOf e levels i) → IsPresent talks e at.level ⊎ IsSpentAt groups e own left

-- the same conversation's talk in another list
pub present_there : {C : Type 0} (talks later : List Talk) (c : ℕ) (level : Level C) → slice_get later c ≡ slice_get talks c
    → IsPresent talks c level → IsPresent later c level
present_there talks later c level e present = record { talk = present.talk; there = e ∙ present.there; same = present.same }

module _ {C : Type 0} (groups : List Membership) (talks : List Talk) where
  -- nothing is spent where no further level of p is left to be rejected
  pub present_of : (levels : List (Level C)) (own : List (Level C)) (left : ℕ) → ((e : ℕ) → IsSpentAt groups e own left → ⊥)
      → MayTry groups talks own left levels → TryPresent talks levels
  present_of levels own left none may i e at = present_or (may i e at)
    where
      present_or : IsPresent talks e at.level ⊎ IsSpentAt groups e own left → IsPresent talks e at.level
      present_or (inl present) = present
      present_or (inr spent) = absurd (none e spent)

  pub may_of : (levels own : List (Level C)) (left : ℕ) → TryPresent talks levels → MayTry groups talks own left levels
  may_of levels own left present i e at = inl (present i e at)

  -- beyond the innermost level of p none is spent
  pub none_beyond : (own : List (Level C)) (left e : ℕ) → length own ≤ left → IsSpentAt groups e own left → ⊥
  none_beyond own left e beyond spent = let within : left < length own = slice_get_within own left spent.level.level spent.level.there in omega arith

  -- nor is the outermost, which lies in no other
  pub none_outermost : (own : List (Level C)) (e : ℕ) → AreNested groups own → IsSpentAt groups e own 0 → ⊥
  none_outermost own e nested spent = subst (λ (o : Option ℕ). HasOutside o own 0) spent.around (nested 0 e spent.level)

  -- nor is one right inside a private level
  pub none_private : (own : List (Level C)) (j e : ℕ) (level : Level C) → AreNested groups own
      → slice_get own j ≡ Some level → level.facts.conversation ≡ None
      → IsSpentAt groups e own (suc j) → ⊥
  none_private own j e level nested there alone spent =
      not_of there alone (subst (λ (o : Option ℕ). HasOutside o own (suc j)) spent.around (nested (suc j) e spent.level))

  -- fewer levels
  pub present_taken : (n : ℕ) (levels : List (Level C)) → TryPresent talks levels → TryPresent talks (take n levels)
  present_taken n levels present i e at =
      present i e (record { level = at.level; there = (get_take n levels i at.level at.there).1; of_it = at.of_it })

  -- a private level goes on to its next alternate
  raised_at : (j : ℕ) (levels : List (Level C)) (level : Level C) → slice_get levels j ≡ Some level
      → level.facts.conversation ≡ None → TryPresent talks levels
      → (i e : ℕ) (at : IsLevelOf e (change_at j next_alternate levels) i) → (i ≡ j) ⊎ (i ≡ j → ⊥) → IsPresent talks e at.level
  raised_at j levels level there alone present i e at (inl same) =
      let here : Some (next_alternate level) ≡ Some at.level =
      sym (slice_get-change_at j next_alternate levels ∙ ap (option_map next_alternate) there)
      ∙ (ap (slice_get (change_at j next_alternate levels)) (sym same) ∙ at.there) in
      absurd (none_some (sym alone ∙ (ap (λ (l : Level C). l.facts.conversation) (some_same here) ∙ at.of_it)))
  raised_at j levels level there alone present i e at (inr other) =
      present i e (record { level = at.level; there = sym (slice_get-change_other j next_alternate levels i other) ∙ at.there; of_it = at.of_it })

  pub present_raised : (j : ℕ) (levels : List (Level C)) (level : Level C) → slice_get levels j ≡ Some level
      → level.facts.conversation ≡ None → TryPresent talks levels
      → TryPresent talks (change_at j next_alternate levels)
  present_raised j levels level there alone present i e at = raised_at j levels level there alone present i e at (cases_eq i j)

-- a conversation is put back, of which p has level number j
module _ {C : Type 0} (groups : List Membership) (talks : List Talk) (own : List (Level C)) (c j : ℕ)
    (nested : AreNested groups own) (own_at : IsLevelOf c own j) (f : Talk → Talk) where
  -- all conversations once it was put back
  abbrev pub talks_after : List Talk
  talks_after = change_at c f (reset_below groups c talks)

  -- what is spent lies right inside it
  spent_inside : (e : ℕ) → IsSpentAt groups e own (suc j) → parent_of (slice_get groups e) ≡ Some c
  spent_inside e spent =
      spent.around ∙ ap Some
      (one_conversation spent.parent c j own
      (subst (λ (o : Option ℕ). HasOutside o own (suc j)) spent.around (nested (suc j) e spent.level)) own_at)

  -- a level of what is spent has one of c just outside it
  spent_outside : (levels : List (Level C)) → AreNested groups levels → (i e : ℕ) → IsLevelOf e levels i
      → IsSpentAt groups e own (suc j) → (n : ℕ) × (n < i) × IsLevelOf c levels n
  spent_outside levels levels_nested i e at spent =
      around_at i (subst (λ (o : Option ℕ). HasOutside o levels i) (spent_inside e spent) (levels_nested i e at))
    where
      around_at : (i : ℕ) → HasOutside (Some c) levels i → (n : ℕ) × (n < i) × IsLevelOf c levels n
      around_at zero out = absurd out
      around_at (suc n) out = (n, omega arith, out)

  -- who is not inside goes on as before
  outside_at : (levels : List (Level C)) → AreNested groups levels → list_any (is_of c) levels ≡ false
      → (i e : ℕ) (at : IsLevelOf e levels i) → IsPresent talks e at.level ⊎ IsSpentAt groups e own (suc j) → IsPresent talks_after e at.level
  outside_at levels levels_nested outside i e at (inl present) =
      let other : e ≢ c = λ (same : e ≡ c). true≢false (sym (any_level c i levels (subst (λ (x : ℕ). IsLevelOf x levels i) same at)) ∙ outside) in
      present_there talks talks_after e at.level
      (talk_beside groups c e f talks other (not_below_of groups levels levels_nested (length groups) c e i outside at)) present
  outside_at levels levels_nested outside i e at (inr spent) =
      let out = spent_outside levels levels_nested i e at spent in
      absurd (true≢false (sym (any_level c out.0 levels out.2) ∙ outside))

  pub present_outside : (levels : List (Level C)) → AreNested groups levels → list_any (is_of c) levels ≡ false
      → MayTry groups talks own (suc j) levels
      → TryPresent talks_after levels
  present_outside levels levels_nested outside may i e at = outside_at levels levels_nested outside i e at (may i e at)

  -- of who is inside, no level up to that of c is spent
  present_before : (levels : List (Level C)) → AreNested groups levels → (n : ℕ) → IsLevelOf c levels n
      → (i e : ℕ) (at : IsLevelOf e levels i) → i ≤ n → IsPresent talks e at.level ⊎ IsSpentAt groups e own (suc j) → IsPresent talks e at.level
  present_before levels levels_nested n inside i e at within (inl present) = present
  present_before levels levels_nested n inside i e at within (inr spent) =
      let out = spent_outside levels levels_nested i e at spent in
      let same : out.0 ≡ n = same_number groups levels levels levels_nested levels_nested c out.0 n out.2 inside in
      absurd (omega (arith, out.1, within, same))

  -- and those outside it go on as before
  pub present_further : (levels : List (Level C)) → AreNested groups levels → (n : ℕ) → IsLevelOf c levels n → MayTry groups talks own (suc j) levels
      → (i e : ℕ) (at : IsLevelOf e levels i) → i < n → IsPresent talks_after e at.level
  present_further levels levels_nested n inside may i e at further =
      let other : e ≢ c = λ (same : e ≡ c).
      let one : i ≡ n =
      same_number groups levels levels levels_nested levels_nested c i n
      (subst (λ (x : ℕ). IsLevelOf x levels i) same at) inside in omega (arith, further, one) in
      present_there talks talks_after e at.level
      (talk_beside groups c e f talks other (not_below groups levels levels_nested (length groups) c e i n inside at (omega (arith, further))))
      (present_before levels levels_nested n inside i e at (omega (arith, further)) (may i e at))

  -- the level of c itself tried the present alternate, and the conversation is changed once
  pub present_here : (levels : List (Level C)) → AreNested groups levels → (n : ℕ) (inside : IsLevelOf c levels n)
      → MayTry groups talks own (suc j) levels
      → IsPresent talks c inside.level × (slice_get talks_after c ≡ option_map f (slice_get talks c))
  present_here levels levels_nested n inside may = (
    present_before levels levels_nested n inside n c inside (omega arith) (may n c inside),
    talk_changed groups c f talks (not_below groups levels levels_nested (length groups) c c n n inside inside (omega arith)),
  )

-- a number up to another, and not it
further_out : (i n : ℕ) → i < n + 1 → (i ≡ n → ⊥) → (i < n) ⊎ (n ≤ i) → i < n
further_out i n below other (inl further) = further
further_out i n below other (inr within) = absurd (other (omega (arith, below, within)))

-- all that are inside try the next alternate, or none is left and the conversation is spent
module _ {C : Type 0} (groups : List Membership) (talks : List Talk) (own : List (Level C)) (c j : ℕ)
    (nested : AreNested groups own) (own_at : IsLevelOf c own j) where
  next_at : (levels : List (Level C)) → AreNested groups levels → (n : ℕ) (inside : IsLevelOf c levels n) → MayTry groups talks own (suc j) levels
      → (i e : ℕ) (at : IsLevelOf e (change_at n next_alternate (take (n + 1) levels)) i) → (i ≡ n) ⊎ (i ≡ n → ⊥)
      → IsPresent (talks_after groups talks own c j nested own_at next_talk) e at.level
  next_at levels levels_nested n inside may i e at (inl same) =
      let later = talks_after groups talks own c j nested own_at next_talk in
      let here : next_alternate inside.level ≡ at.level = some_same
      (sym (slice_get-change_at n next_alternate (take (n + 1) levels)
      ∙ ap (option_map next_alternate) (slice_get-take (n + 1) levels n (omega arith) ∙ inside.there))
      ∙ (ap (slice_get (change_at n next_alternate (take (n + 1) levels))) (sym same) ∙ at.there)) in
      let of_c : c ≡ e = some_same (sym inside.of_it ∙ (ap (λ (l : Level C). l.facts.conversation) here ∙ at.of_it)) in
      let was = present_here groups talks own c j nested own_at next_talk levels levels_nested n inside may in
      subst (λ (x : ℕ). IsPresent later x at.level) of_c
      (record {
        talk = next_talk was.0.talk;
        there = was.1 ∙ ap (option_map next_talk) was.0.there;
        same = ap (λ (l : Level C). l.alternate) (sym here) ∙ ap (λ (a : ℕ). a + 1) was.0.same;
      })
  next_at levels levels_nested n inside may i e at (inr other) =
      let there : slice_get (take (n + 1) levels) i ≡ Some at.level =
      sym (slice_get-change_other n next_alternate (take (n + 1) levels) i other) ∙ at.there in
      let found : (i < n + 1) × (slice_get levels i ≡ Some at.level) = get_take (n + 1) levels i at.level there in
      present_further groups talks own c j nested own_at next_talk levels levels_nested n inside may i e
      (record { level = at.level; there = found.1; of_it = at.of_it }) (further_out i n found.0 other (cases_lt i n))

  pub present_next : (levels : List (Level C)) → AreNested groups levels → (n : ℕ) (inside : IsLevelOf c levels n)
      → MayTry groups talks own (suc j) levels
      → TryPresent (talks_after groups talks own c j nested own_at next_talk) (change_at n next_alternate (take (n + 1) levels))
  present_next levels levels_nested n inside may i e at = next_at levels levels_nested n inside may i e at (cases_eq i n)

  -- a level of c in the first levels of p
  own_taken : IsLevelOf c (take (j + 1) own) j
  own_taken = record { level = own_at.level; there = slice_get-take (j + 1) own j (omega arith) ∙ own_at.there; of_it = own_at.of_it }

  spent_at : (parent : ℕ) → parent_of (slice_get groups c) ≡ Some parent → (levels : List (Level C))
      → AreNested groups levels → (n : ℕ) (inside : IsLevelOf c levels n)
      → MayTry groups talks own (suc j) levels → (i e : ℕ) (at : IsLevelOf e (take (n + 1) levels) i) → (i ≡ n) ⊎ (i ≡ n → ⊥)
      → IsPresent (talks_after groups talks own c j nested own_at first_again) e at.level ⊎ IsSpentAt groups e (take (j + 1) own) j
  spent_at parent around levels levels_nested n inside may i e at (inl same) =
      let found : (i < n + 1) × (slice_get levels i ≡ Some at.level) = get_take (n + 1) levels i at.level at.there in
      let of_c : c ≡ e = one_conversation c e n levels inside
      (subst (λ (x : ℕ). IsLevelOf e levels x) same (record { level = at.level; there = found.1; of_it = at.of_it })) in
      inr (subst (λ (x : ℕ). IsSpentAt groups x (take (j + 1) own) j) of_c (record { parent = parent; around = around; level = own_taken }))
  spent_at parent around levels levels_nested n inside may i e at (inr other) =
      let found : (i < n + 1) × (slice_get levels i ≡ Some at.level) = get_take (n + 1) levels i at.level at.there in
      inl (present_further groups talks own c j nested own_at first_again levels levels_nested n inside may i e
      (record { level = at.level; there = found.1; of_it = at.of_it }) (further_out i n found.0 other (cases_lt i n)))

  pub may_spent : (parent : ℕ) → parent_of (slice_get groups c) ≡ Some parent → (levels : List (Level C))
      → AreNested groups levels → (n : ℕ) (inside : IsLevelOf c levels n)
      → MayTry groups talks own (suc j) levels
      → MayTry groups (talks_after groups talks own c j nested own_at first_again) (take (j + 1) own) j (take (n + 1) levels)
  may_spent parent around levels levels_nested n inside may i e at = spent_at parent around levels levels_nested n inside may i e at (cases_eq i n)
