-- One step of a cascade: what becomes of each process when a level of p, or a conversation, is put back.
use Rattle.std.proofs.Common.{◌≡◌, ◌≢◌, ◌⊎◌, inl, inr, ◌<◌, ◌+◌, ℕ, zero, suc, pred, Bool, true, false, List, length, option_map, position, slice_get, take, Option, Some, None, refl, sym, ap, ◌∙◌, subst, true≢false, add-one, arith}
use Rattle.std.proofs.lemmas.Bool.{cases_eq}
use Rattle.std.proofs.lemmas.Option.{slice_get-map}
use Rattle.rb_world.specs.Kind.{Kind, Membership}
use Rattle.rb_world.specs.World.{Level, Process, World, change_at, is_inside, is_of, with_process}
use Rattle.rb_world.specs.Reject.{at_place, back_to, next_alternate, parent_of, put_back, raised, where_inside}
use Rattle.rb_world.specs.Nested.{AreNested, HasOutside, IsLevelOf}
use Rattle.rb_world.specs.Together.{IsOutside}
use Rattle.rb_world.proofs.TurnFacts.{all_spent}
use Rattle.rb_world.proofs.ListFacts.{length-change_at, slice_get-change_at, some_same, slice_get-change_other}
use Rattle.rb_world.proofs.Keeping.NestedSame.{same_number}
use Rattle.rb_world.proofs.LevelFacts.{any_level, one_conversation}
use Rattle.rb_world.proofs.Members.PlaceFacts.{inside_level, length-take_to, of_passes, passes_of, position_first, position_none, slice_get-take}
use Rattle.rb_world.proofs.Members.Cascade.{AllNested, HasCome, IsBackAt, IsLast, NoneYet, Now, OneBefore}

-- levels that agree with nested ones as far as a conversation's level have it as their first of the conversation
not_before : {C : Type 0} (groups : List Membership) (c i j : ℕ) (levels : List (Level C)) (level : Level C)
    → AreNested groups levels → IsLevelOf c levels j
    → i < j → slice_get levels i ≡ Some level → (of_it : Bool) → is_of c level ≡ of_it → is_of c level ≡ false
not_before groups c i j levels level nested at below there true e =
    let same : i ≡ j =
    same_number groups levels levels nested nested c i j (record { level = level; there = there; of_it = passes_of c level e }) at in
    absurd (omega arith)
not_before groups c i j levels level nested at below there false e = e

-- so the first level of the conversation there is the one at that number
pub place_found : {C : Type 0} (groups : List Membership) (c j : ℕ) (levels xs : List (Level C)) → AreNested groups levels → IsLevelOf c levels j
    → ((i : ℕ) → i < suc j → slice_get xs i ≡ slice_get levels i) → position (is_of c) xs ≡ Some j
place_found groups c j levels xs nested at agree =
    position_first (is_of c) xs j at.level (agree j (omega arith) ∙ at.there) (of_passes c at.level at.of_it)
    (λ i level below e. not_before groups c i j levels level nested at below (sym (agree i (omega arith)) ∙ e) (is_of c level) refl)

-- who is put back keeps the levels further out
back_to_outer : {S C M : Type 0} (k : Kind S C M) (j : ℕ) (q : Process S C) (level : Option (Level C)) (i : ℕ) → i < suc j
    → slice_get (back_to k j q level).levels i ≡ slice_get q.levels i
back_to_outer k j q None i below = refl
back_to_outer k j q (Some level) i below = slice_get-take (j + 1) q.levels i (omega arith)

-- the same of a process that is put back to a level number
pub put_back_outer : {S C M : Type 0} (k : Kind S C M) (j : ℕ) (q : Process S C) (i : ℕ) → i < suc j
    → slice_get (put_back k j q).levels i ≡ slice_get q.levels i
put_back_outer k j q i below = back_to_outer k j q (slice_get q.levels j) i below

-- and goes on to the next alternate
pub is_back : {S C M : Type 0} (k : Kind S C M) (j : ℕ) (q now : Process S C) (level : Level C) → slice_get q.levels j ≡ Some level
    → ((i : ℕ) → i < suc j → slice_get now.levels i ≡ slice_get q.levels i) → IsBackAt k j q level (raised j (put_back k j now))
is_back {S} {C} {M} k j q now level there agree =
    let here : slice_get now.levels j ≡ Some level = agree j (omega arith) ∙ there in
    subst (λ (o : Option (Level C)). IsBackAt k j q level (raised j (back_to k j now o))) (sym here)
    (record {
      innermost = length-change_at j next_alternate (take (j + 1) now.levels)
          ∙ (ap (λ (n : ℕ). length (take n now.levels)) (add-one j) ∙ length-take_to j now.levels here);
      outer = λ i below. slice_get-change_other j next_alternate (take (j + 1) now.levels) i (λ e. absurd (omega arith))
          ∙ (slice_get-take (j + 1) now.levels i (omega arith) ∙ agree i (omega arith));
      next = slice_get-change_at j next_alternate (take (j + 1) now.levels)
          ∙ ap (option_map next_alternate) (slice_get-take (j + 1) now.levels j (omega arith) ∙ here);
      left = k.cut (j + 1) now.state;
      state = refl;
      away = refl;
    })

-- a process is changed at its level of a conversation, or stays
pub changed_inside : {S C : Type 0} (f : ℕ → Process S C → Process S C) (c j : ℕ) (q : Process S C)
    → position (is_of c) q.levels ≡ Some j → where_inside f c q ≡ f j q
changed_inside f c j q e = ap (λ (o : Option ℕ). at_place f o q) e

-- who is not inside the conversation stays
pub stays_outside : {S C : Type 0} (f : ℕ → Process S C → Process S C) (c : ℕ) (q : Process S C) → is_inside c q ≡ false → where_inside f c q ≡ q
stays_outside f c q e = ap (λ (o : Option ℕ). at_place f o q) (position_none (is_of c) q.levels e)

-- where a process stands that may be inside the conversation of p's level number j
pub data Place {S C : Type 0} (c j p r : ℕ) (q now : Process S C) : Type 0 where
  InsideIt : IsLevelOf c q.levels j → ((i : ℕ) → i < suc j → slice_get now.levels i ≡ slice_get q.levels i) → Place c j p r q now
  OutsideIt : is_inside c q ≡ false → r ≢ p → now ≡ q → Place c j p r q now

outside_at : {C : Type 0} (groups : List Membership) (levels : List (Level C)) (i d : ℕ) → HasOutside (Some d) levels i
    → (j : ℕ) × (i ≡ suc j) × IsLevelOf d levels j
outside_at groups levels zero d none = absurd none
outside_at groups levels (suc j) d out = (j, refl, out)

-- who is inside a conversation is inside the one right around it
pub inside_parent : {C : Type 0} (groups : List Membership) (levels : List (Level C)) (i c d : ℕ) → AreNested groups levels → IsLevelOf c levels i
    → parent_of (slice_get groups c) ≡ Some d → (j : ℕ) × (i ≡ suc j) × IsLevelOf d levels j
inside_parent groups levels i c d nested at parent =
    outside_at groups levels i d (subst (λ (o : Option ℕ). HasOutside o levels i) parent (nested i c at))

module _ {S C M : Type 0} (k : Kind S C M) (p : ℕ) (u : Process S C) (v : World S C M)
    (there : slice_get v.processes p ≡ Some u) (nested : AllNested k v) where
  -- who is outside the conversation that is put back now was outside the last one
  not_inside_last : (c d j : ℕ) (q : Process S C) → AreNested k.groups q.levels → parent_of (slice_get k.groups c) ≡ Some d → is_inside d q ≡ false
      → (inside : Bool) → is_inside c q ≡ inside → is_inside c q ≡ false
  not_inside_last c d j q levels parent outside true e =
      let at : (i : ℕ) × IsLevelOf c q.levels i = inside_level c q.levels e in
      let around : (i : ℕ) × (at.0 ≡ suc i) × IsLevelOf d q.levels i = inside_parent k.groups q.levels at.0 c d levels at.1 parent in
      absurd (true≢false (sym (any_level d around.0 q.levels around.2) ∙ outside))
  not_inside_last c d j q levels parent outside false e = e

  outside_last : (c j : ℕ) (last : Option ℕ) (q : Process S C) → IsLast k.groups u.levels (suc j) last
      → IsLevelOf c u.levels j → AreNested k.groups q.levels
      → is_inside c q ≡ false → IsOutside last q
  outside_last c j last q (NoneYet e none) at levels outside = subst (λ (o : Option ℕ). IsOutside o q) (sym e) tt
  outside_last c j last q (OneBefore b d i e left parent around) at levels outside =
      let same : d ≡ c = one_conversation d c j u.levels (subst (λ (n : ℕ). IsLevelOf d u.levels n) (sym (ap pred left)) around) at in
      subst (λ (o : Option ℕ). IsOutside o q) (sym e)
      (not_inside_last b c j q levels (parent ∙ ap Some same) outside (is_inside b q) refl)

  place_of : (c j r : ℕ) (last : Option ℕ) (q : Process S C) (w : World S C M) → IsLast k.groups u.levels (suc j) last → IsLevelOf c u.levels j
      → slice_get v.processes r ≡ Some q → (n : Now p (suc j) last r q w) → (inside : Bool) → is_inside c q ≡ inside → Place c j p r q n.now
  place_of c j r last q w is at here n true e =
      let found : (i : ℕ) × IsLevelOf c q.levels i = inside_level c q.levels e in
      InsideIt (subst (IsLevelOf c q.levels)
      (same_number k.groups q.levels u.levels (nested r q here) (nested p u there) c found.0 j found.1 at) found.1) n.outer
  place_of c j r last q w is at here n false e =
      let other : r ≢ p = λ (same : r ≡ p).
      let own : u ≡ q = some_same (sym there ∙ (ap (slice_get v.processes) (sym same) ∙ here)) in
      true≢false (sym (any_level c j u.levels at) ∙ (ap (is_inside c) own ∙ e)) in
      OutsideIt e other (n.same other (outside_last c j last q is at (nested r q here) e))

  -- every process is inside the conversation of p's level, at the same number, or outside it and as it was
  pub place : (c j r : ℕ) (last : Option ℕ) (q : Process S C) (w : World S C M) → IsLast k.groups u.levels (suc j) last → IsLevelOf c u.levels j
      → slice_get v.processes r ≡ Some q → (n : Now p (suc j) last r q w) → Place c j p r q n.now
  place c j r last q w is at here n = place_of c j r last q w is at here n (is_inside c q) refl

  -- a private level was put back
  private_now : (j r : ℕ) (last : Option ℕ) (q : Process S C) (w : World S C M) → Now p (suc j) last r q w → (r ≡ p) ⊎ (r ≡ p → ⊥)
      → Now p j last r q (with_process p (put_back k j) w)
  private_now j r last q w n (inl same) = record {
    now = put_back k j n.now;
    there = ap (slice_get (change_at p (put_back k j) w.processes)) same
        ∙ (slice_get-change_at p (put_back k j) w.processes ∙ ap (option_map (put_back k j)) (ap (slice_get w.processes) (sym same) ∙ n.there));
    outer = λ i below. put_back_outer k j n.now i (omega arith) ∙ n.outer i (omega arith);
    same = λ other. absurd (other same);
  }
  private_now j r last q w n (inr other) = record {
    now = n.now;
    there = slice_get-change_other p (put_back k j) w.processes r other ∙ n.there;
    outer = λ i below. n.outer i (omega arith);
    same = n.same;
  }

  -- so the cascade has come to the next level out
  pub private_come : (j : ℕ) (last : Option ℕ) (w : World S C M) → HasCome k p u v (suc j) last w → IsLast k.groups u.levels j last
      → HasCome k p u v j last (with_process p (put_back k j) w)
  private_come j last w come is = record {
    last_is = is;
    each = λ r q here. private_now j r last q w (come.each r q here) (cases_eq r p);
  }

  -- a conversation was put back, and is spent
  together_now : (c j r : ℕ) (last : Option ℕ) (q : Process S C) (w : World S C M) → slice_get v.processes r ≡ Some q → (n : Now p (suc j) last r q w)
      → Place c j p r q n.now → Now p j (Some c) r q (all_spent k c w)
  together_now c j r last q w here n (InsideIt at agree) = record {
    now = where_inside (put_back k) c n.now;
    there = slice_get-map (where_inside (put_back k) c) w.processes r ∙ ap (option_map (where_inside (put_back k) c)) n.there;
    outer = λ i below. ap (λ (x : Process S C). slice_get x.levels i)
        (changed_inside (put_back k) c j n.now (place_found k.groups c j q.levels n.now.levels (nested r q here) at agree))
        ∙ (put_back_outer k j n.now i (omega arith) ∙ n.outer i (omega arith));
    same = λ _ outside. absurd (true≢false (sym (any_level c j q.levels at) ∙ outside));
  }
  together_now c j r last q w here n (OutsideIt outside other same) = record {
    now = n.now;
    there = slice_get-map (where_inside (put_back k) c) w.processes r
        ∙ (ap (option_map (where_inside (put_back k) c)) n.there ∙ ap Some (stays_outside (put_back k) c n.now (ap (is_inside c) same ∙ outside)));
    outer = λ i below. n.outer i (omega arith);
    same = λ _ _. same;
  }

  -- so the cascade has come to the next level out, which is of the conversation right around
  pub together_come : (c j : ℕ) (last : Option ℕ) (w : World S C M) → HasCome k p u v (suc j) last w → IsLevelOf c u.levels j
      → IsLast k.groups u.levels j (Some c) → HasCome k p u v j (Some c) (all_spent k c w)
  together_come c j last w come at is = record {
    last_is = is;
    each = λ r q here. together_now c j r last q w here (come.each r q here) (place c j r last q w come.last_is at here (come.each r q here));
  }
