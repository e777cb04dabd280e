-- A turn that is counted at each level of a process leaves its levels nested, and the same but for their turns used.
use Rattle.std.proofs.Common.{◌≡◌, ◌≢◌, ◌⊎◌, inl, inr, ℕ, zero, suc, List, [], ◌∷◌, map, option_map, slice_get, Option, Some, None, refl, sym, ap, ◌∙◌, subst}
use Rattle.std.proofs.lemmas.Bool.{cases_eq}
use Rattle.rb_world.specs.Kind.{Kind, Membership}
use Rattle.rb_world.specs.World.{Level, Process, World, change_at, with_process}
use Rattle.rb_world.specs.Reject.{parent_of}
use Rattle.rb_world.specs.Turn.{one_used, turn_used}
use Rattle.rb_world.specs.Nested.{AreNested, HasOutside, IsLevelOf}
use Rattle.rb_world.proofs.TurnFacts.{RunsAt}
use Rattle.rb_world.proofs.ListFacts.{none_some, slice_get-change_at, some_same, slice_get-change_other}
use Rattle.rb_world.proofs.Members.Outcomes.{counted}
use Rattle.rb_world.proofs.Members.Cascade.{AllNested}
use Rattle.rb_world.proofs.Members.Together.{Carries, Keeps, unused}

module _ {C : Type 0} where
  -- a level that has used one turn more is of the same conversation
  pub used_level : (c : ℕ) (levels : List (Level C)) (i : ℕ) → IsLevelOf c levels i → IsLevelOf c (map one_used levels) i
  used_level c [] i at = absurd (none_some at.there)
  used_level c (l ∷ levels) zero at =
      record { level = one_used l; there = refl; of_it = ap (λ (x : Level C). x.facts.conversation) (some_same at.there) ∙ at.of_it }
  used_level c (l ∷ levels) (suc i) at =
      let further : IsLevelOf c (map one_used levels) i = used_level c levels i (record { level = at.level; there = at.there; of_it = at.of_it }) in
      record { level = further.level; there = further.there; of_it = further.of_it }

  -- and it was before
  pub level_used : (c : ℕ) (levels : List (Level C)) (i : ℕ) → IsLevelOf c (map one_used levels) i → IsLevelOf c levels i
  level_used c [] i at = absurd (none_some at.there)
  level_used c (l ∷ levels) zero at =
      record { level = l; there = refl; of_it = ap (λ (x : Level C). x.facts.conversation) (some_same at.there) ∙ at.of_it }
  level_used c (l ∷ levels) (suc i) at =
      let further : IsLevelOf c levels i = level_used c levels i (record { level = at.level; there = at.there; of_it = at.of_it }) in
      record { level = further.level; there = further.there; of_it = further.of_it }

  outside_used : (parent : Option ℕ) (levels : List (Level C)) (i : ℕ) → HasOutside parent levels i → HasOutside parent (map one_used levels) i
  outside_used None levels i e = e
  outside_used (Some d) levels zero none = absurd none
  outside_used (Some d) levels (suc j) out = used_level d levels j out

  -- so levels that have used one turn more are nested
  pub nested_used : (groups : List Membership) (levels : List (Level C)) → AreNested groups levels → AreNested groups (map one_used levels)
  nested_used groups levels nested i c at =
      outside_used (parent_of (slice_get groups c)) levels i (nested i c (level_used c levels i at))

  -- levels that carry a conversation's
  pub carries_same : (c : ℕ) (levels : List (Level C)) → Carries c levels levels
  carries_same c levels i at = (at.level, at.there, refl)

  -- a conversation's level that is carried twice is carried
  pub carries_on : (c : ℕ) (levels later last : List (Level C)) → Carries c levels later → Carries c later last → Carries c levels last
  carries_on c levels later last first next i at =
      let one : (level : Level C) × (slice_get later i ≡ Some level) × (unused level ≡ unused at.level) = first i at in
      let other : (level : Level C) × (slice_get last i ≡ Some level) × (unused level ≡ unused one.0) =
      next i (record { level = one.0; there = one.1; of_it = ap (λ (l : Level C). l.facts.conversation) one.2 ∙ at.of_it }) in
      (other.0, other.1, other.2 ∙ one.2)

  -- levels that have used one turn more carry those of each conversation
  pub carries_used : (c : ℕ) (levels : List (Level C)) → Carries c levels (map one_used levels)
  carries_used c [] i at = absurd (none_some at.there)
  carries_used c (l ∷ levels) zero at = (one_used l, refl, ap unused (some_same at.there))
  carries_used c (l ∷ levels) (suc i) at = carries_used c levels i (record { level = at.level; there = at.there; of_it = at.of_it })

module _ {S C M : Type 0} (k : Kind S C M) (p : ℕ) (q : Process S C) (w : World S C M) (runs : RunsAt p q w) where
  -- p in the world in which its turn was counted
  pub counted_there : slice_get (counted p q w).processes p ≡ Some (turn_used q)
  counted_there = slice_get-change_at p (λ _. turn_used q) w.processes ∙ ap (option_map (λ _. turn_used q)) runs.there

  -- every other process is as it was
  pub counted_other : (r : ℕ) → r ≢ p → slice_get (counted p q w).processes r ≡ slice_get w.processes r
  counted_other r other = slice_get-change_other p (λ _. turn_used q) w.processes r other

  -- it has nested levels too
  counted_nested_at : AllNested k w → (r : ℕ) (x : Process S C) → slice_get (counted p q w).processes r ≡ Some x
      → (r ≡ p) ⊎ (r ≡ p → ⊥) → AreNested k.groups x.levels
  counted_nested_at nested r x e (inl same) =
      let own : turn_used q ≡ x = some_same (sym counted_there ∙ (ap (slice_get (counted p q w).processes) (sym same) ∙ e)) in
      subst (λ (y : Process S C). AreNested k.groups y.levels) own (nested_used k.groups q.levels (nested p q runs.there))
  counted_nested_at nested r x e (inr other) = nested r x (sym (counted_other r other) ∙ e)

  -- so all levels are nested there
  pub counted_nested : AllNested k w → AllNested k (counted p q w)
  counted_nested nested r x e = counted_nested_at nested r x e (cases_eq r p)

-- who keeps a level in one world, and then in the next, keeps it
pub keeps_on : {S C M : Type 0} (c : ℕ) (w v later : World S C M) → Keeps c w v → Keeps c v later → Keeps c w later
keeps_on {S} {C} {M} c w v later first next r q e =
    let one : (now : Process S C) × (slice_get v.processes r ≡ Some now) × Carries c q.levels now.levels = first r q e in
    let other : (now : Process S C) × (slice_get later.processes r ≡ Some now) × Carries c one.0.levels now.levels = next r one.0 one.1 in
    (other.0, other.1, carries_on c q.levels one.0.levels other.0.levels one.2 other.2)

-- p alone is changed
own_keeps_at : {S C M : Type 0} (c p : ℕ) (q : Process S C) (f : Process S C → Process S C) (w : World S C M)
    → slice_get w.processes p ≡ Some q → Carries c q.levels (f q).levels
    → (r : ℕ) (x : Process S C) → slice_get w.processes r ≡ Some x → (r ≡ p) ⊎ (r ≡ p → ⊥)
    → (now : Process S C) × (slice_get (change_at p f w.processes) r ≡ Some now) × Carries c x.levels now.levels
own_keeps_at {S} {C} {M} c p q f w there carries r x e (inl same) =
    let own : q ≡ x = some_same (sym there ∙ (ap (slice_get w.processes) (sym same) ∙ e)) in (
      f q,
      ap (slice_get (change_at p f w.processes)) same ∙ (slice_get-change_at p f w.processes ∙ ap (option_map f) there),
      subst (λ (y : Process S C). Carries c y.levels (f q).levels) own carries,
    )
own_keeps_at c p q f w there carries r x e (inr other) = (x, slice_get-change_other p f w.processes r other ∙ e, carries_same c x.levels)

-- who is inside a conversation keeps its level where p alone was changed, and keeps its own
pub own_keeps : {S C M : Type 0} (c p : ℕ) (q : Process S C) (f : Process S C → Process S C) (w : World S C M) → slice_get w.processes p ≡ Some q
    → Carries c q.levels (f q).levels → Keeps c w (with_process p f w)
own_keeps c p q f w there carries r x e = own_keeps_at c p q f w there carries r x e (cases_eq r p)

-- so all levels are kept where a turn is counted
pub counted_keeps : {S C M : Type 0} (c p : ℕ) (q : Process S C) (w : World S C M) → RunsAt p q w → Keeps c w (counted p q w)
counted_keeps c p q w runs = own_keeps c p q (λ _. turn_used q) w runs.there (carries_used c q.levels)
