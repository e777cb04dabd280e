-- Levels that try an alternate that they have, and what a turn changes of the levels of one process.
use Rattle.std.proofs.Common.{◌≡◌, ◌<◌, ◌+◌, ℕ, Bool, true, false, cond, List, [], ◌∷◌, ◌++◌, map, position, slice_get, Option, Some, None, sym, ◌∙◌, subst, refl, arith}
use Rattle.rb_base.specs.declared.event.Cause.TheVariants.{Inner}
use Rattle.rb_world.specs.Kind.{Kind}
use Rattle.rb_world.specs.World.{Level, Process, change_at, is_inside, is_of, settled, without_last}
use Rattle.rb_world.specs.Reject.{at_place, back_to, fallen, fallen_inside, next_alternate, put_back, raised, where_inside}
use Rattle.rb_world.specs.Turn.{leaves, one_used, stands_at}
use Rattle.rb_world.specs.Standing.{Each}
use Rattle.rb_world.specs.Nested.{IsLevelOf}
use Rattle.rb_world.proofs.ListFacts.{Each-change_at, Each-map, none_some, some_same}
use Rattle.rb_world.proofs.LevelFacts.{IsNew, IsOld, IsOldOrNew, get_more, get_take, get_without_last, level_at_place}
use Rattle.rb_recovery.specs.Known.{IsTried}

-- each of these levels tries an alternate that it has
abbrev pub AreTried : {C : Type 0} → List (Level C) → Type 0
AreTried {C} levels = Each (λ _ (level : Level C). IsTried level) levels

-- these levels stand among others at the same numbers
abbrev pub AreAmong : {C : Type 0} → List (Level C) → List (Level C) → Type 0
AreAmong {C} levels old = (i : ℕ) (level : Level C) → slice_get levels i ≡ Some level → slice_get old i ≡ Some level

-- one more alternate may be tried
abbrev pub HasNext : {C : Type 0} → Level C → Type 0
HasNext level = level.alternate < level.facts.alternates

module _ {C : Type 0} where
  pub none_tried : AreTried {C = C} []
  none_tried i level e = absurd (none_some e)

  pub among_tried : (levels old : List (Level C)) → AreAmong levels old → AreTried old → AreTried levels
  among_tried levels old among tried i level e = tried i level (among i level e)

  -- turns used change no alternate
  pub used_tried : (levels : List (Level C)) → AreTried levels → AreTried (map one_used levels)
  used_tried levels tried =
      Each-map (λ _ (level : Level C). IsTried level) one_used levels tried (λ _ level _ is. record { first = is.first; last = is.last })

  pub front_tried : (levels : List (Level C)) → AreTried levels → AreTried (without_last levels)
  front_tried levels tried i level e = tried i level (get_without_last levels i level e)

  -- one of the old levels, or the new one
  old_or_new_tried : (levels : List (Level C)) (new : Level C) (i : ℕ) (level : Level C) → IsOldOrNew levels new i level → AreTried levels
      → IsTried new → IsTried level
  old_or_new_tried levels new i level (IsOld e) tried is = tried i level e
  old_or_new_tried levels new i level (IsNew e same) tried is = subst (λ (l : Level C). IsTried l) same is

  pub more_tried : (levels : List (Level C)) (new : Level C) → AreTried levels → IsTried new → AreTried (levels ++ new ∷ [])
  more_tried levels new tried is i level e = old_or_new_tried levels new i level (get_more levels new i level e) tried is

  -- the next alternate is there
  pub next_tried : (j : ℕ) (levels : List (Level C)) → AreTried levels → ((level : Level C) → slice_get levels j ≡ Some level → HasNext level)
      → AreTried (change_at j next_alternate levels)
  next_tried j levels tried next =
      Each-change_at (λ _ (level : Level C). IsTried level) j next_alternate levels tried
      (λ level e. record { first = omega arith; last = omega (arith, next level e) })

module _ {S C M : Type 0} (k : Kind S C M) where
  -- who is put back keeps some of its levels
  back_to_among : (j : ℕ) (q : Process S C) (level : Option (Level C)) → AreAmong (back_to k j q level).levels q.levels
  back_to_among j q None i level e = e
  back_to_among j q (Some one) i level e = (get_take (j + 1) q.levels i level e).1

  pub back_among : (j : ℕ) (q : Process S C) → AreAmong (put_back k j q).levels q.levels
  back_among j q = back_to_among j q (slice_get q.levels j)

  at_place_among : (place : Option ℕ) (q : Process S C) → AreAmong (at_place (put_back k) place q).levels q.levels
  at_place_among None q i level e = e
  at_place_among (Some j) q i level e = back_among j q i level e

  pub inside_among : (c : ℕ) (q : Process S C) → AreAmong (where_inside (put_back k) c q).levels q.levels
  inside_among c q = at_place_among (position (is_of c) q.levels) q

  -- who leaves a test line, and who falls
  left_tried : (q : Process S C) (there : Bool) → AreTried q.levels
      → AreTried (cond there (settled k (k.accept q.state) (without_last q.levels)) q).levels
  left_tried q true tried = front_tried q.levels tried
  left_tried q false tried = tried

  pub leaves_tried : (c : ℕ) (q : Process S C) → AreTried q.levels → AreTried (leaves k c q).levels
  leaves_tried c q = left_tried q (stands_at c q)

  fallen_tried : (q : Process S C) (inside : Bool) → AreTried q.levels → AreTried (cond inside (fallen k Inner q) q).levels
  fallen_tried q true tried = none_tried
  fallen_tried q false tried = tried

  pub fallen_inside_tried : (c : ℕ) (q : Process S C) → AreTried q.levels → AreTried (fallen_inside k c q).levels
  fallen_inside_tried c q = fallen_tried q (is_inside c q)

-- whose level of a conversation has a next alternate goes on to it
module _ {S C : Type 0} (c : ℕ) (q : Process S C) (tried : AreTried q.levels) (next : (n : ℕ) (at : IsLevelOf c q.levels n) → HasNext at.level) where
  next_at_place : (place : Option ℕ) → position (is_of c) q.levels ≡ place → AreTried (at_place raised place q).levels
  next_at_place None is = tried
  next_at_place (Some n) is =
      let at = level_at_place c n q.levels is in
      next_tried n q.levels tried (λ level e. subst (λ (l : Level C). HasNext l) (some_same (sym at.there ∙ e)) (next n at))

  pub raised_tried : AreTried (where_inside raised c q).levels
  raised_tried = next_at_place (position (is_of c) q.levels) refl
