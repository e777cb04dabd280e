-- Whoever is put back stands away from every line: the process whose level is rejected, and all that are inside its conversation.
use Rattle.std.proofs.Common.{◌≡◌, ℕ, true, false, option_map, position, slice_get, Option, Some, None, refl, sym, ap, ◌∙◌, subst}
use Rattle.std.proofs.lemmas.Option.{slice_get-map}
use Rattle.rb_world.specs.Kind.{Kind}
use Rattle.rb_world.specs.World.{Level, Process, World, is_inside, is_of, levels_of, process_levels, with_process}
use Rattle.rb_world.specs.Reject.{all_back, at_place, back_to, put_back, where_inside}
use Rattle.rb_world.specs.Nested.{IsLevelOf}
use Rattle.rb_world.proofs.ListFacts.{none_some, some_same, slice_get-change_at}
use Rattle.rb_world.proofs.LevelFacts.{any_level, level_at_place, no_place}

-- process p, if it is there, stands at no line
abbrev pub StandsAway : {S C M : Type 0} → ℕ → World S C M → Type 0
StandsAway {S} {C} p w = (q : Process S C) → slice_get w.processes p ≡ Some q → q.at_line ≡ false

-- and so does everyone inside conversation c
abbrev pub AllAway : {S C M : Type 0} → ℕ → World S C M → Type 0
AllAway {S} {C} c w = (i : ℕ) (q : Process S C) → slice_get w.processes i ≡ Some q → is_inside c q ≡ true → q.at_line ≡ false

module _ {S C M : Type 0} (k : Kind S C M) where
  back_to_away : (j : ℕ) (q : Process S C) (level : Level C) (found : Option (Level C)) → found ≡ Some level → (back_to k j q found).at_line ≡ false
  back_to_away j q level None e = absurd (none_some e)
  back_to_away j q level (Some l) e = refl

  -- who has the level to which it is put back
  put_back_away : (j : ℕ) (q : Process S C) (level : Level C) → slice_get q.levels j ≡ Some level → (put_back k j q).at_line ≡ false
  put_back_away j q level e = back_to_away j q level (slice_get q.levels j) e

  -- who has a level of the conversation
  inside_away : (c : ℕ) (q : Process S C) (place : Option ℕ) → position (is_of c) q.levels ≡ place → is_inside c q ≡ true
      → (at_place (put_back k) place q).at_line ≡ false
  inside_away c q None e inside = absurd (no_place (is_of c) q.levels inside e)
  inside_away c q (Some j) e inside =
      let at : IsLevelOf c q.levels j = level_at_place c j q.levels e in
      put_back_away j q at.level at.there

  still_inside : (c : ℕ) (q : Process S C) (place : Option ℕ) → position (is_of c) q.levels ≡ place
      → is_inside c (at_place (put_back k) place q) ≡ true
      → (at_place (put_back k) place q).at_line ≡ false
  still_inside c q None e inside = absurd (no_place (is_of c) q.levels inside e)
  still_inside c q (Some j) e inside =
      let at : IsLevelOf c q.levels j = level_at_place c j q.levels e in
      put_back_away j q at.level at.there

  -- a process of a list that was changed comes from the one that was there
  level_there : (o : Option (Process S C)) (j : ℕ) (level : Level C) → slice_get (levels_of o) j ≡ Some level
      → (q : Process S C) × (o ≡ Some q) × (slice_get q.levels j ≡ Some level)
  level_there None j level e = absurd (none_some e)
  level_there (Some q) j level e = (q, refl, e)

  -- the process whose private level is rejected
  pub away_alone : (p j : ℕ) (w : World S C M) (level : Level C) → slice_get (process_levels w p) j ≡ Some level
      → StandsAway p (with_process p (put_back k j) w)
  away_alone p j w level there q' e =
      let found = level_there (slice_get w.processes p) j level there in
      subst (λ (z : Process S C). z.at_line ≡ false)
      (some_same (sym (slice_get-change_at p (put_back k j) w.processes ∙ ap (option_map (put_back k j)) found.1) ∙ e))
      (put_back_away j found.0 level found.2)

  -- the process whose level of a conversation is rejected
  pub away_together : (p j c : ℕ) (w : World S C M) (level : Level C) → slice_get (process_levels w p) j ≡ Some level
      → level.facts.conversation ≡ Some c
      → StandsAway p (all_back k c w)
  away_together p j c w level there of_c q' e =
      let found = level_there (slice_get w.processes p) j level there in
      subst (λ (z : Process S C). z.at_line ≡ false)
      (some_same (sym (slice_get-map (where_inside (put_back k) c) w.processes p ∙ ap (option_map (where_inside (put_back k) c)) found.1) ∙ e))
      (inside_away c found.0 (position (is_of c) found.0.levels) refl
      (any_level c j found.0.levels (record { level = level; there = found.2; of_it = of_c })))

  back_inside : (c : ℕ) (o : Option (Process S C)) (q' : Process S C) → option_map (where_inside (put_back k) c) o ≡ Some q'
      → is_inside c q' ≡ true → q'.at_line ≡ false
  back_inside c None q' e inside = absurd (none_some e)
  back_inside c (Some q) q' e inside =
      subst (λ (z : Process S C). z.at_line ≡ false) (some_same e)
      (still_inside c q (position (is_of c) q.levels) refl (subst (λ (z : Process S C). is_inside c z ≡ true) (sym (some_same e)) inside))

  -- everyone inside
  pub away_inside : (c : ℕ) (w : World S C M) → AllAway c (all_back k c w)
  away_inside c w i q' e inside =
      back_inside c (slice_get w.processes i) q' (sym (slice_get-map (where_inside (put_back k) c) w.processes i) ∙ e) inside
