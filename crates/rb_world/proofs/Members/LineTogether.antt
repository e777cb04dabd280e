-- At a passed test line all members stand, all of them leave, and none is inside any more.
use Rattle.std.proofs.Common.{◌≡◌, ◌≢◌, ◌⊎◌, inl, inr, ℕ, nat_eq, Bool, true, false, cond, List, option_map, slice_get, Option, Some, None, refl, sym, ap, ◌∙◌, subst, true≢false}
use Rattle.std.specs.List.{list_any}
use Rattle.std.proofs.lemmas.Bool.{cases_eq}
use Rattle.rb_base.specs.declared.event.Event.TheVariants.{Pass}
use Rattle.rb_world.specs.Kind.{Kind}
use Rattle.rb_world.specs.World.{Level, Process, World, is_inside, is_of, last_of, levels_of, settled, without_last}
use Rattle.rb_world.specs.Turn.{all_leave, all_stand, is_last_of, leaves, members_of, passed, stands_at, stands_now, stands_there, turn_used}
use Rattle.rb_world.specs.Nested.{AreNested, IsLevelOf}
use Rattle.rb_world.specs.Together.{AllCome, IsEmpty}
use Rattle.rb_world.proofs.TurnFacts.{RunsAt, come_to_stand}
use Rattle.rb_world.proofs.ListFacts.{second_holds, slice_get-change_at, some_same, slice_get-change_other}
use Rattle.rb_world.proofs.Members.PlaceFacts.{inside_level, of_passes, passes_of}
use Rattle.rb_world.proofs.Members.Outcomes.{counted}
use Rattle.rb_world.proofs.Members.Together.{AllPass, AllStay, IsOrdered, Together}
use Rattle.rb_world.proofs.Members.CountedTurns.{carries_same, counted_keeps, counted_other, counted_there, keeps_on, level_used, nested_used, own_keeps}
use Rattle.rb_world.proofs.Members.PassTogether.{LastAt, all_pass, last_at, last_used, leave_keeps, left_not_inside, map_found}

module _ {S C M : Type 0} (k : Kind S C M) (p : ℕ) (q : Process S C) (w : World S C M) (runs : RunsAt p q w)
    (ordered : IsOrdered k w) (s : S) (m : M) where
  -- the world in which p came to the line
  abbrev stood : World S C M
  stood = come_to_stand p (turn_used q).levels (counted p q w) (s, m)

  stood_there : slice_get stood.processes p ≡ Some (stands_now s (turn_used q).levels)
  stood_there =
      slice_get-change_at p (λ _. stands_now s (turn_used q).levels) (counted p q w).processes
      ∙ ap (option_map (λ _. stands_now s (turn_used q).levels)) (counted_there k p q w runs)

  stood_other : (r : ℕ) → r ≢ p → slice_get stood.processes r ≡ slice_get w.processes r
  stood_other r other =
      slice_get-change_other p (λ _. stands_now s (turn_used q).levels) (counted p q w).processes r other ∙ counted_other k p q w runs r other

  -- what holds of the levels of each process before the turn holds there
  stood_each_at : (P : ℕ → List (Level C) → Type 0)
      → ((r : ℕ) (y : Process S C) → slice_get w.processes r ≡ Some y → P r y.levels) → P p (turn_used q).levels
      → (r : ℕ) (y : Process S C) → slice_get stood.processes r ≡ Some y → (r ≡ p) ⊎ (r ≡ p → ⊥) → P r y.levels
  stood_each_at P each own r y here (inl same) =
      let is : stands_now s (turn_used q).levels ≡ y = some_same (sym stood_there ∙ (ap (slice_get stood.processes) (sym same) ∙ here)) in
      subst (λ (n : ℕ). P n y.levels) (sym same) (subst (λ (z : Process S C). P p z.levels) is own)
  stood_each_at P each own r y here (inr other) = each r y (sym (stood_other r other) ∙ here)

  stood_nested : (r : ℕ) (y : Process S C) → slice_get stood.processes r ≡ Some y → AreNested k.groups y.levels
  stood_nested r y here =
      stood_each_at (λ _ levels. AreNested k.groups levels) ordered.nested
      (nested_used k.groups q.levels (ordered.nested p q runs.there)) r y here (cases_eq r p)

  abbrev IsMember : ℕ → ℕ → Type 0
  IsMember c r = list_any (nat_eq r) (members_of (slice_get k.groups c)) ≡ true

  stood_member : (c r i : ℕ) (y : Process S C) → slice_get stood.processes r ≡ Some y → IsLevelOf c y.levels i → IsMember c r
  stood_member c r i y here at =
      stood_each_at (λ n levels. (i : ℕ) → IsLevelOf c levels i → IsMember c n) (λ n z e j own. ordered.members n j c z e own)
      (λ j own. ordered.members p j c q runs.there (level_used c q.levels j own)) r y here (cases_eq r p) i at

  -- where all stand, who does not stand at the line is not inside
  not_standing : (c r : ℕ) (y : Process S C) → all_stand k c stood ≡ true → slice_get stood.processes r ≡ Some y → stands_at c y ≡ false
      → (inside : Bool) → is_inside c y ≡ inside → is_inside c y ≡ false
  not_standing c r y all here away true is =
      let found : (n : ℕ) × IsLevelOf c y.levels n = inside_level c y.levels is in
      let there : stands_there c (slice_get stood.processes r) ≡ true =
      all_pass (λ n. stands_there c (slice_get stood.processes n)) r (members_of (slice_get k.groups c)) all
      (stood_member c r found.0 y here found.1) in
      absurd (true≢false (sym there ∙ (ap (stands_there c) here ∙ away)))
  not_standing c r y all here away false is = is

  -- who leaves is not inside any more
  last_left : (c r : ℕ) (y : Process S C) → slice_get stood.processes r ≡ Some y → (last : Option (Level C))
      → last_of y.levels ≡ last → is_last_of c last ≡ true
      → list_any (is_of c) (without_last y.levels) ≡ false
  last_left c r y here None e is = absurd (true≢false (sym is))
  last_left c r y here (Some level) e is =
      left_not_inside k c y.levels level (stood_nested r y here) e (passes_of c level is) (list_any (is_of c) (without_last y.levels)) refl

  -- so nobody is after they left
  left_at : (c r : ℕ) (y : Process S C) → all_stand k c stood ≡ true → slice_get stood.processes r ≡ Some y → (there : Bool) → stands_at c y ≡ there
      → is_inside c (cond there (settled k (k.accept y.state) (without_last y.levels)) y) ≡ false
  left_at c r y all here true stands = last_left c r y here (last_of y.levels) refl (second_holds y.at_line (is_last_of c (last_of y.levels)) stands)
  left_at c r y all here false away = not_standing c r y all here away (is_inside c y) refl

  all_left : (c : ℕ) → all_stand k c stood ≡ true → IsEmpty c (all_leave k c stood)
  all_left c all r z after =
      let found : (y : Process S C) × (slice_get stood.processes r ≡ Some y) × (leaves k c y ≡ z) =
      map_found (leaves k c) stood.processes r z after in
      ap (is_inside c) (sym found.2) ∙ left_at c r found.0 all found.1 (stands_at c found.0) refl

  -- all members had come
  have_come : (c : ℕ) (level : Level C) → last_of (turn_used q).levels ≡ Some level → level.facts.conversation ≡ Some c
      → all_stand k c stood ≡ true → AllCome k c p w
  have_come c level last of_c all =
      let end : LastAt (turn_used q).levels level = last_at (turn_used q).levels level last in
      record {
        others = λ n member other.
            ap (stands_there c) (sym (stood_other n other))
            ∙ all_pass (λ n. stands_there c (slice_get stood.processes n)) n (members_of (slice_get k.groups c)) all member;
        member = ordered.members p end.at c q runs.there (level_used c q.levels end.at (record { level = level; there = end.there; of_it = of_c }));
        here = ap (λ (o : Option (Process S C)). is_last_of c (last_of (levels_of o))) runs.there
            ∙ (sym (last_used c q.levels) ∙ (ap (is_last_of c) last ∙ of_passes c level of_c));
      }

  -- the levels of each conversation
  pass_together_at : (c d alternate : ℕ) (level : Level C) → last_of (turn_used q).levels ≡ Some level
      → level.facts.conversation ≡ Some d → all_stand k d stood ≡ true
      → (c ≡ d) ⊎ (c ≡ d → ⊥) → Together k c p w (passed (Pass d alternate) (all_leave k d stood))
  pass_together_at c d alternate level last of_d all (inl same) =
      subst (λ (e : ℕ). Together k e p w (passed (Pass d alternate) (all_leave k d stood))) (sym same)
      (AllPass alternate refl (have_come d level last of_d all) (all_left d all))
  pass_together_at c d alternate level last of_d all (inr other) =
      AllStay (keeps_on c w (counted p q w) (all_leave k d stood) (counted_keeps c p q w runs)
      (keeps_on c (counted p q w) stood (all_leave k d stood)
      (own_keeps c p (turn_used q) (λ _. stands_now s (turn_used q).levels) (counted p q w) (counted_there k p q w runs)
      (carries_same c (turn_used q).levels))
      (leave_keeps k c d stood other)))

  -- what a passed test line does to the levels of each conversation
  pub pass_together : (c d alternate : ℕ) (level : Level C) → last_of (turn_used q).levels ≡ Some level
      → level.facts.conversation ≡ Some d → all_stand k d stood ≡ true
      → Together k c p w (passed (Pass d alternate) (all_leave k d stood))
  pass_together c d alternate level last of_d all = pass_together_at c d alternate level last of_d all (cases_eq c d)
