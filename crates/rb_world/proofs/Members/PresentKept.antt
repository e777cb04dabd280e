-- In every world of a run each open level of a conversation tries its present alternate: an invariant, under one of each process by
-- which levels are nested and are those of members.
use Rattle.std.proofs.Common.{◌≡◌, ◌≢◌, ◌≤◌, ◌+◌, ℕ, zero, suc, nat_eq, Bool, true, false, cond, List, [], ◌∷◌, ◌++◌, length, map, option_map, position, slice_get, take, Option, Some, None, refl, sym, ap, ◌∙◌, subst, add-one, true≢false, arith}
use Rattle.std.specs.List.{list_all, list_any}
use Rattle.std.proofs.lemmas.List.{length-map}
use Rattle.rb_base.specs.declared.event.Cause.{Cause}
use Rattle.rb_base.specs.declared.event.Cause.TheVariants.{Inner}
use Rattle.rb_world.specs.Kind.{Facts, Kind, Membership}
use Rattle.rb_world.specs.World.{Level, Process, Talk, World, change_at, goes_on, is_inside, is_of, last_of, settled, with_process, without_last}
use Rattle.rb_world.specs.Reject.{back_to, broken_talk, fallen, fallen_inside, first_again, next_alternate, next_talk, parent_of, put_back, raised, where_inside}
use Rattle.rb_world.specs.Turn.{Told, all_leave, all_stand, is_over, freed, is_last_of, leaves, members_of, new_level, one_used, opening, run, stands_at, stands_now, stands_there, turn_used}
use Rattle.rb_world.specs.Standing.{Each}
use Rattle.rb_world.specs.Nested.{AreNested, IsLevelOf}
use Rattle.rb_world.specs.Present.{IsPresent, TryPresent}
use Rattle.rb_world.proofs.TurnFacts.{Alone, Barred, IsEntry, Joining, MustFall, NoLevelLeft, RunsAt, all_broken, all_next, all_spent, come_to_stand}
use Rattle.rb_world.proofs.Keeping.Invariant.{Between, IsInvariantUnder, both_kept}
use Rattle.rb_world.proofs.Keeping.Induction.{run-keeps}
use Rattle.rb_world.proofs.Keeping.EachProcess.{KeepsEach, each_kept, settled_each}
use Rattle.rb_world.proofs.ListFacts.{Each-change_at, Each-map, none_some, second_holds, slice_get-change_at, slice_get-change_other, nothing_within, some_same}
use Rattle.rb_world.proofs.LevelFacts.{IsNew, IsOld, IsOldOrNew, any_level, get_more, get_without_last}
use Rattle.rb_world.proofs.Members.PlaceFacts.{inside_level, length-take_to, passes_of, slice_get-take}
use Rattle.rb_world.proofs.Members.CascadeSteps.{changed_inside, place_found, stays_outside}
use Rattle.rb_world.proofs.Members.Outcomes.{position_within}
use Rattle.rb_world.proofs.Members.PassTogether.{all_pass, left_not_inside, map_found}
use Rattle.rb_world.proofs.Members.PresentLevels.{IsSpentAt, MayTry, may_of, may_spent, none_beyond, none_outermost, none_private, present_next, present_of, present_outside, present_raised, present_taken, present_there, talks_after}

-- what is known of the levels of process r
pub record AreOrdered {C : Type 0} (groups : List Membership) (r : ℕ) (levels : List (Level C)) : Type 0 where
  pub nested : AreNested groups levels
  pub members : (i c : ℕ) → IsLevelOf c levels i → list_any (nat_eq r) (members_of (slice_get groups c)) ≡ true

module _ {S C M : Type 0} (k : Kind S C M) where
  -- before a turn and after it
  abbrev pub AllPresent : Between S C M
  AllPresent t past w = Each (λ r q. TryPresent w.talks q.levels) w.processes

  -- between the steps of a cascade of p
  pub record MostPresent (t : ℕ) (past : List Told) (p left : ℕ) (w : World S C M) : Type 0 where
    pub enough : (u : Process S C) → slice_get w.processes p ≡ Some u → left ≤ length u.levels
    pub each : (u : Process S C) → slice_get w.processes p ≡ Some u → Each (λ r q. MayTry k.groups w.talks u.levels left q.levels) w.processes

  -- nothing is spent, and so all are present
  all_present : (t : ℕ) (past : List Told) (p left : ℕ) (u : Process S C) (w : World S C M) → MostPresent t past p left w
      → slice_get w.processes p ≡ Some u
      → ((e : ℕ) → IsSpentAt k.groups e u.levels left → ⊥) → Each (λ r q. TryPresent w.talks q.levels) w.processes
  all_present t past p left u w most there none r q e = present_of k.groups w.talks q.levels u.levels left none (most.each u there r q e)

  -- turns used change no alternate
  present_used : (talks : List Talk) (levels : List (Level C)) → TryPresent talks levels → TryPresent talks (map one_used levels)
  present_used talks [] present i c at = absurd (none_some at.there)
  present_used talks (l ∷ levels) present zero c at =
      let same : one_used l ≡ at.level = some_same at.there in
      let was : IsPresent talks c l =
      present 0 c (record { level = l; there = refl; of_it = ap (λ (x : Level C). x.facts.conversation) same ∙ at.of_it }) in
      record { talk = was.talk; there = was.there; same = ap (λ (x : Level C). x.alternate) (sym same) ∙ was.same }
  present_used talks (l ∷ levels) present (suc i) c at =
      present_used talks levels (λ n d inner. present (suc n) d (record { level = inner.level; there = inner.there; of_it = inner.of_it })) i c
      (record { level = at.level; there = at.there; of_it = at.of_it })

  -- one process with new levels
  set_present : (p : ℕ) (q : Process S C) (w : World S C M) → Each (λ r x. TryPresent w.talks x.levels) w.processes → TryPresent w.talks q.levels
      → Each (λ r x. TryPresent w.talks x.levels) (change_at p (λ _. q) w.processes)
  set_present p q w holds new = Each-change_at (λ r x. TryPresent w.talks x.levels) p (λ _. q) w.processes holds (λ _ _. new)

  set_there : (p : ℕ) (q x : Process S C) (qs : List (Process S C)) → slice_get qs p ≡ Some x → slice_get (change_at p (λ _. q) qs) p ≡ Some q
  set_there p q x qs there = slice_get-change_at p (λ _. q) qs ∙ ap (option_map (λ _. q)) there

  -- a turn is counted
  uses : (t : ℕ) (past : List Told) (p : ℕ) (q : Process S C) (w : World S C M) → AllPresent t past w → RunsAt p q w
      → MostPresent t past p (length q.levels) (with_process p (λ _. turn_used q) w)
  uses t past p q w holds runs =
      let is : (u : Process S C) → slice_get (change_at p (λ _. turn_used q) w.processes) p ≡ Some u → turn_used q ≡ u =
      λ u there. some_same (sym (set_there p (turn_used q) q w.processes runs.there) ∙ there) in
      record {
        enough = λ u there. subst (λ (x : Process S C). length q.levels ≤ length x.levels) (is u there) (omega (arith, length-map q.levels one_used));
        each = λ u there r x e. may_of k.groups w.talks x.levels u.levels (length q.levels)
            (set_present p (turn_used q) w holds (present_used w.talks q.levels (holds p q runs.there)) r x e);
      }

  -- an entry, whose level tries the present alternate
  opened_at : (w : World S C M) (q : Process S C) (facts : Facts) (alternate : ℕ) (s : S) (i c : ℕ) (level : Level C)
      → level.facts.conversation ≡ Some c
      → IsOldOrNew q.levels (new_level k facts alternate s) i level → TryPresent w.talks q.levels
      → IsEntry w facts alternate → IsPresent w.talks c level
  opened_at w q facts alternate s i c level of_c (IsOld e) present entry = present i c (record { level = level; there = e; of_it = of_c })
  opened_at w q facts alternate s i c level of_c (IsNew e same) present (Alone alone first) =
      absurd (none_some (sym alone ∙ (ap (λ (l : Level C). l.facts.conversation) same ∙ of_c)))
  opened_at w q facts alternate s i c level of_c (IsNew e same) present (Joining d talk of_d at whole is) =
      let one : d ≡ c = some_same (sym of_d ∙ (ap (λ (l : Level C). l.facts.conversation) same ∙ of_c)) in
      record { talk = talk; there = ap (slice_get w.talks) (sym one) ∙ at; same = ap (λ (l : Level C). l.alternate) (sym same) ∙ is }

  present_opened : (w : World S C M) (q : Process S C) (facts : Facts) (alternate : ℕ) (s : S) → TryPresent w.talks q.levels
      → IsEntry w facts alternate
      → TryPresent w.talks (q.levels ++ new_level k facts alternate s ∷ [])
  present_opened w q facts alternate s present entry i c at =
      opened_at w q facts alternate s i c at.level at.of_it (get_more q.levels (new_level k facts alternate s) i at.level at.there) present entry

  -- the innermost level goes
  present_front : (talks : List Talk) (levels : List (Level C)) → TryPresent talks levels → TryPresent talks (without_last levels)
  present_front talks levels present i c at =
      present i c (record { level = at.level; there = get_without_last levels i at.level at.there; of_it = at.of_it })

  -- In a turn of q that has all its levels left, nothing is spent.
  none_spent : (t : ℕ) (past : List Told) (p : ℕ) (q : Process S C) (w : World S C M)
      → MostPresent t past p (length q.levels) w → slice_get w.processes p ≡ Some q
      → Each (λ r x. TryPresent w.talks x.levels) w.processes
  none_spent t past p q w most there =
      all_present t past p (length q.levels) q w most there (λ e. none_beyond k.groups w.talks q.levels (length q.levels) e (omega arith))

  -- who stands, or is another, has these levels
  abbrev Stood : List Talk → ℕ → Process S C → Type 0
  Stood talks r x = AreOrdered k.groups r x.levels × TryPresent talks x.levels

  -- who does not leave when all stand is not inside
  leaves_present : (c r : ℕ) (qs : List (Process S C)) (talks : List Talk) (x : Process S C) → slice_get qs r ≡ Some x
      → list_all (λ m. stands_there c (slice_get qs m)) (members_of (slice_get k.groups c)) ≡ true → Stood talks r x
      → (there : Bool) → stands_at c x ≡ there
      → TryPresent (change_at c first_again talks) (cond there (settled k (k.accept x.state) (without_last x.levels)) x).levels
  leaves_present c r qs talks x here all stood true e i d at =
      let inner : IsLevelOf d x.levels i = record { level = at.level; there = get_without_last x.levels i at.level at.there; of_it = at.of_it } in
      let other : d ≢ c = λ (same : d ≡ c).
      true≢false (sym (any_level c i (without_last x.levels) (subst (λ (y : ℕ). IsLevelOf y (without_last x.levels) i) same at))
      ∙ last_gone c x.levels stood.0.nested (last_of x.levels) refl (second_holds x.at_line (is_last_of c (last_of x.levels)) e)) in
      present_there talks (change_at c first_again talks) d at.level (slice_get-change_other c first_again talks d other) (stood.1 i d inner)
    where
      last_gone : (c : ℕ) (levels : List (Level C)) → AreNested k.groups levels → (last : Option (Level C))
          → last_of levels ≡ last → is_last_of c last ≡ true
          → list_any (is_of c) (without_last levels) ≡ false
      last_gone c levels nested None e is = absurd (true≢false (sym is))
      last_gone c levels nested (Some level) e is =
          left_not_inside k c levels level nested e (passes_of c level is) (list_any (is_of c) (without_last levels)) refl
  leaves_present c r qs talks x here all stood false e i d at =
      let other : d ≢ c = λ (same : d ≡ c).
      let stands : stands_there c (slice_get qs r) ≡ true =
      all_pass (λ m. stands_there c (slice_get qs m)) r (members_of (slice_get k.groups c)) all
      (stood.0.members i c (subst (λ (y : ℕ). IsLevelOf y x.levels i) same at)) in
      true≢false (sym stands ∙ (ap (stands_there c) here ∙ e)) in
      present_there talks (change_at c first_again talks) d at.level (slice_get-change_other c first_again talks d other) (stood.1 i d at)

  -- a conversation of p's level number j is put back
  module _ (w : World S C M) (u : Process S C) (c j : ℕ)
      (ordered : (r : ℕ) (x : Process S C) → slice_get w.processes r ≡ Some x → AreNested k.groups x.levels)
      (own : AreNested k.groups u.levels) (at : IsLevelOf c u.levels j) where
    levels_back : (n : ℕ) (x : Process S C) (level : Level C) → slice_get x.levels n ≡ Some level → (put_back k n x).levels ≡ take (n + 1) x.levels
    levels_back n x level e = ap (λ (o : Option (Level C)). (back_to k n x o).levels) e

    -- who is inside, and is put back
    is_put_back : (x : Process S C) → AreNested k.groups x.levels → (n : ℕ) (inside : IsLevelOf c x.levels n)
        → (where_inside (put_back k) c x).levels ≡ take (n + 1) x.levels
    is_put_back x nested n inside =
        ap (λ (y : Process S C). y.levels)
        (changed_inside (put_back k) c n x (place_found k.groups c n x.levels x.levels nested inside (λ i _. refl)))
        ∙ levels_back n x inside.level inside.there

    place_taken : (x : Process S C) → AreNested k.groups x.levels → (n : ℕ) → IsLevelOf c x.levels n
        → position (is_of c) (take (n + 1) x.levels) ≡ Some n
    place_taken x nested n inside =
        place_found k.groups c n x.levels (take (n + 1) x.levels) nested inside (λ i below. slice_get-take (n + 1) x.levels i (omega (arith, below)))

    -- and then goes on to the next alternate
    is_raised : (x : Process S C) → AreNested k.groups x.levels → (n : ℕ) → IsLevelOf c x.levels n
        → (where_inside raised c (where_inside (put_back k) c x)).levels ≡ change_at n next_alternate (take (n + 1) x.levels)
    is_raised x nested n inside =
        let back = is_put_back x nested n inside in
        ap (λ (y : Process S C). y.levels) (changed_inside raised c n (where_inside (put_back k) c x)
        (ap (position (is_of c)) back ∙ place_taken x nested n inside))
        ∙ ap (change_at n next_alternate) back

    is_outside : (x : Process S C) → is_inside c x ≡ false → where_inside (put_back k) c x ≡ x
    is_outside x e = stays_outside (put_back k) c x e

    -- the levels of each process once all try the next alternate
    next_levels : (x : Process S C) → AreNested k.groups x.levels → MayTry k.groups w.talks u.levels (suc j) x.levels
        → (inside : Bool) → is_inside c x ≡ inside
        → TryPresent (talks_after k.groups w.talks u.levels c j own at next_talk) (where_inside raised c (where_inside (put_back k) c x)).levels
    next_levels x nested may true e =
        let found : (n : ℕ) × IsLevelOf c x.levels n = inside_level c x.levels e in
        subst (TryPresent (talks_after k.groups w.talks u.levels c j own at next_talk)) (sym (is_raised x nested found.0 found.1))
        (present_next k.groups w.talks u.levels c j own at x.levels nested found.0 found.1 may)
    next_levels x nested may false e =
        subst (λ (y : Process S C). TryPresent (talks_after k.groups w.talks u.levels c j own at next_talk) y.levels)
        (sym (ap (where_inside raised c) (is_outside x e) ∙ stays_outside raised c x e))
        (present_outside k.groups w.talks u.levels c j own at next_talk x.levels nested e may)

    -- once it is spent
    spent_levels : (parent : ℕ) → parent_of (slice_get k.groups c) ≡ Some parent → (x : Process S C)
        → AreNested k.groups x.levels → MayTry k.groups w.talks u.levels (suc j) x.levels
        → (inside : Bool) → is_inside c x ≡ inside
        → MayTry k.groups (talks_after k.groups w.talks u.levels c j own at first_again) (take (j + 1) u.levels) j
        (where_inside (put_back k) c x).levels
    spent_levels parent around x nested may true e =
        let found : (n : ℕ) × IsLevelOf c x.levels n = inside_level c x.levels e in
        subst (MayTry k.groups (talks_after k.groups w.talks u.levels c j own at first_again) (take (j + 1) u.levels) j)
        (sym (is_put_back x nested found.0 found.1))
        (may_spent k.groups w.talks u.levels c j own at parent around x.levels nested found.0 found.1 may)
    spent_levels parent around x nested may false e =
        subst
        (λ (y : Process S C). MayTry k.groups (talks_after k.groups w.talks u.levels c j own at first_again)
        (take (j + 1) u.levels) j y.levels)
        (sym (is_outside x e))
        (may_of k.groups (talks_after k.groups w.talks u.levels c j own at first_again) x.levels (take (j + 1) u.levels) j
        (present_outside k.groups w.talks u.levels c j own at first_again x.levels nested e may))

    -- once it is broken
    still_inside : (x : Process S C) → AreNested k.groups x.levels → (n : ℕ) → IsLevelOf c x.levels n
        → is_inside c (where_inside (put_back k) c x) ≡ true
    still_inside x nested n inside =
        ap (list_any (is_of c)) (is_put_back x nested n inside)
        ∙ any_level c n (take (n + 1) x.levels)
        (record { level = inside.level; there = slice_get-take (n + 1) x.levels n (omega arith) ∙ inside.there; of_it = inside.of_it })

    broken_levels : (x : Process S C) → AreNested k.groups x.levels → MayTry k.groups w.talks u.levels (suc j) x.levels
        → (inside : Bool) → is_inside c x ≡ inside
        → TryPresent (talks_after k.groups w.talks u.levels c j own at broken_talk) (fallen_inside k c (where_inside (put_back k) c x)).levels
    broken_levels x nested may true e i d level =
        let found : (n : ℕ) × IsLevelOf c x.levels n = inside_level c x.levels e in
        let none : (fallen_inside k c (where_inside (put_back k) c x)).levels ≡ [] =
        ap (λ (b : Bool). (cond b (fallen k Inner (where_inside (put_back k) c x)) (where_inside (put_back k) c x)).levels)
        (still_inside x nested found.0 found.1) in
        absurd (none_some (ap (λ (ls : List (Level C)). slice_get ls i) (sym none) ∙ level.there))
    broken_levels x nested may false e i d level =
        let stays : fallen_inside k c (where_inside (put_back k) c x) ≡ x =
        ap (fallen_inside k c) (is_outside x e) ∙ ap (λ (b : Bool). cond b (fallen k Inner x) x) e in
        let outside : TryPresent (talks_after k.groups w.talks u.levels c j own at broken_talk) x.levels =
        present_outside k.groups w.talks u.levels c j own at broken_talk x.levels nested e may in
        subst (λ (y : Process S C). TryPresent (talks_after k.groups w.talks u.levels c j own at broken_talk) y.levels) (sym stays) outside i d level

-- The invariant, under one by which the levels of each process are nested and are those of members.
module _ {S C M : Type 0} (k : Kind S C M) (P : ℕ → Process S C → Type 0)
    (ordered : (r : ℕ) (q : Process S C) → P r q → AreOrdered k.groups r q.levels) where
  -- the levels of each process are nested
  all_nested : (w : World S C M) → Each P w.processes → (r : ℕ) (x : Process S C) → slice_get w.processes r ≡ Some x → AreNested k.groups x.levels
  all_nested w each r x e = (ordered r x (each r x e)).nested

  -- a level that is there, and is of a conversation
  level_of : (q : Process S C) (j c : ℕ) (level : Level C) → slice_get q.levels j ≡ Some level
      → level.facts.conversation ≡ Some c → IsLevelOf c q.levels j
  level_of q j c level there of_c = record { level = level; there = there; of_it = of_c }

  -- where a private level is next to be rejected, nothing is spent
  at_private : (t : ℕ) (past : List Told) (p : ℕ) (q : Process S C) (w : World S C M) (j : ℕ) (level : Level C)
      → Each P w.processes → MostPresent k t past p (suc j) w
      → RunsAt p q w → slice_get q.levels j ≡ Some level → level.facts.conversation ≡ None → Each (λ r x. TryPresent w.talks x.levels) w.processes
  at_private t past p q w j level each most runs place alone =
      all_present k t past p (suc j) q w most runs.there
      (λ e. none_private k.groups w.talks q.levels j e level (all_nested w each p q runs.there) place alone)

  -- what is left of the levels of who is put back to level number j
  back_levels : (q : Process S C) (j : ℕ) (level : Level C) → slice_get q.levels j ≡ Some level → (put_back k j q).levels ≡ take (j + 1) q.levels
  back_levels q j level e = ap (λ (o : Option (Level C)). (back_to k j q o).levels) e

  length-back : (levels : List (Level C)) (j : ℕ) (level : Level C) → slice_get levels j ≡ Some level → length (take (j + 1) levels) ≡ suc j
  length-back levels j level e = ap (λ (n : ℕ). length (take n levels)) (add-one j) ∙ length-take_to j levels e

  -- p is put back to it
  private_back : (t : ℕ) (past : List Told) (p : ℕ) (q : Process S C) (w : World S C M) (j : ℕ) (level : Level C)
      → Each P w.processes → MostPresent k t past p (suc j) w
      → RunsAt p q w → slice_get q.levels j ≡ Some level → level.facts.conversation ≡ None
      → Each (λ r x. TryPresent w.talks x.levels) (change_at p (put_back k j) w.processes)
  private_back t past p q w j level each most runs place alone =
      let present = at_private t past p q w j level each most runs place alone in
      Each-change_at (λ r x. TryPresent w.talks x.levels) p (put_back k j) w.processes present
      (λ x there. let is : q ≡ x = some_same (sym runs.there ∙ there) in
      subst (λ (y : Process S C). TryPresent w.talks (put_back k j y).levels) is
      (subst (TryPresent w.talks) (sym (back_levels q j level place)) (present_taken k.groups w.talks (j + 1) q.levels (present p q runs.there))))

  back_there : (p j : ℕ) (q : Process S C) (w : World S C M) → RunsAt p q w
      → slice_get (change_at p (put_back k j) w.processes) p ≡ Some (put_back k j q)
  back_there p j q w runs = slice_get-change_at p (put_back k j) w.processes ∙ ap (option_map (put_back k j)) runs.there

  -- a private level has no alternate left, and the next one out is rejected
  spent_privately : (t : ℕ) (past : List Told) (p : ℕ) (q : Process S C) (w : World S C M) (j : ℕ) (level : Level C)
      → Each P w.processes → MostPresent k t past p (suc j) w
      → RunsAt p q w → slice_get q.levels j ≡ Some level → level.facts.conversation ≡ None
      → MostPresent k t past p j (with_process p (put_back k j) w)
  spent_privately t past p q w j level each most runs place alone =
      let is : (u : Process S C) → slice_get (change_at p (put_back k j) w.processes) p ≡ Some u → put_back k j q ≡ u =
      λ u there. some_same (sym (back_there p j q w runs) ∙ there) in
      record {
        enough = λ u there. subst (λ (x : Process S C). j ≤ length x.levels) (is u there)
            (omega (arith, ap (λ (ls : List (Level C)). length ls) (back_levels q j level place), length-back q.levels j level place));
        each = λ u there r x e. may_of k.groups w.talks x.levels u.levels j (private_back t past p q w j level each most runs place alone r x e);
      }

  -- or it has one
  next_privately : (t : ℕ) (past : List Told) (p : ℕ) (q : Process S C) (w : World S C M) (j : ℕ) (level : Level C)
      → Each P w.processes → MostPresent k t past p (suc j) w
      → RunsAt p q w → slice_get q.levels j ≡ Some level → level.facts.conversation ≡ None
      → Each (λ r x. TryPresent w.talks x.levels) (change_at p (raised j) (change_at p (put_back k j) w.processes))
  next_privately t past p q w j level each most runs place alone =
      let back = private_back t past p q w j level each most runs place alone in
      Each-change_at (λ r x. TryPresent w.talks x.levels) p (raised j) (change_at p (put_back k j) w.processes) back
      (λ x there. let is : put_back k j q ≡ x = some_same (sym (back_there p j q w runs) ∙ there) in
      let here : slice_get x.levels j ≡ Some level =
      ap (λ (y : Process S C). slice_get y.levels j) (sym is)
      ∙ (ap (λ (ls : List (Level C)). slice_get ls j) (back_levels q j level place)
      ∙ (slice_get-take (j + 1) q.levels j (omega arith) ∙ place)) in
      present_raised k.groups w.talks j x.levels level here alone (back p x there))

  -- why a process falls
  may_fall : (t : ℕ) (past : List Told) (p : ℕ) (q : Process S C) (w : World S C M) (left : ℕ) (cause : Cause)
      → Each P w.processes → MostPresent k t past p left w → RunsAt p q w
      → MustFall k q w left cause → Each (λ r x. TryPresent w.talks x.levels) w.processes
  may_fall t past p q w left cause each most runs (NoLevelLeft none) =
      all_present k t past p left q w most runs.there
      (λ e spent. none_outermost k.groups w.talks q.levels e (all_nested w each p q runs.there) (subst (IsSpentAt k.groups e q.levels) none spent))
  may_fall t past p q w left cause each most runs (Barred facts c talk away wants of_c at broken all is) =
      all_present k t past p left q w most runs.there (λ e. none_beyond k.groups w.talks q.levels left e (omega (arith, all)))

  -- who has failed has no level
  none_left : (talks : List Talk) (cause : Cause) (x : Process S C) → TryPresent talks (fallen k cause x).levels
  none_left talks cause x i c at = absurd (none_some at.there)

  -- all try the next alternate
  all_next_present : (t : ℕ) (past : List Told) (p : ℕ) (q : Process S C) (w : World S C M) (j : ℕ) (c : ℕ)
      → Each P w.processes → MostPresent k t past p (suc j) w
      → RunsAt p q w → IsLevelOf c q.levels j → AllPresent k t past (all_next k c w)
  all_next_present t past p q w j c each most runs at n z e =
      let outer = map_found (where_inside raised c) (map (where_inside (put_back k) c) w.processes) n z e in
      let inner = map_found (where_inside (put_back k) c) w.processes n outer.0 outer.1 in
      subst (λ (y : Process S C). TryPresent (all_next k c w).talks y.levels) (ap (where_inside raised c) inner.2 ∙ outer.2)
      (next_levels k w q c j (all_nested w each) (all_nested w each p q runs.there) at inner.0 (all_nested w each n inner.0 inner.1)
      (most.each q runs.there n inner.0 inner.1) (is_inside c inner.0) refl)

  -- it is broken
  all_broken_present : (t : ℕ) (past : List Told) (p : ℕ) (q : Process S C) (w : World S C M) (j : ℕ) (c : ℕ)
      → Each P w.processes → MostPresent k t past p (suc j) w
      → RunsAt p q w → IsLevelOf c q.levels j → AllPresent k t past (all_broken k c w)
  all_broken_present t past p q w j c each most runs at n z e =
      let outer = map_found (fallen_inside k c) (map (where_inside (put_back k) c) w.processes) n z e in
      let inner = map_found (where_inside (put_back k) c) w.processes n outer.0 outer.1 in
      subst (λ (y : Process S C). TryPresent (all_broken k c w).talks y.levels) (ap (fallen_inside k c) inner.2 ∙ outer.2)
      (broken_levels k w q c j (all_nested w each) (all_nested w each p q runs.there) at inner.0 (all_nested w each n inner.0 inner.1)
      (most.each q runs.there n inner.0 inner.1) (is_inside c inner.0) refl)

  -- it is spent
  own_back : (p : ℕ) (q u : Process S C) (w : World S C M) (j c : ℕ) → Each P w.processes → RunsAt p q w → IsLevelOf c q.levels j
      → slice_get (map (where_inside (put_back k) c) w.processes) p ≡ Some u → take (j + 1) q.levels ≡ u.levels
  own_back p q u w j c each runs at there =
      let found = map_found (where_inside (put_back k) c) w.processes p u there in
      let is : q ≡ found.0 = some_same (sym runs.there ∙ found.1) in
      sym (is_put_back k w q c j (all_nested w each) (all_nested w each p q runs.there) at q (all_nested w each p q runs.there) j at)
      ∙ ap (λ (y : Process S C). y.levels) (ap (where_inside (put_back k) c) is ∙ found.2)

  all_spent_present : (t : ℕ) (past : List Told) (p : ℕ) (q : Process S C) (w : World S C M) (j c parent : ℕ)
      → Each P w.processes → MostPresent k t past p (suc j) w
      → RunsAt p q w → IsLevelOf c q.levels j → parent_of (slice_get k.groups c) ≡ Some parent → MostPresent k t past p j (all_spent k c w)
  all_spent_present t past p q w j c parent each most runs at around = record {
    enough = λ u there. subst (λ (ls : List (Level C)). j ≤ length ls) (own_back p q u w j c each runs at there)
        (omega (arith, length-back q.levels j at.level at.there));
    each = λ u there n z e.
        let inner = map_found (where_inside (put_back k) c) w.processes n z e in
        subst (λ (ls : List (Level C)). MayTry k.groups (all_spent k c w).talks ls j z.levels) (own_back p q u w j c each runs at there)
        (subst (λ (y : Process S C). MayTry k.groups (all_spent k c w).talks (take (j + 1) q.levels) j y.levels) inner.2
        (spent_levels k w q c j (all_nested w each) (all_nested w each p q runs.there) at parent around inner.0 (all_nested w each n inner.0 inner.1)
        (most.each q runs.there n inner.0 inner.1) (is_inside c inner.0) refl));
  }

  -- all leave the test line
  all_leave_present : (t : ℕ) (past : List Told) (p : ℕ) (q : Process S C) (w : World S C M) (s : S) (m : M) (c : ℕ) → Each P w.processes
      → MostPresent k t past p (length q.levels) w → RunsAt p q w → all_stand k c (come_to_stand p q.levels w (s, m)) ≡ true
      → AllPresent k t past (all_leave k c (come_to_stand p q.levels w (s, m)))
  all_leave_present t past p q w s m c each most runs all n z e =
      let present = none_spent k t past p q w most runs.there in
      let stood : List (Process S C) = change_at p (λ _. stands_now s q.levels) w.processes in
      let known : Each (Stood k w.talks) stood =
      Each-change_at (Stood k w.talks) p (λ _. stands_now s q.levels) w.processes (λ r x there. (ordered r x (each r x there), present r x there))
      (λ _ _. (ordered p q (each p q runs.there), present p q runs.there)) in
      let found = map_found (leaves k c) stood n z e in
      subst (λ (y : Process S C). TryPresent (change_at c first_again w.talks) y.levels) found.2
      (leaves_present k c n stood w.talks found.0 found.1 all (known n found.0 found.1) (stands_at c found.0) refl)

  -- a level that is to be rejected is there
  never_gone : (t : ℕ) (past : List Told) (p : ℕ) (q : Process S C) (w : World S C M) (j : ℕ)
      → MostPresent k t past p (suc j) w → RunsAt p q w → slice_get q.levels j ≡ None → ⊥
  never_gone t past p q w j most runs none = nothing_within q.levels j (most.enough q runs.there) none

  -- all laws of the invariant
  pub present_kept : IsInvariantUnder k (λ _ _ w. Each P w.processes) (λ _ _ _ _ w. Each P w.processes)
      (λ _ _ w. Each P w.processes) (AllPresent k) (MostPresent k) (AllPresent k)
  present_kept = record {
    rests = λ t past w h. h.1;
    uses = λ t past p q w h r. uses k t past p q w h.1 r;
    overruns = λ t past p q w j h r e.
        let present = none_spent k t past p q w h.1 r.there in
        record {
          enough = λ u there. subst (λ (x : Process S C). suc j ≤ length x.levels) (some_same (sym r.there ∙ there))
              (position_within is_over q.levels j e);
          each = λ u there n x here. may_of k.groups w.talks x.levels u.levels (suc j) (present n x here);
        };
    waits = λ t past p q w h r e. none_spent k t past p q w h.1 r.there;
    goes = λ t past p q w a v s m h at e.
        let present = none_spent k t past p q w h.1 at.acts.runs.there in
        set_present k p (settled k (k.keep t a s m).0 q.levels) w present (present p q at.acts.runs.there);
    opens = λ t past p q w facts a h at.
        let s = (k.keep t 0 (k.enter q.state) w.memory).0 in
        let present = none_spent k t past p q w h.1 at.acts.runs.there in
        set_present k p (goes_on k s (q.levels ++ new_level k facts a s ∷ [])) w present
        (present_opened k w q facts a s (present p q at.acts.runs.there) at.entry);
    accepts = λ t past p q w a v s l h at e _ _.
        let present = none_spent k t past p q w h.1 at.acts.runs.there in
        set_present k p (settled k (k.accept (k.keep t a s w.memory).0) (without_last q.levels)) w present
        (present_front k w.talks q.levels (present p q at.acts.runs.there));
    stands = λ t past p q w a v s l c h at e _ _ _.
        let present = none_spent k t past p q w h.1 at.acts.runs.there in
        set_present k p (stands_now (k.keep t a s w.memory).0 q.levels) w present (present p q at.acts.runs.there);
    leaves = λ t past p q w a v s l c h at e _ _ all.
        let x = k.keep t a s w.memory in
        all_leave_present t past p q w x.0 x.1 c h.0 h.1 at.acts.runs all;
    falls = λ t past p q w n cause h r why.
        Each-change_at (λ i x. TryPresent w.talks x.levels) p (fallen k cause) w.processes
        (may_fall t past p q w n cause h.0 h.1 r why) (λ x _. none_left w.talks cause x);
    tries_next = λ t past p q w j l h r x y. next_privately t past p q w j l h.0 h.1 r.runs r.place x;
    is_spent = λ t past p q w j l h r x y. spent_privately t past p q w j l h.0 h.1 r.runs r.place x;
    all_try_next = λ t past p q w j l c h r x y. all_next_present t past p q w j c h.0 h.1 r.runs (level_of q j c l r.place x);
    all_are_spent = λ t past p q w j l c d h r x y z. all_spent_present t past p q w j c d h.0 h.1 r.runs (level_of q j c l r.place x) z;
    breaks = λ t past p q w j l c h r x y z. all_broken_present t past p q w j c h.0 h.1 r.runs (level_of q j c l r.place x);
    is_gone = λ t past p q w j h r e. absurd (never_gone t past p q w j h.1 r e);
    releases = λ t past w o h e. Each-map (λ r x. TryPresent w.talks x.levels) (freed k) w.processes h.1 (λ r x _ present. present);
  }

  -- so it holds in every world of a run
  pub run_present : KeepsEach k P → (turns : List ℕ) (states : List S) (m : M)
      → ((r : ℕ) (s : S) → slice_get states r ≡ Some s → P r (settled k s []))
      → Each (λ r q. TryPresent (run k 1 turns (opening k states m)).0.talks q.levels) (run k 1 turns (opening k states m)).0.processes
  run_present keeps turns states m known =
      (run-keeps (both_kept (each_kept keeps) present_kept) 1 [] turns (opening k states m) (
        settled_each k P states known,
        settled_each k (λ r q. TryPresent (opening k states m).talks q.levels) states (λ r s _ i c at. absurd (none_some at.there)),
      )).1
