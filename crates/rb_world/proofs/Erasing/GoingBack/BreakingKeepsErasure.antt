-- A conversation that lies in no other is broken, and all inside it fail. Each of them is shown at its outermost level before, and
-- nothing was done in it; so the same plain world shows it as one that has failed.
use Rattle.std.proofs.Common.{◌≡◌, ◌≤◌, ℕ, zero, suc, Bool, true, false, cond, List, [], ◌∷◌, map, take, position, slice_get, Option, Some, None, refl, sym, ap, ◌∙◌, subst, arith, ◌||◌}
use Rattle.std.specs.List.{list_any}
use Rattle.std.proofs.lemmas.Bool.{eq-eqb}
use Rattle.rb_base.specs.declared.event.Cause.{Cause}
use Rattle.rb_base.specs.declared.event.Cause.TheVariants.{Inner}
use Rattle.rb_world.specs.Kind.{Membership}
use Rattle.rb_world.specs.World.{Level, FailedWith, Process, World, is_number, is_of, is_inside}
use Rattle.rb_world.specs.Reject.{at_place, back_to, fallen, fallen_inside, parent_of, put_back, where_inside}
use Rattle.rb_world.specs.Standing.{Each, is_failed}
use Rattle.rb_world.specs.Nested.{IsLevelOf, HasOutside, AreNested}
use Rattle.rb_world.specs.Turn.{Told}
use Rattle.rb_world.proofs.TurnFacts.{all_broken}
use Rattle.rb_world.proofs.Keeping.Invariant.{BothWithin, Breaks}
use Rattle.rb_world.proofs.Erasing.ErasableKinds.{Nothing, Parts, whole, IsErasable}
use Rattle.rb_world.proofs.Erasing.Showing.Cuts.{plain_levels, shown_at, AreOwn, ShowsOne, Alive, Lost, IsConsistent}
use Rattle.rb_world.proofs.Erasing.Showing.ErasureInvariant.{IsQuiet, ShowsCut, AllShown, Grounded, GroundedDuring, ErasedWithin, ErasedAfter}
use Rattle.rb_world.proofs.Erasing.Showing.OtherProcessesInCuts.{IsChanged, Each-changed, changed_there, is_changed_each, is_changed_twice, shows_changed}
use Rattle.rb_world.proofs.Erasing.Showing.CutsWhenPutBack.{IsUpTo}
use Rattle.rb_world.proofs.Erasing.GoingBack.PlacesGoneBackTo.{position_up_to, place_of, line_of, level_found, found_up_to}
use Rattle.rb_world.proofs.LevelFacts.{one_conversation}
use Rattle.rb_world.proofs.Erasing.GoingBack.TurnsNotKept.{stays_shown}
use Rattle.rb_world.proofs.ListFacts.{none_some, some_same}

neither : (here later : Bool) → (here ≡ true → ⊥) → later ≡ false → (here || later) ≡ false
neither true later never none = absurd (never refl)
neither false later never none = none

-- a test that no element passes
none_passes : {A : Type 0} (test : A → Bool) (xs : List A) → ((i : ℕ) (x : A) → slice_get xs i ≡ Some x → test x ≡ true → ⊥)
    → list_any test xs ≡ false
none_passes test [] never = refl
none_passes test (x ∷ xs) never = neither (test x) (list_any test xs) (never zero x refl) (none_passes test xs (λ i. never (suc i)))

first_passes : {A : Type 0} (test : A → Bool) (xs : List A) (x : A) → slice_get xs 0 ≡ Some x → test x ≡ true → list_any test (take 1 xs) ≡ true
first_passes test [] x there holds = absurd (none_some there)
first_passes test (y ∷ xs) x there holds = ap (λ (b : Bool). b || false) (ap test (some_same there) ∙ holds)

-- who has a level of a conversation is inside it
pub is_of_it : {C : Type 0} (c : ℕ) (level : Level C) → level.facts.conversation ≡ Some c → is_of c level ≡ true
is_of_it c level of_c = ap (λ (o : Option ℕ). is_number o c) of_c ∙ eq-eqb c c refl

-- who has no place in the line of a conversation is not inside it
pub not_inside : {S C : Type 0} (c : ℕ) (q : Process S C) → position (is_of c) q.levels ≡ None → is_inside c q ≡ false
not_inside c q none =
    none_passes (is_of c) q.levels
    (λ i level there holds. subst (λ (o : Option ℕ). IsUpTo o i) none (position_up_to (is_of c) q.levels i level there holds))

-- its level is the outermost, where the conversation lies in no other
pub outermost_of : {C : Type 0} (groups : List Membership) (c i : ℕ) (levels : List (Level C)) → AreNested groups levels
    → parent_of (slice_get groups c) ≡ None
    → IsLevelOf c levels i → i ≡ 0
outermost_of groups c i levels nested none at = subst (λ (o : Option ℕ). HasOutside o levels i) none (nested i c at)

own_first : {S E P : Type 0} (x : Parts S E P) (levels : List (Level S)) (level : Level S) → slice_get levels 0 ≡ Some level
    → AreOwn x level.copy (plain_levels x (take 1 levels))
own_first x [] level there = absurd (none_some there)
own_first {S = S} x (l ∷ levels) level there = (ap (λ (m : Level S). x.point m.copy) (some_same there), tt)

-- a process that has failed with its outermost recovery point put back
abbrev pub lost_at : {S : Type 0} → Cause → Level S → Process S S
lost_at cause level = record { state = level.copy; levels = []; at_line = false; status = FailedWith cause }

module _ {S E P : Type 0} (x : Parts S E P) where
  -- it is shown as it was at its outermost level
  pub shows_lost : (n : ℕ) (q : Process S S) (u : Process S P) (cause : Cause) (level : Level S) → slice_get q.levels 0 ≡ Some level
      → (is_failed q.status ≡ true → q.levels ≡ []) → ShowsOne x 0 q u → ShowsOne x n (lost_at cause level) u
  shows_lost n q u cause level there bare (Alive sound is) =
      let now : u ≡ shown_at x 0 q (Some level) = is ∙ ap (shown_at x 0 q) there in
      Lost refl (ap (λ (z : Process S P). z.state) now) (ap (λ (z : Process S P). z.at_line) now)
      (subst (λ (z : Process S P). AreOwn x level.copy z.levels) (sym now) (own_first x q.levels level there))
  shows_lost n q u cause level there bare (Lost failed is away own) =
      absurd (none_some (sym (ap (λ (ls : List (Level S)). slice_get ls 0) (bare failed)) ∙ there))

  -- what a break does to a process, by its place in the line
  abbrev pub breaks_at : ℕ → Option ℕ → Process S S → Process S S
  breaks_at c place q = fallen_inside (whole x) c (at_place (put_back (whole x)) place q)

  -- the same, by the number of a process
  abbrev pub breaks_in : ℕ → ℕ → Process S S → Process S S
  breaks_in c r q = breaks_at c (position (is_of c) q.levels) q

  breaks_none : (c : ℕ) (q : Process S S) → position (is_of c) q.levels ≡ None → breaks_at c None q ≡ q
  breaks_none c q none = ap (λ (b : Bool). cond b (fallen (whole x) Inner q) q) (not_inside c q none)

  breaks_first : (c : ℕ) (q : Process S S) (level : Level S) → slice_get q.levels 0 ≡ Some level → level.facts.conversation ≡ Some c
      → breaks_at c (Some 0) q ≡ lost_at Inner level
  breaks_first c q level there of_c =
      ap (λ (o : Option (Level S)). fallen_inside (whole x) c (back_to (whole x) 0 q o)) there
      ∙ ap (λ (b : Bool). cond b (lost_at Inner level) (back_to (whole x) 0 q (Some level)))
      (first_passes (is_of c) q.levels level there (is_of_it c level of_c))

  -- a process that has a place in the line of a conversation that lies in no other
  breaks_some : (c m : ℕ) (q : Process S S) → AreNested x.groups q.levels → parent_of (slice_get x.groups c) ≡ None
      → position (is_of c) q.levels ≡ Some m
      → (level : Level S) × (slice_get q.levels 0 ≡ Some level) × (breaks_at c (Some m) q ≡ lost_at Inner level)
  breaks_some c m q nested none e =
      let at : IsLevelOf c q.levels m = level_found c q.levels m e in
      let first : m ≡ 0 = outermost_of x.groups c m q.levels nested none at in
      let there : slice_get q.levels 0 ≡ Some at.level = ap (slice_get q.levels) (sym first) ∙ at.there in
      (at.level, there, ap (λ (n : ℕ). breaks_at c (Some n) q) first ∙ breaks_first c q at.level there at.of_it)

  -- the cut of the world before
  abbrev pub at_bottom : Option ℕ → ℕ → ℕ
  at_bottom None n = n
  at_bottom (Some j) n = 0

  shows_broken : (c n : ℕ) (q : Process S S) (u : Process S P) → AreNested x.groups q.levels → parent_of (slice_get x.groups c) ≡ None
      → (is_failed q.status ≡ true → q.levels ≡ []) → (place : Option ℕ) → position (is_of c) q.levels ≡ place
      → ShowsOne x (at_bottom place n) q u → ShowsOne x n (breaks_at c place q) u
  shows_broken c n q u nested none bare None e shows = subst (λ (z : Process S S). ShowsOne x n z u) (sym (breaks_none c q e)) shows
  shows_broken c n q u nested none bare (Some m) e shows =
      let broken = breaks_some c m q nested none e in
      subst (λ (z : Process S S). ShowsOne x n z u) (sym broken.2) (shows_lost n q u Inner broken.0 broken.1 bare shows)

  quiet_broken : (c r : ℕ) (q : Process S S) → AreNested x.groups q.levels → parent_of (slice_get x.groups c) ≡ None
      → ((level : Level S) → slice_get q.levels 0 ≡ Some level → x.held level.copy ≡ []) → IsQuiet x r q
      → (place : Option ℕ) → position (is_of c) q.levels ≡ place → IsQuiet x r (breaks_at c place q)
  quiet_broken c r q nested none outermost quiet None e = subst (IsQuiet x r) (sym (breaks_none c q e)) quiet
  quiet_broken c r q nested none outermost quiet (Some m) e =
      let broken = breaks_some c m q nested none e in
      subst (IsQuiet x r) (sym broken.2) (λ bare. outermost broken.0 broken.1)

module _ {S E P : Type 0} (x : Parts S E P) (c : ℕ) (none : parent_of (slice_get x.groups c) ≡ None) (f : ℕ → ℕ) (qs qs' : List (Process S S)) where
  -- the cut of the world before
  abbrev pub bottom_cut : ℕ → ℕ
  bottom_cut r = at_bottom x (line_of c qs r) (f r)

  module _ (changed : IsChanged (breaks_in x c) qs qs') (nested : Each (λ r q. AreNested x.groups q.levels) qs)
      (consistent : IsConsistent f qs') where
    -- who is not inside is as it was
    same_level : (d i : ℕ) (q : Process S S) → position (is_of c) q.levels ≡ None → IsLevelOf d q.levels i
        → IsLevelOf d (breaks_at x c (position (is_of c) q.levels) q).levels i
    same_level d i q out at =
        subst (λ (o : Option ℕ). IsLevelOf d (breaks_at x c o q).levels i) (sym out)
        (subst (λ (z : Process S S). IsLevelOf d z.levels i) (sym (breaks_none x c q out)) at)

    outside_pair : (r other d i : ℕ) (q q' : Process S S) → slice_get qs r ≡ Some q → slice_get qs other ≡ Some q'
        → position (is_of c) q'.levels ≡ None
        → (place : Option ℕ) → position (is_of c) q.levels ≡ place → IsLevelOf d q.levels (at_bottom x place (f r))
        → IsLevelOf d q'.levels i → f other ≤ i
    outside_pair r other d i q q' at there out None e of_d of_other =
        consistent r other d i (breaks_in x c r q) (breaks_in x c other q')
        (changed_there (breaks_in x c) qs qs' r q changed at)
        (changed_there (breaks_in x c) qs qs' other q' changed there)
        (same_level d (f r) q e of_d) (same_level d i q' out of_other)
    outside_pair r other d i q q' at there out (Some m) e of_d of_other =
        let found : IsLevelOf c q.levels m = level_found c q.levels m e in
        let bottom : IsLevelOf c q.levels 0 = subst (IsLevelOf c q.levels) (outermost_of x.groups c m q.levels (nested r q at) none found) found in
        let same : d ≡ c = one_conversation d c 0 q.levels of_d bottom in
        absurd (subst (λ (o : Option ℕ). IsUpTo o i) out (found_up_to c q'.levels i (subst (λ (n : ℕ). IsLevelOf n q'.levels i) same of_other)))

    either_pair : (r other d i : ℕ) (q q' : Process S S) → slice_get qs r ≡ Some q → slice_get qs other ≡ Some q'
        → (place : Option ℕ) → position (is_of c) q'.levels ≡ place
        → IsLevelOf d q.levels (at_bottom x (position (is_of c) q.levels) (f r)) → IsLevelOf d q'.levels i
        → at_bottom x place (f other) ≤ i
    either_pair r other d i q q' at there None e of_d of_other =
        outside_pair r other d i q q' at there e (position (is_of c) q.levels) refl of_d of_other
    either_pair r other d i q q' at there (Some m) e of_d of_other = omega arith

    consistent_bottom : IsConsistent bottom_cut qs
    consistent_bottom r other d i q q' at there of_d of_other =
        subst (λ (o : Option (Process S S)). at_bottom x (place_of c o) (f other) ≤ i) (sym there)
        (either_pair r other d i q q' at there (position (is_of c) q'.levels) refl
        (subst (λ (o : Option (Process S S)). IsLevelOf d q.levels (at_bottom x (place_of c o) (f r))) at of_d) of_other)

module _ {S E P : Type 0} (x : Parts S E P) (Known : ℕ → Process S S → Type 0) (laws : IsErasable x Known) (start : World S P Nothing) where
  broken_changed : (c : ℕ) (qs : List (Process S S))
      → IsChanged (breaks_in x c) qs (map (fallen_inside (whole x) c) (map (where_inside (put_back (whole x)) c) qs))
  broken_changed c qs =
      let back : List (Process S S) = map (where_inside (put_back (whole x)) c) qs in
      is_changed_twice (λ r. where_inside (put_back (whole x)) c) (λ r. fallen_inside (whole x) c) qs back (map (fallen_inside (whole x) c) back)
      (is_changed_each (where_inside (put_back (whole x)) c) qs) (is_changed_each (fallen_inside (whole x) c) back)

  -- the same plain worlds show the cuts of the world after a break
  all_shown_broken : (t : ℕ) (past : List Told) (w : World S S Nothing) (c : ℕ) → Grounded x Known w → parent_of (slice_get x.groups c) ≡ None
      → AllShown x start t past w → AllShown x start t past (all_broken (whole x) c w)
  all_shown_broken t past w c ground none all f consistent =
      let qs' : List (Process S S) = (all_broken (whole x) c w).processes in
      let nested : Each (λ r q. AreNested x.groups q.levels) w.processes = λ r q at. laws.nested r q (ground.each r q at).known in
      let old : ShowsCut x start t past w (bottom_cut x c none f w.processes qs') =
      all (bottom_cut x c none f w.processes qs') (consistent_bottom x c none f w.processes qs' (broken_changed c w.processes) nested consistent) in
      record {
        world = old.world;
        shows = shows_changed x (bottom_cut x c none f w.processes qs') f
            (breaks_in x c) w.processes qs' old.world.processes (broken_changed c w.processes)
            (λ r q u at shows. shows_broken x c (f r) q u (nested r q at) none (ground.each r q at).bare (position (is_of c) q.levels) refl
            (subst (λ (o : Option (Process S S)). ShowsOne x (at_bottom x (place_of c o) (f r)) q u) at shows)) old.shows;
        erased = old.erased;
      }

  pub erased_breaks : Breaks (whole x) (BothWithin (GroundedDuring x Known) (ErasedWithin x start)) (ErasedAfter x start)
  erased_breaks t past p q w j level c h rejects of_c spent none =
      let ground : Grounded x Known w = h.0.ground in (
        h.1.0,
        stays_shown x Known start t past (all_broken (whole x) c w)
            (Each-changed (IsQuiet x) (breaks_in x c) w.processes (all_broken (whole x) c w).processes (broken_changed c w.processes)
            (λ r q' at. quiet_broken x c r q' (laws.nested r q' (ground.each r q' at).known) none
            (ground.each r q' at).outermost (ground.quiet r q' at)
            (position (is_of c) q'.levels) refl))
            (all_shown_broken t past w c ground none h.1.1),
      )
