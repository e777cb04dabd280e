-- In every world each level tries an alternate that it has, each level of a conversation tries its present alternate, and each
-- conversation is at an alternate that its blocks have: an invariant, under one of each process by which levels are nested and are
-- those of blocks whose alternates are counted.
use Rattle.std.proofs.Common.{◌≡◌, ◌≤◌, ◌+◌, ℕ, suc, false, List, [], ◌∷◌, ◌++◌, map, option_map, slice_get, Some, sym, ap, ◌∙◌, subst, arith}
use Rattle.rb_world.specs.Kind.{Enters, Facts, Kind}
use Rattle.rb_world.specs.World.{Level, Process, Running, Talk, World, change_at, goes_on, settled, without_last}
use Rattle.rb_world.specs.Reject.{fallen, fallen_inside, next_talk, put_back, raised, reset_below, where_inside}
use Rattle.rb_world.specs.Turn.{Told, freed, leaves, new_level, opening, stands_now, turn_used}
use Rattle.rb_world.specs.Standing.{Each}
use Rattle.rb_world.specs.Nested.{AreNested, IsLevelOf}
use Rattle.rb_world.specs.Present.{IsPresent, TryPresent}
use Rattle.rb_world.proofs.TurnFacts.{Alone, IsEntry, Joining, RejectsAt}
use Rattle.rb_world.proofs.Keeping.Invariant.{IsInvariantUnder}
use Rattle.rb_world.proofs.Keeping.EachProcess.{settled_each}
use Rattle.rb_world.proofs.ListFacts.{Each-change_at, Each-map, none_some, slice_get-change_at, some_same}
use Rattle.rb_world.proofs.Members.PassTogether.{map_found}
use Rattle.rb_world.proofs.Members.PresentKept.{AreOrdered, MostPresent, present_kept}
use Rattle.rb_world.proofs.Members.PresentLevels.{MayTry, present_here}
use Rattle.rb_recovery.specs.Known.{IsTalked, IsTried}
use Rattle.rb_machine.proofs.Knowing.Alternates.EnteredBlocks.{IsCountedBlock}
use Rattle.rb_machine.proofs.Knowing.Alternates.TriedLevels.{AreTried, HasNext, among_tried, back_among, fallen_inside_tried, front_tried, inside_among, leaves_tried, more_tried, next_tried, none_tried, raised_tried, used_tried}
use Rattle.rb_machine.proofs.Knowing.Alternates.TalksKept.{again_talked, broken_talked, opening_talked, reset_talked}

module _ {S C M : Type 0} (k : Kind S C M) (counts : List ℕ) where
  -- each level of these processes tries an alternate that it has
  abbrev pub AllTried : List (Process S C) → Type 0
  AllTried qs = Each (λ _ q. AreTried q.levels) qs

  -- before a turn and after it
  pub record AlternatesFit (w : World S C M) : Type 0 where
    pub tried : AllTried w.processes
    pub present : Each (λ _ q. TryPresent w.talks q.levels) w.processes
    pub talked : Each (IsTalked counts) w.talks

  -- between the steps of a cascade of p
  pub record AlternatesMayFit (t : ℕ) (past : List Told) (p left : ℕ) (w : World S C M) : Type 0 where
    pub tried : AllTried w.processes
    pub most : MostPresent k t past p left w
    pub talked : Each (IsTalked counts) w.talks

-- The invariant. P gives of each process that its levels are nested and are those of members and of blocks that are counted; so is each
-- block that a process may enter, and each conversation that is counted has an alternate.
module _ {S C M : Type 0} (k : Kind S C M) (counts : List ℕ) (P : ℕ → Process S C → Type 0)
    (ordered : (r : ℕ) (q : Process S C) → P r q → AreOrdered k.groups r q.levels)
    (blocks : (r : ℕ) (q : Process S C) → P r q → Each (λ _ (level : Level C). IsCountedBlock counts level.facts) q.levels)
    (enters : (r : ℕ) (q : Process S C) (facts : Facts) → P r q → q.status ≡ Running → q.at_line ≡ false → k.want q.state ≡ Enters facts
    → IsCountedBlock counts facts)
    (some : (d n : ℕ) → slice_get counts d ≡ Some n → 1 ≤ n) where
  -- one process with other levels, and each
  set_tried : (p : ℕ) (q : Process S C) (qs : List (Process S C)) → AllTried k counts qs → AreTried q.levels
      → AllTried k counts (change_at p (λ _. q) qs)
  set_tried p q qs tried new = Each-change_at (λ _ (x : Process S C). AreTried x.levels) p (λ _. q) qs tried (λ _ _. new)

  map_tried : (f : Process S C → Process S C) (qs : List (Process S C)) → AllTried k counts qs
      → ((x : Process S C) → AreTried x.levels → AreTried (f x).levels) → AllTried k counts (map f qs)
  map_tried f qs tried one = Each-map (λ _ (x : Process S C). AreTried x.levels) f qs tried (λ _ x _. one x)

  -- who is put back, alone or with all that are inside a conversation
  one_back : (p j : ℕ) (w : World S C M) → AllTried k counts w.processes → AllTried k counts (change_at p (put_back k j) w.processes)
  one_back p j w tried =
      Each-change_at (λ _ (x : Process S C). AreTried x.levels) p (put_back k j) w.processes tried
      (λ x e. among_tried (put_back k j x).levels x.levels (back_among k j x) (tried p x e))

  inside_back : (c : ℕ) (w : World S C M) → AllTried k counts w.processes → AllTried k counts (map (where_inside (put_back k) c) w.processes)
  inside_back c w tried =
      map_tried (where_inside (put_back k) c) w.processes tried
      (λ x. among_tried (where_inside (put_back k) c x).levels x.levels (inside_among k c x))

  -- an entry is at an alternate that the block has
  entered_tried : (w : World S C M) (facts : Facts) (alternate : ℕ) (s : S) → IsCountedBlock counts facts → IsEntry w facts alternate
      → Each (IsTalked counts) w.talks → IsTried (new_level k facts alternate s)
  entered_tried w facts alternate s is (Alone alone first) talked = record {
    first = omega (arith, first);
    last = omega (arith, first, is.some);
  }
  entered_tried w facts alternate s is (Joining c talk of_c at whole same) talked =
      let within = talked c talk at facts.alternates (is.as_many c of_c) in
      record { first = omega (arith, same, within.0); last = omega (arith, same, within.1) }

  -- a private level goes on to its next alternate
  alone_next : (p j : ℕ) (q : Process S C) (level : Level C) (w : World S C M) → AllTried k counts w.processes → RejectsAt p q w j level
      → HasNext level → AllTried k counts (change_at p (raised j) (change_at p (put_back k j) w.processes))
  alone_next p j q level w tried at next =
      let back = one_back p j w tried in
      Each-change_at (λ _ (x : Process S C). AreTried x.levels) p (raised j) (change_at p (put_back k j) w.processes) back
      (λ x e. next_tried j x.levels (back p x e)
      (λ one here.
      let is : put_back k j q ≡ x =
      some_same (sym (slice_get-change_at p (put_back k j) w.processes ∙ ap (option_map (put_back k j)) at.runs.there) ∙ e) in
      let was : slice_get q.levels j ≡ Some one =
      back_among k j q j one (ap (λ (y : Process S C). slice_get y.levels j) is ∙ here) in
      subst (λ (l : Level C). HasNext l) (some_same (sym at.place ∙ was)) next))

  -- a conversation is put back, of which p has level number j, and all that are inside try the next alternate
  module _ (t : ℕ) (past : List Told) (p : ℕ) (q : Process S C) (w : World S C M) (j c : ℕ) (level : Level C) (each : Each P w.processes)
      (fit : AlternatesMayFit k counts t past p (suc j) w) (at : RejectsAt p q w j level) (of_c : level.facts.conversation ≡ Some c)
      (next : HasNext level) where
    own_nested : AreNested k.groups q.levels
    own_nested = (ordered p q (each p q at.runs.there)).nested

    abbrev own_at : IsLevelOf c q.levels j
    own_at = record { level = level; there = at.place; of_it = of_c }

    may : (r : ℕ) (x : Process S C) → slice_get w.processes r ≡ Some x → MayTry k.groups w.talks q.levels (suc j) x.levels
    may = fit.most.each q at.runs.there

    abbrev later : List Talk
    later = change_at c next_talk (reset_below k.groups c w.talks)

    -- a level of it tries the present alternate
    here : (r : ℕ) (x : Process S C) → slice_get w.processes r ≡ Some x → (n : ℕ) (inside : IsLevelOf c x.levels n)
        → IsPresent w.talks c inside.level × (slice_get later c ≡ option_map next_talk (slice_get w.talks c))
    here r x e n inside =
        present_here k.groups w.talks q.levels c j own_nested own_at next_talk x.levels (ordered r x (each r x e)).nested n inside (may r x e)

    own_here : IsPresent w.talks c level × (slice_get later c ≡ option_map next_talk (slice_get w.talks c))
    own_here = here p q at.runs.there j own_at

    -- as many alternates are counted of it as the block of p's level has
    counted : slice_get counts c ≡ Some level.facts.alternates
    counted = (blocks p q (each p q at.runs.there) j level at.place).as_many c of_c

    -- so a level of it has a next one
    inside_next : (r : ℕ) (x : Process S C) → slice_get w.processes r ≡ Some x → (n : ℕ) (inside : IsLevelOf c x.levels n) → HasNext inside.level
    inside_next r x e n inside =
        let present = (here r x e n inside).0 in
        let talk : own_here.0.talk ≡ present.talk = some_same (sym own_here.0.there ∙ present.there) in
        let number : level.alternate ≡ inside.level.alternate = own_here.0.same ∙ (ap (λ (one : Talk). one.alternate) talk ∙ sym present.same) in
        let many : level.facts.alternates ≡ inside.level.facts.alternates =
        some_same (sym counted ∙ (blocks r x (each r x e) n inside.level inside.there).as_many c inside.of_it) in
        omega (arith, number, many, next)

    next_inside : AllTried k counts (map (where_inside raised c) (map (where_inside (put_back k) c) w.processes))
    next_inside r z e =
        let outer = map_found (where_inside raised c) (map (where_inside (put_back k) c) w.processes) r z e in
        let inner = map_found (where_inside (put_back k) c) w.processes r outer.0 outer.1 in
        let x : Process S C = inner.0 in
        let back : Process S C = where_inside (put_back k) c x in
        subst (λ (y : Process S C). AreTried y.levels) (ap (where_inside raised c) inner.2 ∙ outer.2)
        (raised_tried c back (among_tried back.levels x.levels (inside_among k c x) (fit.tried r x inner.1))
        (λ n inside. inside_next r x inner.1 n
        (record { level = inside.level; there = inside_among k c x n inside.level inside.there; of_it = inside.of_it })))

    -- and it is itself at one that its blocks have
    next_talk_is : (talk : Talk) → slice_get (reset_below k.groups c w.talks) c ≡ Some talk → next_talk own_here.0.talk ≡ next_talk talk
    next_talk_is talk e =
        some_same (sym (own_here.1 ∙ ap (option_map next_talk) own_here.0.there)
        ∙ (slice_get-change_at c next_talk (reset_below k.groups c w.talks) ∙ ap (option_map next_talk) e))

    own_talked : (talk : Talk) → slice_get (reset_below k.groups c w.talks) c ≡ Some talk → IsTalked counts c (next_talk talk)
    own_talked talk e n many =
        let same : own_here.0.talk.alternate + 1 ≡ talk.alternate + 1 = ap (λ (one : Talk). one.alternate) (next_talk_is talk e) in
        let as_many : level.facts.alternates ≡ n = some_same (sym counted ∙ many) in
        (omega arith, omega (arith, same, as_many, next, own_here.0.same))

    next_talked : Each (IsTalked counts) later
    next_talked =
        Each-change_at (IsTalked counts) c next_talk (reset_below k.groups c w.talks)
        (reset_talked counts some k.groups c w.talks fit.talked) own_talked

  -- all laws of the invariant
  pub alternates_kept : IsInvariantUnder k (λ _ _ w. Each P w.processes) (λ _ _ _ _ w. Each P w.processes) (λ _ _ w. Each P w.processes)
      (λ _ _ w. AlternatesFit k counts w) (AlternatesMayFit k counts) (λ _ _ w. AlternatesFit k counts w)
  alternates_kept =
      let one = present_kept k P ordered in
      record {
        rests = λ t past w h. h.1;
        uses = λ t past p q w h r. record {
          tried = set_tried p (turn_used q) w.processes h.1.tried (used_tried q.levels (h.1.tried p q r.there));
          most = one.uses t past p q w (h.0, h.1.present) r;
          talked = h.1.talked;
        };
        overruns = λ t past p q w j h r e. record {
          tried = h.1.tried;
          most = one.overruns t past p q w j (h.0, h.1.most) r e;
          talked = h.1.talked;
        };
        waits = λ t past p q w h r e. record {
          tried = h.1.tried;
          present = one.waits t past p q w (h.0, h.1.most) r e;
          talked = h.1.talked;
        };
        goes = λ t past p q w a v s m h at e. record {
          tried = set_tried p (settled k (k.keep t a s m).0 q.levels) w.processes h.1.tried (h.1.tried p q at.acts.runs.there);
          present = one.goes t past p q w a v s m (h.0, h.1.most) at e;
          talked = h.1.talked;
        };
        opens = λ t past p q w facts a h at.
            let s = (k.keep t 0 (k.enter q.state) w.memory).0 in
            record {
              tried = set_tried p (goes_on k s (q.levels ++ new_level k facts a s ∷ [])) w.processes h.1.tried
                  (more_tried q.levels (new_level k facts a s) (h.1.tried p q at.acts.runs.there)
                  (entered_tried w facts a s
                  (enters p q facts (h.0 p q at.acts.runs.there) at.acts.runs.running at.acts.away at.wants) at.entry h.1.talked));
              present = one.opens t past p q w facts a (h.0, h.1.most) at;
              talked = h.1.talked;
            };
        accepts = λ t past p q w a v s l h at e x y. record {
          tried = set_tried p (settled k (k.accept (k.keep t a s w.memory).0) (without_last q.levels)) w.processes h.1.tried
              (front_tried q.levels (h.1.tried p q at.acts.runs.there));
          present = one.accepts t past p q w a v s l (h.0, h.1.most) at e x y;
          talked = h.1.talked;
        };
        stands = λ t past p q w a v s l c h at e x y z. record {
          tried = set_tried p (stands_now (k.keep t a s w.memory).0 q.levels) w.processes h.1.tried (h.1.tried p q at.acts.runs.there);
          present = one.stands t past p q w a v s l c (h.0, h.1.most) at e x y z;
          talked = h.1.talked;
        };
        leaves = λ t past p q w a v s l c h at e x y z.
            let now : Process S C = stands_now (k.keep t a s w.memory).0 q.levels in
            record {
              tried = map_tried (leaves k c) (change_at p (λ _. now) w.processes)
                  (set_tried p now w.processes h.1.tried (h.1.tried p q at.acts.runs.there)) (leaves_tried k c);
              present = one.leaves t past p q w a v s l c (h.0, h.1.most) at e x y z;
              talked = again_talked counts some c w.talks h.1.talked;
            };
        falls = λ t past p q w n cause h r why. record {
          tried = Each-change_at (λ _ (x : Process S C). AreTried x.levels) p (fallen k cause) w.processes h.1.tried (λ _ _. none_tried);
          present = one.falls t past p q w n cause (h.0, h.1.most) r why;
          talked = h.1.talked;
        };
        tries_next = λ t past p q w j l h r x y. record {
          tried = alone_next p j q l w h.1.tried r y;
          present = one.tries_next t past p q w j l (h.0, h.1.most) r x y;
          talked = h.1.talked;
        };
        is_spent = λ t past p q w j l h r x y. record {
          tried = one_back p j w h.1.tried;
          most = one.is_spent t past p q w j l (h.0, h.1.most) r x y;
          talked = h.1.talked;
        };
        all_try_next = λ t past p q w j l c h r x y. record {
          tried = next_inside t past p q w j c l h.0 h.1 r x y;
          present = one.all_try_next t past p q w j l c (h.0, h.1.most) r x y;
          talked = next_talked t past p q w j c l h.0 h.1 r x y;
        };
        all_are_spent = λ t past p q w j l c d h r x y z. record {
          tried = inside_back c w h.1.tried;
          most = one.all_are_spent t past p q w j l c d (h.0, h.1.most) r x y z;
          talked = again_talked counts some c (reset_below k.groups c w.talks) (reset_talked counts some k.groups c w.talks h.1.talked);
        };
        breaks = λ t past p q w j l c h r x y z. record {
          tried = map_tried (fallen_inside k c) (map (where_inside (put_back k) c) w.processes) (inside_back c w h.1.tried) (fallen_inside_tried k c);
          present = one.breaks t past p q w j l c (h.0, h.1.most) r x y z;
          talked = broken_talked counts some c (reset_below k.groups c w.talks) (reset_talked counts some k.groups c w.talks h.1.talked);
        };
        is_gone = λ t past p q w j h r e. record {
          tried = h.1.tried;
          present = one.is_gone t past p q w j (h.0, h.1.most) r e;
          talked = h.1.talked;
        };
        releases = λ t past w o h e. record {
          tried = map_tried (freed k) w.processes h.1.tried (λ _ tried. tried);
          present = one.releases t past w o (h.0, h.1.present) e;
          talked = h.1.talked;
        };
      }

-- before the first turn
module _ {S C M : Type 0} (k : Kind S C M) (counts : List ℕ) (some : (d n : ℕ) → slice_get counts d ≡ Some n → 1 ≤ n) where
  pub opening_fits : (states : List S) (m : M) → AlternatesFit k counts (opening k states m)
  opening_fits states m = record {
    tried = settled_each k (λ _ (q : Process S C). AreTried q.levels) states (λ r s e. none_tried);
    present = settled_each k (λ r (q : Process S C). TryPresent (opening k states m).talks q.levels) states
        (λ r s _ i c at. absurd (none_some at.there));
    talked = opening_talked counts some k.groups;
  }
