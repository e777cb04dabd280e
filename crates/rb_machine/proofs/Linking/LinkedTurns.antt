-- The links of every world of a run: their turns fall, and what leads to the kept turns of a process leads to no link of another. It is an
-- invariant of the word machine, and knows nothing of its code.
use Rattle.std.proofs.Common.{◌≡◌, ◌≤◌, ◌<◌, ◌+◌, ℕ, zero, suc, ℤ, Bool, true, false, cond, List, [], ◌∷◌, ◌++◌, map, position, slice_get, Option, Some, None, refl, sym, ap, ◌∙◌, subst, arith}
use Rattle.rb_base.specs.declared.event.Cause.{Cause}
use Rattle.rb_base.specs.declared.event.Cause.TheVariants.{Inner}
use Rattle.rb_cache.specs.Copies.{accepted}
use Rattle.rb_world.specs.Kind.{Kind, Membership, Went, Held}
use Rattle.rb_world.specs.Reject.{at_place, back_to, fallen, fallen_inside, put_back, raised, where_inside}
use Rattle.rb_world.specs.Standing.{Each}
use Rattle.rb_world.specs.Turn.{freed, leaves, new_level, stands_at, stands_now, state_freed, turn, turn_used}
use Rattle.rb_world.specs.World.{Level, Process, Talk, change_at, copy_of, is_inside, is_of, last_of, settled, with_memory, with_process, without_last}
use Rattle.rb_world.proofs.Keeping.EachProcess.{settled_each}
use Rattle.rb_world.proofs.Keeping.Induction.{turn-keeps}
use Rattle.rb_world.proofs.Keeping.Invariant.{IsInvariant}
use Rattle.rb_world.proofs.LevelFacts.{AreFrom, IsOldOrNew, IsOld, IsNew, from_next, from_same, from_take, from_used, from_without_last, get_more}
use Rattle.rb_world.proofs.ListFacts.{Each-change_at, Each-map, none_some, some_same}
use Rattle.rb_world.proofs.TurnFacts.{StepsAt}
use Rattle.rb_code.specs.Instructions.Plain.{Code, Part}
use Rattle.rb_code.specs.WordMachine.Turn.{Common, Copy, Link, Standing, step}
use Rattle.rb_code.specs.WordMachine.WordKind.{entered_at, word_kind}
use Rattle.rb_code.specs.WordMachine.WordRun.{WordWorld, opening_of, opening_standings}
use Rattle.rb_code.proofs.WholeRuns.MachineSteps.{IsSameProcess, LeavesLinks, settle_same, step_leaves}
use Rattle.rb_recovery.specs.Linked.{AreLinked, Fall, IsLinked, IsOwn}

pub fall_later : (t u : ℕ) (links : List Link) → t ≤ u → Fall t links → Fall u links
fall_later t u [] le fall = omega (arith, fall)
fall_later t u (link ∷ links) le fall = (omega (arith, fall.0), fall.1)

pub fall_below : (t : ℕ) (links : List Link) → Fall t links → Each (λ _ link. link.turn < t) links
fall_below t [] fall i link e = absurd (none_some e)
fall_below t (first ∷ links) fall zero link e = subst (λ (one : Link). one.turn < t) (some_same e) fall.0
fall_below t (first ∷ links) fall (suc i) link e =
    let below : link.turn < first.turn = fall_below first.turn links fall.1 i link e in
    omega (arith, below, fall.0)

-- what lies below a number lies below a higher one
own_later : (links : List Link) (t u p n : ℕ) → t ≤ u → IsOwn links t p n → IsOwn links u p n
own_later links t u p n le h = record { below = omega (arith, h.below); own = h.own }

module _ (link : Link) (links : List Link) where
  abbrev after : ℕ
  after = link.turn + 1

  -- a link of a later turn changes nothing for the turns before it
  own_more : (p n : ℕ) → IsOwn links link.turn p n → IsOwn (link ∷ links) after p n
  own_more p n h = record { below = omega (arith, h.below); own = own }
    where
      own : Each (λ _ other. other.turn ≡ n → other.process ≡ p) (link ∷ links)
      own zero other e same =
          absurd (omega (arith, ap (λ (one : Link). one.turn) (some_same e), same, h.below))
      own (suc i) other e same = h.own i other e same

  -- and its own turn is one of its process
  own_new : Fall link.turn links → IsOwn (link ∷ links) after link.process link.turn
  own_new fall = record { below = omega arith; own = own }
    where
      own : Each (λ _ other. other.turn ≡ link.turn → other.process ≡ link.process) (link ∷ links)
      own zero other e same = ap (λ (one : Link). one.process) (sym (some_same e))
      own (suc i) other e same =
          let below : other.turn < link.turn = fall_below link.turn links fall i other e in
          absurd (omega (arith, below, same))

  linked_more : (p : ℕ) (q : Process Standing Copy) → IsLinked links link.turn p q → IsLinked (link ∷ links) after p q
  linked_more p q h = record {
    number = h.number;
    last = own_more p q.state.last_kept h.last;
    copied = λ i level e. own_more p level.copy.last_kept (h.copied i level e);
  }

-- the link of turn n of a process
abbrev link_at : ℕ → ℕ → Standing → Link
link_at n alternate s = record { turn = n; process = s.process; alternate = alternate; before = s.last_kept }

-- What a turn does to a process whose turns are not kept by it: the last kept turn stays, and levels are some of those that were there.
module _ (links : List Link) (t p : ℕ) where
  linked_from : (q later : Process Standing Copy) → later.state.process ≡ q.state.process → later.state.last_kept ≡ q.state.last_kept
      → AreFrom later.levels q.levels → IsLinked links t p q → IsLinked links t p later
  linked_from q later process last from h = record {
    number = process ∙ h.number;
    last = subst (IsOwn links t p) (sym last) h.last;
    copied = λ i level e.
        let found = from i level e in
        subst (λ (copy : Copy). IsOwn links t p copy.last_kept) found.same (h.copied i found.level found.there);
  }

  module _ (c : Code) (groups : List Membership) where
    abbrev Words : Kind Standing Copy Common
    Words = word_kind c groups

    used_linked : (q : Process Standing Copy) → IsLinked links t p q → IsLinked links t p (turn_used q)
    used_linked q h = linked_from q (turn_used q) refl refl (from_used q.levels) h

    fallen_linked : (cause : Cause) (q : Process Standing Copy) → IsLinked links t p q → IsLinked links t p (fallen Words cause q)
    fallen_linked cause q h = linked_from q (fallen Words cause q) refl refl (λ i level e. absurd (none_some e)) h

    raised_linked : (j : ℕ) (q : Process Standing Copy) → IsLinked links t p q → IsLinked links t p (raised j q)
    raised_linked j q h = linked_from q (raised j q) refl refl (from_next j q.levels) h

    -- its copy has its own last kept turn
    back_linked : (j : ℕ) (q : Process Standing Copy) (o : Option (Level Copy)) → slice_get q.levels j ≡ o → IsLinked links t p q
        → IsLinked links t p (back_to Words j q o)
    back_linked j q None e h = h
    back_linked j q (Some level) e h = record {
      number = h.number;
      last = h.copied j level e;
      copied = λ i other at. let found = from_take (j + 1) q.levels i other at in
          subst (λ (copy : Copy). IsOwn links t p copy.last_kept) found.same (h.copied i found.level found.there);
    }

    put_back_linked : (j : ℕ) (q : Process Standing Copy) → IsLinked links t p q → IsLinked links t p (put_back Words j q)
    put_back_linked j q h = back_linked j q (slice_get q.levels j) refl h

    freed_state : (s : Standing) (levels : List (Level Copy)) → IsSameProcess s (state_freed Words s levels)
    freed_state s [] = record { process = refl; last_kept = refl }
    freed_state s (level ∷ levels) = record { process = refl; last_kept = refl }

    freed_linked : (q : Process Standing Copy) → IsLinked links t p q → IsLinked links t p (freed Words q)
    freed_linked q h =
        let same = freed_state q.state q.levels in
        linked_from q (freed Words q) same.process same.last_kept (from_same q.levels) h

    leaves_linked : (d : ℕ) (q : Process Standing Copy) (there : Bool) → IsLinked links t p q
        → IsLinked links t p (cond there (settled Words (record q.state { touched = accepted q.state.touched }) (without_last q.levels)) q)
    leaves_linked d q false h = h
    leaves_linked d q true h =
        let left : Standing = record q.state { touched = accepted q.state.touched } in
        let same : IsSameProcess left (settled Words left (without_last q.levels)).state =
        settle_same c (copy_of (last_of (without_last q.levels))) left in
        linked_from q (settled Words left (without_last q.levels)) same.process same.last_kept (from_without_last q.levels) h

    -- whoever is inside a conversation is changed
    placed_linked : (f : ℕ → Process Standing Copy → Process Standing Copy) (place : Option ℕ) (q : Process Standing Copy)
        → ((j : ℕ) → IsLinked links t p q → IsLinked links t p (f j q)) → IsLinked links t p q → IsLinked links t p (at_place f place q)
    placed_linked f None q one h = h
    placed_linked f (Some j) q one h = one j h

    inside_linked : (d : ℕ) (q : Process Standing Copy) (inside : Bool) → IsLinked links t p q
        → IsLinked links t p (cond inside (fallen Words Inner q) q)
    inside_linked d q true h = fallen_linked Inner q h
    inside_linked d q false h = h

-- a world of the same links, before a later turn
pub later_linked : (t u : ℕ) (w : WordWorld) → t ≤ u → AreLinked t w → AreLinked u w
later_linked t u w le h = record {
  fall = fall_later t u w.memory.links le h.fall;
  before = λ i link e. own_later w.memory.links t u link.process link.before le (h.before i link e);
  processes = λ p q e. let one = h.processes p q e in record {
    number = one.number;
    last = own_later w.memory.links t u p q.state.last_kept le one.last;
    copied = λ i level at. own_later w.memory.links t u p level.copy.last_kept le (one.copied i level at);
  };
}

module _ (c : Code) (groups : List Membership) where
  abbrev TheWords : Kind Standing Copy Common
  TheWords = word_kind c groups

  -- Turn n of process p is kept, which had this state before and has this one now.
  module _ (n p alternate : ℕ) (w : WordWorld) (q : Process Standing Copy) (h : AreLinked n w) (there : slice_get w.processes p ≡ Some q)
      (s : Standing) (same : IsSameProcess q.state s) where
    abbrev the_link : Link
    the_link = link_at n alternate s

    abbrev links_then : List Link
    links_then = the_link ∷ w.memory.links

    mine : IsLinked w.memory.links n p q
    mine = h.processes p q there

    number : s.process ≡ p
    number = same.process ∙ mine.number

    new_last : (m : ℕ) → m ≡ n → IsOwn links_then (n + 1) p m
    new_last m e =
        subst (IsOwn links_then (n + 1) p) (sym e)
        (subst (λ (r : ℕ). IsOwn links_then (n + 1) r n) number (own_new the_link w.memory.links h.fall))

    old_last : (m : ℕ) → IsOwn w.memory.links n p m → IsOwn links_then (n + 1) p m
    old_last m own = own_more the_link w.memory.links p m own

    before_then : Each (λ _ link. IsOwn links_then (n + 1) link.process link.before) links_then
    before_then zero link e =
        subst (λ (one : Link). IsOwn links_then (n + 1) one.process one.before) (some_same e)
        (subst (λ (r : ℕ). IsOwn links_then (n + 1) r s.last_kept) (sym number)
        (old_last s.last_kept (subst (IsOwn w.memory.links n p) (sym same.last_kept) mine.last)))
    before_then (suc i) link e = own_more the_link w.memory.links link.process link.before (h.before i link e)

    -- so it is of the world then, if the process has levels that were there, or new ones of this turn
    kept_linked : (later : Process Standing Copy) (m : Common) → later.state.process ≡ s.process → later.state.last_kept ≡ n
        → Each (λ _ level. IsOwn links_then (n + 1) p level.copy.last_kept) later.levels → m.links ≡ links_then
        → AreLinked (n + 1) (with_memory m (with_process p (λ _. later) w))
    kept_linked later m process last copied is = record {
      fall = subst (Fall (n + 1)) (sym is) (omega arith, h.fall);
      before = subst (λ (links : List Link). Each (λ _ link. IsOwn links (n + 1) link.process link.before) links) (sym is) before_then;
      processes = subst (λ (links : List Link). Each (IsLinked links (n + 1)) (change_at p (λ _. later) w.processes)) (sym is)
          (Each-change_at (IsLinked links_then (n + 1)) p (λ _. later) w.processes
          (λ r x e. linked_more the_link w.memory.links r x (h.processes r x e))
          (λ _ _. record { number = process ∙ number; last = new_last later.state.last_kept last; copied = copied }));
    }

    copied_from : (levels : List (Level Copy)) → AreFrom levels q.levels → Each (λ _ level. IsOwn links_then (n + 1) p level.copy.last_kept) levels
    copied_from levels from i level e =
        let found = from i level e in
        subst (λ (copy : Copy). IsOwn links_then (n + 1) p copy.last_kept) found.same
        (old_last found.level.copy.last_kept (mine.copied i found.level found.there))

    copied_more : (new : Level Copy) → new.copy.last_kept ≡ n
        → Each (λ _ level. IsOwn links_then (n + 1) p level.copy.last_kept) (q.levels ++ new ∷ [])
    copied_more new is i level e = by_place (get_more q.levels new i level e)
      where
        by_place : IsOldOrNew q.levels new i level → IsOwn links_then (n + 1) p level.copy.last_kept
        by_place (IsOld at) = copied_from q.levels (from_same q.levels) i level at
        by_place (IsNew at this) = new_last level.copy.last_kept (ap (λ (one : Level Copy). one.copy.last_kept) (sym this) ∙ is)

    -- it settles
    settled_linked : (later : Standing) (levels : List (Level Copy)) (m : Common) → later.process ≡ s.process → later.last_kept ≡ n
        → AreFrom levels q.levels → m.links ≡ links_then
        → AreLinked (n + 1) (with_memory m (with_process p (λ _. settled TheWords later levels) w))
    settled_linked later levels m process last from is =
        let so : IsSameProcess later (settled TheWords later levels).state = settle_same c (copy_of (last_of levels)) later in
        kept_linked (settled TheWords later levels) m (so.process ∙ process) (so.last_kept ∙ last) (copied_from levels from) is

  -- a step leaves the process and its last kept turn
  went_same : (q : Process Standing Copy) (w : WordWorld) (alternate : ℕ) (message : Option ℤ) (s : Standing) (m : Common)
      → step c alternate (copy_of (last_of q.levels)) q.state message w.memory ≡ Went s m → IsSameProcess q.state s × (m.links ≡ w.memory.links)
  went_same q w alternate message s m e =
      subst (LeavesLinks q.state w.memory) e (step_leaves c alternate (copy_of (last_of q.levels)) q.state message w.memory)

  held_same : (q : Process Standing Copy) (w : WordWorld) (alternate : ℕ) (message : Option ℤ) (s : Standing)
      → step c alternate (copy_of (last_of q.levels)) q.state message w.memory ≡ Held s → IsSameProcess q.state s
  held_same q w alternate message s e =
      subst (LeavesLinks q.state w.memory) e (step_leaves c alternate (copy_of (last_of q.levels)) q.state message w.memory)

  -- one process is changed, or each, with the same links
  module _ (t : ℕ) (w : WordWorld) (h : AreLinked t w) where
    with_processes : (processes : List (Process Standing Copy)) (talks : List Talk) → Each (IsLinked w.memory.links t) processes
        → AreLinked t (record { processes = processes; talks = talks; memory = w.memory })
    with_processes processes talks each = record { fall = h.fall; before = h.before; processes = each }

    one_changed : (p : ℕ) (f : Process Standing Copy → Process Standing Copy)
        → ((q : Process Standing Copy) → slice_get w.processes p ≡ Some q → IsLinked w.memory.links t p q → IsLinked w.memory.links t p (f q))
        → Each (IsLinked w.memory.links t) (change_at p f w.processes)
    one_changed p f one = Each-change_at (IsLinked w.memory.links t) p f w.processes h.processes (λ q e. one q e (h.processes p q e))

    all_put_back : (d : ℕ) → Each (IsLinked w.memory.links t) (map (where_inside (put_back TheWords) d) w.processes)
    all_put_back d = Each-map (IsLinked w.memory.links t) (where_inside (put_back TheWords) d) w.processes h.processes
        (λ r q _ one. placed_linked w.memory.links t r c groups (put_back TheWords) (position (is_of d) q.levels) q
        (λ j. put_back_linked w.memory.links t r c groups j q) one)

  -- a turn is used at each level of a process
  pub linked_used : (t p : ℕ) (w : WordWorld) → AreLinked t w → (q : Process Standing Copy) → slice_get w.processes p ≡ Some q
      → AreLinked t (with_process p (λ _. turn_used q) w)
  linked_used t p w h q there =
      with_processes t w h _ _ (one_changed t w h p (λ _. turn_used q) (λ x e _. used_linked w.memory.links t p c groups q (h.processes p q there)))

  -- all laws of the invariant
  pub linked_kept : IsInvariant TheWords (λ t _ w. AreLinked t w) (λ t _ _ _ w. AreLinked t w) (λ t _ w. AreLinked (t + 1) w)
  linked_kept = record {
    rests = λ t past w h. later_linked t (t + 1) w (omega arith) h;
    uses = λ t past p q w h r. linked_used t p w h q r.there;
    overruns = λ t past p q w j h r e. h;
    waits = λ t past p q w h r e. later_linked t (t + 1) w (omega arith) h;
    goes = λ t past p q w a v s m h at e.
        let same = went_same q w a v s m e in
        settled_linked t p a w q h at.acts.runs.there s same.0 (record s { last_kept = t }) q.levels _ refl refl (from_same q.levels)
        (ap (λ (links : List Link). link_at t a s ∷ links) same.1);
    opens = λ t past p q w facts a h at.
        let s : Standing = entered_at q.state in
        kept_linked t p 0 w q h at.acts.runs.there s (record { process = refl; last_kept = refl }) _ _ refl refl
        (copied_more t p 0 w q h at.acts.runs.there s (record { process = refl; last_kept = refl })
        (new_level TheWords facts a (record s { last_kept = t })) refl) refl;
    accepts = λ t past p q w a v s l h at e _ _.
        settled_linked t p a w q h at.acts.runs.there s (held_same q w a v s e) (record s { last_kept = t; touched = accepted s.touched })
        (without_last q.levels) _ refl refl (from_without_last q.levels) refl;
    stands = λ t past p q w a v s l d h at e _ _ _. stood t p a w q v s h at e;
    leaves = λ t past p q w a v s l d h at e _ _ _.
        let stood_there = stood t p a w q v s h at e in
        with_processes (t + 1) _ stood_there _ _
        (Each-map (IsLinked _ (t + 1)) (leaves TheWords d) _ stood_there.processes
        (λ r x _ one. leaves_linked _ (t + 1) r c groups d x (stands_at d x) one));
    falls = λ t past p q w left cause h r why.
        later_linked t (t + 1) _ (omega arith)
        (with_processes t w h _ _ (one_changed t w h p (fallen TheWords cause) (λ x _ one. fallen_linked w.memory.links t p c groups cause x one)));
    tries_next = λ t past p q w j l h r x y.
        let back = with_processes t w h _ w.talks
        (one_changed t w h p (put_back TheWords j) (λ z _ one. put_back_linked w.memory.links t p c groups j z one)) in
        later_linked t (t + 1) _ (omega arith)
        (with_processes t _ back _ _ (one_changed t _ back p (raised j) (λ z _ one. raised_linked w.memory.links t p c groups j z one)));
    is_spent = λ t past p q w j l h r x y.
        with_processes t w h _ _ (one_changed t w h p (put_back TheWords j) (λ z _ one. put_back_linked w.memory.links t p c groups j z one));
    all_try_next = λ t past p q w j l d h r x y.
        later_linked t (t + 1) _ (omega arith)
        (with_processes t w h _ _
        (Each-map (IsLinked w.memory.links t) (where_inside raised d) _ (all_put_back t w h d)
        (λ r z _ one. placed_linked w.memory.links t r c groups raised (position (is_of d) z.levels) z
        (λ i. raised_linked w.memory.links t r c groups i z) one)));
    all_are_spent = λ t past p q w j l d parent h r x y z. with_processes t w h _ _ (all_put_back t w h d);
    breaks = λ t past p q w j l d h r x y z.
        later_linked t (t + 1) _ (omega arith)
        (with_processes t w h _ _
        (Each-map (IsLinked w.memory.links t) (fallen_inside TheWords d) _ (all_put_back t w h d)
        (λ r u _ one. inside_linked w.memory.links t r c groups d u (is_inside d u) one)));
    is_gone = λ t past p q w j h r e. later_linked t (t + 1) w (omega arith) h;
    releases = λ t past w one h e.
        with_processes (t + 1) w h _ _
        (Each-map (IsLinked w.memory.links (t + 1)) (freed TheWords) w.processes h.processes
        (λ r q _ own. freed_linked w.memory.links (t + 1) r c groups q own));
  }
    where
      -- who came to a test line
      stood : (t p a : ℕ) (w : WordWorld) (q : Process Standing Copy) (v : Option ℤ) (s : Standing) → AreLinked t w → StepsAt TheWords p q w a v
          → step c a (copy_of (last_of q.levels)) q.state v w.memory ≡ Held s
          → AreLinked (t + 1)
          (with_memory (record w.memory { links = link_at t a s ∷ w.memory.links })
          (with_process p (λ _. stands_now (record s { last_kept = t }) q.levels) w))
      stood t p a w q v s h at e =
          let same = held_same q w a v s e in
          kept_linked t p a w q h at.acts.runs.there s same (stands_now (record s { last_kept = t }) q.levels) _ refl refl
          (copied_from t p a w q h at.acts.runs.there s same q.levels (from_same q.levels)) refl

  -- so a turn keeps it
  pub linked_turn : (t p : ℕ) (w : WordWorld) → AreLinked t w → AreLinked (t + 1) (turn TheWords t p w).0
  linked_turn t p w h = turn-keeps linked_kept t [] p w h

  -- and at the opening there is no link, and nothing was kept
  opens_at : (p r : ℕ) (parts : List Part) (s : Standing) → slice_get (opening_standings p parts) r ≡ Some s
      → (s.process ≡ p + r) × (s.last_kept ≡ 0)
  opens_at p r [] s e = absurd (none_some e)
  opens_at p zero (part ∷ parts) s e =
      let none : p ≡ p + 0 = omega arith in (
        sym (ap (λ (x : Standing). x.process) (some_same e)) ∙ none,
        sym (ap (λ (x : Standing). x.last_kept) (some_same e)),
      )
  opens_at p (suc r) (part ∷ parts) s e =
      let next : p + 1 + r ≡ p + suc r = omega arith in
      let h = opens_at (p + 1) r parts s e in
      (h.0 ∙ next, h.1)

  pub opening_linked : AreLinked 1 (opening_of c groups)
  opening_linked = record {
    fall = omega arith;
    before = λ i link e. absurd (none_some e);
    processes = settled_each TheWords (IsLinked [] 1) (opening_standings 0 c.processes)
        (λ r s e.
        let h = opens_at 0 r c.processes s e in
        let same : IsSameProcess s (settled TheWords s []).state = settle_same c None s in
        record {
          number = same.process ∙ (h.0 ∙ omega arith);
          last = record { below = omega (arith, same.last_kept, h.1); own = λ i link none. absurd (none_some none) };
          copied = λ i level none. absurd (none_some none);
        });
  }
