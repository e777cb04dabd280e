-- In every world of a run of a tree, before turn t, each turn that is kept in a state or in a recovery point is before turn t.
use Rattle.std.proofs.Common.{◌≡◌, ◌≤◌, ℕ, ℤ, ◌+◌, Bool, true, false, cond, List, [], ◌∷◌, ◌++◌, map, position, slice_get, Option, Some, None, refl, sym, ap, ◌∙◌, subst, arith}
use Rattle.rb_base.specs.declared.event.Cause.{Cause}
use Rattle.rb_base.specs.declared.event.Cause.TheVariants.{Inner}
use Rattle.rb_syntax.specs.Tree.{Tree}
use Rattle.rb_world.specs.Kind.{Went, Held}
use Rattle.rb_world.specs.World.{Level, Process, ProcessStatus, change_at, copy_of, goes_on, is_inside, is_of, last_of, settled, with_process, without_last}
use Rattle.rb_world.specs.Reject.{at_place, back_to, fallen, fallen_inside, put_back, raised, where_inside}
use Rattle.rb_world.specs.Turn.{freed, leaves, new_level, opening, stands_at, stands_now, turn_used}
use Rattle.rb_world.specs.Standing.{Each}
use Rattle.rb_world.proofs.Keeping.Invariant.{IsInvariant}
use Rattle.rb_world.proofs.Keeping.EachProcess.{settled_each}
use Rattle.rb_world.proofs.ListFacts.{none_some, Each-change_at, Each-map}
use Rattle.rb_world.proofs.LevelFacts.{AreFrom, IsOldOrNew, IsOld, IsNew, get_more, from_next, from_take, from_used, from_without_last}
use Rattle.rb_meaning.specs.State.{State, with_kept}
use Rattle.rb_meaning.specs.Step.{Nothing, enter}
use Rattle.rb_meaning.specs.Meaning.{TreeWorld, environment_of, tree_kind}
use Rattle.rb_code.proofs.WholeRuns.KeptTurns.{AreBefore, joined-before, later-before}
use Rattle.rb_code.proofs.WholeRuns.StepsFollow.{held_follows, went_follows}

-- the kept turns of the recovery points of these levels are before turn t
abbrev pub PointsBefore : ℕ → List (Level State) → Type 0
PointsBefore t levels = (i : ℕ) (level : Level State) → slice_get levels i ≡ Some level → AreBefore t level.copy.kept

-- and so are those of the present state
pub record IsInTime (t : ℕ) (q : Process State State) : Type 0 where
  pub now : AreBefore t q.state.kept
  pub then : PointsBefore t q.levels

-- of all processes before turn t, which is not turn 0
pub record AreInTime (t : ℕ) (w : TreeWorld) : Type 0 where
  pub some : 1 ≤ t
  pub each : Each (λ r q. IsInTime t q) w.processes

points_from : (t : ℕ) (levels old : List (Level State)) → AreFrom levels old → PointsBefore t old → PointsBefore t levels
points_from t levels old from before i level e =
    let comes = from i level e in
    subst (λ (s : State). AreBefore t s.kept) comes.same (before i comes.level comes.there)

points_later : (t : ℕ) (levels : List (Level State)) → PointsBefore t levels → PointsBefore (t + 1) levels
points_later t levels before i level e = later-before t (t + 1) level.copy.kept (omega arith) (before i level e)

points_more : (t : ℕ) (levels : List (Level State)) (new : Level State) → PointsBefore t levels → AreBefore t new.copy.kept
    → PointsBefore t (levels ++ new ∷ [])
points_more t levels new before own i level e = by_place (get_more levels new i level e)
  where
    by_place : IsOldOrNew levels new i level → AreBefore t level.copy.kept
    by_place (IsOld there) = before i level there
    by_place (IsNew at same) = subst (λ (l : Level State). AreBefore t l.copy.kept) same own

module _ (tree : Tree) where
  later : (t : ℕ) (q : Process State State) → IsInTime t q → IsInTime (t + 1) q
  later t q h = record { now = later-before t (t + 1) q.state.kept (omega arith) h.now; then = points_later t q.levels h.then }

  -- a state after turn t, which is kept
  joins : (t : ℕ) (s u : State) (alternate : ℕ) → u.kept ≡ s.kept ++ (t, alternate) ∷ [] → AreBefore t s.kept → AreBefore (t + 1) u.kept
  joins t s u alternate e before =
      subst (λ (turns : List (ℕ × ℕ)). AreBefore (t + 1) turns) (sym e) (joined-before t (t + 1) s.kept alternate (omega arith) before)

  used_in_time : (t : ℕ) (q : Process State State) → IsInTime t q → IsInTime t (turn_used q)
  used_in_time t q h = record { now = h.now; then = points_from t _ q.levels (from_used q.levels) h.then }

  back_in_time : (t j : ℕ) (q : Process State State) (level : Option (Level State)) → slice_get q.levels j ≡ level → IsInTime t q
      → IsInTime t (back_to (tree_kind tree) j q level)
  back_in_time t j q None e h = h
  back_in_time t j q (Some level) e h =
      record { now = h.then j level e; then = points_from t _ q.levels (from_take (j + 1) q.levels) h.then }

  put_back_in_time : (t j : ℕ) (q : Process State State) → IsInTime t q → IsInTime t (put_back (tree_kind tree) j q)
  put_back_in_time t j q h = back_in_time t j q (slice_get q.levels j) refl h

  raised_in_time : (t j : ℕ) (q : Process State State) → IsInTime t q → IsInTime t (raised j q)
  raised_in_time t j q h = record { now = h.now; then = points_from t _ q.levels (from_next j q.levels) h.then }

  at_place_in_time : (t : ℕ) (f : ℕ → Process State State → Process State State) (place : Option ℕ) (q : Process State State)
      → ((j : ℕ) → IsInTime t q → IsInTime t (f j q)) → IsInTime t q → IsInTime t (at_place f place q)
  at_place_in_time t f None q one h = h
  at_place_in_time t f (Some j) q one h = one j h

  fallen_in_time : (t : ℕ) (q : Process State State) (cause : Cause) → IsInTime t q → IsInTime t (fallen (tree_kind tree) cause q)
  fallen_in_time t q cause h = record { now = h.now; then = λ i level e. absurd (none_some e) }

  fallen_inside_in_time : (t : ℕ) (q : Process State State) (inside : Bool) → IsInTime t q
      → IsInTime t (cond inside (fallen (tree_kind tree) Inner q) q)
  fallen_inside_in_time t q true h = fallen_in_time t q Inner h
  fallen_inside_in_time t q false h = h

  leaves_in_time : (t : ℕ) (q : Process State State) (there : Bool) → IsInTime t q
      → IsInTime t (cond there (settled (tree_kind tree) q.state (without_last q.levels)) q)
  leaves_in_time t q true h = record { now = h.now; then = points_from t _ q.levels (from_without_last q.levels) h.then }
  leaves_in_time t q false h = h

  freed_in_time : (t : ℕ) (s : State) (levels : List (Level State)) (line : Bool) (status : ProcessStatus)
      → IsInTime t (record { state = s; levels = levels; at_line = line; status = status })
      → IsInTime t (freed (tree_kind tree) (record { state = s; levels = levels; at_line = line; status = status }))
  freed_in_time t s [] line status h = record { now = h.now; then = h.then }
  freed_in_time t s (l ∷ ls) line status h = h

  inside_in_time : (t c : ℕ) (f : ℕ → Process State State → Process State State) (qs : List (Process State State))
      → ((j : ℕ) (q : Process State State) → IsInTime t q → IsInTime t (f j q)) → Each (λ r q. IsInTime t q) qs
      → Each (λ r q. IsInTime t q) (map (where_inside f c) qs)
  inside_in_time t c f qs one h =
      Each-map (λ r q. IsInTime t q) (where_inside f c) qs h (λ r q _. at_place_in_time t f (position (is_of c) q.levels) q (λ j. one j q))

  broken_in_time : (t c : ℕ) (qs : List (Process State State)) → Each (λ r q. IsInTime t q) qs
      → Each (λ r q. IsInTime t q) (map (fallen_inside (tree_kind tree) c) qs)
  broken_in_time t c qs h =
      Each-map (λ r q. IsInTime t q) (fallen_inside (tree_kind tree) c) qs h (λ r q _. fallen_inside_in_time t q (is_inside c q))

  each_later : (t : ℕ) (qs : List (Process State State)) → Each (λ r q. IsInTime t q) qs → Each (λ r q. IsInTime (t + 1) q) qs
  each_later t qs h r q e = later t q (h r q e)

  -- one process gets a new state, in turn t
  set_in_time : (t p : ℕ) (q : Process State State) (w : TreeWorld) → AreInTime t w → IsInTime (t + 1) q
      → Each (λ r z. IsInTime (t + 1) z) (change_at p (λ _. q) w.processes)
  set_in_time t p q w h new = Each-change_at (λ r z. IsInTime (t + 1) z) p (λ _. q) w.processes (each_later t w.processes h.each) (λ _ _. new)

  alone_in_time : (t p : ℕ) (f : Process State State → Process State State) (w : TreeWorld)
      → ((q : Process State State) → IsInTime t q → IsInTime t (f q))
      → Each (λ r z. IsInTime t z) w.processes → Each (λ r z. IsInTime t z) (change_at p f w.processes)
  alone_in_time t p f w one h = Each-change_at (λ r z. IsInTime t z) p f w.processes h (λ q e. one q (h p q e))

  went_joins : (t : ℕ) (q : Process State State) (alternate : ℕ) (message : Option ℤ) (s : State) (m : Nothing) → AreBefore t q.state.kept
      → (tree_kind tree).step alternate (copy_of (last_of q.levels)) q.state message tt ≡ Went s m → AreBefore (t + 1) (s.kept ++ (t, alternate) ∷ [])
  went_joins t q alternate message s m before e =
      joins t q.state (with_kept (s.kept ++ (t, alternate) ∷ []) s) alternate
      (ap (λ turns. turns ++ (t, alternate) ∷ [])
      (went_follows q.state tree alternate (environment_of (copy_of (last_of q.levels))) message s m e).kept) before

  held_joins : (t : ℕ) (q : Process State State) (alternate : ℕ) (message : Option ℤ) (s : State) → AreBefore t q.state.kept
      → (tree_kind tree).step alternate (copy_of (last_of q.levels)) q.state message tt ≡ Held s → AreBefore (t + 1) (s.kept ++ (t, alternate) ∷ [])
  held_joins t q alternate message s before e =
      joins t q.state (with_kept (s.kept ++ (t, alternate) ∷ []) s) alternate
      (ap (λ turns. turns ++ (t, alternate) ∷ [])
      (held_follows q.state tree alternate (environment_of (copy_of (last_of q.levels))) message s e).kept) before

  -- who stands at a line after turn t
  stands_in_time : (t : ℕ) (q : Process State State) (alternate : ℕ) (message : Option ℤ) (s : State) → IsInTime t q
      → (tree_kind tree).step alternate (copy_of (last_of q.levels)) q.state message tt ≡ Held s
      → IsInTime (t + 1) (stands_now (with_kept (s.kept ++ (t, alternate) ∷ []) s) q.levels)
  stands_in_time t q alternate message s h e =
      record { now = held_joins t q alternate message s h.now e; then = points_later t q.levels h.then }

  pub in_time_kept : IsInvariant (tree_kind tree) (λ t past w. AreInTime t w) (λ t past p left w. AreInTime t w) (λ t past w. AreInTime (t + 1) w)
  in_time_kept = record {
    rests = λ t past w h. record { some = omega arith; each = each_later t w.processes h.each };
    uses = λ t past p q w h r. record {
      some = h.some;
      each = Each-change_at (λ r z. IsInTime t z) p (λ _. turn_used q) w.processes h.each (λ _ _. used_in_time t q (h.each p q r.there));
    };
    overruns = λ t past p q w j h r e. h;
    waits = λ t past p q w h r e. record { some = omega arith; each = each_later t w.processes h.each };
    goes = λ t past p q w a v s m h at e.
        let own = h.each p q at.acts.runs.there in
        record {
          some = omega arith;
          each = set_in_time t p (settled (tree_kind tree) (with_kept (s.kept ++ (t, a) ∷ []) s) q.levels) w h
              (record { now = went_joins t q a v s m own.now e; then = points_later t q.levels own.then });
        };
    opens = λ t past p q w f a h at.
        let own = h.each p q at.acts.runs.there in
        let s = with_kept (q.state.kept ++ (t, 0) ∷ []) (enter q.state) in
        let now = joined-before t (t + 1) q.state.kept 0 (omega arith) own.now in
        record {
          some = omega arith;
          each = set_in_time t p (goes_on (tree_kind tree) s (q.levels ++ new_level (tree_kind tree) f a s ∷ [])) w h
              (record { now = now; then = points_more (t + 1) q.levels (new_level (tree_kind tree) f a s) (points_later t q.levels own.then) now });
        };
    accepts = λ t past p q w a v s l h at e _ _.
        let own = h.each p q at.acts.runs.there in
        record {
          some = omega arith;
          each = set_in_time t p (settled (tree_kind tree) (with_kept (s.kept ++ (t, a) ∷ []) s) (without_last q.levels)) w h (record {
            now = held_joins t q a v s own.now e;
            then = points_from (t + 1) _ q.levels (from_without_last q.levels) (points_later t q.levels own.then);
          });
        };
    stands = λ t past p q w a v s l c h at e _ _ _. record {
      some = omega arith;
      each = set_in_time t p (stands_now (with_kept (s.kept ++ (t, a) ∷ []) s) q.levels) w h
          (stands_in_time t q a v s (h.each p q at.acts.runs.there) e);
    };
    leaves = λ t past p q w a v s l c h at e _ _ _. record {
      some = omega arith;
      each = Each-map (λ r z. IsInTime (t + 1) z) (leaves (tree_kind tree) c)
          (change_at p (λ _. stands_now (with_kept (s.kept ++ (t, a) ∷ []) s) q.levels) w.processes)
          (set_in_time t p (stands_now (with_kept (s.kept ++ (t, a) ∷ []) s) q.levels) w h
          (stands_in_time t q a v s (h.each p q at.acts.runs.there) e))
          (λ r z _. leaves_in_time (t + 1) z (stands_at c z));
    };
    falls = λ t past p q w left cause h r why. record {
      some = omega arith;
      each = each_later t _ (alone_in_time t p (fallen (tree_kind tree) cause) w (λ z. fallen_in_time t z cause) h.each);
    };
    tries_next = λ t past p q w j l h r x y. record {
      some = omega arith;
      each = each_later t _ (alone_in_time t p (raised j) (with_process p (put_back (tree_kind tree) j) w) (raised_in_time t j)
          (alone_in_time t p (put_back (tree_kind tree) j) w (put_back_in_time t j) h.each));
    };
    is_spent = λ t past p q w j l h r x y. record {
      some = h.some;
      each = alone_in_time t p (put_back (tree_kind tree) j) w (put_back_in_time t j) h.each;
    };
    all_try_next = λ t past p q w j l c h r x y. record {
      some = omega arith;
      each = each_later t _
          (inside_in_time t c raised _ (λ i. raised_in_time t i)
          (inside_in_time t c (put_back (tree_kind tree)) w.processes (λ i. put_back_in_time t i) h.each));
    };
    all_are_spent = λ t past p q w j l c d h r x y z. record {
      some = h.some;
      each = inside_in_time t c (put_back (tree_kind tree)) w.processes (λ i. put_back_in_time t i) h.each;
    };
    breaks = λ t past p q w j l c h r x y z. record {
      some = omega arith;
      each = each_later t _ (broken_in_time t c _ (inside_in_time t c (put_back (tree_kind tree)) w.processes (λ i. put_back_in_time t i) h.each));
    };
    is_gone = λ t past p q w j h r e. record { some = omega arith; each = each_later t w.processes h.each };
    releases = λ t past w o h e. record {
      some = h.some;
      each = Each-map (λ r z. IsInTime (t + 1) z) (freed (tree_kind tree)) w.processes h.each
          (λ r z _. freed_in_time (t + 1) z.state z.levels z.at_line z.status);
    };
  }

  -- before the first turn nothing was kept
  pub opening_in_time : (states : List State) → ((r : ℕ) (s : State) → slice_get states r ≡ Some s → s.kept ≡ [])
      → AreInTime 1 (opening (tree_kind tree) states tt)
  opening_in_time states none = record {
    some = omega arith;
    each = settled_each (tree_kind tree) (λ r q. IsInTime 1 q) states (λ r s e. record {
      now = λ i one there. absurd (none_some (ap (λ (turns : List (ℕ × ℕ)). slice_get turns i) (sym (none r s e)) ∙ there));
      then = λ i level there. absurd (none_some there);
    });
  }
