-- What is known of each process of a run of a nested program stays true in every turn.
use Rattle.std.proofs.Common.{◌≡◌, ℕ, ℤ, ◌+◌, suc, true, List, [], ◌∷◌, ◌++◌, map, take, slice_get, Option, Some, None, refl, sym, ap, ◌∙◌, subst, true≢false, add-one}
use Rattle.rb_syntax.specs.Tree.{Tree}
use Rattle.rb_world.specs.Kind.{Facts, Went, Held}
use Rattle.rb_world.specs.World.{Level, change_at, ProcessStatus, Running, Process, goes_on, last_of, settled, without_last, copy_of}
use Rattle.rb_world.specs.Reject.{back_to, next_alternate}
use Rattle.rb_world.specs.Turn.{one_used, is_last_of, new_level, state_freed}
use Rattle.rb_world.specs.Standing.{is_failed}
use Rattle.rb_world.proofs.Keeping.EachProcess.{KeepsEach}
use Rattle.rb_world.proofs.Relating.ImageRuns.{more-map}
use Rattle.rb_world.proofs.LastLevels.{without_last-map}
use Rattle.rb_world.proofs.ListFacts.{first_holds, second_holds}
use Rattle.rb_meaning.specs.State.{State, with_kept}
use Rattle.rb_meaning.specs.Step.{Nothing, Result_of_step, enter, entered_items, step_items}
use Rattle.rb_meaning.specs.Groups.{facts_of}
use Rattle.rb_meaning.specs.Meaning.{environment_of, tree_kind}
use Rattle.rb_meaning.specs.Laws.{blocks_left}
use Rattle.rb_meaning.specs.Laws.{with_test}
use Rattle.rb_meaning.proofs.Nesting.StepsKeepRules.{Continues, HasClearProcedures, Passes, StepsTo, steps_keep}
use Rattle.rb_meaning.proofs.InsideOut.{onto, onto-more}
use Rattle.rb_meaning.proofs.Nesting.RecoveryPoints.{ArePoints, IsOwn, IsPoint, StartsFirst, facts_in, facts_left, facts_raised, facts_used, point_at, points_front, points_more, points_raised, points_taken, points_used}
use Rattle.rb_meaning.proofs.Knowing.KnownOfProcess.{Known, RunsInside}
use Rattle.rb_meaning.proofs.Knowing.KnownFacts.{IsEntered, entered_block, front_left, inside_running, known_goes, known_settled, left_away, left_entered, own_continues, own_entered, own_kept, running_inside, running_last}

module _ (tree : Tree) (procedures : (p : ℕ) → HasClearProcedures tree p) where
  -- a step that went on
  went : (p : ℕ) (q : Process State State) (alternate : ℕ) (message : Option ℤ) (s : State) (m : Nothing) → Known tree p q
      → step_items tree alternate (environment_of (copy_of (last_of q.levels))) q.state message q.state.items ≡ Went s m
      → Continues tree p (blocks_left q.state.items) q.state s
  went p q alternate message s m known e =
      subst (λ (r : Result_of_step). StepsTo (Continues tree p (blocks_left q.state.items) q.state) (Passes tree p q.state) r) e
      (steps_keep tree p (procedures p) alternate
      (environment_of (copy_of (last_of q.levels))) message q.state q.state.items known.own.process refl known.own.clear)

  held : (p : ℕ) (q : Process State State) (alternate : ℕ) (message : Option ℤ) (s : State) → Known tree p q
      → step_items tree alternate (environment_of (copy_of (last_of q.levels))) q.state message q.state.items ≡ Held s → Passes tree p q.state s
  held p q alternate message s known e =
      subst (λ (r : Result_of_step). StepsTo (Continues tree p (blocks_left q.state.items) q.state) (Passes tree p q.state) r) e
      (steps_keep tree p (procedures p) alternate
      (environment_of (copy_of (last_of q.levels))) message q.state q.state.items known.own.process refl known.own.clear)

  -- after a test that held, the blocks that are left are those of the levels outside
  left_held : (p : ℕ) (q : Process State State) (s : State) → Passes tree p q.state s → facts_left tree q.state.items ≡ onto [] (facts_in q.levels)
      → facts_left tree s.items ≡ onto [] (without_last (facts_in q.levels))
  left_held p q s passes e =
      front_left (facts_of tree passes.block) (facts_left tree s.items) (facts_in q.levels)
      (ap (map (facts_of tree)) (sym passes.blocks_are) ∙ e)

  -- the new level, and those outside it
  known_opened : (p : ℕ) (q : Process State State) (facts : Facts) (alternate : ℕ) (s : State) → IsOwn tree p s → StartsFirst s.items
      → facts_left tree s.items ≡ facts ∷ onto [] (facts_in q.levels) → ArePoints tree p [] q.levels
      → Known tree p (goes_on (tree_kind tree) s (q.levels ++ new_level (tree_kind tree) facts alternate s ∷ []))
  known_opened p q facts alternate s own first e points =
      let level = new_level (tree_kind tree) facts alternate s in
      known_goes tree p s (q.levels ++ level ∷ []) own
      (points_more tree p [] q.levels level points (record { own = own; first = first; left = e }))
      (e ∙ sym (onto-more [] (facts_in q.levels) facts) ∙ ap (onto []) (sym (more-map (λ (l : Level State). l.facts) q.levels level)))

  first_entered : (p : ℕ) (s : State) (facts : Facts) → IsEntered tree s.items facts → StartsFirst (enter s).items
  first_entered p s facts entry = record { block = entry.block; rest = entry.rest; is = ap entered_items entry.is }

  known_back : (p j : ℕ) (q : Process State State) (o : Option (Level State)) → slice_get q.levels j ≡ o → Known tree p q
      → Known tree p (back_to (tree_kind tree) j q o)
  known_back p j q None e known = known
  known_back p j q (Some level) e known =
      let point : IsPoint tree p (onto [] (facts_in (take (suc j) q.levels))) level.copy = point_at tree p [] j q.levels level known.points e in
      record {
        own = point.own;
        points = points_taken tree p [] (j + 1) q.levels known.points;
        left = λ _. point.left ∙ ap (λ n. onto [] (facts_in (take n q.levels))) (sym (add-one j));
        inside = inside_running (take (j + 1) q.levels) q.status (running_inside q.levels q.status j level known.inside e);
      }

  own_freed : (p : ℕ) (s : State) (levels : List (Level State)) → IsOwn tree p s → IsOwn tree p (state_freed (tree_kind tree) s levels)
  own_freed p s [] own = record { process = own.process; clear = own.clear; sent = own.sent; taken = own.taken }
  own_freed p s (level ∷ levels) own = own

  items_freed : (s : State) (levels : List (Level State)) → facts_left tree (state_freed (tree_kind tree) s levels).items ≡ facts_left tree s.items
  items_freed s [] = refl
  items_freed s (level ∷ levels) = refl

  inside_same : (levels levels' : List (Level State)) (status : ProcessStatus) → facts_in levels ≡ facts_in levels'
      → RunsInside levels' status → RunsInside levels status
  inside_same [] levels' status e inside = tt
  inside_same (level ∷ levels) [] status e inside = absurd cc
  inside_same (level ∷ levels) (l ∷ levels') status e inside = inside

  known_changed : (p : ℕ) (q : Process State State) (levels : List (Level State)) → Known tree p q
      → ArePoints tree p [] levels → facts_in levels ≡ facts_in q.levels
      → Known tree p (record { state = q.state; levels = levels; at_line = q.at_line; status = q.status })
  known_changed p q levels known points e = record {
    own = known.own;
    points = points;
    left = λ whole. known.left whole ∙ ap (λ fs. onto [] (with_test q.at_line fs)) (sym e);
    inside = inside_same levels q.levels q.status e known.inside;
  }

  known_leaves : (p c : ℕ) (q : Process State State) → Known tree p q → q.at_line ≡ true → is_last_of c (last_of q.levels) ≡ true
      → Known tree p (settled (tree_kind tree) q.state (without_last q.levels))
  known_leaves p c q known line last =
      known_settled tree p q.state (without_last q.levels) known.own (points_front tree p [] q.levels known.points)
      (known.left (ap is_failed (running_last q.levels q.status c known.inside last))
      ∙ ap (λ b. onto [] (with_test b (facts_in q.levels))) line
      ∙ ap (onto []) (without_last-map (λ (l : Level State). l.facts) q.levels))

  -- all changes of a process keep what is known of it
  pub known_kept : KeepsEach (tree_kind tree) (Known tree)
  known_kept = record {
    counts = λ p q known. known_changed p q (map one_used q.levels) known (points_used tree p [] q.levels known.points) (facts_used q.levels);
    goes = λ t p q w alternate message s m known at e.
        let next = went p q alternate message s m known e in
        known_settled tree p (with_kept (s.kept ++ (t, alternate) ∷ []) s) q.levels
        (own_kept tree p (s.kept ++ (t, alternate) ∷ []) s (own_continues tree p (blocks_left q.state.items) q.state s known.own next)) known.points
        (ap (map (facts_of tree)) next.blocks_are ∙ left_away tree p q known at.acts.runs.running at.acts.away);
    opens = λ t p q w facts alternate known at.
        let entry = entered_block tree q.state.items facts at.wants in
        let kept = (enter q.state).kept ++ (t, 0) ∷ [] in
        known_opened p q facts alternate (with_kept kept (enter q.state))
        (own_kept tree p kept (enter q.state) (own_entered tree p q.state facts known.own entry))
        (first_entered p q.state facts entry)
        (left_entered tree p q.state.items facts entry
        ∙ ap (λ fs. facts ∷ fs) (left_away tree p q known at.acts.runs.running at.acts.away)) known.points;
    accepts = λ t p q w alternate message s known at e.
        let passes = held p q alternate message s known e in
        known_settled tree p (with_kept (s.kept ++ (t, alternate) ∷ []) s) (without_last q.levels)
        (own_kept tree p (s.kept ++ (t, alternate) ∷ []) s (own_continues tree p (blocks_left s.items) q.state s known.own passes.continues))
        (points_front tree p [] q.levels known.points)
        (left_held p q s passes (left_away tree p q known at.acts.runs.running at.acts.away)
        ∙ ap (onto []) (without_last-map (λ (l : Level State). l.facts) q.levels));
    stands = λ t p q w alternate message s known at e.
        let passes = held p q alternate message s known e in
        record {
          own = own_kept tree p (s.kept ++ (t, alternate) ∷ []) s (own_continues tree p (blocks_left s.items) q.state s known.own passes.continues);
          points = known.points;
          left = λ _. left_held p q s passes (left_away tree p q known at.acts.runs.running at.acts.away);
          inside = inside_running q.levels Running refl;
        };
    leaves = λ p c q known e. known_leaves p c q known (first_holds q.at_line (is_last_of c (last_of q.levels)) e)
        (second_holds q.at_line (is_last_of c (last_of q.levels)) e);
    falls = λ p q cause known. record { own = known.own; points = tt; left = λ e. absurd (true≢false e); inside = tt };
    goes_back = λ p j q known. known_back p j q (slice_get q.levels j) refl known;
    rises = λ p j q known. known_changed p q (change_at j next_alternate q.levels) known
        (points_raised tree p [] j q.levels known.points) (facts_raised j q.levels);
    is_freed = λ p q known. record {
      own = own_freed p q.state q.levels known.own;
      points = known.points;
      left = λ whole. items_freed q.state q.levels ∙ known.left whole;
      inside = known.inside;
    };
  }
