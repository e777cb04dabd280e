-- In every world of a run of a nested tree each recovery point lies in the very frames in which its block's start or test is left.
use Rattle.std.proofs.Common.{◌≡◌, ℕ, ℤ, ◌+◌, zero, suc, false, List, [], ◌∷◌, ◌++◌, map, take, slice_get, Option, Some, None, refl, sym, ap, ◌∙◌, subst, true≢false, add-one}
use Rattle.rb_syntax.specs.Tree.{Tree}
use Rattle.rb_world.specs.Kind.{Facts, Held}
use Rattle.rb_world.specs.World.{Level, Process, Running, copy_of, last_of, settled, without_last}
use Rattle.rb_world.specs.Reject.{back_to}
use Rattle.rb_world.specs.Turn.{is_last_of, new_level, state_freed}
use Rattle.rb_world.specs.Standing.{is_failed}
use Rattle.rb_world.proofs.Keeping.EachProcess.{KeepsEach}
use Rattle.rb_world.proofs.Relating.ImageRuns.{more-map, take-map}
use Rattle.rb_world.proofs.LastLevels.{without_last-map}
use Rattle.rb_world.proofs.ListFacts.{first_holds, none_some, second_holds, some_same}
use Rattle.rb_world.proofs.Relating.MarksMeet.{copies-front, copies-get, copies-more, copies-next, copies-take, copies-used}
use Rattle.rb_world.proofs.Relating.Simulation.{copies_of}
use Rattle.rb_meaning.specs.State.{State, with_kept}
use Rattle.rb_meaning.specs.Step.{enter, entered_items}
use Rattle.rb_meaning.specs.Meaning.{environment_of, opening_states, tree_kind}
use Rattle.rb_meaning.specs.Laws.{with_test}
use Rattle.rb_meaning.specs.Nesting.{IsNested}
use Rattle.rb_meaning.proofs.InsideOut.{onto, onto-front, onto-more}
use Rattle.rb_meaning.proofs.Knowing.KnownOfProcess.{Known}
use Rattle.rb_meaning.proofs.Knowing.KnownFacts.{IsEntered, entered_block, running_last}
use Rattle.rb_meaning.proofs.Knowing.KnownIsKept.{known_kept}
use Rattle.rb_meaning.proofs.Nesting.NestedProgram.{known_opening, procedures_kept}
use Rattle.rb_meaning.proofs.Trees.TreeErasure.{each_opening}
use Rattle.rb_syntax.specs.Tree.{Commands, NoCommand, Then}
use Rattle.rb_meaning.specs.State.{performed}
use Rattle.rb_code.proofs.WholeRuns.StacksLeft.{Stacks, held_leaves, left_in, settled_left, stacks_in, stacks_left, went_leaves}

-- from the outside in, each copy lies in its own frames, and those around it in theirs
abbrev pub PointsLie : List Stacks → List State → Type 0
PointsLie outer [] = Unit {0}
PointsLie outer (copy ∷ copies) = (left_in copy ≡ stacks_in copy ∷ outer) × PointsLie (stacks_in copy ∷ outer) copies

-- the frames of copies
abbrev pub stacks_at : List State → List Stacks
stacks_at copies = map stacks_in copies

pub lie_more : (outer : List Stacks) (copies : List State) (copy : State) → PointsLie outer copies
    → left_in copy ≡ stacks_in copy ∷ onto outer (stacks_at copies)
    → PointsLie outer (copies ++ copy ∷ [])
lie_more outer [] copy lie e = (e, tt)
lie_more outer (one ∷ copies) copy lie e = (lie.0, lie_more (stacks_in one ∷ outer) copies copy lie.1 e)

pub lie_front : (outer : List Stacks) (copies : List State) → PointsLie outer copies → PointsLie outer (without_last copies)
lie_front outer [] lie = tt
lie_front outer (copy ∷ []) lie = tt
lie_front outer (copy ∷ other ∷ copies) lie = (lie.0, lie_front (stacks_in copy ∷ outer) (other ∷ copies) lie.1)

pub lie_taken : (outer : List Stacks) (n : ℕ) (copies : List State) → PointsLie outer copies → PointsLie outer (take n copies)
lie_taken outer zero copies lie = tt
lie_taken outer (suc n) [] lie = tt
lie_taken outer (suc n) (copy ∷ copies) lie = (lie.0, lie_taken (stacks_in copy ∷ outer) n copies lie.1)

pub lies_at : (outer : List Stacks) (j : ℕ) (copies : List State) (copy : State) → PointsLie outer copies → slice_get copies j ≡ Some copy
    → left_in copy ≡ onto outer (take (suc j) (stacks_at copies))
lies_at outer j [] copy lie e = absurd (none_some e)
lies_at outer zero (one ∷ copies) copy lie e = subst (λ (x : State). left_in x ≡ stacks_in one ∷ outer) (some_same e) lie.0
lies_at outer (suc j) (one ∷ copies) copy lie e = lies_at (stacks_in one ∷ outer) j copies copy lie.1 e

-- the frames of the test that held were those of the innermost copy
pub front_gone : (first : Stacks) (others all : List Stacks) → first ∷ others ≡ onto [] all → others ≡ onto [] (without_last all)
front_gone first others [] e = cc
front_gone first others (x ∷ all) e = sym (onto-front [] x all first others (sym e))

-- What is known of each process, and that its recovery points lie where they are left.
pub record LiesWell (tree : Tree) (p : ℕ) (q : Process State State) : Type 0 where
  pub known : Known tree p q
  pub points : PointsLie [] (copies_of q.levels)
  pub left : is_failed q.status ≡ false → left_in q.state ≡ onto [] (with_test q.at_line (stacks_at (copies_of q.levels)))

-- who runs away from every line
pub lies_away : (tree : Tree) (p : ℕ) (q : Process State State) → LiesWell tree p q → q.status ≡ Running → q.at_line ≡ false
    → left_in q.state ≡ onto [] (stacks_at (copies_of q.levels))
lies_away tree p q lies running away =
    lies.left (ap is_failed running) ∙ ap (λ line. onto [] (with_test line (stacks_at (copies_of q.levels)))) away

-- the block that is entered is left in the present frames
pub entered_left : (tree : Tree) (s : State) (facts : Facts) → IsEntered tree s.items facts → left_in (enter s) ≡ stacks_in s ∷ left_in s
entered_left tree s facts entry =
    ap (λ items. stacks_left (entered_items items) (stacks_in s)) entry.is
    ∙ ap (λ items. stacks_in s ∷ stacks_left items (stacks_in s)) (sym entry.is)

-- before the first turn no start is left
pub none_left : (commands : Commands) (stacks : Stacks) → stacks_left (performed commands []) stacks ≡ []
none_left NoCommand stacks = refl
none_left (Then first commands) stacks = none_left commands stacks

module _ (tree : Tree) (nested : IsNested tree) where
  abbrev keeps : KeepsEach (tree_kind tree) (Known tree)
  keeps = known_kept tree (procedures_kept tree nested)

  -- after a test that held
  held_gone : (q : Process State State) (alternate : ℕ) (message : Option ℤ) (s : State) → left_in q.state ≡ onto [] (stacks_at (copies_of q.levels))
      → (tree_kind tree).step alternate (copy_of (last_of q.levels)) q.state message tt ≡ Held s
      → left_in s ≡ onto [] (without_last (stacks_at (copies_of q.levels)))
  held_gone q alternate message s away e =
      front_gone (stacks_in q.state) (left_in s) (stacks_at (copies_of q.levels))
      (sym (held_leaves q.state tree alternate (environment_of (copy_of (last_of q.levels))) message s e) ∙ away)

  front_same : (levels : List (Level State)) → without_last (stacks_at (copies_of levels)) ≡ stacks_at (copies_of (without_last levels))
  front_same levels = without_last-map stacks_in (copies_of levels) ∙ ap stacks_at (sym (copies-front levels))

  lies_front : (levels : List (Level State)) → PointsLie [] (copies_of levels) → PointsLie [] (copies_of (without_last levels))
  lies_front levels lie = subst (PointsLie []) (sym (copies-front levels)) (lie_front [] (copies_of levels) lie)

  lies_back : (p j : ℕ) (q : Process State State) (o : Option (Level State)) → slice_get q.levels j ≡ o → LiesWell tree p q
      → Known tree p (back_to (tree_kind tree) j q o) → LiesWell tree p (back_to (tree_kind tree) j q o)
  lies_back p j q None e lies known = lies
  lies_back p j q (Some level) e lies known =
      let there : slice_get (copies_of q.levels) j ≡ Some level.copy = copies-get q.levels j ∙ ap (λ (x : Option (Level State)). copy_of x) e in
      let taken : copies_of (take (j + 1) q.levels) ≡ take (j + 1) (copies_of q.levels) = copies-take (j + 1) q.levels in
      record {
        known = known;
        points = subst (PointsLie []) (sym taken) (lie_taken [] (j + 1) (copies_of q.levels) lies.points);
        left = λ _. lies_at [] j (copies_of q.levels) level.copy lies.points there
            ∙ ap (λ n. onto [] (take n (stacks_at (copies_of q.levels)))) (sym (add-one j))
            ∙ ap (onto []) (take-map stacks_in (j + 1) (copies_of q.levels) ∙ ap stacks_at (sym taken));
      }

  freed_same : (s : State) (levels : List (Level State)) → left_in (state_freed (tree_kind tree) s levels) ≡ left_in s
  freed_same s [] = refl
  freed_same s (level ∷ levels) = refl

  pub lies_kept : KeepsEach (tree_kind tree) (LiesWell tree)
  lies_kept = record {
    counts = λ p q lies. record {
      known = keeps.counts p q lies.known;
      points = subst (PointsLie []) (sym (copies-used q.levels)) lies.points;
      left = λ whole. lies.left whole ∙ ap (λ copies. onto [] (with_test q.at_line (stacks_at copies))) (sym (copies-used q.levels));
    };
    goes = λ t p q w a v s m lies at e. record {
      known = keeps.goes t p q w a v s m lies.known at e;
      points = lies.points;
      left = λ _. settled_left s.items s.environment
          ∙ went_leaves q.state tree a (environment_of (copy_of (last_of q.levels))) v s m e
          ∙ lies_away tree p q lies at.acts.runs.running at.acts.away;
    };
    opens = λ t p q w f a lies at.
        let s = with_kept (q.state.kept ++ (t, 0) ∷ []) (enter q.state) in
        let new = new_level (tree_kind tree) f a s in
        let away = lies_away tree p q lies at.acts.runs.running at.acts.away in
        let entered : left_in s ≡ stacks_in s ∷ onto [] (stacks_at (copies_of q.levels)) =
        entered_left tree q.state f (entered_block tree q.state.items f at.wants) ∙ ap (λ all. stacks_in s ∷ all) away in
        record {
          known = keeps.opens t p q w f a lies.known at;
          points = subst (PointsLie []) (sym (copies-more q.levels new)) (lie_more [] (copies_of q.levels) s lies.points entered);
          left = λ _. entered
              ∙ sym (onto-more [] (stacks_at (copies_of q.levels)) (stacks_in s))
              ∙ ap (onto []) (sym (more-map stacks_in (copies_of q.levels) s))
              ∙ ap (λ copies. onto [] (stacks_at copies)) (sym (copies-more q.levels new));
        };
    accepts = λ t p q w a v s lies at e. record {
      known = keeps.accepts t p q w a v s lies.known at e;
      points = lies_front q.levels lies.points;
      left = λ _. settled_left s.items s.environment
          ∙ held_gone q a v s (lies_away tree p q lies at.acts.runs.running at.acts.away) e
          ∙ ap (onto []) (front_same q.levels);
    };
    stands = λ t p q w a v s lies at e. record {
      known = keeps.stands t p q w a v s lies.known at e;
      points = lies.points;
      left = λ _. held_gone q a v s (lies_away tree p q lies at.acts.runs.running at.acts.away) e;
    };
    leaves = λ p c q lies e. record {
      known = keeps.leaves p c q lies.known e;
      points = lies_front q.levels lies.points;
      left = λ _. settled_left q.state.items q.state.environment
          ∙ lies.left (ap is_failed (running_last q.levels q.status c lies.known.inside (second_holds q.at_line (is_last_of c (last_of q.levels)) e)))
          ∙ ap (λ line. onto [] (with_test line (stacks_at (copies_of q.levels)))) (first_holds q.at_line (is_last_of c (last_of q.levels)) e)
          ∙ ap (onto []) (front_same q.levels);
    };
    falls = λ p q cause lies. record { known = keeps.falls p q cause lies.known; points = tt; left = λ e. absurd (true≢false e) };
    goes_back = λ p j q lies. lies_back p j q (slice_get q.levels j) refl lies (keeps.goes_back p j q lies.known);
    rises = λ p j q lies. record {
      known = keeps.rises p j q lies.known;
      points = subst (PointsLie []) (sym (copies-next j q.levels)) lies.points;
      left = λ whole. lies.left whole ∙ ap (λ copies. onto [] (with_test q.at_line (stacks_at copies))) (sym (copies-next j q.levels));
    };
    is_freed = λ p q lies. record {
      known = keeps.is_freed p q lies.known;
      points = lies.points;
      left = λ whole. freed_same q.state q.levels ∙ lies.left whole;
    };
  }

  pub lies_opening : (r : ℕ) (s : State) → slice_get (opening_states tree 0 tree.processes) r ≡ Some s
      → LiesWell tree r (settled (tree_kind tree) s [])
  lies_opening r s e = record {
    known = known_opening tree nested r s e;
    points = tt;
    left = λ _. settled_left s.items s.environment
        ∙ each_opening tree (λ x. left_in x ≡ []) (λ n process. none_left process.commands _) 0 tree.processes r s e;
  }
