-- The general laws at the small kinds: counting steps changes nothing that is told; nor does it to copy the number of held
-- lines in place of the lines. The second needs the copies together with the state: each copy's lines are the front of the
-- next one's, and the innermost one's of the state's.
use Rattle.std.proofs.Common.{◌≡◌, ◌≤◌, ◌<◌, ℕ, ◌+◌, ltb, lt-ltb, le-ltb, arith, cond, not, None, position, zero, suc, Bool, true, false, List, [], ◌∷◌, ◌++◌, length, map, slice_get, take, Some, refl, sym, ap, ap₂, ◌∙◌, subst, subst₂, append_assoc, append-nil, map-id}
use Rattle.std.specs.List.{position_or_len}
use Rattle.rb_world.specs.Kind.{Membership}
use Rattle.rb_world.specs.World.{Level, Process, Running, World, with_process, without_last}
use Rattle.rb_world.specs.Turn.{Told, bounded, is_over, moves, one_used, opening, turn_used}
use Rattle.rb_world.specs.Standing.{Each}
use Rattle.rb_world.specs.Plain.{PlainEnd, Ended, StuckAt}
use Rattle.rb_world.specs.Samples.{CountsAreUnseen, MarksAreUnseen, MarksAreUnseenInRecords, CountedRunsStand, OutermostIsRejected, Deed, Prints, EntersAt, Begins, Ends, GivesUp, Doing, Marked, back_to_mark, copies_marks, copies_whole, counts_steps, do_first, entered, first_want, marked, print_line, told_of_end, told_of_run, with_deeds, without_lines}
use Rattle.rb_world.proofs.ListFacts.{none_some, some_same}
use Rattle.rb_world.proofs.Relating.Simulation.{Shared, Related, nothing_known, copies_of, StillMeets, StepsMeet, IsSimulation}
use Rattle.rb_world.proofs.Relating.RunsMeet.{OpeningsMeet, keeps_nothing, opening_meets, opening_run_meets}
use Rattle.rb_world.proofs.Relating.PlainRunsMeet.{EndsMeet, keeps_nothing_plain, plain_run_meets}
use Rattle.rb_world.proofs.Keeping.StandingFacts.{standing}
use Rattle.rb_world.proofs.Relating.Image.{IsImage, stepped_image}
use Rattle.rb_world.proofs.Relating.ImageRuns.{opening_run-image, copy_there, take-map, more-map}
use Rattle.rb_world.proofs.LastLevels.{without_last-map}

-- Counting.
forgets_count : (deeds : List Deed) (s : Doing) (n : ℕ) → do_first deeds s (tt {0}) ≡ stepped_image (λ x. x) (λ _. tt {0}) (do_first deeds s n)
forgets_count [] s n = refl
forgets_count (Prints line ∷ deeds) s n = refl
forgets_count (EntersAt facts ∷ deeds) s n = refl
forgets_count (Begins ∷ deeds) s n = refl
forgets_count (Ends ∷ deeds) s n = refl
forgets_count (GivesUp ∷ deeds) s n = refl

counting_image : (groups : List Membership) → IsImage (counts_steps groups) (copies_whole groups) (λ s. s) (λ copy. copy) (λ _. tt {0})
counting_image groups = record {
  plain = record {
    channels = refl;
    groups = refl;
    want = λ s. refl;
    settle = λ c s. refl;
    enter = λ s. refl;
    copy = λ s. refl;
    accept = λ s. refl;
    step = λ alternate copy s message m. forgets_count s.deeds s (m + 1);
    sent = λ s c. refl;
    taken = λ s c. refl;
    sent_then = λ s copy c. refl;
    taken_then = λ s copy c. refl;
    message = λ m s c i. refl;
    message_then = λ m s copy c i. refl;
    held = λ s. refl;
    release = λ s. refl;
    keep = λ t alternate s m. refl;
  };
  restore = λ s copy. refl;
  cut = λ n s. refl;
}

pub counting_tells_same : CountsAreUnseen
counting_tells_same groups turns states n =
    sym (ap (λ (x : World Doing Doing (Unit {0}) × List Told). x.1) (opening_run-image (counting_image groups) turns states n))
    ∙ ap (λ (ss : List Doing). told_of_run (copies_whole groups) turns ss tt) (map-id states)

-- Lines that begin others.
abbrev Lines : Type 0
Lines = List (List ℕ)

abbrev IsFront : Lines → Lines → Type 0
IsFront a b = (rest : Lines) × (a ++ rest ≡ b)

front_same : (a : Lines) → IsFront a a
front_same a = ([], append-nil a)

front_longer : (a b c : Lines) → IsFront a b → IsFront b c → IsFront a c
front_longer a b c e f = (e.0 ++ f.0, sym (append_assoc a e.0 f.0) ∙ ap (λ x. x ++ f.0) e.1 ∙ f.1)

take_of_longer : (a rest : Lines) → take (length a) (a ++ rest) ≡ a
take_of_longer [] rest = refl
take_of_longer (x ∷ a) rest = ap (λ y. x ∷ y) (take_of_longer a rest)

take_front : (a b : Lines) → IsFront a b → take (length a) b ≡ a
take_front a b e = ap (take (length a)) (sym e.1) ∙ take_of_longer a e.0

-- Copies from the outside in, each a front of the next, and the last of the state's lines.
abbrev first_lines : List Doing → Lines → Lines
first_lines [] top = top
first_lines (c ∷ cs) top = c.lines

abbrev IsChain : List Doing → Lines → Type 0
IsChain [] top = Unit {0}
IsChain (c ∷ cs) top = IsFront c.lines (first_lines cs top) × IsChain cs top

chain_longer : (cs : List Doing) (top top' : Lines) → IsFront top top' → IsChain cs top → IsChain cs top'
chain_longer [] top top' e h = tt
chain_longer (c ∷ []) top top' e h = (front_longer c.lines top top' h.0 e, tt)
chain_longer (c ∷ d ∷ cs) top top' e h = (h.0, chain_longer (d ∷ cs) top top' e h.1)

chain_more : (cs : List Doing) (s : Doing) → IsChain cs s.lines → IsChain (cs ++ s ∷ []) s.lines
chain_more [] s h = (front_same s.lines, tt)
chain_more (c ∷ []) s h = (h.0, (front_same s.lines, tt))
chain_more (c ∷ d ∷ cs) s h = (h.0, chain_more (d ∷ cs) s h.1)

chain_less : (cs : List Doing) (top : Lines) → IsChain cs top → IsChain (without_last cs) top
chain_less [] top h = tt
chain_less (c ∷ []) top h = tt
chain_less (c ∷ d ∷ []) top h = (front_longer c.lines d.lines top h.0 h.1.0, tt)
chain_less (c ∷ d ∷ e ∷ cs) top h = (h.0, chain_less (d ∷ e ∷ cs) top h.1)

first_front : (cs : List Doing) (top : Lines) → IsChain cs top → IsFront (first_lines cs top) top
first_front [] top h = front_same top
first_front (c ∷ cs) top h = front_longer c.lines (first_lines cs top) top h.0 (first_front cs top h.1)

chain_get : (cs : List Doing) (top : Lines) (j : ℕ) (x : Doing) → IsChain cs top → slice_get cs j ≡ Some x → IsFront x.lines top
chain_get [] top j x h e = absurd (none_some e)
chain_get (c ∷ cs) top zero x h e =
    subst (λ (y : Doing). IsFront y.lines top) (some_same e) (front_longer c.lines (first_lines cs top) top h.0 (first_front cs top h.1))
chain_get (c ∷ cs) top (suc j) x h e = chain_get cs top j x h.1 e

chain_take : (cs : List Doing) (top : Lines) (j : ℕ) (x : Doing) → IsChain cs top → slice_get cs j ≡ Some x → IsChain (take (suc j) cs) x.lines
chain_take [] top j x h e = tt
chain_take (c ∷ cs) top zero x h e = (subst (λ (y : Doing). IsFront c.lines y.lines) (some_same e) (front_same c.lines), tt)
chain_take (c ∷ []) top (suc j) x h e = absurd (none_some e)
chain_take (c ∷ d ∷ cs) top (suc j) x h e = (h.0, chain_take (d ∷ cs) top j x h.1 e)

-- The same state, marks of the copies, and copies that are a chain.
record IsMarked (cs : List Doing) (s : Doing) (ds : List Marked) (u : Doing) : Type 0 where
  marks : map marked cs ≡ ds
  same : s ≡ u
  chain : IsChain cs s.lines

abbrev Marking : Related Doing Doing (Unit {0}) Doing Marked (Unit {0})
Marking line m n cs s ds u = IsMarked cs s ds u

abbrev NoMemory : Shared (Unit {0}) (Unit {0})
NoMemory m n = Unit {0}

at_marks : (P : List Marked → Doing → Type 0) {cs : List Doing} {s : Doing} {ds : List Marked} {u : Doing}
    → IsMarked cs s ds u → P (map marked cs) s → P ds u
at_marks P e h = subst₂ P e.marks e.same h

mark_there : (cs : List Doing) (ds : List Marked) (j : ℕ) (x : Doing) (y : Marked) → map marked cs ≡ ds
    → slice_get cs j ≡ Some x → slice_get ds j ≡ Some y → marked x ≡ y
mark_there cs ds j x y e at at' =
    copy_there marked cs j x y at (ap (λ (es : List Marked). slice_get es j) e ∙ at')

module _ (groups : List Membership) where
  still_marked : (p : ℕ) (w : World Doing Doing (Unit {0})) (line : Bool) (cs : List Doing) (s : Doing) → IsChain cs s.lines
      → StillMeets NoMemory Marking p w tt line tt tt cs s (map marked cs) s
  still_marked p w line cs s chain = record {
    memories = tt;
    states = record { marks = refl; same = refl; chain = chain };
    others = λ r q es v _ _ both. both;
  }

  step_marked : (t p alternate : ℕ) (w : World Doing Doing (Unit {0})) (cs : List Doing) (deeds : List Deed) (s : Doing) → IsChain cs s.lines
      → StepsMeet (copies_whole groups) (copies_marks groups) NoMemory Marking t p alternate w tt cs (map marked cs)
      (do_first deeds s tt) (do_first deeds s tt)
  step_marked t p alternate w cs [] s chain = still_marked p w false cs s chain
  step_marked t p alternate w cs (Prints line ∷ deeds) s chain =
      still_marked p w false cs (print_line line deeds s) (chain_longer cs s.lines (s.lines ++ line ∷ []) (line ∷ [], refl) chain)
  step_marked t p alternate w cs (EntersAt facts ∷ deeds) s chain = still_marked p w false cs s chain
  step_marked t p alternate w cs (Begins ∷ deeds) s chain = still_marked p w false cs (with_deeds deeds s) chain
  step_marked t p alternate w cs (Ends ∷ deeds) s chain = still_marked p w true cs (with_deeds deeds s) chain
  step_marked t p alternate w cs (GivesUp ∷ deeds) s chain = refl

  marks_simulate : IsSimulation (copies_whole groups) (copies_marks groups) NoMemory Marking nothing_known
  marks_simulate = record {
    plain = record {
      channels = refl;
      groups = refl;
      want = λ m n cs s ds u e. ap (λ (x : Doing). first_want x.deeds) e.same;
      sent = λ line m n cs s ds u c e. refl;
      taken = λ line m n cs s ds u c e. refl;
      sent_then = λ line m n cs s ds u c j x y e _ _. refl;
      taken_then = λ line m n x cs s y ds u c e. refl;
      message = λ t p q w c sender receiver n ds u acts receipt memories e _ _. refl;
      message_then = λ t p q w c sender receiver n ds u j x y acts receipt memories e _ _ _ _. refl;
      step = λ t p q w alternate message n ds u acts ready at memories e.
          at_marks (λ ds u. StepsMeet (copies_whole groups) (copies_marks groups) NoMemory Marking t p alternate w n (copies_of q.levels) ds
          (do_first q.state.deeds q.state w.memory) (do_first u.deeds u n)) e
          (step_marked t p alternate w (copies_of q.levels) q.state.deeds q.state e.chain);
      enter = λ t p q w facts n ds u acts wants memories e.
          at_marks (λ ds u. let x = with_deeds (entered q.state.deeds) q.state in let y = with_deeds (entered u.deeds) u in
          StillMeets NoMemory Marking p w n false w.memory n (copies_of q.levels ++ x ∷ []) x (ds ++ marked y ∷ []) y) e
          (record {
            memories = tt;
            states = record {
              marks = more-map marked (copies_of q.levels) (with_deeds (entered q.state.deeds) q.state);
              same = refl;
              chain = chain_more (copies_of q.levels) (with_deeds (entered q.state.deeds) q.state) e.chain;
            };
            others = λ r x es v _ _ both. both;
          });
      leave = λ m n cs s ds u e. record {
        marks = sym (without_last-map marked cs) ∙ ap without_last e.marks;
        same = e.same;
        chain = chain_less cs s.lines e.chain;
      };
      held = λ line m n s u e. ap (λ (x : Doing). x.lines) e.same;
      release = λ line m n s u e. record { marks = refl; same = ap without_lines e.same; chain = tt };
    };
    back = λ line m n cs s ds u j x y e at at'. record {
      marks = sym (take-map marked (suc j) cs) ∙ ap (take (suc j)) e.marks;
      same = sym (ap (λ (lines : Lines). record { deeds = x.deeds; lines = lines })
          (take_front x.lines s.lines (chain_get cs s.lines j x e.chain at)))
          ∙ ap₂ back_to_mark e.same (mark_there cs ds j x y e.marks at at');
      chain = chain_take cs s.lines j x e.chain at;
    };
    fall = λ m n cs s ds u e. record { marks = refl; same = e.same; chain = tt };
  }

  openings_marked : (states : List Doing) → OpeningsMeet (copies_whole groups) (copies_marks groups) Marking tt tt states states
  openings_marked [] = tt
  openings_marked (s ∷ states) = (record { marks = refl; same = refl; chain = tt }, openings_marked states)

pub marks_tell_same : MarksAreUnseen
marks_tell_same groups turns states =
    (opening_run_meets (marks_simulate groups) (keeps_nothing (copies_whole groups)) turns tt tt states states tt tt
    (openings_marked groups states)).same_told

ends_tell_same : (groups : List Membership) (x : PlainEnd Doing Doing (Unit {0})) (y : PlainEnd Doing Marked (Unit {0}))
    → EndsMeet NoMemory Marking x y → told_of_end x ≡ told_of_end y
ends_tell_same groups (Ended w lines) (Ended v lines') e = ap Some e.1
ends_tell_same groups (Ended w lines) (StuckAt t) e = absurd e
ends_tell_same groups (StuckAt t) (Ended v lines) e = absurd e
ends_tell_same groups (StuckAt t) (StuckAt t') e = refl

pub marks_tell_same_plainly : MarksAreUnseenInRecords
marks_tell_same_plainly groups turns states =
    ends_tell_same groups _ _
    (plain_run_meets (marks_simulate groups).plain (keeps_nothing_plain (copies_whole groups)) turns
    (opening (copies_whole groups) states tt) (opening (copies_marks groups) states tt) tt
    (opening_meets (marks_simulate groups).plain tt tt states states tt (openings_marked groups states)))

-- every run of the counting kind stands
pub counted_runs_stand : CountedRunsStand
counted_runs_stand groups turns states n = standing (counts_steps groups) turns states n

-- Bounds: the first level from the outside that has no turn left is found.
abbrev HasTurnLeft : ℕ → Level Doing → Type 0
HasTurnLeft r level = level.used < level.facts.bound

abbrev Levels : Type 0
Levels = List (Level Doing)

first_over : (outside : Levels) (over : Level Doing) (inside : Levels) → Each HasTurnLeft outside → over.facts.bound ≤ over.used
    → position_or_len is_over (map one_used (outside ++ over ∷ inside)) ≡ length outside
first_over [] over inside left spent =
    ap (λ (b : Bool). cond (not b) (1 + position_or_len is_over (map one_used inside)) 0)
    (lt-ltb over.facts.bound (over.used + 1) (omega (arith, spent)))
first_over (level ∷ outside) over inside left spent =
    let rest : ℕ = position_or_len is_over (map one_used (outside ++ over ∷ inside)) in
    ap (λ (b : Bool). cond (not b) (1 + rest) 0) (le-ltb level.facts.bound (level.used + 1) (omega (arith, left 0 level refl)))
    ∙ omega (arith, first_over outside over inside (λ r. left (suc r)) spent)

stands_before : (outside : Levels) (over : Level Doing) (inside : Levels) → length outside < length (map one_used (outside ++ over ∷ inside))
stands_before [] over inside = omega arith
stands_before (level ∷ outside) over inside = omega (arith, stands_before outside over inside)

over_at : (outside : Levels) (over : Level Doing) (inside : Levels) → Each HasTurnLeft outside → over.facts.bound ≤ over.used
    → position is_over (map one_used (outside ++ over ∷ inside)) ≡ Some (length outside)
over_at outside over inside left spent =
    ap (λ (n : ℕ). cond (ltb n (length (map one_used (outside ++ over ∷ inside)))) (Some n) None) (first_over outside over inside left spent)
    ∙ ap (λ (b : Bool). cond b (Some (length outside)) None)
    (lt-ltb (length outside) (length (map one_used (outside ++ over ∷ inside))) (stands_before outside over inside))

pub outermost_goes : OutermostIsRejected
outermost_goes groups t p w s outside over inside at_line there left spent =
    let q : Process Doing Doing = record { state = s; levels = outside ++ over ∷ inside; at_line = at_line; status = Running } in
    ap (moves (copies_whole groups) t p w) there
    ∙ ap (bounded (copies_whole groups) t p (turn_used q) (with_process p (λ _. turn_used q) w)) (over_at outside over inside left spent)
