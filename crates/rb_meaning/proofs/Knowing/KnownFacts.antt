-- What is known of a process, under the changes that turns are made of: who has a level runs; the block that is entered; text
-- that settles, and turns that are kept.
use Rattle.std.proofs.Common.{◌≡◌, ℕ, true, false, List, [], ◌∷◌, map, slice_get, Some, refl, sym, ap, ◌∙◌, subst, true≢false}
use Rattle.rb_syntax.specs.Tree.{Command, Assignment, Printing, Sending, Receiving, Conditional, Loop, Invocation, Failure, Recovering, Otherwise, NoElse, Else, RecoveryBlock, Tree}
use Rattle.rb_world.specs.Kind.{Facts, Enters}
use Rattle.rb_world.specs.World.{Level, ProcessStatus, Running, Process, goes_on, last_of, settled, status_at, without_last}
use Rattle.rb_world.specs.Turn.{is_last_of}
use Rattle.rb_world.specs.Standing.{is_failed}
use Rattle.rb_world.proofs.ListFacts.{none_some}
use Rattle.rb_meaning.specs.State.{Item, Perform, StartOf, TestOf, EndBlock, EndCall, State, settle, with_kept}
use Rattle.rb_meaning.specs.Step.{enter, entered_items, wants, wants_first, wants_receipt}
use Rattle.rb_meaning.specs.Groups.{channel_number, facts_of}
use Rattle.rb_meaning.specs.Meaning.{tree_kind}
use Rattle.rb_meaning.specs.Laws.{with_test}
use Rattle.rb_meaning.proofs.Nesting.RulesLeft.{AreClear, blocks_settled, clear_settled}
use Rattle.rb_meaning.proofs.Nesting.StepsKeepRules.{Continues}
use Rattle.rb_meaning.proofs.InsideOut.{onto, onto-front, onto-some}
use Rattle.rb_meaning.proofs.Nesting.RecoveryPoints.{ArePoints, IsOwn, facts_in, facts_left}
use Rattle.rb_meaning.proofs.Knowing.KnownOfProcess.{Known, RunsInside}

-- who may act runs
receipt_runs : (c : ℕ) (otherwise : Otherwise) → status_at (wants_receipt c otherwise) ≡ Running
receipt_runs c NoElse = refl
receipt_runs c (Else body) = refl

pub wants_runs : (tree : Tree) (command : Command) → status_at (wants tree command) ≡ Running
wants_runs tree (Assignment to e) = refl
wants_runs tree (Printing items) = refl
wants_runs tree (Sending channel e) = refl
wants_runs tree (Receiving channel to otherwise) = receipt_runs (channel_number tree channel.text) otherwise
wants_runs tree (Conditional test body otherwise) = refl
wants_runs tree (Loop test body) = refl
wants_runs tree (Invocation procedure arguments) = refl
wants_runs tree Failure = refl
wants_runs tree (Recovering block) = refl

inside_left : (tree : Tree) (levels : List (Level State)) (items : List Item) → facts_left tree items ≡ onto [] (facts_in levels)
    → RunsInside levels (status_at (wants_first tree items))
inside_left tree [] items e = tt
inside_left tree (level ∷ levels) [] e = absurd (onto-some level.facts [] (facts_in levels) e)
inside_left tree (level ∷ levels) (Perform command ∷ items) e = wants_runs tree command
inside_left tree (level ∷ levels) (StartOf block ∷ items) e = refl
inside_left tree (level ∷ levels) (TestOf block ∷ items) e = refl
inside_left tree (level ∷ levels) (EndBlock ∷ items) e = refl
inside_left tree (level ∷ levels) (EndCall ∷ items) e = refl

-- who runs may have levels
pub inside_running : (levels : List (Level State)) (status : ProcessStatus) → status ≡ Running → RunsInside levels status
inside_running [] status e = tt
inside_running (level ∷ levels) status e = e

-- who has level number j runs
pub running_inside : (levels : List (Level State)) (status : ProcessStatus) (j : ℕ) (level : Level State) → RunsInside levels status
    → slice_get levels j ≡ Some level → status ≡ Running
running_inside [] status j level inside e = absurd (none_some e)
running_inside (l ∷ levels) status j level inside e = inside

-- who has an innermost level of conversation c runs
pub running_last : (levels : List (Level State)) (status : ProcessStatus) (c : ℕ) → RunsInside levels status
    → is_last_of c (last_of levels) ≡ true → status ≡ Running
running_last [] status c inside e = absurd (true≢false (sym e))
running_last (level ∷ levels) status c inside e = inside

-- The block of a test that held was that of the innermost level.
pub front_left : (f : Facts) (tail facts : List Facts) → f ∷ tail ≡ onto [] facts → tail ≡ onto [] (without_last facts)
front_left f tail [] e = cc
front_left f tail (x ∷ facts) e = sym (onto-front [] x facts f tail (sym e))

-- The block that is entered.
pub record IsEntered (tree : Tree) (items : List Item) (facts : Facts) : Type 0 where
  pub block : RecoveryBlock
  pub rest : List Item
  pub is : items ≡ Perform (Recovering block) ∷ rest
  pub facts_are : facts_of tree block ≡ facts

receipt_enters : (c : ℕ) (otherwise : Otherwise) (facts : Facts) → wants_receipt c otherwise ≡ Enters facts → ⊥
receipt_enters c NoElse facts e = cc
receipt_enters c (Else body) facts e = cc

entered_command : (tree : Tree) (command : Command) (rest : List Item) (facts : Facts) → wants tree command ≡ Enters facts
    → IsEntered tree (Perform command ∷ rest) facts
entered_command tree (Assignment to e) rest facts w = absurd cc
entered_command tree (Printing items) rest facts w = absurd cc
entered_command tree (Sending channel e) rest facts w = absurd cc
entered_command tree (Receiving channel to otherwise) rest facts w = absurd (receipt_enters (channel_number tree channel.text) otherwise facts w)
entered_command tree (Conditional test body otherwise) rest facts w = absurd cc
entered_command tree (Loop test body) rest facts w = absurd cc
entered_command tree (Invocation procedure arguments) rest facts w = absurd cc
entered_command tree Failure rest facts w = absurd cc
entered_command tree (Recovering block) rest facts w = record { block = block; rest = rest; is = refl; facts_are = cc }

-- what stands first where a block is entered
pub entered_block : (tree : Tree) (items : List Item) (facts : Facts) → wants_first tree items ≡ Enters facts → IsEntered tree items facts
entered_block tree [] facts w = absurd cc
entered_block tree (Perform command ∷ rest) facts w = entered_command tree command rest facts w
entered_block tree (StartOf block ∷ rest) facts w = absurd cc
entered_block tree (TestOf block ∷ rest) facts w = absurd cc
entered_block tree (EndBlock ∷ rest) facts w = absurd cc
entered_block tree (EndCall ∷ rest) facts w = absurd cc

module _ (tree : Tree) (p : ℕ) where
  -- settling keeps a state of process p
  pub own_settled : (s : State) → IsOwn tree p s → IsOwn tree p (settle s)
  own_settled s own = record {
    process = own.process;
    clear = clear_settled tree p s.items s.environment own.clear;
    sent = own.sent;
    taken = own.taken;
  }

  -- and so does a step
  pub own_continues : (blocks : List RecoveryBlock) (s t : State) → IsOwn tree p s → Continues tree p blocks s t → IsOwn tree p t
  own_continues blocks s t own next = record {
    process = next.process ∙ own.process;
    clear = next.clear;
    sent = next.sent ∙ own.sent;
    taken = next.taken ∙ own.taken;
  }

  -- and so does a turn that is kept
  pub own_kept : (kept : List (ℕ × ℕ)) (s : State) → IsOwn tree p s → IsOwn tree p (with_kept kept s)
  own_kept kept s own = record { process = own.process; clear = own.clear; sent = own.sent; taken = own.taken }

  -- entering changes no use of what is left
  pub own_entered : (s : State) (facts : Facts) → IsOwn tree p s → IsEntered tree s.items facts → IsOwn tree p (enter s)
  own_entered s facts own entry = record {
    process = own.process;
    clear = subst (λ (items : List Item). AreClear tree p items) (sym (ap entered_items entry.is))
        (subst (λ (items : List Item). AreClear tree p items) entry.is own.clear);
    sent = own.sent;
    taken = own.taken;
  }

  -- the block that is entered is left from then on
  pub left_entered : (items : List Item) (facts : Facts) → IsEntered tree items facts
      → facts_left tree (entered_items items) ≡ facts ∷ facts_left tree items
  left_entered items facts entry =
      ap (λ (xs : List Item). facts_left tree (entered_items xs)) entry.is
      ∙ ap (λ f. f ∷ facts_left tree entry.rest) entry.facts_are
      ∙ ap (λ (xs : List Item). facts ∷ facts_left tree xs) (sym entry.is)

  -- who goes on away from every line
  pub known_goes : (s : State) (levels : List (Level State)) → IsOwn tree p s → ArePoints tree p [] levels
      → facts_left tree s.items ≡ onto [] (facts_in levels) → Known tree p (goes_on (tree_kind tree) s levels)
  known_goes s levels own points e = record { own = own; points = points; left = λ _. e; inside = inside_left tree levels s.items e }

  -- the same once ends of blocks and calls were taken away
  pub known_settled : (s : State) (levels : List (Level State)) → IsOwn tree p s → ArePoints tree p [] levels
      → facts_left tree s.items ≡ onto [] (facts_in levels) → Known tree p (settled (tree_kind tree) s levels)
  known_settled s levels own points e =
      known_goes (settle s) levels (own_settled s own) points (ap (map (facts_of tree)) (blocks_settled s.items s.environment) ∙ e)

  -- who runs away from every line has the levels of what is left
  pub left_away : (q : Process State State) → Known tree p q → q.status ≡ Running → q.at_line ≡ false
      → facts_left tree q.state.items ≡ onto [] (facts_in q.levels)
  left_away q known running away =
      known.left (ap is_failed running) ∙ ap (λ line. onto [] (with_test line (facts_in q.levels))) away
