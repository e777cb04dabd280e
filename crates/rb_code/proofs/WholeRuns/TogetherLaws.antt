-- Standing together keeps all laws that whole runs ask for; so the run of code agrees with the meaning, where steps come to the same and
-- the machine stands upright.
use Rattle.std.proofs.Common.{◌≡◌, ℕ, Bool, false, List, refl, sym, ◌∙◌, subst}
use Rattle.rb_syntax.specs.Tree.{Tree}
use Rattle.rb_world.specs.World.{Process}
use Rattle.rb_world.proofs.Relating.Simulation.{copies_of}
use Rattle.rb_meaning.specs.State.{State}
use Rattle.rb_meaning.specs.Step.{wants_first}
use Rattle.rb_meaning.specs.Nesting.{IsNested}
use Rattle.rb_scope.specs.InFrames.{Resolved}
use Rattle.rb_scope.specs.Limits.{IsWithinLimits}
use Rattle.rb_scope.specs.declared.slot.Slot.{Slot}
use Rattle.rb_code.specs.Agreement.Laws.{Agrees}
use Rattle.rb_code.specs.Instructions.Plain.{Code}
use Rattle.rb_code.specs.Agreement.StandsFor.{StandsFor}
use Rattle.rb_code.specs.WordMachine.Turn.{Copy, Standing, want}
use Rattle.rb_code.proofs.InWords.LaidOut.{stacks_of}
use Rattle.rb_code.proofs.Agreeing.StepOutcomes.{HasCursors}
use Rattle.rb_code.proofs.WholeRuns.Agreeing.{IsAgreeing}
use Rattle.rb_code.proofs.WholeRuns.OwnMail.{sent_counts, taken_counts}
use Rattle.rb_code.proofs.WholeRuns.Pairs.{pairs_get}
use Rattle.rb_code.proofs.WholeRuns.PointsLie.{LiesWell, lies_away}
use Rattle.rb_code.proofs.WholeRuns.ProcessesBegin.{begins_empty, begins_together}
use Rattle.rb_code.proofs.WholeRuns.RunsAgree.{runs_agree}
use Rattle.rb_code.proofs.WholeRuns.StandTogether.{CopyTogether, IsUpright, StandTogether, StepsCome, Uprightness}
use Rattle.rb_code.proofs.WholeRuns.TogetherAgrees.{takes_step, want_same}
use Rattle.rb_code.proofs.WholeRuns.TogetherChanges.{back_together, enters_together, falls_together, keeps_together, leaves_lines, leaves_together, releases_together}
use Rattle.rb_code.proofs.WholeRuns.WordsOfStates.{left_at_rest, variables_are}

module _ (tree : Tree) (slots : List Slot) (c : Code) (resolved : Resolved tree slots) (limits : IsWithinLimits tree)
    (nested : IsNested tree) (stands : StandsFor tree slots c)
    (cursors : (p : ℕ) → HasCursors c p) (come : StepsCome tree slots c) (upright : Uprightness) (keeps : IsUpright c upright) where
  abbrev Together : Bool → List State → State → List Copy → Standing → Type 0
  Together = StandTogether tree slots c upright

  wants : (cs : List State) (s : State) (ds : List Copy) (u : Standing) → StandTogether tree slots c upright false cs s ds u
      → wants_first tree s.items ≡ want c u
  wants cs s ds u both = want_same tree slots c upright keeps come nested stands.channels_are cs s ds u both

  -- of which process it is
  own_process : (p : ℕ) (q : Process State State) (ds : List Copy) (u : Standing) → LiesWell tree p q
      → StandTogether tree slots c upright false (copies_of q.levels) q.state ds u → LiesWell tree u.process q
  own_process p q ds u lies both = subst (λ (n : ℕ). LiesWell tree n q) (sym lies.known.own.process ∙ both.process) lies

  pub together_agrees : IsAgreeing tree c (StandTogether tree slots c upright)
  together_agrees = record {
    want = wants;
    rests = λ cs s ds u both. left_at_rest tree slots c u.process
        (stacks_of s.environment.calls) s.items u.calls u.at both.meets.left (both.settled refl);
    sent = λ line cs s ds u channel both. sent_counts tree c u.process s u.words u.calls channel both.mail both.meets.words_meet;
    taken = λ line cs s ds u channel both. taken_counts tree c u.process s u.words u.calls channel both.mail both.meets.words_meet;
    sent_then = λ line cs s ds u channel j x y both at at'.
        let copy = pairs_get (CopyTogether tree slots c u.process) cs ds j x y both.copies at at' in
        sent_counts tree c u.process x y.words y.calls channel copy.mail copy.meets.words_meet;
    taken_then = λ line cs s ds u channel j x y both at at'.
        let copy = pairs_get (CopyTogether tree slots c u.process) cs ds j x y both.copies at at' in
        taken_counts tree c u.process x y.words y.calls channel copy.mail copy.meets.words_meet;
    variables = λ line cs s ds u both. variables_are tree c s u both.meets.words_meet;
    mark = λ line cs s ds u j x y both at at'.
        let copy = pairs_get (CopyTogether tree slots c u.process) cs ds j x y both.copies at at' in copy.meets.words_meet.held;
    keeps = λ line cs s ds u kept t both. keeps_together tree slots c upright keeps line cs s ds u kept t both;
    step = λ p q alternate message memory ds u lies running away may at lines both.
        takes_step tree slots c upright keeps come nested stands.channels_are q alternate message memory ds u
        (own_process p q ds u lies both) (lies_away tree p q lies running away) may at both lines;
    enter = λ p q facts ds u kept t lies running away enters both.
        enters_together tree slots c upright keeps (copies_of q.levels) q.state ds u facts kept t enters
        (sym (wants (copies_of q.levels) q.state ds u both) ∙ enters) (lies_away tree p q lies running away) both;
    leave = λ cs s ds u lines both. leaves_together tree slots c upright keeps cursors cs s ds u lines both;
    leave_lines = λ cs s ds u lines both. leaves_lines tree slots c upright keeps cursors cs s ds u lines both;
    release = λ line s u both. releases_together tree slots c upright keeps line s u both;
    back = λ line cs s ds u j x y both at at'. back_together tree slots c upright keeps line cs s ds u j x y both at at';
    fall = λ cs s ds u both. falls_together tree slots c upright keeps cs s ds u both;
    opens = λ p process part at at'. begins_together tree slots c stands resolved limits p process part at at' upright (keeps.opens p part at');
    opens_empty = λ p process part at at'. begins_empty tree slots c stands resolved limits p process part at at';
  }

  -- The run of the code agrees with the meaning, over every list of turns.
  pub code_agrees : (turns : List ℕ) → Agrees tree c turns
  code_agrees turns = runs_agree tree slots c (StandTogether tree slots c upright) together_agrees nested stands turns
