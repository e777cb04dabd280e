-- An assignment does the same in the meaning and in the machine.
use Rattle.std.proofs.Common.{◌≡◌, ◌<◌, ◌≤◌, ℕ, ◌+◌, ℤ, List, [], slice_set, Some, Ok, refl, sym, subst, arith}
use Rattle.std.proofs.lemmas.List.{length-set}
use Rattle.rb_base.specs.Limits.{most_words}
use Rattle.rb_syntax.specs.Tree.{Assignment, Expression, Reference, Tree}
use Rattle.rb_meaning.specs.Environment.{store, words}
use Rattle.rb_meaning.specs.State.{Item, State, continue_with, with_environment}
use Rattle.rb_meaning.specs.Step.{performs, present_value, put_at}
use Rattle.rb_scope.specs.Frames.{Lying, lying, words_lying}
use Rattle.rb_scope.specs.InFrames.{CommandInFrames}
use Rattle.rb_scope.specs.declared.slot.Slot.{Slot}
use Rattle.rb_code.specs.Instructions.Plain.{Code}
use Rattle.rb_code.specs.WordMachine.Workspace.{Workspace, OpenCall, part_of, written}
use Rattle.rb_code.specs.WordMachine.Act.{Sight}
use Rattle.rb_code.specs.Agreement.Forms.{CommandForm, ExpressionCode, StoreCode}
use Rattle.rb_code.proofs.Agreeing.Placed.{CommandPlaced}
use Rattle.rb_code.proofs.Agreeing.ResultsReached.{recounted}
use Rattle.rb_code.proofs.InWords.LaidOut.{place_lying, stacks_of}
use Rattle.rb_code.proofs.Agreeing.TextLeft.{Left, owner_of}
use Rattle.rb_code.proofs.Agreeing.StatesMeet.{WordsMeet}
use Rattle.rb_code.proofs.InWords.Environments.{laid_long, laid_store, store_kept}
use Rattle.rb_code.proofs.Agreeing.Stores.{frames_of, in_frames, plain_comes, store_took}
use Rattle.rb_code.proofs.Agreeing.StepOutcomes.{HasCursors, InTurn, Took, arrives, words_again, words_continue}

module _ (tree : Tree) (slots : List Slot) (c : Code) (see : Sight) (has : HasCursors c see.process) where
  -- a write of a variable
  pub words_stored : (s : State) (m : Workspace) → WordsMeet tree c see.process s m.words m.calls → (x : List ℕ) (at : Lying)
      → lying (frames_of tree slots c see has s) x ≡ Some at → (k : ℕ) (v : ℤ) → k < words_lying at
      → WordsMeet tree c see.process (with_environment (store s.environment x k v) s)
      (slice_set m.words (place_lying (part_of c see.process) m.calls at + k) v) m.calls
  words_stored s m w x at e k v l =
      let part = part_of c see.process in
      let env = store s.environment x k v in
      let all = slice_set m.words (place_lying part m.calls at + k) v in
      let laid = laid_store part w.front s.environment m.words m.calls w.laid (frames_of tree slots c see has s)
      (in_frames tree slots c see has s m w) x at e k v l in
      let few = w.few in
      let fewer : words env ≤ most_words c.edition =
      omega (
        arith,
        few,
        length-set m.words (place_lying part m.calls at + k) v,
        laid_long part w.front env all m.calls laid,
        laid_long part w.front s.environment m.words m.calls w.laid,
      ) in
      words_again tree c see.process has s m.words m.calls w env all m.calls laid (store_kept s.environment x k v).0 fewer

  -- what is left stands in the same frames
  pub left_stored : (s : State) (items : List Item) (calls : List OpenCall) (x : List ℕ) (k : ℕ) (v : ℤ) (a : ℕ)
      → Left tree slots c see.process (stacks_of s.environment.calls) items calls a
      → Left tree slots c see.process (stacks_of (store s.environment x k v).calls) items calls a
  left_stored s items calls x k v a left =
      subst (λ stacks. Left tree slots c see.process stacks items calls a) (sym (store_kept s.environment x k v).1) left

  pub assignment_took : (s : State) (m : Workspace) → InTurn tree slots c see has s m → (to : Reference) (e : Expression) (rest : List Item) (a b : ℕ)
      → CommandPlaced tree slots (owner_of tree see.process) (Assignment to e) c a b
      → CommandInFrames tree slots see.process (frames_of tree slots c see has s) (Assignment to e)
      → Left tree slots c see.process (stacks_of s.environment.calls) rest m.calls b
      → Took tree slots c see has (a + 1) [] m (λ later. m.slots) (performs tree see.message s rest (Assignment to e))
  unfolding CommandForm
  assignment_took s m turn to e rest a b (d, begin, code) is left =
      store_took tree slots c see has s m turn (ExpressionCode slots e) (present_value s.environment e) m refl
      (λ a1 b1 set os two code1. plain_comes tree slots c see has s m turn e is.1 a1 b1 set os two code1)
      (λ later. m.slots) (λ place v. Ok (with_environment (put_at s.environment v place) (continue_with rest s))) b
      (λ x at found k l y later two. arrives tree slots c see has (with_environment (store s.environment x k y) (continue_with rest s)) b
      (written (place_lying (part_of c see.process) m.calls at + k) y (recounted later m)) (λ later. m.slots)
      (record {
        words_meet = words_continue tree c see.process has (with_environment (store s.environment x k y) s) _ m.calls rest
            (words_stored s m turn.words_meet x at found k y l);
        held = turn.held;
        two = two;
      })
      (left_stored s rest m.calls x k y b left) refl)
      to (a + 1) is.0 (subst (λ z. StoreCode slots to (ExpressionCode slots e) c z b) begin.1 code)
