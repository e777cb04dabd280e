-- An `if` and a `while` do the same in the meaning and in the machine.
use Rattle.std.proofs.Common.{◌≡◌, inl, inr, ℕ, ◌+◌, ℤ, cond, Bool, true, false, List, [], ◌∷◌, length, slice_get, Option, Some, Result, Ok, refl, sym, ap, ◌∙◌, subst}
use Rattle.rb_base.specs.declared.event.Cause.{Cause}
use Rattle.rb_base.specs.declared.place.Place.{Place}
use Rattle.rb_syntax.specs.Tree.{Body, Conditional, Loop, Expression, Otherwise, NoElse, Else, Tree}
use Rattle.rb_meaning.specs.Value.{and_then, is_zero}
use Rattle.rb_meaning.specs.State.{Item, Perform, State, continue_with}
use Rattle.rb_meaning.specs.Step.{chooses, performs, present_value, pushes, repeats}
use Rattle.rb_scope.specs.InFrames.{BodyInFrames, CommandInFrames, ExpressionInFrames, OtherwiseInFrames}
use Rattle.rb_scope.specs.declared.slot.Slot.{Slot}
use Rattle.rb_code.specs.Instructions.Plain.{Code}
use Rattle.rb_code.specs.WordMachine.Workspace.{Counting, Workspace}
use Rattle.rb_code.specs.WordMachine.Act.{Sight}
use Rattle.rb_code.specs.Agreement.Template.{One}
use Rattle.rb_code.specs.Agreement.Forms.{CommandForm, ExpressionCode}
use Rattle.rb_code.specs.declared.instr.Instr.TheVariants.{Jump, JumpZero}
use Rattle.rb_code.proofs.Agreeing.Placed.{BodyPlaced, BranchesPlaced, CommandPlaced}
use Rattle.rb_code.proofs.Agreeing.ResultsReached.{recounted}
use Rattle.rb_code.proofs.InWords.LaidOut.{stacks_of}
use Rattle.rb_code.proofs.Agreeing.TextLeft.{Left, Onward, owner_of}
use Rattle.rb_code.proofs.Agreeing.Loops.{jumps_zero, passes_zero}
use Rattle.rb_code.proofs.Agreeing.Stores.{frames_of, plain_comes}
use Rattle.rb_code.proofs.Agreeing.Blocks.{block_took, continued_turn, recounted_turn}
use Rattle.rb_code.proofs.Agreeing.StepOutcomes.{HasCursors, InTurn, Took, arrives, took_from, took_on}

module _ (tree : Tree) (slots : List Slot) (c : Code) (see : Sight) (has : HasCursors c see.process) (s : State)
    (m : Workspace) (turn : InTurn tree slots c see has s m)
    (edition : c.edition ≡ tree.edition) where
  abbrev Does : ℕ → List ℤ → Workspace → Result State Cause → Type 0
  Does a os n o = Took tree slots c see has a os n (λ later. m.slots) o

  abbrev LeftAt : List Item → ℕ → Type 0
  LeftAt rest a = Left tree slots c see.process (stacks_of s.environment.calls) rest m.calls a

  -- a test whose value is on top decides between two ways
  test_took : (v : ℤ) (later : List (Option Counting)) (to a d : ℕ) (zeroed other : Result State Cause) → One (JumpZero to) c a d
      → Does to [] (recounted later m) zeroed → Does d [] (recounted later m) other
      → Does a (v ∷ []) (recounted later m) (cond (is_zero v) zeroed other)
  test_took v later to a d zeroed other code if_zero if_not = by (is_zero v) refl
    where
      by : (t : Bool) → is_zero v ≡ t → Does a (v ∷ []) (recounted later m) (cond t zeroed other)
      by true e =
          took_from tree slots c see has a to (v ∷ []) [] (recounted later m) (recounted later m) (λ later. m.slots) zeroed
          (jumps_zero c see a to d v [] (recounted later m) code e) if_zero
      by false e =
          took_from tree slots c see has a d (v ∷ []) [] (recounted later m) (recounted later m) (λ later. m.slots) other
          (passes_zero c see a to d v [] (recounted later m) code e) if_not

  -- a block with what follows it
  body_took : (body : Body) (rest : List Item) (a b next : ℕ) (later : List (Option Counting)) → length later ≡ 2
      → BodyPlaced tree slots (owner_of tree see.process) body c a b
      → BodyInFrames tree slots see.process (frames_of tree slots c see has s) body → Onward c b next
      → LeftAt rest next → Does a [] (recounted later m) (pushes c.edition body rest s)
  body_took body rest a b next later two code is on left =
      block_took tree slots c see has s (recounted later m)
      (recounted_turn tree slots c see has s m later two turn) body rest a b next code is on left

  pub goes_past : (rest : List Item) (a : ℕ) (later : List (Option Counting)) → length later ≡ 2 → LeftAt rest a
      → Does a [] (recounted later m) (Ok (continue_with rest s))
  goes_past rest a later two left =
      arrives tree slots c see has (continue_with rest s) a (recounted later m) (λ later. m.slots)
      (continued_turn tree slots c see has s (recounted later m) rest (recounted_turn tree slots c see has s m later two turn)) left refl

  -- an `if`
  branches_took : (place : Option Place) (test : Expression) (body : Body) (otherwise : Otherwise) (rest : List Item) (a b : ℕ)
      → BranchesPlaced tree slots (owner_of tree see.process) place (ExpressionCode slots test)
      (BodyPlaced tree slots (owner_of tree see.process) body) otherwise c a b
      → ExpressionInFrames slots (frames_of tree slots c see has s) test → BodyInFrames tree slots see.process (frames_of tree slots c see has s) body
      → OtherwiseInFrames tree slots see.process (frames_of tree slots c see has s) otherwise → LeftAt rest b
      → Does (a + 1) [] m (and_then (present_value s.environment test) (chooses c.edition body otherwise rest s))
  unfolding CommandForm
  branches_took place test body NoElse rest a b (end, (d, begin, (e, test_code, (f, jump, (g, body_code, at_end))))) test_is body_is none left =
      took_on tree slots c see has (a + 1) e [] m (λ v. v ∷ []) (λ v. m) (λ later. m.slots) (present_value s.environment test) _
      (plain_comes tree slots c see has s m turn test test_is (a + 1) e m.counters [] turn.two
      (subst (λ z. ExpressionCode slots test c z e) begin.1 test_code))
      (λ v later at many. test_took v later end e f _ _ jump
      (goes_past rest end later (many ∙ turn.two) (subst (λ z. LeftAt rest z) (at_end.1 ∙ at_end.0) left))
      (body_took body rest f g b later (many ∙ turn.two) body_code body_is (inl at_end.1) left))
  branches_took place test body (Else other) rest a b (fails, (end, (d, begin, (e, test_code, (f, jump_zero, (g, body_code, (h, jump, (i, at_no, (j, other_code, at_end))))))))) test_is body_is other_is left =
      took_on tree slots c see has (a + 1) e [] m (λ v. v ∷ []) (λ v. m) (λ later. m.slots) (present_value s.environment test) _
      (plain_comes tree slots c see has s m turn test test_is (a + 1) e m.counters [] turn.two
      (subst (λ z. ExpressionCode slots test c z e) begin.1 test_code))
      (λ v later at many. test_took v later fails e f _ _ jump_zero
      (body_took other rest fails j b later (many ∙ turn.two)
      (subst (λ z. BodyPlaced tree slots (owner_of tree see.process) other c z j) (at_no.1 ∙ at_no.0) other_code) other_is (inl at_end.1) left)
      (body_took body rest f g end later (many ∙ turn.two) body_code body_is (inr jump.0) (subst (λ z. LeftAt rest z) (at_end.1 ∙ at_end.0) left)))

  pub conditional_took : (test : Expression) (body : Body) (otherwise : Otherwise) (rest : List Item) (a b : ℕ)
      → CommandPlaced tree slots (owner_of tree see.process) (Conditional test body otherwise) c a b
      → CommandInFrames tree slots see.process (frames_of tree slots c see has s) (Conditional test body otherwise) → LeftAt rest b
      → Does (a + 1) [] m (performs tree see.message s rest (Conditional test body otherwise))
  unfolding CommandForm
  conditional_took test body otherwise rest a b code is left =
      subst (λ e. Does (a + 1) [] m (and_then (present_value s.environment test) (chooses e body otherwise rest s))) edition
      (branches_took _ test body otherwise rest a b code is.0 is.1 is.2 left)

  -- a `while`, which stands before what is left once more
  pub loop_took : (test : Expression) (body : Body) (rest : List Item) (a b : ℕ)
      → CommandPlaced tree slots (owner_of tree see.process) (Loop test body) c a b
      → CommandInFrames tree slots see.process (frames_of tree slots c see has s) (Loop test body) → LeftAt rest b
      → Does (a + 1) [] m (performs tree see.message s rest (Loop test body))
  unfolding CommandForm
  loop_took test body rest a b (loop, (end, (d0, at_loop, (d, begin, (e, test_code, (f, jump_zero, (g, body_code, (h, jump, at_end)))))))) is left =
      let from : d ≡ a + 1 = begin.1 ∙ ap (λ z. z + 1) at_loop.1 in
      subst (λ x. Does (a + 1) [] m (and_then (present_value s.environment test) (repeats x test body rest s))) edition
      (took_on tree slots c see has (a + 1) e [] m (λ v. v ∷ []) (λ v. m) (λ later. m.slots) (present_value s.environment test) _
      (plain_comes tree slots c see has s m turn test is.0 (a + 1) e m.counters [] turn.two
      (subst (λ z. ExpressionCode slots test c z e) from test_code))
      (λ v later at many. test_took v later end e f _ _ jump_zero
      (goes_past rest end later (many ∙ turn.two) (subst (λ z. LeftAt rest z) (at_end.1 ∙ at_end.0) left))
      (body_took body (Perform (Loop test body) ∷ rest) f g a later (many ∙ turn.two) body_code is.1
      (inr (subst (λ z. slice_get c.instrs g ≡ Some (Jump z)) (sym at_loop.0) jump.0))
      (b, (loop, (end, (d0, at_loop, (d, begin, (e, test_code, (f, jump_zero, (g, body_code, (h, jump, at_end)))))))), is, left))))
