-- The frames of the calls that are open where a start or a test of a recovery block is left: no step changes their shapes, until the
-- test holds.
use Rattle.std.proofs.Common.{◌≡◌, ℕ, ℤ, true, List, [], ◌∷◌, ◌++◌, Option, Some, None, Ok, Err, refl, sym, ap, ◌∙◌, subst}
use Rattle.rb_base.specs.declared.event.Cause.TheVariants.{Test}
use Rattle.rb_base.specs.declared.edition.Edition.{Edition}
use Rattle.rb_syntax.specs.Tree.{Reference, PrintItem, Command, Assignment, Printing, Sending, Receiving, Conditional, Loop, Invocation, Failure, Recovering, Commands, NoCommand, Then, Body, Scope, Otherwise, NoElse, Else, RecoveryBlock, ProcedureDeclaration, Tree}
use Rattle.rb_world.specs.Kind.{Went, Held}
use Rattle.rb_meaning.specs.Environment.{Environment, Frame, frame_of, in_running, pop_call, pop_frame, push_call, push_frame, rest_of}
use Rattle.rb_meaning.specs.Value.{Outcome, is_zero, value}
use Rattle.rb_meaning.specs.State.{Item, Perform, StartOf, TestOf, EndBlock, EndCall, State, performed, continue_with, settle_items, with_environment, with_held}
use Rattle.rb_meaning.specs.Groups.{channel_number, procedure_named}
use Rattle.rb_meaning.specs.Step.{Nothing, Result_of_step, bound_to, variables_of, commands_of, present_value, place_in, put_at, line_from, values_in, prints, within_words, pushes, pushes_else, calls_with, receives, performs, starts_body, alternate_number, alternates_in, judged, former, test_in, step, step_items}
use Rattle.rb_meaning.proofs.Nesting.StepsKeepRules.{EndsIn, StepsTo, either_ends, step_ends, then_ends, judged_either}
use Rattle.rb_scope.specs.Frames.{Shape}
use Rattle.rb_code.proofs.InWords.Environments.{store_kept}
use Rattle.rb_code.proofs.InWords.LaidOut.{shapes_of, stacks_of}

-- the shapes of the frames of each open call, the running one first, and in each the innermost frame first
abbrev pub Stacks : Type 0
Stacks = List (List Shape)

-- those of the running call without the innermost frame
abbrev pub popped : Stacks → Stacks
popped [] = []
popped (shapes ∷ outer) = rest_of shapes ∷ outer

-- those around each start and test that is left, the innermost first
abbrev pub stacks_left : List Item → Stacks → List Stacks
stacks_left [] stacks = []
stacks_left (Perform command ∷ rest) stacks = stacks_left rest stacks
stacks_left (StartOf block ∷ rest) stacks = stacks ∷ stacks_left rest stacks
stacks_left (TestOf block ∷ rest) stacks = stacks ∷ stacks_left rest stacks
stacks_left (EndBlock ∷ rest) stacks = stacks_left rest (popped stacks)
stacks_left (EndCall ∷ rest) stacks = stacks_left rest (rest_of stacks)

abbrev pub stacks_in : State → Stacks
stacks_in s = stacks_of s.environment.calls

abbrev pub left_in : State → List Stacks
left_in s = stacks_left s.items (stacks_in s)

-- statements are no starts
performed_left : (commands : Commands) (rest : List Item) (stacks : Stacks) → stacks_left (performed commands rest) stacks ≡ stacks_left rest stacks
performed_left NoCommand rest stacks = refl
performed_left (Then first commands) rest stacks = performed_left commands rest stacks

-- frames that are pushed and popped again
popped_shapes : (frames : List Frame) → shapes_of (rest_of frames) ≡ rest_of (shapes_of frames)
popped_shapes [] = refl
popped_shapes (frame ∷ frames) = refl

popped_stacks : (calls : List (List Frame)) → stacks_of (in_running rest_of calls) ≡ popped (stacks_of calls)
popped_stacks [] = refl
popped_stacks (frames ∷ calls) = ap (λ (shapes : List Shape). shapes ∷ stacks_of calls) (popped_shapes frames)

returned_stacks : (calls : List (List Frame)) → stacks_of (rest_of calls) ≡ rest_of (stacks_of calls)
returned_stacks [] = refl
returned_stacks (frames ∷ calls) = refl

pushed_stacks : (frame : Frame) (calls : List (List Frame)) → popped (stacks_of (in_running (λ frames. frame ∷ frames) calls)) ≡ stacks_of calls
pushed_stacks frame [] = refl
pushed_stacks frame (frames ∷ calls) = refl

-- ends that stand first
pub settled_left : (items : List Item) (env : Environment)
    → stacks_left (settle_items items env).0 (stacks_of (settle_items items env).1.calls) ≡ stacks_left items (stacks_of env.calls)
settled_left [] env = refl
settled_left (Perform command ∷ items) env = refl
settled_left (StartOf block ∷ items) env = refl
settled_left (TestOf block ∷ items) env = refl
settled_left (EndBlock ∷ items) env = settled_left items (pop_frame env) ∙ ap (stacks_left items) (popped_stacks env.calls)
settled_left (EndCall ∷ items) env = settled_left items (pop_call env) ∙ ap (stacks_left items) (returned_stacks env.calls)

-- the same is left in t as in s
abbrev pub LeavesSame : State → State → Type 0
LeavesSame s t = left_in t ≡ left_in s

-- with the same frames, and these items
abbrev LeavesItems : State → List Item → State → Type 0
LeavesItems s rest t = left_in t ≡ stacks_left rest (stacks_in s)

module _ (s : State) where
  stored : (rest : List Item) (place : List ℕ × ℕ) (v : ℤ)
      → stacks_left rest (stacks_of (put_at s.environment v place).calls) ≡ stacks_left rest (stacks_in s)
  stored rest place v = ap (stacks_left rest) (store_kept s.environment place.0 place.1 v).1

  pushes_leave : (edition : Edition) (body : Body) (rest : List Item) → EndsIn (LeavesItems s rest) (pushes edition body rest s)
  pushes_leave edition (Scope variables commands) rest =
      either_ends (LeavesItems s rest) _ (Err _)
      (Ok (with_environment (push_frame (frame_of variables) s.environment) (continue_with (performed commands (EndBlock ∷ rest)) s))) tt
      (performed_left commands (EndBlock ∷ rest) _ ∙ ap (stacks_left rest) (pushed_stacks (frame_of variables) s.environment.calls))

  pushes_else_leave : (edition : Edition) (otherwise : Otherwise) (rest : List Item)
      → EndsIn (LeavesItems s rest) (pushes_else edition otherwise rest s)
  pushes_else_leave edition NoElse rest = refl
  pushes_else_leave edition (Else body) rest = pushes_leave edition body rest

  calls_leave : (edition : Edition) (called : Option ProcedureDeclaration) (rest : List Item) (values : List ℤ)
      → EndsIn (LeavesItems s rest) (calls_with edition called rest s values)
  calls_leave edition None rest values = refl
  calls_leave edition (Some procedure) rest values =
      let env = push_call (bound_to procedure.parameters values ++ frame_of (variables_of procedure.body)) s.environment in
      let called = continue_with (performed (commands_of procedure.body) (EndCall ∷ rest)) s in
      either_ends (LeavesItems s rest) _ (Err _) (within_words edition env called) tt
      (either_ends (LeavesItems s rest) _ (Err _) (Ok (with_environment env called)) tt
      (performed_left (commands_of procedure.body) (EndCall ∷ rest) _))

  starts_leave : (edition : Edition) (block : RecoveryBlock) (rest : List Item) (chosen : Option Body)
      → EndsIn (LeavesItems s (TestOf block ∷ rest)) (starts_body edition block rest s chosen)
  starts_leave edition block rest None = tt
  starts_leave edition block rest (Some body) = pushes_leave edition body (TestOf block ∷ rest)

  receives_leave : (tree : Tree) (channel : ℕ) (to : Reference) (otherwise : Otherwise) (rest : List Item) (message : Option ℤ)
      → EndsIn (LeavesItems s rest) (receives tree channel to otherwise rest s message)
  receives_leave tree channel to otherwise rest (Some v) = then_ends (LeavesItems s rest) (place_in s.environment to) _ (λ place. stored rest place v)
  receives_leave tree channel to otherwise rest None = pushes_else_leave tree.edition otherwise rest

  prints_leave : (rest : List Item) (items : List PrintItem) → EndsIn (LeavesItems s rest) (prints (continue_with rest s) items)
  prints_leave rest items =
      then_ends (LeavesItems s rest) (line_from s.environment true items) _ (λ line.
      either_ends (LeavesItems s rest) _ (Err _) (Ok (with_held (s.held ++ line ∷ []) (continue_with rest s))) tt refl)

  performs_leave : (tree : Tree) (message : Option ℤ) (rest : List Item) (command : Command)
      → EndsIn (LeavesItems s rest) (performs tree message s rest command)
  performs_leave tree message rest (Assignment to e) =
      then_ends (LeavesItems s rest) (place_in s.environment to) _ (λ place.
      then_ends (LeavesItems s rest) (present_value s.environment e) _ (λ v. stored rest place v))
  performs_leave tree message rest (Printing items) = prints_leave rest items
  performs_leave tree message rest (Sending channel e) = then_ends (LeavesItems s rest) (present_value s.environment e) _ (λ v. refl)
  performs_leave tree message rest (Receiving channel to otherwise) =
      receives_leave tree (channel_number tree channel.text) to otherwise rest message
  performs_leave tree message rest (Conditional test body otherwise) =
      then_ends (LeavesItems s rest) (present_value s.environment test) _ (λ v.
      either_ends (LeavesItems s rest) (is_zero v) (pushes_else tree.edition otherwise rest s) (pushes tree.edition body rest s)
      (pushes_else_leave tree.edition otherwise rest) (pushes_leave tree.edition body rest))
  performs_leave tree message rest (Loop test body) =
      then_ends (LeavesItems s rest) (present_value s.environment test) _ (λ v.
      either_ends (LeavesItems s rest) (is_zero v) (Ok (continue_with rest s)) (pushes tree.edition body (Perform (Loop test body) ∷ rest) s)
      refl (pushes_leave tree.edition body (Perform (Loop test body) ∷ rest)))
  performs_leave tree message rest (Invocation procedure arguments) =
      then_ends (LeavesItems s rest) (values_in s.environment arguments) _ (λ values.
      calls_leave tree.edition (procedure_named tree s.process procedure.text) rest values)
  performs_leave tree message rest Failure = tt
  performs_leave tree message rest (Recovering block) = refl

  -- A test that held stood first, around which the innermost frames were; what it leaves is the rest.
  abbrev pub TestGone : State → Type 0
  TestGone t = left_in s ≡ stacks_in s ∷ left_in t

  judged_leave : (rest : List Item) (outcome : Outcome) → left_in s ≡ stacks_in s ∷ stacks_left rest (stacks_in s)
      → StepsTo (LeavesSame s) TestGone (judged rest s outcome)
  judged_leave rest (Err cause) e = tt
  judged_leave rest (Ok v) e = judged_either (LeavesSame s) TestGone (is_zero v) Test (continue_with rest s) e

  step_items_leave : (tree : Tree) (alternate : ℕ) (prior : Option Environment) (message : Option ℤ) (items : List Item) → s.items ≡ items
      → StepsTo (LeavesSame s) TestGone (step_items tree alternate prior s message items)
  step_items_leave tree alternate prior message [] e = refl
  step_items_leave tree alternate prior message (Perform command ∷ rest) e =
      step_ends (LeavesSame s) TestGone (performs tree message s rest command)
      (subst (λ (items : List Stacks). EndsIn (λ t. left_in t ≡ items) (performs tree message s rest command))
      (ap (λ items. stacks_left items (stacks_in s)) (sym e))
      (performs_leave tree message rest command))
  step_items_leave tree alternate prior message (StartOf block ∷ rest) e =
      let chosen = alternate_number alternate (alternates_in block) in
      step_ends (LeavesSame s) TestGone (starts_body tree.edition block rest s chosen)
      (subst (λ (items : List Stacks). EndsIn (λ t. left_in t ≡ items) (starts_body tree.edition block rest s chosen))
      (ap (λ items. stacks_left items (stacks_in s)) (sym e))
      (starts_leave tree.edition block rest chosen))
  step_items_leave tree alternate prior message (TestOf block ∷ rest) e =
      judged_leave rest (value s.environment (former s.environment prior) [] (test_in block)) (ap (λ items. stacks_left items (stacks_in s)) e)
  step_items_leave tree alternate prior message (EndBlock ∷ rest) e = refl
  step_items_leave tree alternate prior message (EndCall ∷ rest) e = refl

  -- a step that went on, and one whose test held
  pub went_leaves : (tree : Tree) (alternate : ℕ) (prior : Option Environment) (message : Option ℤ) (t : State) (m : Nothing)
      → step tree alternate prior s message ≡ Went t m → LeavesSame s t
  went_leaves tree alternate prior message t m e =
      subst (λ (r : Result_of_step). StepsTo (LeavesSame s) TestGone r) e (step_items_leave tree alternate prior message s.items refl)

  pub held_leaves : (tree : Tree) (alternate : ℕ) (prior : Option Environment) (message : Option ℤ) (t : State)
      → step tree alternate prior s message ≡ Held t → TestGone t
  held_leaves tree alternate prior message t e =
      subst (λ (r : Result_of_step). StepsTo (LeavesSame s) TestGone r) e (step_items_leave tree alternate prior message s.items refl)
