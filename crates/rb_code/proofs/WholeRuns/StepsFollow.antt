-- A step of a process over its tree keeps no turn, and adds at most a held line.
use Rattle.std.proofs.Common.{◌≡◌, ℕ, ℤ, true, List, [], ◌∷◌, ◌++◌, Option, Some, None, Ok, Err, refl, sym, subst}
use Rattle.rb_base.specs.declared.event.Cause.TheVariants.{Test}
use Rattle.rb_base.specs.declared.edition.Edition.{Edition}
use Rattle.rb_syntax.specs.Tree.{Reference, PrintItem, Command, Assignment, Printing, Sending, Receiving, Conditional, Loop, Invocation, Failure, Recovering, Body, Scope, Otherwise, NoElse, Else, RecoveryBlock, ProcedureDeclaration, Tree}
use Rattle.rb_world.specs.Kind.{Went, Held}
use Rattle.rb_meaning.specs.Environment.{Environment, push_call, push_frame, frame_of}
use Rattle.rb_meaning.specs.Value.{Outcome, is_zero, value}
use Rattle.rb_meaning.specs.State.{Item, Perform, StartOf, TestOf, EndBlock, EndCall, State, performed, continue_with, with_environment, with_held}
use Rattle.rb_meaning.specs.Groups.{channel_number, procedure_named}
use Rattle.rb_meaning.specs.Step.{Nothing, Result_of_step, bound_to, variables_of, commands_of, present_value, place_in, line_from, values_in, prints, within_words, pushes, pushes_else, calls_with, receives, performs, starts_body, alternate_number, alternates_in, judged, former, test_in, step, step_items}
use Rattle.rb_meaning.proofs.Nesting.StepsKeepRules.{EndsIn, StepsTo, either_ends, step_ends, then_ends, judged_either}
use Rattle.rb_code.proofs.WholeRuns.HeldLines.{ComeFirst, first_same}

-- t comes after s in a step: of the same process, with the same kept turns, and the held lines come first in those of t
pub record Follows (s t : State) : Type 0 where
  pub process : t.process ≡ s.process
  pub kept : t.kept ≡ s.kept
  pub lines : ComeFirst s.held t.held

same_lines : (s t : State) → t.process ≡ s.process → t.kept ≡ s.kept → t.held ≡ s.held → Follows s t
same_lines s t own kept held =
    record { process = own; kept = kept; lines = subst (λ (lines : List (List ℕ)). ComeFirst s.held lines) (sym held) (first_same s.held) }

module _ (s : State) where
  pushes_follow : (edition : Edition) (body : Body) (rest : List Item) → EndsIn (Follows s) (pushes edition body rest s)
  pushes_follow edition (Scope variables commands) rest =
      either_ends (Follows s) _ (Err _)
      (Ok (with_environment (push_frame (frame_of variables) s.environment) (continue_with (performed commands (EndBlock ∷ rest)) s))) tt
      (same_lines s _ refl refl refl)

  pushes_else_follow : (edition : Edition) (otherwise : Otherwise) (rest : List Item) → EndsIn (Follows s) (pushes_else edition otherwise rest s)
  pushes_else_follow edition NoElse rest = same_lines s _ refl refl refl
  pushes_else_follow edition (Else body) rest = pushes_follow edition body rest

  calls_follow : (edition : Edition) (called : Option ProcedureDeclaration) (rest : List Item) (values : List ℤ)
      → EndsIn (Follows s) (calls_with edition called rest s values)
  calls_follow edition None rest values = same_lines s _ refl refl refl
  calls_follow edition (Some procedure) rest values =
      let env = push_call (bound_to procedure.parameters values ++ frame_of (variables_of procedure.body)) s.environment in
      let called = continue_with (performed (commands_of procedure.body) (EndCall ∷ rest)) s in
      either_ends (Follows s) _ (Err _) (within_words edition env called) tt
      (either_ends (Follows s) _ (Err _) (Ok (with_environment env called)) tt (same_lines s _ refl refl refl))

  starts_follow : (edition : Edition) (block : RecoveryBlock) (rest : List Item) (chosen : Option Body)
      → EndsIn (Follows s) (starts_body edition block rest s chosen)
  starts_follow edition block rest None = tt
  starts_follow edition block rest (Some body) = pushes_follow edition body (TestOf block ∷ rest)

  receives_follow : (tree : Tree) (channel : ℕ) (to : Reference) (otherwise : Otherwise) (rest : List Item) (message : Option ℤ)
      → EndsIn (Follows s) (receives tree channel to otherwise rest s message)
  receives_follow tree channel to otherwise rest (Some v) =
      then_ends (Follows s) (place_in s.environment to) _ (λ place. same_lines s _ refl refl refl)
  receives_follow tree channel to otherwise rest None = pushes_else_follow tree.edition otherwise rest

  prints_follow : (rest : List Item) (items : List PrintItem) → EndsIn (Follows s) (prints (continue_with rest s) items)
  prints_follow rest items =
      then_ends (Follows s) (line_from s.environment true items) _ (λ line.
      either_ends (Follows s) _ (Err _) (Ok (with_held (s.held ++ line ∷ []) (continue_with rest s))) tt
      (record { process = refl; kept = refl; lines = (line ∷ [], refl) }))

  performs_follow : (tree : Tree) (message : Option ℤ) (rest : List Item) (command : Command)
      → EndsIn (Follows s) (performs tree message s rest command)
  performs_follow tree message rest (Assignment to e) =
      then_ends (Follows s) (place_in s.environment to) _ (λ place.
      then_ends (Follows s) (present_value s.environment e) _ (λ v. same_lines s _ refl refl refl))
  performs_follow tree message rest (Printing items) = prints_follow rest items
  performs_follow tree message rest (Sending channel e) =
      then_ends (Follows s) (present_value s.environment e) _ (λ v. same_lines s _ refl refl refl)
  performs_follow tree message rest (Receiving channel to otherwise) =
      receives_follow tree (channel_number tree channel.text) to otherwise rest message
  performs_follow tree message rest (Conditional test body otherwise) =
      then_ends (Follows s) (present_value s.environment test) _ (λ v.
      either_ends (Follows s) (is_zero v) (pushes_else tree.edition otherwise rest s) (pushes tree.edition body rest s)
      (pushes_else_follow tree.edition otherwise rest) (pushes_follow tree.edition body rest))
  performs_follow tree message rest (Loop test body) =
      then_ends (Follows s) (present_value s.environment test) _ (λ v.
      either_ends (Follows s) (is_zero v) (Ok (continue_with rest s)) (pushes tree.edition body (Perform (Loop test body) ∷ rest) s)
      (same_lines s _ refl refl refl) (pushes_follow tree.edition body (Perform (Loop test body) ∷ rest)))
  performs_follow tree message rest (Invocation procedure arguments) =
      then_ends (Follows s) (values_in s.environment arguments) _ (λ values.
      calls_follow tree.edition (procedure_named tree s.process procedure.text) rest values)
  performs_follow tree message rest Failure = tt
  performs_follow tree message rest (Recovering block) = same_lines s _ refl refl refl

  judged_follow : (rest : List Item) (outcome : Outcome) → StepsTo (Follows s) (Follows s) (judged rest s outcome)
  judged_follow rest (Err cause) = tt
  judged_follow rest (Ok v) = judged_either (Follows s) (Follows s) (is_zero v) Test (continue_with rest s) (same_lines s _ refl refl refl)

  step_items_follow : (tree : Tree) (alternate : ℕ) (prior : Option Environment) (message : Option ℤ) (items : List Item)
      → StepsTo (Follows s) (Follows s) (step_items tree alternate prior s message items)
  step_items_follow tree alternate prior message [] = same_lines s _ refl refl refl
  step_items_follow tree alternate prior message (Perform command ∷ rest) =
      step_ends (Follows s) (Follows s) (performs tree message s rest command) (performs_follow tree message rest command)
  step_items_follow tree alternate prior message (StartOf block ∷ rest) =
      step_ends (Follows s) (Follows s) (starts_body tree.edition block rest s (alternate_number alternate (alternates_in block)))
      (starts_follow tree.edition block rest (alternate_number alternate (alternates_in block)))
  step_items_follow tree alternate prior message (TestOf block ∷ rest) =
      judged_follow rest (value s.environment (former s.environment prior) [] (test_in block))
  step_items_follow tree alternate prior message (EndBlock ∷ rest) = same_lines s _ refl refl refl
  step_items_follow tree alternate prior message (EndCall ∷ rest) = same_lines s _ refl refl refl

  -- a step that went on, and one whose test held
  pub went_follows : (tree : Tree) (alternate : ℕ) (prior : Option Environment) (message : Option ℤ) (t : State) (m : Nothing)
      → step tree alternate prior s message ≡ Went t m → Follows s t
  went_follows tree alternate prior message t m e =
      subst (λ (r : Result_of_step). StepsTo (Follows s) (Follows s) r) e (step_items_follow tree alternate prior message s.items)

  pub held_follows : (tree : Tree) (alternate : ℕ) (prior : Option Environment) (message : Option ℤ) (t : State)
      → step tree alternate prior s message ≡ Held t → Follows s t
  held_follows tree alternate prior message t e =
      subst (λ (r : Result_of_step). StepsTo (Follows s) (Follows s) r) e (step_items_follow tree alternate prior message s.items)
