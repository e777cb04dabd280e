-- Each step of a process does to its mail what stood first says; a test that held changes what is left and nothing else.
use Rattle.std.proofs.Common.{◌≡◌, ℕ, ℤ, true, List, [], ◌∷◌, ◌++◌, Option, Some, None, Ok, Err, refl}
use Rattle.rb_base.specs.declared.event.Cause.TheVariants.{Test}
use Rattle.rb_base.specs.declared.edition.Edition.{Edition}
use Rattle.rb_syntax.specs.Tree.{Reference, PrintItem, Command, Assignment, Printing, Sending, Receiving, Conditional, Loop, Invocation, Failure, Recovering, Body, Scope, Otherwise, NoElse, Else, RecoveryBlock, ProcedureDeclaration, Tree}
use Rattle.rb_world.specs.Kind.{Want, Acts}
use Rattle.rb_world.proofs.Erasing.ErasableKinds.{receives_on, sends_by, takes_by}
use Rattle.rb_meaning.specs.Environment.{Environment, push_call, push_frame, frame_of}
use Rattle.rb_meaning.specs.Value.{Outcome, is_zero, value}
use Rattle.rb_meaning.specs.State.{Item, Perform, StartOf, TestOf, EndBlock, EndCall, State, performed, continue_with, with_environment, with_held}
use Rattle.rb_meaning.specs.Groups.{channel_number, procedure_named}
use Rattle.rb_meaning.specs.Step.{bound_to, variables_of, commands_of, present_value, place_in, line_from, values_in, prints, within_words, pushes, pushes_else, calls_with, receives, performs, starts_body, alternate_number, alternates_in, judged, former, test_in, step_items, wants, wants_first, wants_receipt}
use Rattle.rb_meaning.proofs.Nesting.StepsKeepRules.{EndsIn, StepsTo, either_ends, step_ends, then_ends, judged_either}
use Rattle.rb_meaning.proofs.Trees.MailOfSteps.{Posts, Quiet, Posted, Collected}

-- after a test that held: it stood first, and mail, held lines and kept turns are the same
pub record IsPassed (want : Want) (s t : State) : Type 0 where
  pub acts : want ≡ Acts
  pub sent : t.sent ≡ s.sent
  pub taken : t.taken ≡ s.taken
  pub held : t.held ≡ s.held
  pub kept : t.kept ≡ s.kept

-- what stands first neither sends nor takes
record IsQuiet (want : Want) (message : Option ℤ) : Type 0 where
  sends : (c : ℕ) → sends_by want c ≡ 0
  takes : (c : ℕ) → takes_by want message c ≡ 0

acts_quietly : (message : Option ℤ) → IsQuiet Acts message
acts_quietly message = record { sends = λ c. refl; takes = λ c. refl }

finds_nothing : (channel : ℕ) (otherwise : Otherwise) → IsQuiet (wants_receipt channel otherwise) None
finds_nothing channel NoElse = record { sends = λ c. refl; takes = λ c. refl }
finds_nothing channel (Else body) = record { sends = λ c. refl; takes = λ c. refl }

receipt_on : (channel : ℕ) (otherwise : Otherwise) → receives_on (wants_receipt channel otherwise) ≡ Some channel
receipt_on channel NoElse = refl
receipt_on channel (Else body) = refl

module _ (want : Want) (message : Option ℤ) (quiet : IsQuiet want message) where
  pushes_post : (edition : Edition) (body : Body) (rest : List Item) (s : State) → EndsIn (Posts want message s) (pushes edition body rest s)
  pushes_post edition (Scope variables commands) rest s =
      either_ends (Posts want message s) _ (Err _)
      (Ok (with_environment (push_frame (frame_of variables) s.environment) (continue_with (performed commands (EndBlock ∷ rest)) s))) tt
      (Quiet refl refl refl quiet.sends quiet.takes)

  pushes_else_post : (edition : Edition) (otherwise : Otherwise) (rest : List Item) (s : State)
      → EndsIn (Posts want message s) (pushes_else edition otherwise rest s)
  pushes_else_post edition NoElse rest s = Quiet refl refl refl quiet.sends quiet.takes
  pushes_else_post edition (Else body) rest s = pushes_post edition body rest s

  calls_post : (edition : Edition) (called : Option ProcedureDeclaration) (rest : List Item) (s : State) (values : List ℤ)
      → EndsIn (Posts want message s) (calls_with edition called rest s values)
  calls_post edition None rest s values = Quiet refl refl refl quiet.sends quiet.takes
  calls_post edition (Some procedure) rest s values =
      let env = push_call (bound_to procedure.parameters values ++ frame_of (variables_of procedure.body)) s.environment in
      let called = continue_with (performed (commands_of procedure.body) (EndCall ∷ rest)) s in
      either_ends (Posts want message s) _ (Err _) (within_words edition env called) tt
      (either_ends (Posts want message s) _ (Err _) (Ok (with_environment env called)) tt (Quiet refl refl refl quiet.sends quiet.takes))

  starts_post : (edition : Edition) (block : RecoveryBlock) (rest : List Item) (s : State) (chosen : Option Body)
      → EndsIn (Posts want message s) (starts_body edition block rest s chosen)
  starts_post edition block rest s None = tt
  starts_post edition block rest s (Some body) = pushes_post edition body (TestOf block ∷ rest) s

receives_post : (tree : Tree) (channel : ℕ) (to : Reference) (otherwise : Otherwise) (rest : List Item) (s : State) (message : Option ℤ)
    → EndsIn (Posts (wants_receipt channel otherwise) message s) (receives tree channel to otherwise rest s message)
receives_post tree channel to otherwise rest s (Some v) =
    then_ends (Posts (wants_receipt channel otherwise) (Some v) s) (place_in s.environment to) _ (λ place.
    Collected channel v (receipt_on channel otherwise) refl refl refl refl)
receives_post tree channel to otherwise rest s None =
    pushes_else_post (wants_receipt channel otherwise) None (finds_nothing channel otherwise) tree.edition otherwise rest s

prints_post : (message : Option ℤ) (rest : List Item) (s : State) (items : List PrintItem)
    → EndsIn (Posts Acts message s) (prints (continue_with rest s) items)
prints_post message rest s items =
    then_ends (Posts Acts message s) (line_from s.environment true items) _ (λ line.
    either_ends (Posts Acts message s) _ (Err _) (Ok (with_held (s.held ++ line ∷ []) (continue_with rest s))) tt
    (Quiet refl refl refl (λ c. refl) (λ c. refl)))

performs_post : (tree : Tree) (message : Option ℤ) (s : State) (rest : List Item) (command : Command)
    → EndsIn (Posts (wants tree command) message s) (performs tree message s rest command)
performs_post tree message s rest (Assignment to e) =
    then_ends (Posts Acts message s) (place_in s.environment to) _ (λ place.
    then_ends (Posts Acts message s) (present_value s.environment e) _ (λ v. Quiet refl refl refl (λ c. refl) (λ c. refl)))
performs_post tree message s rest (Printing items) = prints_post message rest s items
performs_post tree message s rest (Sending channel e) =
    then_ends (Posts (wants tree (Sending channel e)) message s) (present_value s.environment e) _ (λ v.
    Posted (channel_number tree channel.text) v refl refl refl refl)
performs_post tree message s rest (Receiving channel to otherwise) =
    receives_post tree (channel_number tree channel.text) to otherwise rest s message
performs_post tree message s rest (Conditional test body otherwise) =
    then_ends (Posts Acts message s) (present_value s.environment test) _ (λ v.
    either_ends (Posts Acts message s) (is_zero v) (pushes_else tree.edition otherwise rest s) (pushes tree.edition body rest s)
    (pushes_else_post Acts message (acts_quietly message) tree.edition otherwise rest s)
    (pushes_post Acts message (acts_quietly message) tree.edition body rest s))
performs_post tree message s rest (Loop test body) =
    then_ends (Posts Acts message s) (present_value s.environment test) _ (λ v.
    either_ends (Posts Acts message s) (is_zero v) (Ok (continue_with rest s)) (pushes tree.edition body (Perform (Loop test body) ∷ rest) s)
    (Quiet refl refl refl (λ c. refl) (λ c. refl))
    (pushes_post Acts message (acts_quietly message) tree.edition body (Perform (Loop test body) ∷ rest) s))
performs_post tree message s rest (Invocation procedure arguments) =
    then_ends (Posts Acts message s) (values_in s.environment arguments) _ (λ values.
    calls_post Acts message (acts_quietly message) tree.edition (procedure_named tree s.process procedure.text) rest s values)
performs_post tree message s rest Failure = tt
performs_post tree message s rest (Recovering block) = Quiet refl refl refl (λ c. refl) (λ c. refl)

judged_post : (message : Option ℤ) (rest : List Item) (s : State) (outcome : Outcome)
    → StepsTo (Posts Acts message s) (IsPassed Acts s) (judged rest s outcome)
judged_post message rest s (Err cause) = tt
judged_post message rest s (Ok v) =
    judged_either (Posts Acts message s) (IsPassed Acts s) (is_zero v) Test (continue_with rest s)
    (record { acts = refl; sent = refl; taken = refl; held = refl; kept = refl })

-- a step from what is left
pub steps_post : (tree : Tree) (alternate : ℕ) (prior : Option Environment) (s : State) (message : Option ℤ) (items : List Item)
    → StepsTo (Posts (wants_first tree items) message s) (IsPassed (wants_first tree items) s) (step_items tree alternate prior s message items)
steps_post tree alternate prior s message [] = Quiet refl refl refl (λ c. refl) (λ c. refl)
steps_post tree alternate prior s message (Perform command ∷ rest) =
    step_ends (Posts (wants tree command) message s) (IsPassed (wants tree command) s) (performs tree message s rest command)
    (performs_post tree message s rest command)
steps_post tree alternate prior s message (StartOf block ∷ rest) =
    let want = wants_first tree (StartOf block ∷ rest) in
    let chosen = alternate_number alternate (alternates_in block) in
    step_ends (Posts want message s) (IsPassed want s) (starts_body tree.edition block rest s chosen)
    (starts_post want message (record { sends = λ c. refl; takes = λ c. refl }) tree.edition block rest s chosen)
steps_post tree alternate prior s message (TestOf block ∷ rest) =
    judged_post message rest s (value s.environment (former s.environment prior) [] (test_in block))
steps_post tree alternate prior s message (EndBlock ∷ rest) = Quiet refl refl refl (λ c. refl) (λ c. refl)
steps_post tree alternate prior s message (EndCall ∷ rest) = Quiet refl refl refl (λ c. refl) (λ c. refl)
