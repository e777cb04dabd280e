-- The step of a statement is the same from the state in which it was taken away already.
use Rattle.std.proofs.Common.{◌≡◌, ℤ, cond, List, Option, Some, None, Result, refl, sym, ap, ◌∙◌, subst}
use Rattle.rb_base.specs.declared.edition.Edition.{Edition}
use Rattle.rb_base.specs.declared.event.Cause.{Cause}
use Rattle.rb_syntax.specs.Tree.{Assignment, Body, Command, Conditional, Else, Failure, Invocation, Loop, NoElse, Otherwise, Printing, ProcedureDeclaration, Receiving, Recovering, Reference, Scope, Sending, Tree}
use Rattle.rb_meaning.specs.Environment.{rest_of}
use Rattle.rb_meaning.specs.Groups.{channel_number, procedure_named}
use Rattle.rb_meaning.specs.State.{Item, State, continue_with}
use Rattle.rb_meaning.specs.Step.{calls_with, performs, present_value, pushes, pushes_else, receives, values_in}
use Rattle.rb_meaning.specs.Value.{and_then, is_zero}
use Rattle.rb_walk.specs.declared.halt.Halt.{Halt}
use Rattle.rb_walk.specs.Comes.{Comes}

-- a block begins
pushed : (edition : Edition) (body : Body) (items rest : List Item) (s : State)
    → pushes edition body items (continue_with rest s) ≡ pushes edition body items s
pushed edition (Scope variables commands) items rest s = refl

-- an `else` begins, if it is there
pushed_else : (edition : Edition) (other : Otherwise) (rest : List Item) (s : State)
    → pushes_else edition other rest (continue_with rest s) ≡ pushes_else edition other rest s
pushed_else edition NoElse rest s = refl
pushed_else edition (Else body) rest s = pushed edition body rest rest s

-- a receipt
received : (tree : Tree) (channel : _) (to : Reference) (other : Otherwise) (rest : List Item) (s : State) (message : Option ℤ)
    → receives tree channel to other rest (continue_with rest s) message ≡ receives tree channel to other rest s message
received tree channel to other rest s None = pushed_else tree.edition other rest s
received tree channel to other rest s (Some v) = refl

-- a call
called : (edition : Edition) (procedure : Option ProcedureDeclaration) (rest : List Item) (s : State) (values : List ℤ)
    → calls_with edition procedure rest (continue_with rest s) values ≡ calls_with edition procedure rest s values
called edition None rest s values = refl
called edition (Some procedure) rest s values = refl

-- each statement
performs_skipped : (tree : Tree) (message : Option ℤ) (s : State) (rest : List Item) (command : Command)
    → performs tree message (continue_with rest s) rest command ≡ performs tree message s rest command
performs_skipped tree message s rest (Assignment to e) = refl
performs_skipped tree message s rest (Printing items) = refl
performs_skipped tree message s rest (Sending channel e) = refl
performs_skipped tree message s rest (Receiving channel to other) = received tree (channel_number tree channel.text) to other rest s message
performs_skipped tree message s rest (Conditional test (Scope variables commands) other) =
    λ j. and_then (present_value s.environment test)
    (λ v. cond (is_zero v) (pushed_else tree.edition other rest s j) (pushes tree.edition (Scope variables commands) rest s))
performs_skipped tree message s rest (Loop test (Scope variables commands)) = refl
performs_skipped tree message s rest (Invocation procedure arguments) =
    λ j. and_then (values_in s.environment arguments) (λ values. called tree.edition (procedure_named tree s.process procedure.text) rest s values j)
performs_skipped tree message s rest Failure = refl
performs_skipped tree message s rest (Recovering block) = refl

-- what a step came to from the state in which the statement was taken away, it comes to from the state in which it stood first
pub comes_first : {A : Type 0} (tree : Tree) (message : Option ℤ) (s skipped new : State) (command form : Command) (result : Result A Halt)
    → skipped ≡ continue_with (rest_of s.items) s → command ≡ form → Comes (performs tree message skipped skipped.items form) new result
    → Comes (performs tree message s (rest_of s.items) command) new result
comes_first tree message s skipped new command form result left is came =
    let rest = rest_of s.items in
    let Came : Result State Cause → Type 0 = λ outcome. Comes outcome new result in
    subst Came (ap (λ m. performs tree message m m.items form) left ∙ performs_skipped tree message s rest form
    ∙ ap (performs tree message s rest) (sym is)) came
