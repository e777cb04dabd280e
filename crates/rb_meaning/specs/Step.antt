-- One step of a process over its tree, for each form that may stand first.
-- That an acceptance test comes after each alternate is from Horning, Lauer, Melliar-Smith, Randell (1974), and `prior`
-- is from Randell (1975).
use Rattle.std.specs.Prelude.{ℕ, zero, suc, ℤ, pos, ◌+◌, ◌-◌, nat_lt, nat_le, Bool, true, false, cond, List, [], ◌∷◌, ◌++◌, length, sum_by, Option, Some, None, Result, Ok, Err}
use Rattle.std.specs.Fmt.{signed_decimal}
use Rattle.rb_base.specs.declared.event.Cause.{Cause}
use Rattle.rb_base.specs.declared.event.Cause.TheVariants.{Test, Fail, Stack, Calls, Hold}
use Rattle.rb_base.specs.declared.edition.Edition.{Edition}
use Rattle.rb_base.specs.declared.limits.TheConstants.{MOST_HELD_BYTES, MOST_OPEN_CALLS}
use Rattle.rb_base.specs.Limits.{most_words}
use Rattle.rb_syntax.specs.Tree.{Identifier, Expression, Reference, Refer, Scalar, Element, Declaration, Printed, Words, Amount, PrintItem, Command, Assignment, Printing, Sending, Receiving, Conditional, Loop, Invocation, Failure, Recovering, Commands, Body, Scope, Otherwise, NoElse, Else, RecoveryBlock, Recovers, Alternates, NoAlternate, Alternate, ProcedureDeclaration, Tree}
use Rattle.rb_world.specs.Kind.{Want, NothingLeft, SendsOn, ReceivesOn, MayReceiveOn, Enters, Starts, Acts, Stepped, Trapped, Went, Held}
use Rattle.rb_world.specs.World.{change_at}
use Rattle.rb_meaning.specs.Environment.{Environment, Frame, frame_of, values_of, store, words, push_frame, push_call}
use Rattle.rb_meaning.specs.Value.{Outcome, and_then, is_zero, index_in, value}
use Rattle.rb_meaning.specs.State.{Item, Perform, StartOf, TestOf, EndBlock, EndCall, State, performed, continue_with, with_environment, with_sent, with_taken, with_held}
use Rattle.rb_meaning.specs.Groups.{channel_number, procedure_named, facts_of}

-- what the meaning over trees keeps beside the processes: nothing
abbrev pub Nothing : Type 0
Nothing = Unit {0}

-- what a step of a process over its tree comes to
abbrev pub Result_of_step : Type 0
Result_of_step = Stepped State Nothing

-- a step that goes on, or traps
abbrev pub goes : Result State Cause → Result_of_step
goes (Ok s) = Went s tt
goes (Err cause) = Trapped cause

-- at most this many calls of a process are open
abbrev pub most_calls : ℕ
most_calls = MOST_OPEN_CALLS

-- the held lines of a process have at most this many bytes
abbrev pub most_held : ℕ
most_held = MOST_HELD_BYTES

-- outside acceptance tests no accepted program reads a former value
abbrev pub present_value : Environment → Expression → Outcome
present_value env e = value env env [] e

-- the place of a value: evaluates and checks the index where there is one
abbrev pub place_in : Environment → Reference → Result (List ℕ × ℕ) Cause
place_in env (Refer x Scalar) = Ok (x.text, 0)
place_in env (Refer x (Element index)) =
    and_then (present_value env index) (λ i. and_then (index_in (values_of env x.text) i) (λ n. Ok (x.text, n)))

-- a value is stored at a place
abbrev pub put_at : Environment → ℤ → List ℕ × ℕ → Environment
put_at env v (x, n) = store env x n v

-- an assignment: its place, then its value, and then the value is stored there
abbrev pub assigned : State → Reference → Expression → Result State Cause
assigned s to e =
    and_then (place_in s.environment to) (λ place.
    and_then (present_value s.environment e) (λ v. Ok (with_environment (put_at s.environment v place) s)))

-- the bytes of an item, which are its text, or its value in decimal.
abbrev pub printed : Environment → Printed → Result (List ℕ) Cause
printed env (Words text) = Ok text
printed env (Amount e) = and_then (present_value env e) (λ v. Ok (signed_decimal v))

-- the bytes of an item, with a blank before them unless it is the first
abbrev pub after_blank : List ℕ → Bool → List ℕ
after_blank text true = text
after_blank text false = 32 ∷ text

-- the line of these items, evaluated from left to right
abbrev pub line_from : Environment → Bool → List PrintItem → Result (List ℕ) Cause
line_from env first [] = Ok []
line_from env first (item ∷ items) =
    and_then (printed env item.what) (λ text.
    and_then (line_from env false items) (λ rest. Ok (after_blank text first ++ rest)))

-- the held bytes: those of the lines, and one more for each
abbrev pub held_bytes : List (List ℕ) → ℕ
held_bytes lines = sum_by (λ line. length line + 1) lines

-- a line joins the held lines, unless they would have too many bytes
abbrev pub held_with : State → List ℕ → Result State Cause
held_with s line =
    cond (nat_lt most_held (held_bytes s.held + (length line + 1))) (Err Hold) (Ok (with_held (s.held ++ line ∷ []) s))

-- a `print`: its line is held
abbrev pub prints : State → List PrintItem → Result State Cause
prints s items = and_then (line_from s.environment true items) (held_with s)

-- a `send`: its value joins those that were sent on the channel
abbrev pub sends : State → ℕ → Expression → Result State Cause
sends s channel e =
    and_then (present_value s.environment e) (λ v. Ok (with_sent (change_at channel (λ values. values ++ v ∷ []) s.sent) s))

-- a receipt of a message, which counts as taken and is stored at its place
abbrev pub takes : State → ℕ → Reference → ℤ → Result State Cause
takes s channel to v =
    and_then (place_in s.environment to) (λ place.
    Ok (with_taken (change_at channel (λ n. n + 1) s.taken) (with_environment (put_at s.environment v place) s)))

-- the process goes on in this environment, unless it has too many words.
abbrev pub within_words : Edition → Environment → State → Result State Cause
within_words edition env s = cond (nat_lt (most_words edition) (words env)) (Err Stack) (Ok (with_environment env s))

-- a block begins: its frame is pushed, and its statements and its end come before what is left
abbrev pub pushes : Edition → Body → List Item → State → Result State Cause
pushes edition (Scope variables commands) rest s =
    within_words edition (push_frame (frame_of variables) s.environment) (continue_with (performed commands (EndBlock ∷ rest)) s)

-- an `else` begins its block; without an `else` the process goes on
abbrev pub pushes_else : Edition → Otherwise → List Item → State → Result State Cause
pushes_else edition NoElse rest s = Ok (continue_with rest s)
pushes_else edition (Else body) rest s = pushes edition body rest s

-- an `if` begins its block where its test is not 0, and else its `else`
abbrev pub chooses : Edition → Body → Otherwise → List Item → State → ℤ → Result State Cause
chooses edition body otherwise rest s v = cond (is_zero v) (pushes_else edition otherwise rest s) (pushes edition body rest s)

-- a `while` begins its block where its test is not 0, and comes again after it; else it is over
abbrev pub repeats : Edition → Expression → Body → List Item → State → ℤ → Result State Cause
repeats edition test body rest s v =
    cond (is_zero v) (Ok (continue_with rest s)) (pushes edition body (Perform (Loop test body) ∷ rest) s)

-- the values of a call's arguments, from left to right, or the first trap.
abbrev pub values_in : Environment → List Expression → Result (List ℤ) Cause
values_in env [] = Ok []
values_in env (e ∷ es) = and_then (present_value env e) (λ v. and_then (values_in env es) (λ vs. Ok (v ∷ vs)))

-- the parameters of a call with the values of its arguments; a parameter left over is 0
abbrev pub bound_to : List Identifier → List ℤ → Frame
bound_to [] values = []
bound_to (x ∷ xs) [] = record { name = x.text; values = pos 0 ∷ [] } ∷ bound_to xs []
bound_to (x ∷ xs) (v ∷ vs) = record { name = x.text; values = v ∷ [] } ∷ bound_to xs vs

-- the variables that a block declares
abbrev pub variables_of : Body → List Declaration
variables_of (Scope variables commands) = variables

-- the statements of a block
abbrev pub commands_of : Body → Commands
commands_of (Scope variables commands) = commands

-- the main body is no open call
abbrev pub open_calls : Environment → ℕ
open_calls env = length env.calls - 1

-- a call of a procedure with these values, which is a trap where the most calls are open already
abbrev pub calls_with : Edition → Option ProcedureDeclaration → List Item → State → List ℤ → Result State Cause
calls_with edition None rest s values = Ok (continue_with rest s)
calls_with edition (Some procedure) rest s values =
    cond (nat_le most_calls (open_calls s.environment)) (Err Calls)
    (within_words edition (push_call (bound_to procedure.parameters values ++ frame_of (variables_of procedure.body)) s.environment)
    (continue_with (performed (commands_of procedure.body) (EndCall ∷ rest)) s))

-- a `call` of a procedure by its name, with its arguments
abbrev pub invokes : Tree → Identifier → List Expression → List Item → State → Result State Cause
invokes tree procedure arguments rest s =
    and_then (values_in s.environment arguments) (calls_with tree.edition (procedure_named tree s.process procedure.text) rest s)

-- a `receive` takes the message that is there, and else begins its `else`
abbrev pub receives : Tree → ℕ → Reference → Otherwise → List Item → State → Option ℤ → Result State Cause
receives tree channel to otherwise rest s (Some v) = takes (continue_with rest s) channel to v
receives tree channel to otherwise rest s None = pushes_else tree.edition otherwise rest s

-- a statement, with what comes after it
abbrev pub performs : Tree → Option ℤ → State → List Item → Command → Result State Cause
performs tree message s rest (Assignment to e) = assigned (continue_with rest s) to e
performs tree message s rest (Printing items) = prints (continue_with rest s) items
performs tree message s rest (Sending channel e) = sends (continue_with rest s) (channel_number tree channel.text) e
performs tree message s rest (Receiving channel to otherwise) =
    receives tree (channel_number tree channel.text) to otherwise rest s message
performs tree message s rest (Conditional test body otherwise) =
    and_then (present_value s.environment test) (chooses tree.edition body otherwise rest s)
performs tree message s rest (Loop test body) =
    and_then (present_value s.environment test) (repeats tree.edition test body rest s)
performs tree message s rest (Invocation procedure arguments) = invokes tree procedure arguments rest s
performs tree message s rest Failure = Err Fail
performs tree message s rest (Recovering block) = Ok (continue_with rest s)

-- the block of alternate number n, counted from 1, if there is such an alternate.
abbrev pub alternate_number : ℕ → Alternates → Option Body
alternate_number n NoAlternate = None
alternate_number zero (Alternate body others) = None
alternate_number (suc zero) (Alternate body others) = Some body
alternate_number (suc (suc n)) (Alternate body others) = alternate_number (suc n) others

-- the alternates of a recovery block
abbrev pub alternates_in : RecoveryBlock → Alternates
alternates_in (Recovers number conversation place test bound alternates) = alternates

-- the acceptance test of a recovery block
abbrev pub test_in : RecoveryBlock → Expression
test_in (Recovers number conversation place test bound alternates) = test

-- an alternate that the block does not have is never started
abbrev pub starts_body : Edition → RecoveryBlock → List Item → State → Option Body → Result State Cause
starts_body edition block rest s None = Err Fail
starts_body edition block rest s (Some body) = pushes edition body (TestOf block ∷ rest) s

-- a test that is 0 is the trap `test`, and any other holds (1974).
abbrev pub judged : List Item → State → Outcome → Result_of_step
judged rest s (Err cause) = Trapped cause
judged rest s (Ok v) = cond (is_zero v) (Trapped Test) (Held (continue_with rest s))

-- what `prior` reads: the variables at the innermost recovery point (Randell 1975), or without one the present ones
abbrev pub former : Environment → Option Environment → Environment
former env None = env
former env (Some prior) = prior

-- what stands first is done; the acceptance test is evaluated after its alternate (1974)
abbrev pub step_items : Tree → ℕ → Option Environment → State → Option ℤ → List Item → Result_of_step
step_items tree alternate prior s message [] = Went s tt
step_items tree alternate prior s message (Perform command ∷ rest) = goes (performs tree message s rest command)
step_items tree alternate prior s message (StartOf block ∷ rest) =
    goes (starts_body tree.edition block rest s (alternate_number alternate (alternates_in block)))
step_items tree alternate prior s message (TestOf block ∷ rest) =
    judged rest s (value s.environment (former s.environment prior) [] (test_in block))
step_items tree alternate prior s message (EndBlock ∷ rest) = Went s tt
step_items tree alternate prior s message (EndCall ∷ rest) = Went s tt

-- one step at an alternate, given the environment at the innermost recovery point and the message that is taken
abbrev pub step : Tree → ℕ → Option Environment → State → Option ℤ → Result_of_step
step tree alternate prior s message = step_items tree alternate prior s message s.items

-- a receipt, which may find nothing if it has an `else`.
abbrev pub wants_receipt : ℕ → Otherwise → Want
wants_receipt channel NoElse = ReceivesOn channel
wants_receipt channel (Else body) = MayReceiveOn channel

-- what a statement that stands first asks of the turn
abbrev pub wants : Tree → Command → Want
wants tree (Assignment to e) = Acts
wants tree (Printing items) = Acts
wants tree (Sending channel e) = SendsOn (channel_number tree channel.text)
wants tree (Receiving channel to otherwise) = wants_receipt (channel_number tree channel.text) otherwise
wants tree (Conditional test body otherwise) = Acts
wants tree (Loop test body) = Acts
wants tree (Invocation procedure arguments) = Acts
wants tree Failure = Acts
wants tree (Recovering block) = Enters (facts_of tree block)

-- what stands first in what is left of a text
abbrev pub wants_first : Tree → List Item → Want
wants_first tree [] = NothingLeft
wants_first tree (Perform command ∷ rest) = wants tree command
wants_first tree (StartOf block ∷ rest) = Starts
wants_first tree (TestOf block ∷ rest) = Acts
wants_first tree (EndBlock ∷ rest) = Acts
wants_first tree (EndCall ∷ rest) = Acts

-- the start of the first alternate takes the place of the entry
abbrev pub entered : Command → List Item → List Item
entered (Assignment to e) rest = rest
entered (Printing items) rest = rest
entered (Sending channel e) rest = rest
entered (Receiving channel to otherwise) rest = rest
entered (Conditional test body otherwise) rest = rest
entered (Loop test body) rest = rest
entered (Invocation procedure arguments) rest = rest
entered Failure rest = rest
entered (Recovering block) rest = StartOf block ∷ rest

-- what is left of a text once the recovery block that stands first was entered
abbrev pub entered_items : List Item → List Item
entered_items [] = []
entered_items (Perform command ∷ rest) = entered command rest
entered_items (StartOf block ∷ rest) = StartOf block ∷ rest
entered_items (TestOf block ∷ rest) = TestOf block ∷ rest
entered_items (EndBlock ∷ rest) = EndBlock ∷ rest
entered_items (EndCall ∷ rest) = EndCall ∷ rest

-- the state once the recovery block that stands first was entered
abbrev pub enter : State → State
enter s = continue_with (entered_items s.items) s
