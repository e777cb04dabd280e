-- Where a plain run is stuck at a limit, the meaning traps.
use Rattle.std.proofs.Common.{◌≡◌, ◌≤◌, ℕ, ℤ, nat_le, nat_lt, Bool, true, false, List, ◌∷◌, ◌++◌, map, Result, Ok, Err, Some, cond, refl, sym, ap, ◌∙◌, arith}
use Rattle.std.proofs.lemmas.Bool.Decides.{nat_tests}
use Rattle.rb_base.specs.declared.edition.Edition.{Edition}
use Rattle.rb_base.specs.declared.event.Cause.{Cause}
use Rattle.rb_base.specs.declared.event.Cause.TheVariants.{Calls, Stack}
use Rattle.rb_base.specs.Limits.{most_words}
use Rattle.rb_syntax.specs.declared.expression.Name.{Name}
use Rattle.rb_syntax.specs.declared.program.Procedure.{Procedure}
use Rattle.rb_syntax.specs.declared.statement.Block.{Block}
use Rattle.rb_syntax.specs.declared.statement.Var.{Var}
use Rattle.rb_syntax.specs.Plain.{body, commands_of, declaration, identifier, procedure_declaration}
use Rattle.rb_meaning.specs.Environment.{Environment, frame_of, push_call, push_frame, words}
use Rattle.rb_meaning.specs.State.{EndBlock, EndCall, Item, State, continue_with, performed, with_environment}
use Rattle.rb_meaning.specs.Step.{bound_to, calls_with, most_calls, open_calls, pushes, within_words}

-- an outcome is a trap
abbrev pub IsTrap : {A : Type 0} → Result A Cause → Type 0
IsTrap outcome = (cause : Cause) × (outcome ≡ Err cause)

-- too many words are the trap `stack`
words_overflow : (edition : Edition) (env : Environment) (s : State) (most : ℕ)
    → most ≡ most_words edition → true ≡ nat_lt most (words env) → IsTrap (within_words edition env s)
words_overflow edition env s most limit over =
    (Stack, ap (λ above. cond above (Err Stack) (Ok (with_environment env s))) (ap (λ n. nat_lt n (words env)) (sym limit) ∙ sym over))

-- a block whose variables would be too many words
pub block_overflows : (edition : Edition) (block : Block) (rest : List Item) (s : State) (most : ℕ) (vars : List Var)
    → most ≡ most_words edition → vars ≡ block.vars.items
    → true ≡ nat_lt most (words (push_frame (frame_of (map declaration vars)) s.environment)) → IsTrap (pushes edition (body block) rest s)
block_overflows edition block rest s most vars limit own over =
    let pushed : List Var → Environment = λ those. push_frame (frame_of (map declaration those)) s.environment in
    words_overflow edition (pushed block.vars.items) (continue_with (performed (commands_of block.body.items) (EndBlock ∷ rest)) s) most limit
    (over ∙ ap (λ those. nat_lt most (words (pushed those))) own)

-- a test that holds
is_within : (m n : ℕ) → m ≤ n → nat_le m n ≡ true
is_within m n e = grind (arith, nat_tests)

-- the state once a procedure was called, whether there is room or not
abbrev called : Procedure → List Item → State → State
called procedure rest s = continue_with (performed (commands_of procedure.block.body.items) (EndCall ∷ rest)) s

-- the variables once a procedure was called
abbrev call_pushed : List Name → List ℤ → List Var → Environment → Environment
call_pushed names values vars env = push_call (bound_to (map identifier names) values ++ frame_of (map declaration vars)) env

-- a call where the most calls are open already
pub call_full : (edition : Edition) (procedure : Procedure) (rest : List Item) (s : State) (values : List ℤ)
    → most_calls ≤ open_calls s.environment → IsTrap (calls_with edition (Some (procedure_declaration procedure)) rest s values)
call_full edition procedure rest s values full =
    let there : Result State Cause =
    within_words edition (call_pushed procedure.params.items values procedure.block.vars.items s.environment) (called procedure rest s) in
    (Calls, ap (λ b. cond b (Err Calls) there) (is_within most_calls (open_calls s.environment) full))

-- one of two traps
either_trap : {A : Type 0} (b : Bool) (cause : Cause) (rest : Result A Cause) → IsTrap rest → IsTrap (cond b (Err cause) rest)
either_trap true cause rest t = (cause, refl)
either_trap false cause rest t = t

-- a call whose parameters and variables would be too many words
pub call_overflows : (edition : Edition) (procedure : Procedure) (rest : List Item) (s : State) (values : List ℤ) (most : ℕ)
    (names : List Name) (vars : List Var)
    → most ≡ most_words edition → names ≡ procedure.params.items → vars ≡ procedure.block.vars.items
    → true ≡ nat_lt most (words (call_pushed names values vars s.environment))
    → IsTrap (calls_with edition (Some (procedure_declaration procedure)) rest s values)
call_overflows edition procedure rest s values most names vars limit own declared over =
    let pushed : List Name → List Var → Environment = λ those these. call_pushed those values these s.environment in
    let there : Result State Cause = within_words edition (pushed procedure.params.items procedure.block.vars.items) (called procedure rest s) in
    either_trap (nat_le most_calls (open_calls s.environment)) Calls there
    (words_overflow edition (pushed procedure.params.items procedure.block.vars.items) (called procedure rest s) most limit
    (over ∙ ap (λ those. nat_lt most (words (pushed those vars))) own
    ∙ ap (λ these. nat_lt most (words (pushed procedure.params.items these))) declared))
