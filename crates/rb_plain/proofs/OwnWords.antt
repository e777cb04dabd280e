-- Over every plain run each process has as many words of its own as it declares; so the variables that are printed lie within them.
use Rattle.std.proofs.Common.{◌≡◌, ◌+◌, ℕ, ℤ, zero, suc, Bool, true, false, cond, List, [], ◌∷◌, ◌++◌, length, map, slice_get, slice_set, Option, Some, None, Ok, Err, refl, sym, ap, ap₂, ◌∙◌, arith, length-append, subst}
use Rattle.std.specs.List.{flat_map, list_any}
use Rattle.std.proofs.lemmas.List.{length-set}
use Rattle.std.proofs.lemmas.List.Concat.{length-flat_map}
use Rattle.rb_base.specs.declared.event.Cause.TheVariants.{Test}
use Rattle.rb_base.specs.declared.edition.Edition.{Edition}
use Rattle.rb_base.specs.declared.names.Names.{Names}
use Rattle.rb_base.specs.declared.names.ProcessNames.{ProcessNames}
use Rattle.rb_syntax.specs.Tree.{Expression, Reference, PrintItem, Command, Assignment, Printing, Sending, Receiving, Conditional, Loop, Invocation, Failure, Recovering, Body, Scope, Otherwise, NoElse, Else, RecoveryBlock, ProcessDeclaration, ProcedureDeclaration, Tree}
use Rattle.rb_trace.specs.Naming.{naming, process_naming, variable_naming}
use Rattle.rb_trace.proofs.Lying.{variables_within}
use Rattle.rb_world.specs.Kind.{Went, Held}
use Rattle.rb_world.specs.World.{Level, Process, World, change_at, copy_of, last_of, settled, without_last}
use Rattle.rb_world.specs.Turn.{Told, freed, leaves, stands_at, stands_now, state_freed}
use Rattle.rb_world.specs.Text.{Naming, ProcessNaming}
use Rattle.rb_base.specs.declared.kept.Kept.{Kept}
use Rattle.rb_world.specs.Plain.{PlainEnd, Ended, StuckAt}
use Rattle.rb_world.proofs.ListFacts.{heads_same, none_some, some_same, tails_same}
use Rattle.rb_world.proofs.Keeping.PlainInduction.{IsPlainInvariant, Plainly, plain_run-keeps}
use Rattle.rb_meaning.specs.Environment.{Environment, Frame, frame_of, frame_words, global_words, has, in_running, push_call, push_frame, running_frames, same_name, stored_among, stored_in}
use Rattle.rb_meaning.specs.Value.{Outcome, is_zero, value}
use Rattle.rb_meaning.specs.State.{Item, Perform, StartOf, TestOf, EndBlock, EndCall, State, performed, continue_with, with_environment, with_held, settle, settle_items}
use Rattle.rb_meaning.specs.Step.{Nothing, alternate_number, alternates_in, assigned, bound_to, calls_with, commands_of, former, judged, line_from, performs, place_in, present_value, prints, pushes, pushes_else, put_at, receives, starts_body, step, step_items, takes, test_in, values_in, variables_of, within_words}
use Rattle.rb_meaning.specs.Groups.{channel_number, procedure_named}
use Rattle.rb_meaning.specs.Meaning.{naming_of, opening_state, opening_states, process_named, variables_named}
use Rattle.rb_meaning.specs.PlainRun.{EntryPoint, PlainWorld, environment_at}
use Rattle.rb_meaning.proofs.Nesting.StepsKeepRules.{EndsIn, StepsTo, either_ends, judged_either, step_ends, then_ends}
use Rattle.rb_meaning.proofs.NamedVariables.{named_within}
use Rattle.rb_levels.specs.Worlds.{unkept_kind}
use Rattle.rb_plain.specs.Played.{ProcessesLie, own_words, played, unkept_opening, world_in}

-- how many words a frame has, and the process's own of a state
abbrev frame_length : Frame → ℕ
frame_length frame = length (flat_map (λ stored. stored.values) frame)

abbrev own_length : State → ℕ
own_length s = length (global_words s.environment)

-- t has as many words of its own as s
abbrev AsLong : State → State → Type 0
AsLong s t = own_length t ≡ own_length s

-- a write changes no length
stored_either : (test : Bool) (name : List ℕ) (values changed : List ℤ) (frame others : Frame)
    → length changed ≡ length values → frame_length others ≡ frame_length frame
    → frame_length (cond test (record { name = name; values = changed } ∷ frame) (record { name = name; values = values } ∷ others))
    ≡ frame_length (record { name = name; values = values } ∷ frame)
stored_either true name values changed frame others e f =
    length-append changed (flat_map (λ stored. stored.values) frame) ∙ ap (λ n. n + frame_length frame) e
    ∙ sym (length-append values (flat_map (λ stored. stored.values) frame))
stored_either false name values changed frame others e f =
    length-append values (flat_map (λ stored. stored.values) others) ∙ ap (λ n. length values + n) f
    ∙ sym (length-append values (flat_map (λ stored. stored.values) frame))

stored_long : (x : List ℕ) (i : ℕ) (v : ℤ) (frame : Frame) → frame_length (stored_in x i v frame) ≡ frame_length frame
stored_long x i v [] = refl
stored_long x i v (stored ∷ frame) =
    stored_either (same_name stored.name x) stored.name stored.values (slice_set stored.values i v) frame (stored_in x i v frame)
    (length-set stored.values i v) (stored_long x i v frame)

either_long : (test : Bool) (env a b : Environment) → length (global_words a) ≡ length (global_words env)
    → length (global_words b) ≡ length (global_words env)
    → length (global_words (cond test a b)) ≡ length (global_words env)
either_long true env a b e f = e
either_long false env a b e f = f

put_long : (env : Environment) (v : ℤ) (place : List ℕ × ℕ) → length (global_words (put_at env v place)) ≡ length (global_words env)
put_long env v (x, i) =
    either_long (list_any (has x) (running_frames env.calls)) env
    (record { globals = env.globals; calls = in_running (stored_among x i v) env.calls })
    (record { globals = stored_in x i v env.globals; calls = env.calls }) refl (stored_long x i v env.globals)

-- nor does a step
assigned_long : (s : State) (to : Reference) (e : Expression) → EndsIn (AsLong s) (assigned s to e)
assigned_long s to e =
    then_ends (AsLong s) (place_in s.environment to) _ (λ place.
    then_ends (AsLong s) (present_value s.environment e) _ (λ v. put_long s.environment v place))

prints_long : (s : State) (items : List PrintItem) → EndsIn (AsLong s) (prints s items)
prints_long s items =
    then_ends (AsLong s) (line_from s.environment true items) _ (λ line.
    either_ends (AsLong s) _ (Err _) (Ok (with_held (s.held ++ line ∷ []) s)) tt refl)

takes_long : (s : State) (channel : ℕ) (to : Reference) (v : ℤ) → EndsIn (AsLong s) (takes s channel to v)
takes_long s channel to v = then_ends (AsLong s) (place_in s.environment to) _ (λ place. put_long s.environment v place)

pushes_long : (edition : Edition) (body : Body) (rest : List Item) (s : State) → EndsIn (AsLong s) (pushes edition body rest s)
pushes_long edition (Scope variables commands) rest s =
    either_ends (AsLong s) _ (Err _)
    (Ok (with_environment (push_frame (frame_of variables) s.environment) (continue_with (performed commands (EndBlock ∷ rest)) s))) tt refl

pushes_else_long : (edition : Edition) (otherwise : Otherwise) (rest : List Item) (s : State)
    → EndsIn (AsLong s) (pushes_else edition otherwise rest s)
pushes_else_long edition NoElse rest s = refl
pushes_else_long edition (Else body) rest s = pushes_long edition body rest s

calls_long : (edition : Edition) (called : Option ProcedureDeclaration) (rest : List Item) (s : State) (values : List ℤ)
    → EndsIn (AsLong s) (calls_with edition called rest s values)
calls_long edition None rest s values = refl
calls_long edition (Some procedure) rest s values =
    let env = push_call (bound_to procedure.parameters values ++ frame_of (variables_of procedure.body)) s.environment in
    let called = continue_with (performed (commands_of procedure.body) (EndCall ∷ rest)) s in
    either_ends (AsLong s) _ (Err _) (within_words edition env called) tt
    (either_ends (AsLong s) _ (Err _) (Ok (with_environment env called)) tt refl)

receives_long : (tree : Tree) (channel : ℕ) (to : Reference) (otherwise : Otherwise) (rest : List Item) (s : State) (message : Option ℤ)
    → EndsIn (AsLong s) (receives tree channel to otherwise rest s message)
receives_long tree channel to otherwise rest s (Some v) = takes_long (continue_with rest s) channel to v
receives_long tree channel to otherwise rest s None = pushes_else_long tree.edition otherwise rest s

performs_long : (tree : Tree) (message : Option ℤ) (s : State) (rest : List Item) (command : Command)
    → EndsIn (AsLong s) (performs tree message s rest command)
performs_long tree message s rest (Assignment to e) = assigned_long (continue_with rest s) to e
performs_long tree message s rest (Printing items) = prints_long (continue_with rest s) items
performs_long tree message s rest (Sending channel e) = then_ends (AsLong s) (present_value s.environment e) _ (λ v. refl)
performs_long tree message s rest (Receiving channel to otherwise) = receives_long tree (channel_number tree channel.text) to otherwise rest s message
performs_long tree message s rest (Conditional test body otherwise) =
    then_ends (AsLong s) (present_value s.environment test) _ (λ v.
    either_ends (AsLong s) (is_zero v) (pushes_else tree.edition otherwise rest s) (pushes tree.edition body rest s)
    (pushes_else_long tree.edition otherwise rest s) (pushes_long tree.edition body rest s))
performs_long tree message s rest (Loop test body) =
    then_ends (AsLong s) (present_value s.environment test) _ (λ v.
    either_ends (AsLong s) (is_zero v) (Ok (continue_with rest s)) (pushes tree.edition body (Perform (Loop test body) ∷ rest) s)
    refl (pushes_long tree.edition body (Perform (Loop test body) ∷ rest) s))
performs_long tree message s rest (Invocation procedure arguments) =
    then_ends (AsLong s) (values_in s.environment arguments) _ (calls_long tree.edition (procedure_named tree s.process procedure.text) rest s)
performs_long tree message s rest Failure = tt
performs_long tree message s rest (Recovering block) = refl

starts_long : (edition : Edition) (block : RecoveryBlock) (rest : List Item) (s : State) (chosen : Option Body)
    → EndsIn (AsLong s) (starts_body edition block rest s chosen)
starts_long edition block rest s None = tt
starts_long edition block rest s (Some body) = pushes_long edition body (TestOf block ∷ rest) s

judged_long : (rest : List Item) (s : State) (outcome : Outcome) → StepsTo (AsLong s) (AsLong s) (judged rest s outcome)
judged_long rest s (Err cause) = tt
judged_long rest s (Ok v) = judged_either (AsLong s) (AsLong s) (is_zero v) Test (continue_with rest s) refl

steps_long : (tree : Tree) (alternate : ℕ) (prior : Option Environment) (s : State) (message : Option ℤ) (items : List Item)
    → StepsTo (AsLong s) (AsLong s) (step_items tree alternate prior s message items)
steps_long tree alternate prior s message [] = refl
steps_long tree alternate prior s message (Perform command ∷ rest) =
    step_ends (AsLong s) (AsLong s) (performs tree message s rest command) (performs_long tree message s rest command)
steps_long tree alternate prior s message (StartOf block ∷ rest) =
    let chosen = alternate_number alternate (alternates_in block) in
    step_ends (AsLong s) (AsLong s) (starts_body tree.edition block rest s chosen) (starts_long tree.edition block rest s chosen)
steps_long tree alternate prior s message (TestOf block ∷ rest) =
    judged_long rest s (value s.environment (former s.environment prior) [] (test_in block))
steps_long tree alternate prior s message (EndBlock ∷ rest) = refl
steps_long tree alternate prior s message (EndCall ∷ rest) = refl

-- nor do ends of blocks and calls
settled_same : (items : List Item) (env : Environment) → (settle_items items env).1.globals ≡ env.globals
settled_same [] env = refl
settled_same (Perform command ∷ items) env = refl
settled_same (StartOf block ∷ items) env = refl
settled_same (TestOf block ∷ items) env = refl
settled_same (EndBlock ∷ items) env = settled_same items _
settled_same (EndCall ∷ items) env = settled_same items _

settled_long : (s : State) → AsLong s (settle s)
settled_long s = ap frame_length (settled_same s.items s.environment)

-- of all processes: how many words each has
abbrev lengths_of : PlainWorld → List ℕ
lengths_of w = map (λ q. own_length q.state) w.processes

-- one process has changed, and has as many as before
changed_same : {A : Type 0} (f : A → ℕ) (p : ℕ) (x y : A) (xs : List A) → slice_get xs p ≡ Some x → f y ≡ f x
    → map f (change_at p (λ _. y) xs) ≡ map f xs
changed_same f p x y [] e same = refl
changed_same f zero x y (z ∷ xs) e same = ap (λ n. n ∷ map f xs) (same ∙ ap f (sym (some_same e)))
changed_same f (suc p) x y (z ∷ xs) e same = ap (λ ns. f z ∷ ns) (changed_same f p x y xs e same)

-- each process has changed, and has as many as before
each_same : {A : Type 0} (f : A → ℕ) (g : A → A) (xs : List A) → ((x : A) → f (g x) ≡ f x) → map f (map g xs) ≡ map f xs
each_same f g [] same = refl
each_same f g (x ∷ xs) same = ap₂ ◌∷◌ (same x) (each_same f g xs same)

freed_long : (tree : Tree) (s : State) (levels : List (Level EntryPoint)) → AsLong s (state_freed (unkept_kind tree) s levels)
freed_long tree s [] = refl
freed_long tree s (level ∷ levels) = refl

leaves_either : (tree : Tree) (test : Bool) (q : Process State EntryPoint)
    → AsLong q.state (cond test (settled (unkept_kind tree) q.state (without_last q.levels)) q).state
leaves_either tree true q = settled_long q.state
leaves_either tree false q = refl

module _ (tree : Tree) (lengths : List ℕ) where
  -- the processes have these lengths
  abbrev HaveLengths : Plainly State EntryPoint Nothing
  HaveLengths past w = lengths_of w ≡ lengths

  went_long : (alternate : ℕ) (point : Option EntryPoint) (s t : State) (message : Option ℤ) (m : Nothing)
      → step tree alternate (environment_at point) s message ≡ Went t m → AsLong s t
  went_long alternate point s t message m e =
      subst (StepsTo (AsLong s) (AsLong s)) e (steps_long tree alternate (environment_at point) s message s.items)

  held_long : (alternate : ℕ) (point : Option EntryPoint) (s t : State) (message : Option ℤ)
      → step tree alternate (environment_at point) s message ≡ Held t → AsLong s t
  held_long alternate point s t message e =
      subst (StepsTo (AsLong s) (AsLong s)) e (steps_long tree alternate (environment_at point) s message s.items)

  stay_long : IsPlainInvariant (unkept_kind tree) HaveLengths HaveLengths
  stay_long = record {
    rests = λ past w h. h;
    goes = λ past kept q w message s m h at e.
        changed_same (λ r. own_length r.state) kept.process q (settled (unkept_kind tree) s q.levels) w.processes at.runs.there
        (settled_long s ∙ went_long kept.alternate (copy_of (last_of q.levels)) q.state s message m e) ∙ h;
    opens = λ past kept q w facts h runs away wants few none.
        changed_same (λ r. own_length r.state) kept.process q _ w.processes runs.there refl ∙ h;
    accepts = λ past kept q w message s level h at last alone.
        changed_same (λ r. own_length r.state) kept.process q (settled (unkept_kind tree) s (without_last q.levels)) w.processes at.steps.runs.there
        (settled_long s ∙ held_long kept.alternate (copy_of (last_of q.levels)) q.state s message at.held) ∙ h;
    stands = λ past kept q w message s level c h at last of_c all.
        changed_same (λ r. own_length r.state) kept.process q (stands_now s q.levels) w.processes at.steps.runs.there
        (held_long kept.alternate (copy_of (last_of q.levels)) q.state s message at.held) ∙ h;
    leaves = λ past kept q w message s level c h at last of_c all.
        each_same (λ r. own_length r.state) (leaves (unkept_kind tree) c) (change_at kept.process (λ _. stands_now s q.levels) w.processes)
        (λ r. leaves_either tree (stands_at c r) r)
        ∙ changed_same (λ r. own_length r.state) kept.process q (stands_now s q.levels) w.processes at.steps.runs.there
        (held_long kept.alternate (copy_of (last_of q.levels)) q.state s message at.held) ∙ h;
    releases = λ past t w one h told.
        each_same (λ r. own_length r.state) (freed (unkept_kind tree)) w.processes (λ r. freed_long tree r.state r.levels) ∙ h;
  }

-- how many words a process declares
abbrev declared_words : ProcessDeclaration → ℕ
declared_words process = frame_words (frame_of process.variables)

opening_lengths : (tree : Tree) (p : ℕ) (processes : List ProcessDeclaration)
    → map (λ q. own_length q.state) (map (λ s. settled (unkept_kind tree) s []) (opening_states tree p processes)) ≡ map declared_words processes
opening_lengths tree p [] = refl
opening_lengths tree p (process ∷ processes) =
    ap₂ ◌∷◌ (settled_long (opening_state tree p process) ∙ length-flat_map (λ stored. stored.values) (frame_of process.variables))
    (opening_lengths tree (p + 1) processes)

-- the world in which a plain run ends, with its lines
pub ended_in : {S C M : Type 0} (end : PlainEnd S C M) (v : World S C M) → world_in end ≡ Some v → (lines : List (ℕ × Told)) × (end ≡ Ended v lines)
ended_in (Ended w lines) v e = (lines, ap (λ x. Ended x lines) (some_same e))
ended_in (StuckAt t) v e = absurd (none_some e)

lengths_same : (qs : List (Process State EntryPoint))
    → map length (map (λ s. global_words s.environment) (map (λ q. q.state) qs)) ≡ map (λ q. own_length q.state) qs
lengths_same [] = refl
lengths_same (q ∷ qs) = ap (λ ns. own_length q.state ∷ ns) (lengths_same qs)

-- where a plain run ends, each process has as many words as it declares
ends_long : (tree : Tree) (turns : List Kept) (v : PlainWorld) → world_in (played tree turns (unkept_opening tree)) ≡ Some v
    → map length (own_words v) ≡ map declared_words tree.processes
ends_long tree turns v e =
    let ended = ended_in (played tree turns (unkept_opening tree)) v e in
    lengths_same v.processes
    ∙ plain_run-keeps (stay_long tree (map declared_words tree.processes)) [] turns (unkept_opening tree) v ended.0
    (opening_lengths tree 0 tree.processes) ended.1

-- so all variables that are named lie within words of these lengths
processes_lie : (processes : List ProcessDeclaration) (names : List ProcessNames) (words : List (List ℤ))
    → map process_naming names ≡ map process_named processes → map length words ≡ map declared_words processes → ProcessesLie names words
processes_lie [] [] [] e f = tt
processes_lie [] [] (ws ∷ words) e f = absurd (cc)
processes_lie [] (one ∷ names) words e f = absurd (cc)
processes_lie (process ∷ processes) [] words e f = absurd (cc)
processes_lie (process ∷ processes) (one ∷ names) [] e f = absurd (cc)
processes_lie (process ∷ processes) (one ∷ names) (ws ∷ words) e f =
    let own : map variable_naming one.variables.items ≡ variables_named 0 process.variables =
    ap (λ (named : ProcessNaming). named.variables) (heads_same e) in
    let long : length ws ≡ declared_words process = heads_same f in (
      variables_within (length ws) one.variables.items (rw own (named_within (length ws) 0 process.variables (omega (arith, long)))),
      processes_lie processes names words (tails_same e) (tails_same f),
    )

-- so it is where a plain run ends
pub ends_lying : (tree : Tree) (names : Names) (turns : List Kept) (v : PlainWorld) → naming names ≡ naming_of tree
    → world_in (played tree turns (unkept_opening tree)) ≡ Some v → ProcessesLie names.processes.items (own_words v)
ends_lying tree names turns v named e =
    processes_lie tree.processes names.processes.items (own_words v) (ap (λ (n : Naming). n.processes) named) (ends_long tree turns v e)
