-- Who reads a record has its turns already: a plain run in which they are not noted prints the same and ends in the same values.
use Rattle.std.proofs.Common.{◌≡◌, ◌+◌, ℕ, ℤ, Bool, true, false, cond, List, [], ◌∷◌, ◌++◌, length, map, option_map, slice_get, Option, Some, None, Result, Ok, Err, refl, sym, ap, ap₂, ◌∙◌}
use Rattle.std.proofs.lemmas.Iterator.Adapters.{option_map_id}
use Rattle.std.proofs.lemmas.Option.{slice_get-map}
use Rattle.rb_base.specs.declared.event.Cause.{Cause}
use Rattle.rb_base.specs.declared.event.Cause.TheVariants.{Test}
use Rattle.rb_base.specs.declared.edition.Edition.{Edition}
use Rattle.rb_syntax.specs.Tree.{Expression, Reference, PrintItem, Command, Assignment, Printing, Sending, Receiving, Conditional, Loop, Invocation, Failure, Recovering, Body, Scope, Otherwise, NoElse, Else, RecoveryBlock, ProcessDeclaration, ProcedureDeclaration, Tree}
use Rattle.rb_world.specs.Kind.{Ends, Trapped, Held}
use Rattle.rb_world.specs.World.{Process}
use Rattle.rb_world.specs.Turn.{opening}
use Rattle.rb_world.specs.Text.{Naming, channel_lines, outs_text, value_lines, values_text}
use Rattle.rb_base.specs.declared.kept.Kept.{Kept}
use Rattle.rb_world.specs.Plain.{PlainEnd, Ended, StuckAt, plain_run}
use Rattle.rb_world.proofs.Relating.Image.{IsPlainImage, end_image, stepped_image, world_image, process_image}
use Rattle.rb_world.proofs.Relating.ImageRuns.{opening-image, plain_run-image}
use Rattle.rb_meaning.specs.Environment.{Environment, frame_of, global_words, push_call, push_frame}
use Rattle.rb_meaning.specs.Value.{Outcome, and_then, is_zero, value}
use Rattle.rb_meaning.specs.State.{Item, Perform, StartOf, TestOf, EndBlock, EndCall, State, performed, continue_with, with_environment, with_held, with_kept}
use Rattle.rb_meaning.specs.Step.{Nothing, Result_of_step, assigned, bound_to, calls_with, chooses, commands_of, former, goes, held_with, judged, line_from, performs, place_in, present_value, prints, pushes, pushes_else, receives, repeats, sends, starts_body, step, step_items, takes, test_in, alternate_number, alternates_in, values_in, variables_of, within_words}
use Rattle.rb_meaning.specs.Groups.{channel_number, channels_of, procedure_named}
use Rattle.rb_meaning.specs.Meaning.{by_state, count_sent, count_taken, final_of, naming_of, opening_state, opening_states, sent_on, states_of, taken_on}
use Rattle.rb_meaning.specs.PlainRun.{EntryPoint, PlainWorld, environment_at, plain_kind, plain_of, plain_opening, plain_text_at}
use Rattle.rb_levels.specs.Worlds.{unkept_kind}
use Rattle.rb_plain.specs.Played.{UnnotedTurnsTellSame, played, unkept_opening}

-- a state without its kept turns
abbrev unkept : State → State
unkept s = with_kept [] s

-- the same of what a step comes to
abbrev unkept_result : Result State Cause → Result State Cause
unkept_result (Ok s) = Ok (unkept s)
unkept_result (Err cause) = Err cause

abbrev unkept_step : Result_of_step → Result_of_step
unkept_step x = stepped_image unkept (λ m. m) x

-- a step that goes on from a value, which the kept turns do not touch
then_unkept : {A : Type 0} (r : Result A Cause) (f g : A → Result State Cause) → ((a : A) → f a ≡ unkept_result (g a))
    → and_then r f ≡ unkept_result (and_then r g)
then_unkept (Ok a) f g each = each a
then_unkept (Err cause) f g each = refl

-- a step that is one of two
either_unkept : (test : Bool) (r r' x x' : Result State Cause) → x ≡ unkept_result r → x' ≡ unkept_result r'
    → cond test x x' ≡ unkept_result (cond test r r')
either_unkept true r r' x x' e e' = e
either_unkept false r r' x x' e e' = e'

-- a whole step
goes_unkept : (r x : Result State Cause) → x ≡ unkept_result r → goes x ≡ unkept_step (goes r)
goes_unkept (Ok s) x e = ap goes e
goes_unkept (Err cause) x e = ap goes e

within_unkept : (edition : Edition) (env : Environment) (s : State) → within_words edition env (unkept s) ≡ unkept_result (within_words edition env s)
within_unkept edition env s = either_unkept _ (Err _) (Ok (with_environment env s)) (Err _) (Ok (with_environment env (unkept s))) refl refl

assigned_unkept : (s : State) (to : Reference) (e : Expression) → assigned (unkept s) to e ≡ unkept_result (assigned s to e)
assigned_unkept s to e =
    then_unkept (place_in s.environment to) _ _ (λ place.
    then_unkept (present_value s.environment e) _ _ (λ v. refl))

prints_unkept : (s : State) (items : List PrintItem) → prints (unkept s) items ≡ unkept_result (prints s items)
prints_unkept s items =
    then_unkept (line_from s.environment true items) (held_with (unkept s)) (held_with s) (λ line.
    either_unkept _ (Err _) (Ok (with_held (s.held ++ line ∷ []) s)) (Err _) (Ok (with_held (s.held ++ line ∷ []) (unkept s))) refl refl)

sends_unkept : (s : State) (channel : ℕ) (e : Expression) → sends (unkept s) channel e ≡ unkept_result (sends s channel e)
sends_unkept s channel e = then_unkept (present_value s.environment e) _ _ (λ v. refl)

takes_unkept : (s : State) (channel : ℕ) (to : Reference) (v : ℤ) → takes (unkept s) channel to v ≡ unkept_result (takes s channel to v)
takes_unkept s channel to v = then_unkept (place_in s.environment to) _ _ (λ place. refl)

pushes_unkept : (edition : Edition) (body : Body) (rest : List Item) (s : State)
    → pushes edition body rest (unkept s) ≡ unkept_result (pushes edition body rest s)
pushes_unkept edition (Scope variables commands) rest s =
    within_unkept edition (push_frame (frame_of variables) s.environment) (continue_with (performed commands (EndBlock ∷ rest)) s)

pushes_else_unkept : (edition : Edition) (otherwise : Otherwise) (rest : List Item) (s : State)
    → pushes_else edition otherwise rest (unkept s) ≡ unkept_result (pushes_else edition otherwise rest s)
pushes_else_unkept edition NoElse rest s = refl
pushes_else_unkept edition (Else body) rest s = pushes_unkept edition body rest s

chooses_unkept : (edition : Edition) (body : Body) (otherwise : Otherwise) (rest : List Item) (s : State) (v : ℤ)
    → chooses edition body otherwise rest (unkept s) v ≡ unkept_result (chooses edition body otherwise rest s v)
chooses_unkept edition body otherwise rest s v =
    either_unkept (is_zero v) (pushes_else edition otherwise rest s) (pushes edition body rest s) _ _
    (pushes_else_unkept edition otherwise rest s) (pushes_unkept edition body rest s)

repeats_unkept : (edition : Edition) (test : Expression) (body : Body) (rest : List Item) (s : State) (v : ℤ)
    → repeats edition test body rest (unkept s) v ≡ unkept_result (repeats edition test body rest s v)
repeats_unkept edition test body rest s v =
    either_unkept (is_zero v) (Ok (continue_with rest s)) (pushes edition body (Perform (Loop test body) ∷ rest) s) _ _
    refl (pushes_unkept edition body (Perform (Loop test body) ∷ rest) s)

calls_unkept : (edition : Edition) (called : Option ProcedureDeclaration) (rest : List Item) (s : State) (values : List ℤ)
    → calls_with edition called rest (unkept s) values ≡ unkept_result (calls_with edition called rest s values)
calls_unkept edition None rest s values = refl
calls_unkept edition (Some procedure) rest s values =
    let env = push_call (bound_to procedure.parameters values ++ frame_of (variables_of procedure.body)) s.environment in
    let called = continue_with (performed (commands_of procedure.body) (EndCall ∷ rest)) s in
    either_unkept _ (Err _) (within_words edition env called) (Err _) (within_words edition env (unkept called)) refl
    (within_unkept edition env called)

receives_unkept : (tree : Tree) (channel : ℕ) (to : Reference) (otherwise : Otherwise) (rest : List Item) (s : State) (message : Option ℤ)
    → receives tree channel to otherwise rest (unkept s) message ≡ unkept_result (receives tree channel to otherwise rest s message)
receives_unkept tree channel to otherwise rest s (Some v) = takes_unkept (continue_with rest s) channel to v
receives_unkept tree channel to otherwise rest s None = pushes_else_unkept tree.edition otherwise rest s

performs_unkept : (tree : Tree) (message : Option ℤ) (s : State) (rest : List Item) (command : Command)
    → performs tree message (unkept s) rest command ≡ unkept_result (performs tree message s rest command)
performs_unkept tree message s rest (Assignment to e) = assigned_unkept (continue_with rest s) to e
performs_unkept tree message s rest (Printing items) = prints_unkept (continue_with rest s) items
performs_unkept tree message s rest (Sending channel e) = sends_unkept (continue_with rest s) (channel_number tree channel.text) e
performs_unkept tree message s rest (Receiving channel to otherwise) =
    receives_unkept tree (channel_number tree channel.text) to otherwise rest s message
performs_unkept tree message s rest (Conditional test body otherwise) =
    then_unkept (present_value s.environment test) _ _ (chooses_unkept tree.edition body otherwise rest s)
performs_unkept tree message s rest (Loop test body) =
    then_unkept (present_value s.environment test) _ _ (repeats_unkept tree.edition test body rest s)
performs_unkept tree message s rest (Invocation procedure arguments) =
    then_unkept (values_in s.environment arguments) _ _ (calls_unkept tree.edition (procedure_named tree s.process procedure.text) rest s)
performs_unkept tree message s rest Failure = refl
performs_unkept tree message s rest (Recovering block) = refl

starts_unkept : (edition : Edition) (block : RecoveryBlock) (rest : List Item) (s : State) (chosen : Option Body)
    → starts_body edition block rest (unkept s) chosen ≡ unkept_result (starts_body edition block rest s chosen)
starts_unkept edition block rest s None = refl
starts_unkept edition block rest s (Some body) = pushes_unkept edition body (TestOf block ∷ rest) s

judged_either : (test : Bool) (rest : List Item) (s : State)
    → cond test (Trapped Test) (Held (continue_with rest (unkept s))) ≡ unkept_step (cond test (Trapped Test) (Held (continue_with rest s)))
judged_either true rest s = refl
judged_either false rest s = refl

judged_unkept : (rest : List Item) (s : State) (outcome : Outcome) → judged rest (unkept s) outcome ≡ unkept_step (judged rest s outcome)
judged_unkept rest s (Err cause) = refl
judged_unkept rest s (Ok v) = judged_either (is_zero v) rest s

steps_unkept : (tree : Tree) (alternate : ℕ) (prior : Option Environment) (s : State) (message : Option ℤ) (items : List Item)
    → step_items tree alternate prior (unkept s) message items ≡ unkept_step (step_items tree alternate prior s message items)
steps_unkept tree alternate prior s message [] = refl
steps_unkept tree alternate prior s message (Perform command ∷ rest) =
    goes_unkept (performs tree message s rest command) _ (performs_unkept tree message s rest command)
steps_unkept tree alternate prior s message (StartOf block ∷ rest) =
    let chosen = alternate_number alternate (alternates_in block) in
    goes_unkept (starts_body tree.edition block rest s chosen) _ (starts_unkept tree.edition block rest s chosen)
steps_unkept tree alternate prior s message (TestOf block ∷ rest) =
    judged_unkept rest s (value s.environment (former s.environment prior) [] (test_in block))
steps_unkept tree alternate prior s message (EndBlock ∷ rest) = refl
steps_unkept tree alternate prior s message (EndCall ∷ rest) = refl

-- the kind that notes no turn is the image of the other
unkept_image : (tree : Tree) → IsPlainImage (plain_kind tree) (unkept_kind tree) unkept (λ point. point) (λ m. m)
unkept_image tree = record {
  channels = refl;
  groups = refl;
  want = λ s. refl;
  settle = λ point s. refl;
  enter = λ s. refl;
  copy = λ s. refl;
  accept = λ s. refl;
  step = λ alternate point s message m.
      ap (λ (x : Option EntryPoint). step tree alternate (environment_at x) (unkept s) message) (option_map_id point)
      ∙ steps_unkept tree alternate (environment_at point) s message s.items;
  sent = λ s c. refl;
  taken = λ s c. refl;
  sent_then = λ s point c. refl;
  taken_then = λ s point c. refl;
  message = λ m s c i. refl;
  message_then = λ m s point c i. refl;
  held = λ s. refl;
  release = λ s. refl;
  keep = λ t alternate s m. refl;
}

-- no turn is kept at the opening
opening_unkept : (tree : Tree) (p : ℕ) (processes : List ProcessDeclaration)
    → map unkept (opening_states tree p processes) ≡ opening_states tree p processes
opening_unkept tree p [] = refl
opening_unkept tree p (process ∷ processes) =
    ap (λ (states : List State). opening_state tree p process ∷ states) (opening_unkept tree (p + 1) processes)

-- the image of a plain run
abbrev without_kept : PlainEnd State EntryPoint Nothing → PlainEnd State EntryPoint Nothing
without_kept end = end_image unkept (λ point. point) (λ m. m) end

-- a run that notes no turn comes to the image of one that does
played_unkept : (tree : Tree) (turns : List Kept) → played tree turns (unkept_opening tree) ≡ without_kept (plain_of tree turns)
played_unkept tree turns =
    let states = opening_states tree 0 tree.processes in
    ap (plain_run (unkept_kind tree) turns)
    (ap (λ (ss : List State). opening (unkept_kind tree) ss tt) (sym (opening_unkept tree 0 tree.processes))
    ∙ opening-image (unkept_image tree) states tt)
    ∙ plain_run-image (unkept_image tree) turns (plain_opening tree)

-- what the ending of a run reads of its states
states_image : (qs : List (Process State EntryPoint))
    → map (λ q. q.state) (map (process_image unkept (λ point. point)) qs) ≡ map unkept (map (λ q. q.state) qs)
states_image [] = refl
states_image (q ∷ qs) = ap (λ ss. unkept q.state ∷ ss) (states_image qs)

words_unkept : (ss : List State) → map (λ s. global_words s.environment) (map unkept ss) ≡ map (λ s. global_words s.environment) ss
words_unkept [] = refl
words_unkept (s ∷ ss) = ap (λ words. global_words s.environment ∷ words) (words_unkept ss)

sent_by_unkept : (c : ℕ) (s : Option State) → by_state (λ s. length (sent_on s c)) 0 (option_map unkept s) ≡ by_state (λ s. length (sent_on s c)) 0 s
sent_by_unkept c None = refl
sent_by_unkept c (Some s) = refl

sent_unkept : (ss : List State) (c : ℕ) (channels : List Ends) → count_sent (map unkept ss) c channels ≡ count_sent ss c channels
sent_unkept ss c [] = refl
sent_unkept ss c (ends ∷ channels) =
    ap₂ ◌∷◌ (ap (by_state (λ s. length (sent_on s c)) 0) (slice_get-map unkept ss ends.sender) ∙ sent_by_unkept c (slice_get ss ends.sender))
    (sent_unkept ss (c + 1) channels)

taken_by_unkept : (c : ℕ) (s : Option State) → by_state (λ s. taken_on s c) 0 (option_map unkept s) ≡ by_state (λ s. taken_on s c) 0 s
taken_by_unkept c None = refl
taken_by_unkept c (Some s) = refl

taken_unkept : (ss : List State) (c : ℕ) (channels : List Ends) → count_taken (map unkept ss) c channels ≡ count_taken ss c channels
taken_unkept ss c [] = refl
taken_unkept ss c (ends ∷ channels) =
    ap₂ ◌∷◌ (ap (by_state (λ s. taken_on s c) 0) (slice_get-map unkept ss ends.receiver) ∙ taken_by_unkept c (slice_get ss ends.receiver))
    (taken_unkept ss (c + 1) channels)

-- the values of these states, by whatever names
abbrev values_of_states : Tree → Naming → List State → List ℕ
values_of_states tree names ss =
    value_lines names.processes (map (λ s. global_words s.environment) ss)
    ++ channel_lines names.channels (count_sent ss 0 (channels_of tree)) (count_taken ss 0 (channels_of tree))

states_values_unkept : (tree : Tree) (names : Naming) (ss : List State) → values_of_states tree names (map unkept ss) ≡ values_of_states tree names ss
states_values_unkept tree names ss =
    ap (λ words. value_lines names.processes words
    ++ channel_lines names.channels (count_sent (map unkept ss) 0 (channels_of tree)) (count_taken (map unkept ss) 0 (channels_of tree)))
    (words_unkept ss)
    ∙ ap₂ (λ sent taken. value_lines names.processes (map (λ s. global_words s.environment) ss) ++ channel_lines names.channels sent taken)
    (sent_unkept ss 0 (channels_of tree)) (taken_unkept ss 0 (channels_of tree))

values_unkept : (tree : Tree) (names : Naming) (w : PlainWorld)
    → values_text names (final_of tree (world_image unkept (λ point. point) (λ m. m) w)) ≡ values_text names (final_of tree w)
values_unkept tree names w = ap (values_of_states tree names) (states_image w.processes) ∙ states_values_unkept tree names (states_of w)

text_unkept : (tree : Tree) (end : PlainEnd State EntryPoint Nothing) → plain_text_at tree (without_kept end) ≡ plain_text_at tree end
text_unkept tree (Ended w lines) = ap (λ values. Ok (outs_text (naming_of tree) lines ++ values)) (values_unkept tree (naming_of tree) w)
text_unkept tree (StuckAt t) = refl

-- the text of a plain run is that of one that notes no turn
pub unnoted_tell_same : UnnotedTurnsTellSame
unnoted_tell_same tree turns = ap (plain_text_at tree) (played_unkept tree turns) ∙ text_unkept tree (plain_of tree turns)
