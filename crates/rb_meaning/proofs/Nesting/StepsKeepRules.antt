-- Each step of a process leaves text that keeps the rules of nesting, and the same recovery blocks; a test that held takes
-- its block away.
use Rattle.std.proofs.Common.{◌≡◌, ℕ, ℤ, zero, suc, Bool, true, false, cond, List, [], ◌∷◌, ◌++◌, length, Option, Some, None, Result, Ok, Err, refl, sym, ap, ◌∙◌, subst}
use Rattle.rb_base.specs.declared.event.Cause.{Cause}
use Rattle.rb_base.specs.declared.event.Cause.TheVariants.{Test}
use Rattle.rb_base.specs.declared.edition.Edition.{Edition}
use Rattle.rb_syntax.specs.Tree.{Expression, Reference, Command, Assignment, Printing, Sending, Receiving, Conditional, Loop, Invocation, Failure, Recovering, Body, Scope, Otherwise, NoElse, Else, RecoveryBlock, Recovers, Alternates, NoAlternate, Alternate, ProcedureDeclaration, Tree}
use Rattle.rb_world.specs.Kind.{Trapped, Went, Held}
use Rattle.rb_world.proofs.ListFacts.{length-change_at, none_some, some_same}
use Rattle.rb_meaning.specs.Environment.{Environment, push_call, push_frame, frame_of}
use Rattle.rb_meaning.specs.Value.{Outcome, and_then, is_zero, value}
use Rattle.rb_meaning.specs.State.{Item, Perform, StartOf, TestOf, EndBlock, EndCall, State, performed, continue_with, with_environment, with_held}
use Rattle.rb_meaning.specs.Groups.{channel_number, procedure_named}
use Rattle.rb_meaning.specs.Step.{Result_of_step, goes, bound_to, variables_of, commands_of, present_value, place_in, line_from, values_in, assigned, prints, sends, takes, within_words, pushes, pushes_else, chooses, repeats, calls_with, receives, performs, starts_body, alternate_number, alternates_in, judged, former, test_in, step_items}
use Rattle.rb_meaning.specs.Nesting.{Spot, Receives, inside, joined, outside, uses_in, uses_in_alternates, uses_in_block, uses_in_body, uses_in_otherwise}
use Rattle.rb_meaning.specs.Laws.{blocks_left}
use Rattle.rb_meaning.proofs.Nesting.RulesLeft.{AreClear, AreKept, IsClear, spot_before, kept_first, kept_second, clear_performed, blocks_performed}

-- a step that goes on ends in a state of which P holds
abbrev pub EndsIn : (State → Type 0) → Result State Cause → Type 0
EndsIn P (Ok s) = P s
EndsIn P (Err cause) = Unit {0}

-- the same of a whole step, with Q for a test that held
abbrev pub StepsTo : (State → Type 0) → (State → Type 0) → Result_of_step → Type 0
StepsTo P Q (Trapped cause) = Unit {0}
StepsTo P Q (Went s memory) = P s
StepsTo P Q (Held s) = Q s

-- a step that goes on from a value
pub then_ends : {A : Type 0} (P : State → Type 0) (r : Result A Cause) (f : A → Result State Cause)
    → ((a : A) → EndsIn P (f a)) → EndsIn P (and_then r f)
then_ends P (Ok a) f each = each a
then_ends P (Err cause) f each = tt

-- a step that is one of two
pub either_ends : (P : State → Type 0) (test : Bool) (r r' : Result State Cause) → EndsIn P r → EndsIn P r' → EndsIn P (cond test r r')
either_ends P true r r' h h' = h
either_ends P false r r' h h' = h'

-- a test ends in what it comes to when it holds, or in a trap
pub judged_either : (P Q : State → Type 0) (test : Bool) (cause : Cause) (s : State) → Q s → StepsTo P Q (cond test (Trapped cause) (Held s))
judged_either P Q true cause s h = tt
judged_either P Q false cause s h = h

-- a step that holds no test
pub step_ends : (P Q : State → Type 0) (r : Result State Cause) → EndsIn P r → StepsTo P Q (goes r)
step_ends P Q (Ok s) h = h
step_ends P Q (Err cause) h = tt

-- t comes after s: the same process and channels, what is left keeps the rules, and these blocks are left
pub record Continues (tree : Tree) (p : ℕ) (blocks : List RecoveryBlock) (s t : State) : Type 0 where
  pub process : t.process ≡ s.process
  pub clear : AreClear tree p t.items
  pub blocks_are : blocks_left t.items ≡ blocks
  pub sent : length t.sent ≡ length s.sent
  pub taken : length t.taken ≡ length s.taken

-- the block of the innermost test is gone
pub record Passes (tree : Tree) (p : ℕ) (s t : State) : Type 0 where
  pub block : RecoveryBlock
  pub blocks_are : blocks_left s.items ≡ block ∷ blocks_left t.items
  pub continues : Continues tree p (blocks_left t.items) s t

-- the procedures of process p keep the rules
abbrev pub HasClearProcedures : Tree → ℕ → Type 0
HasClearProcedures tree p = (x : List ℕ) (procedure : ProcedureDeclaration) → procedure_named tree p x ≡ Some procedure
    → AreKept tree (uses_in_body (outside p true) procedure.body)

alternate_kept : (tree : Tree) (spot : Spot) (n : ℕ) (alternates : Alternates) (body : Body) → AreKept tree (uses_in_alternates spot alternates)
    → alternate_number n alternates ≡ Some body → AreKept tree (uses_in_body spot body)
alternate_kept tree spot n NoAlternate body kept e = absurd (none_some e)
alternate_kept tree spot zero (Alternate first others) body kept e = absurd (none_some e)
alternate_kept tree spot (suc zero) (Alternate first others) body kept e =
    subst (λ (x : Body). AreKept tree (uses_in_body spot x)) (some_same e)
    (kept_first tree (uses_in_body spot first) (uses_in_alternates spot others) kept)
alternate_kept tree spot (suc (suc n)) (Alternate first others) body kept e =
    alternate_kept tree spot (suc n) others body (kept_second tree (uses_in_body spot first) (uses_in_alternates spot others) kept) e

block_kept : (tree : Tree) (p : ℕ) (rest : List Item) (n : ℕ) (block : RecoveryBlock) (body : Body)
    → AreKept tree (uses_in_block (spot_before p rest) block)
    → alternate_number n (alternates_in block) ≡ Some body → AreKept tree (uses_in_body (spot_before p (TestOf block ∷ rest)) body)
block_kept tree p rest n (Recovers number conversation place test bound alternates) body kept e =
    alternate_kept tree (inside conversation (spot_before p rest)) n alternates body
    (kept_second tree (joined conversation alternates (spot_before p rest))
    (uses_in_alternates (inside conversation (spot_before p rest)) alternates) kept) e

commands_kept : (tree : Tree) (spot : Spot) (body : Body) → AreKept tree (uses_in_body spot body) → AreKept tree (uses_in spot (commands_of body))
commands_kept tree spot (Scope variables commands) kept = kept

module _ (tree : Tree) (p : ℕ) where
  -- only variables, held lines or mail changed
  goes_on : (rest : List Item) (s : State) → AreClear tree p rest → Continues tree p (blocks_left rest) s (continue_with rest s)
  goes_on rest s clear = record { process = refl; clear = clear; blocks_are = refl; sent = refl; taken = refl }

  assigned_ends : (rest : List Item) (s : State) (to : Reference) (e : Expression) → AreClear tree p rest
      → EndsIn (Continues tree p (blocks_left rest) s) (assigned (continue_with rest s) to e)
  assigned_ends rest s to e clear =
      then_ends (Continues tree p (blocks_left rest) s) (place_in s.environment to) _ (λ place.
      then_ends (Continues tree p (blocks_left rest) s) (present_value s.environment e) _ (λ v.
      record { process = refl; clear = clear; blocks_are = refl; sent = refl; taken = refl }))

  prints_ends : (rest : List Item) (s : State) (items : _) → AreClear tree p rest
      → EndsIn (Continues tree p (blocks_left rest) s) (prints (continue_with rest s) items)
  prints_ends rest s items clear =
      then_ends (Continues tree p (blocks_left rest) s) (line_from s.environment true items) _ (λ line.
      either_ends (Continues tree p (blocks_left rest) s) _ (Err _) (Ok (with_held (s.held ++ line ∷ []) (continue_with rest s))) tt
      (record { process = refl; clear = clear; blocks_are = refl; sent = refl; taken = refl }))

  sends_ends : (rest : List Item) (s : State) (channel : ℕ) (e : Expression) → AreClear tree p rest
      → EndsIn (Continues tree p (blocks_left rest) s) (sends (continue_with rest s) channel e)
  sends_ends rest s channel e clear =
      then_ends (Continues tree p (blocks_left rest) s) (present_value s.environment e) _ (λ v.
      record { process = refl; clear = clear; blocks_are = refl; sent = length-change_at channel _ s.sent; taken = refl })

  takes_ends : (rest : List Item) (s : State) (channel : ℕ) (to : Reference) (v : ℤ) → AreClear tree p rest
      → EndsIn (Continues tree p (blocks_left rest) s) (takes (continue_with rest s) channel to v)
  takes_ends rest s channel to v clear =
      then_ends (Continues tree p (blocks_left rest) s) (place_in s.environment to) _ (λ place.
      record { process = refl; clear = clear; blocks_are = refl; sent = refl; taken = length-change_at channel _ s.taken })

  pushes_ends : (edition : Edition) (body : Body) (rest : List Item) (s : State)
      → AreKept tree (uses_in_body (spot_before p rest) body) → AreClear tree p rest
      → EndsIn (Continues tree p (blocks_left rest) s) (pushes edition body rest s)
  pushes_ends edition (Scope variables commands) rest s kept clear =
      either_ends (Continues tree p (blocks_left rest) s) _ (Err _)
      (Ok (with_environment (push_frame (frame_of variables) s.environment) (continue_with (performed commands (EndBlock ∷ rest)) s))) tt
      (record {
        process = refl;
        clear = clear_performed tree p commands (EndBlock ∷ rest) kept (tt, clear);
        blocks_are = blocks_performed commands (EndBlock ∷ rest);
        sent = refl;
        taken = refl;
      })

  pushes_else_ends : (edition : Edition) (otherwise : Otherwise) (rest : List Item) (s : State)
      → AreKept tree (uses_in_otherwise (spot_before p rest) otherwise)
      → AreClear tree p rest → EndsIn (Continues tree p (blocks_left rest) s) (pushes_else edition otherwise rest s)
  pushes_else_ends edition NoElse rest s kept clear = goes_on rest s clear
  pushes_else_ends edition (Else body) rest s kept clear = pushes_ends edition body rest s kept clear

  receives_ends : (channel : ℕ) (to : Reference) (otherwise : Otherwise) (rest : List Item) (s : State) (message : Option ℤ)
      → AreKept tree (uses_in_otherwise (spot_before p rest) otherwise) → AreClear tree p rest
      → EndsIn (Continues tree p (blocks_left rest) s) (receives tree channel to otherwise rest s message)
  receives_ends channel to otherwise rest s (Some v) kept clear = takes_ends rest s channel to v clear
  receives_ends channel to otherwise rest s None kept clear = pushes_else_ends tree.edition otherwise rest s kept clear

  chooses_ends : (body : Body) (otherwise : Otherwise) (rest : List Item) (s : State) (v : ℤ)
      → AreKept tree (uses_in_body (spot_before p rest) body ++ uses_in_otherwise (spot_before p rest) otherwise) → AreClear tree p rest
      → EndsIn (Continues tree p (blocks_left rest) s) (chooses tree.edition body otherwise rest s v)
  chooses_ends body otherwise rest s v kept clear =
      either_ends (Continues tree p (blocks_left rest) s) (is_zero v) (pushes_else tree.edition otherwise rest s) (pushes tree.edition body rest s)
      (pushes_else_ends tree.edition otherwise rest s
      (kept_second tree (uses_in_body (spot_before p rest) body) (uses_in_otherwise (spot_before p rest) otherwise) kept) clear)
      (pushes_ends tree.edition body rest s
      (kept_first tree (uses_in_body (spot_before p rest) body) (uses_in_otherwise (spot_before p rest) otherwise) kept) clear)

  repeats_ends : (test : Expression) (body : Body) (rest : List Item) (s : State) (v : ℤ) → AreKept tree (uses_in_body (spot_before p rest) body)
      → AreClear tree p rest → EndsIn (Continues tree p (blocks_left rest) s) (repeats tree.edition test body rest s v)
  repeats_ends test body rest s v kept clear =
      either_ends (Continues tree p (blocks_left rest) s) (is_zero v) (Ok (continue_with rest s))
      (pushes tree.edition body (Perform (Loop test body) ∷ rest) s)
      (goes_on rest s clear) (pushes_ends tree.edition body (Perform (Loop test body) ∷ rest) s kept (kept, clear))

  calls_ends : (called : Option ProcedureDeclaration) (rest : List Item) (s : State) (values : List ℤ)
      → ((procedure : ProcedureDeclaration) → called ≡ Some procedure → AreKept tree (uses_in_body (outside p true) procedure.body))
      → AreClear tree p rest → EndsIn (Continues tree p (blocks_left rest) s) (calls_with tree.edition called rest s values)
  calls_ends None rest s values kept clear = goes_on rest s clear
  calls_ends (Some procedure) rest s values kept clear =
      let env = push_call (bound_to procedure.parameters values ++ frame_of (variables_of procedure.body)) s.environment in
      either_ends (Continues tree p (blocks_left rest) s) _ (Err _)
      (within_words tree.edition env (continue_with (performed (commands_of procedure.body) (EndCall ∷ rest)) s)) tt
      (either_ends (Continues tree p (blocks_left rest) s) _ (Err _)
      (Ok (with_environment env (continue_with (performed (commands_of procedure.body) (EndCall ∷ rest)) s))) tt
      (record {
        process = refl;
        clear = clear_performed tree p (commands_of procedure.body) (EndCall ∷ rest)
            (commands_kept tree (outside p true) procedure.body (kept procedure refl)) (tt, clear);
        blocks_are = blocks_performed (commands_of procedure.body) (EndCall ∷ rest);
        sent = refl;
        taken = refl;
      }))

  starts_ends : (block : RecoveryBlock) (rest : List Item) (s : State) (chosen : Option Body)
      → ((body : Body) → chosen ≡ Some body → AreKept tree (uses_in_body (spot_before p (TestOf block ∷ rest)) body))
      → AreKept tree (uses_in_block (spot_before p rest) block) → AreClear tree p rest
      → EndsIn (Continues tree p (block ∷ blocks_left rest) s) (starts_body tree.edition block rest s chosen)
  starts_ends block rest s None each kept clear = tt
  starts_ends block rest s (Some body) each kept clear = pushes_ends tree.edition body (TestOf block ∷ rest) s (each body refl) (kept, clear)

  performs_ends : HasClearProcedures tree p → (message : Option ℤ) (s : State) (rest : List Item) (command : Command) → s.process ≡ p
      → IsClear tree p (Perform command) rest → AreClear tree p rest
      → EndsIn (Continues tree p (blocks_left rest) s) (performs tree message s rest command)
  performs_ends procedures message s rest (Assignment to e) own kept clear = assigned_ends rest s to e clear
  performs_ends procedures message s rest (Printing items) own kept clear = prints_ends rest s items clear
  performs_ends procedures message s rest (Sending channel e) own kept clear = sends_ends rest s (channel_number tree channel.text) e clear
  performs_ends procedures message s rest (Receiving channel to otherwise) own kept clear =
      receives_ends (channel_number tree channel.text) to otherwise rest s message
      (kept_second tree (record { name = channel; deed = Receives; spot = spot_before p rest } ∷ [])
      (uses_in_otherwise (spot_before p rest) otherwise) kept) clear
  performs_ends procedures message s rest (Conditional test body otherwise) own kept clear =
      then_ends (Continues tree p (blocks_left rest) s) (present_value s.environment test) _ (λ v. chooses_ends body otherwise rest s v kept clear)
  performs_ends procedures message s rest (Loop test body) own kept clear =
      then_ends (Continues tree p (blocks_left rest) s) (present_value s.environment test) _ (λ v. repeats_ends test body rest s v kept clear)
  performs_ends procedures message s rest (Invocation procedure arguments) own kept clear =
      then_ends (Continues tree p (blocks_left rest) s) (values_in s.environment arguments) _ (λ values.
      calls_ends (procedure_named tree s.process procedure.text) rest s values
      (λ found e. procedures procedure.text found (ap (λ n. procedure_named tree n procedure.text) (sym own) ∙ e)) clear)
  performs_ends procedures message s rest Failure own kept clear = tt
  performs_ends procedures message s rest (Recovering block) own kept clear = goes_on rest s clear

  -- nothing was done
  stays : (s : State) (items : List Item) → s.items ≡ items → AreClear tree p items → Continues tree p (blocks_left items) s s
  stays s items e clear = record {
    process = refl;
    clear = subst (λ (left : List Item). AreClear tree p left) (sym e) clear;
    blocks_are = ap blocks_left e;
    sent = refl;
    taken = refl;
  }

  judged_ends : (block : RecoveryBlock) (rest : List Item) (s : State) (outcome : Outcome) → s.items ≡ TestOf block ∷ rest → AreClear tree p rest
      → StepsTo (Continues tree p (block ∷ blocks_left rest) s) (Passes tree p s) (judged rest s outcome)
  judged_ends block rest s (Err cause) e clear = tt
  judged_ends block rest s (Ok v) e clear =
      judged_either (Continues tree p (block ∷ blocks_left rest) s) (Passes tree p s) (is_zero v) Test (continue_with rest s)
      (record { block = block; blocks_are = ap blocks_left e; continues = goes_on rest s clear })

  -- a step from what is left
  pub steps_keep : HasClearProcedures tree p
      → (alternate : ℕ) (prior : Option Environment) (message : Option ℤ) (s : State) (items : List Item) → s.process ≡ p
      → s.items ≡ items → AreClear tree p items
      → StepsTo (Continues tree p (blocks_left items) s) (Passes tree p s) (step_items tree alternate prior s message items)
  steps_keep procedures alternate prior message s [] own e clear = stays s [] e clear
  steps_keep procedures alternate prior message s (Perform command ∷ rest) own e clear =
      step_ends (Continues tree p (blocks_left rest) s) (Passes tree p s) (performs tree message s rest command)
      (performs_ends procedures message s rest command own clear.0 clear.1)
  steps_keep procedures alternate prior message s (StartOf block ∷ rest) own e clear =
      let chosen = alternate_number alternate (alternates_in block) in
      step_ends (Continues tree p (block ∷ blocks_left rest) s) (Passes tree p s) (starts_body tree.edition block rest s chosen)
      (starts_ends block rest s chosen (λ body. block_kept tree p rest alternate block body clear.0) clear.0 clear.1)
  steps_keep procedures alternate prior message s (TestOf block ∷ rest) own e clear =
      judged_ends block rest s (value s.environment (former s.environment prior) [] (test_in block)) e clear.1
  steps_keep procedures alternate prior message s (EndBlock ∷ rest) own e clear = stays s (EndBlock ∷ rest) e clear
  steps_keep procedures alternate prior message s (EndCall ∷ rest) own e clear = stays s (EndCall ∷ rest) e clear
