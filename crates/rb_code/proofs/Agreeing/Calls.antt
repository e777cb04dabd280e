-- A call does the same in the meaning and in the machine: its arguments, and the words of its frame.
use Rattle.std.proofs.Common.{◌≡◌, ℕ, suc, ◌+◌, ℤ, pos, nat_le, nat_lt, cond, Bool, true, false, List, [], ◌∷◌, ◌++◌, length, replicate, slice_get, unwrap_or, option_map, Option, Some, Result, Ok, Err, refl, sym, ap, ◌∙◌, subst, arith, length-append, append_assoc, append-nil}
use Rattle.std.specs.List.{All}
use Rattle.std.proofs.lemmas.List.Elements.{All-head, All-tail}
use Rattle.rb_base.specs.declared.event.Cause.{Cause}
use Rattle.rb_base.specs.declared.event.Cause.TheVariants.{Calls, Stack}
use Rattle.rb_base.specs.Limits.{most_words}
use Rattle.rb_syntax.specs.Tree.{Expression, Identifier, Invocation, ProcedureDeclaration, Tree}
use Rattle.rb_meaning.specs.Environment.{Environment, Frame, frame_of, frame_words, push_call, words}
use Rattle.rb_meaning.specs.Value.{and_then}
use Rattle.rb_meaning.specs.State.{EndCall, Item, State, continue_with, performed, with_environment}
use Rattle.rb_meaning.specs.Groups.{procedure_named, procedures_of}
use Rattle.rb_meaning.specs.Step.{bound_to, calls_with, commands_of, most_calls, open_calls, performs, present_value, values_in, variables_of}
use Rattle.rb_scope.specs.Frames.{Shape, Sized, call_shape, shape_of}
use Rattle.rb_scope.specs.InFrames.{CommandInFrames, CommandsInFrames, ExpressionInFrames}
use Rattle.rb_scope.specs.declared.slot.Slot.{Slot}
use Rattle.rb_code.specs.Instructions.Plain.{Code, Part}
use Rattle.rb_code.specs.WordMachine.Workspace.{Counting, Workspace, OpenCall, body_place, called, part_of, variables_place}
use Rattle.rb_code.specs.WordMachine.Act.{Going, Sight, Trapped, act, arguments, below, has_words_for}
use Rattle.rb_code.specs.Agreement.Slots.{procedure_in, procedure_of}
use Rattle.rb_code.specs.Agreement.Forms.{ArgumentsCode, CommandForm, procedure_start, procedure_words}
use Rattle.rb_code.specs.declared.instr.Instr.TheVariants.{Call, Return}
use Rattle.rb_code.proofs.Agreeing.Placed.{CommandPlaced, CommandsPlaced}
use Rattle.rb_code.proofs.Agreeing.Leads.{Leads, ends, goes, stays}
use Rattle.rb_code.proofs.Agreeing.ResultsReached.{Comes, comes_on, kept_here, recounted}
use Rattle.rb_code.proofs.InWords.LaidOut.{Based, Laid, flat_frame, shapes_of, stacks_of}
use Rattle.rb_code.proofs.Agreeing.TextLeft.{Left, frames_at, owner_of}
use Rattle.rb_code.proofs.Agreeing.StatesMeet.{WordsMeet}
use Rattle.rb_code.proofs.InWords.Environments.{laid_long}
use Rattle.rb_code.proofs.InWords.FramesPushed.{laid_called, zeros_flat}
use Rattle.rb_code.proofs.Agreeing.BlocksBegin.{commands_left, fits, full}
use Rattle.std.proofs.lemmas.List.{length-map, length-replicate}
use Rattle.rb_cache.proofs.Stamps.{le_from_test}
use Rattle.rb_code.proofs.Agreeing.Stores.{frames_of, plain_comes}
use Rattle.rb_code.proofs.Agreeing.StepOutcomes.{HasCursors, InTurn, Took, arrives, same_took, took_from, took_on, words_again, words_continue}

-- values on operands, the last on top
abbrev onto : List ℤ → List ℤ → List ℤ
onto [] operands = operands
onto (v ∷ vs) operands = onto vs (v ∷ operands)

-- they are taken again, the deepest first
arguments_on : (vs os : List ℤ) (n : ℕ) → arguments (length vs + n) (onto vs os) ≡ arguments n os ++ vs
arguments_on [] os n = let e : 0 + n ≡ n = omega arith in ap (λ k. arguments k os) e ∙ sym (append-nil (arguments n os))
arguments_on (v ∷ vs) os n =
    let e : length (v ∷ vs) + n ≡ length vs + suc n = omega arith in
    ap (λ k. arguments k (onto vs (v ∷ os))) e ∙ arguments_on vs (v ∷ os) (suc n) ∙ append_assoc (arguments n os) (v ∷ []) vs

below_on : (vs os : List ℤ) (n : ℕ) → below (length vs + n) (onto vs os) ≡ below n os
below_on [] os n = let e : 0 + n ≡ n = omega arith in ap (λ k. below k os) e
below_on (v ∷ vs) os n =
    let e : length (v ∷ vs) + n ≡ length vs + suc n = omega arith in
    ap (λ k. below k (onto vs (v ∷ os))) e ∙ below_on vs (v ∷ os) (suc n)

all_taken : (vs : List ℤ) (n : ℕ) → n ≡ length vs → (arguments n (onto vs []) ≡ vs) × (below n (onto vs []) ≡ [])
all_taken vs n h =
    let e : n ≡ length vs + 0 = omega (arith, h) in
    (ap (λ k. arguments k (onto vs [])) e ∙ arguments_on vs [] 0, ap (λ k. below k (onto vs [])) e ∙ below_on vs [] 0)

-- the words of a frame of arguments and variables
flat_append : (frame other : Frame) → flat_frame (frame ++ other) ≡ flat_frame frame ++ flat_frame other
flat_append [] other = refl
flat_append (stored ∷ frame) other =
    ap (λ ws. stored.values ++ ws) (flat_append frame other) ∙ sym (append_assoc stored.values (flat_frame frame) (flat_frame other))

flat_bound : (names : List Identifier) (vs : List ℤ) → length vs ≡ length names → flat_frame (bound_to names vs) ≡ vs
flat_bound [] [] e = refl
flat_bound [] (v ∷ vs) e = absurd (omega arith)
flat_bound (x ∷ names) [] e = absurd (omega arith)
flat_bound (x ∷ names) (v ∷ vs) e = ap (λ ws. v ∷ ws) (flat_bound names vs (omega arith))

-- its shape is the same whatever the arguments
bound_shape : (names : List Identifier) (vs : List ℤ) (frame : Frame) → shape_of (bound_to names vs ++ frame) ≡ shape_of (bound_to names [] ++ frame)
bound_shape [] vs frame = refl
bound_shape (x ∷ names) [] frame = refl
bound_shape (x ∷ names) (v ∷ vs) frame =
    ap (λ shape. let one : Sized = record { name = x.text; words = 1 } in one ∷ shape) (bound_shape names vs frame)

-- there are as many values as arguments
values_long : (env : Environment) (es : List Expression) (vs : List ℤ) → values_in env es ≡ Ok vs → length vs ≡ length es
values_long env [] vs e = let none : [] ≡ vs = cc in ap length (sym none)
values_long env (e ∷ es) vs h = by (present_value env e) (values_in env es) (λ ws u. values_long env es ws u) refl h
  where
    by : (o : Result ℤ Cause) (r : Result (List ℤ) Cause) → ((ws : List ℤ) → values_in env es ≡ Ok ws → length ws ≡ length es) → values_in env es ≡ r
        → and_then o (λ v. and_then r (λ ws. Ok (v ∷ ws))) ≡ Ok vs → length vs ≡ suc (length es)
    by (Err cause) r next u g = absurd cc
    by (Ok v) (Err cause) next u g = absurd cc
    by (Ok v) (Ok ws) next u g = let z : v ∷ ws ≡ vs = cc in let l = next ws u in let k = ap length z in omega arith

-- as many open calls
based_long : (n : ℕ) (calls : List OpenCall) (stacks : List (List Shape)) → Based n calls stacks → length stacks ≡ suc (length calls)
based_long n [] [] h = absurd h
based_long n [] (shapes ∷ []) h = refl
based_long n [] (shapes ∷ other ∷ outer) h = absurd h
based_long n (call ∷ calls) [] h = absurd h
based_long n (call ∷ calls) (shapes ∷ outer) h = ap suc (based_long n calls outer h.1)

pub as_many_open : (part : Part) (front : List ℤ) (env : Environment) (all : List ℤ) (calls : List OpenCall) → Laid part front env all calls
    → open_calls env ≡ length calls
as_many_open part front env all calls l =
    let long = based_long (body_place part) calls (stacks_of env.calls) l.based in
    omega (arith, long, length-map env.calls shapes_of)

-- Procedure number n of process number p: its statements stand at its first address, and then the way back.
pub record IsCallee (tree : Tree) (slots : List Slot) (c : Code) (p number : ℕ) (procedure : ProcedureDeclaration) : Type 0 where
  pub end : ℕ
  pub commands : CommandsPlaced tree slots (owner_of tree p) (commands_of procedure.body) c (procedure_start c p number) end
  pub return : slice_get c.instrs end ≡ Some Return
  pub in_frames : CommandsInFrames tree slots p (frames_at tree p (call_shape procedure ∷ [])) (commands_of procedure.body)

module _ (tree : Tree) (slots : List Slot) (c : Code) (see : Sight) (has : HasCursors c see.process) (s : State)
    (m : Workspace) (turn : InTurn tree slots c see has s m) where
  -- arguments are left on the operands
  arguments_come : (es : List Expression) (a b : ℕ) (set : List (Option Counting)) (os : List ℤ) → length set ≡ 2 → ArgumentsCode slots es c a b
      → All (ExpressionInFrames slots (frames_of tree slots c see has s)) es
      → Comes c see 0 a os (recounted set m) b (λ vs. onto vs os) (λ vs. m) (values_in s.environment es)
  arguments_come [] a b set os two code is =
      (set, kept_here 0 set, subst (λ x. Leads c see a os (recounted set m) x os (recounted set m)) (sym code) (stays c see a os (recounted set m)))
  arguments_come (e ∷ es) a b set os two (d, code, more) is =
      let P = ExpressionInFrames slots (frames_of tree slots c see has s) in
      comes_on c see 0 a d b os (recounted set m) (λ v. v ∷ os) (λ v. m) (λ vs. onto vs os) (λ vs. m) (present_value s.environment e)
      (λ v. and_then (values_in s.environment es) (λ vs. Ok (v ∷ vs)))
      (plain_comes tree slots c see has s m turn e (All-head P e es is) a d set os two code)
      (λ v later kept. rest v later (values_in s.environment es) (arguments_come es d b later (v ∷ os) (kept.many ∙ two) more (All-tail P e es is)))
    where
      rest : (v : ℤ) (later : List (Option Counting)) (o : Result (List ℤ) Cause)
          → Comes c see 0 d (v ∷ os) (recounted later m) b (λ vs. onto vs (v ∷ os)) (λ vs. m) o
          → Comes c see 0 d (v ∷ os) (recounted later m) b (λ vs. onto vs os) (λ vs. m) (and_then o (λ vs. Ok (v ∷ vs)))
      rest v later (Ok vs) r = r
      rest v later (Err cause) r = r

  -- the frame of a call
  abbrev frame_with : ProcedureDeclaration → List ℤ → Frame
  frame_with procedure vs = bound_to procedure.parameters vs ++ frame_of (variables_of procedure.body)

  call_took : (procedure : ProcedureDeclaration) (number : ℕ) (vs : List ℤ) (later : List (Option Counting)) (n a : ℕ) (rest : List Item)
      → length later ≡ 2
      → length vs ≡ length procedure.parameters → n ≡ length vs → IsCallee tree slots c see.process number procedure
      → slice_get c.instrs a ≡ Some (Call (procedure_start c see.process number) n (frame_words (frame_of (variables_of procedure.body))))
      → Left tree slots c see.process (stacks_of s.environment.calls) rest m.calls (a + 1)
      → Took tree slots c see has a (onto vs []) (recounted later m) (λ later. m.slots) (calls_with c.edition (Some procedure) rest s vs)
  call_took procedure number vs later n a rest two many count callee instr left =
      by (nat_le most_calls (length m.calls)) (nat_lt (most_words c.edition) (words env)) refl refl
    where
      p : ℕ
      p = see.process

      w : WordsMeet tree c see.process s m.words m.calls
      w = turn.words_meet

      zeros : ℕ
      zeros = frame_words (frame_of (variables_of procedure.body))

      env : Environment
      env = push_call (frame_with procedure vs) s.environment

      new_words : List ℤ
      new_words = m.words ++ (vs ++ replicate zeros (pos 0))

      new_calls : List OpenCall
      new_calls = record { back = a + 1; base = length m.words } ∷ m.calls

      flat_is : flat_frame (frame_with procedure vs) ≡ vs ++ replicate zeros (pos 0)
      flat_is =
          flat_append (bound_to procedure.parameters vs) (frame_of (variables_of procedure.body))
          ∙ ap (λ ws. ws ++ flat_frame (frame_of (variables_of procedure.body))) (flat_bound procedure.parameters vs many)
          ∙ ap (λ ws. vs ++ ws) (zeros_flat (variables_of procedure.body))

      laid : Laid (part_of c see.process) w.front env new_words new_calls
      laid =
          subst (λ ws. Laid (part_of c see.process) w.front env (m.words ++ ws) new_calls) flat_is
          (laid_called (part_of c see.process) (frame_with procedure vs) s.environment m.words m.calls w.front (a + 1) w.laid)

      later_state : State
      later_state = with_environment env (continue_with (performed (commands_of procedure.body) (EndCall ∷ rest)) s)

      opened : nat_le most_calls (open_calls s.environment) ≡ nat_le most_calls (length m.calls)
      opened = ap (nat_le most_calls) (as_many_open (part_of c see.process) w.front s.environment m.words m.calls w.laid)

      room : length m.words + (n + zeros) ≡ variables_place (part_of c see.process) + words env
      room =
          let long = laid_long (part_of c see.process) w.front env new_words new_calls laid in
          omega (
            arith,
            long,
            count,
            length-append m.words (vs ++ replicate zeros (pos 0)),
            length-append vs (replicate zeros (pos 0)),
            length-replicate zeros (pos 0),
          )

      taken : (arguments n (onto vs []) ≡ vs) × (below n (onto vs []) ≡ [])
      taken = all_taken vs n count

      new_memory : Workspace
      new_memory = called (a + 1) vs zeros (recounted later m)

      left_there : Left tree slots c see.process (stacks_of env.calls) later_state.items new_calls (procedure_start c see.process number)
      left_there =
          commands_left tree slots c see.process (commands_of procedure.body) (EndCall ∷ rest) (stacks_of env.calls) new_calls
          (procedure_start c see.process number) callee.end callee.commands
          (subst (λ shape. CommandsInFrames tree slots see.process (frames_at tree see.process (shape ∷ [])) (commands_of procedure.body))
          (sym (bound_shape procedure.parameters vs (frame_of (variables_of procedure.body)))) callee.in_frames)
          (callee.return, left)

      acts : (t u : Bool) → nat_le most_calls (length m.calls) ≡ t → has_words_for c (part_of c see.process) (length m.words + (n + zeros)) ≡ u
          → act c see (Call (procedure_start c see.process number) n zeros) a (onto vs []) (recounted later m)
          ≡ cond t (Trapped Calls) (cond u (Going (procedure_start c see.process number) [] new_memory) (Trapped Stack))
      acts t u e f =
          ap (λ b. cond b (Trapped Calls) (cond (has_words_for c (part_of c see.process) (length m.words + (n + zeros)))
          (Going (procedure_start c see.process number) (below n (onto vs []))
          (called (a + 1) (arguments n (onto vs [])) zeros (recounted later m)))
          (Trapped Stack))) e
          ∙ ap (λ b. cond t (Trapped Calls) (cond b
          (Going (procedure_start c see.process number) (below n (onto vs []))
          (called (a + 1) (arguments n (onto vs [])) zeros (recounted later m)))
          (Trapped Stack))) f
          ∙ ap (λ xs. cond t (Trapped Calls) (cond u (Going (procedure_start c see.process number) (below n (onto vs []))
          (called (a + 1) xs zeros (recounted later m))) (Trapped Stack))) taken.0
          ∙ ap (λ xs. cond t (Trapped Calls) (cond u (Going (procedure_start c see.process number) xs new_memory) (Trapped Stack))) taken.1

      cases : (t u : Bool) → nat_le most_calls (length m.calls) ≡ t → nat_lt (most_words c.edition) (words env) ≡ u
          → Took tree slots c see has a (onto vs []) (recounted later m) (λ later. m.slots) (cond t (Err Calls) (cond u (Err Stack) (Ok later_state)))
      cases true u e f = ends c see _ a (onto vs []) (recounted later m) (Trapped Calls) instr (acts true _ e refl) refl
      cases false true e f =
          ends c see _ a (onto vs []) (recounted later m) (Trapped Stack) instr
          (acts false false e
          (full (variables_place (part_of c see.process)) (most_words c.edition) (length m.words) (n + zeros) (words env) room f)) refl
      cases false false e f =
          took_from tree slots c see has a (procedure_start c see.process number) (onto vs []) []
          (recounted later m) new_memory (λ later. m.slots) (Ok later_state)
          (goes c see _ a (procedure_start c see.process number) (onto vs []) [] (recounted later m) new_memory instr
          (acts false true e (fits (variables_place (part_of c see.process)) (most_words c.edition) (length m.words) (n + zeros) (words env) room f)))
          (arrives tree slots c see has later_state (procedure_start c see.process number) new_memory (λ later. m.slots)
          (record {
            words_meet =
                words_continue tree c see.process has (with_environment env s) new_words new_calls
                (performed (commands_of procedure.body) (EndCall ∷ rest))
                (words_again tree c see.process has s m.words m.calls w env new_words new_calls laid refl
                (le_from_test (most_words c.edition) (words env) f));
            held = turn.held;
            two = two;
          })
          left_there refl)

      by : (t u : Bool) → nat_le most_calls (length m.calls) ≡ t → nat_lt (most_words c.edition) (words env) ≡ u
          → Took tree slots c see has a (onto vs []) (recounted later m) (λ later. m.slots) (calls_with c.edition (Some procedure) rest s vs)
      by t u e f =
          same_took tree slots c see has a (onto vs []) (recounted later m) (λ later. m.slots)
          (cond t (Err Calls) (cond u (Err Stack) (Ok later_state))) _
          (ap (λ b. cond t (Err Calls) (cond b (Err Stack) (Ok later_state))) (sym f)
          ∙ ap (λ b. cond b (Err Calls) (cond (nat_lt (most_words c.edition) (words env)) (Err Stack) (Ok later_state))) (sym e ∙ sym opened))
          (cases t u e f)

  pub invocation_took : c.edition ≡ tree.edition → s.process ≡ see.process
      → ((number : ℕ) (procedure : ProcedureDeclaration) → slice_get (procedures_of (slice_get tree.processes see.process)) number ≡ Some procedure
      → IsCallee tree slots c see.process number procedure)
      → (name : Identifier) (es : List Expression) (rest : List Item) (a b : ℕ)
      → CommandPlaced tree slots (owner_of tree see.process) (Invocation name es) c a b
      → CommandInFrames tree slots see.process (frames_of tree slots c see has s) (Invocation name es)
      → Left tree slots c see.process (stacks_of s.environment.calls) rest m.calls b
      → Took tree slots c see has (a + 1) [] m (λ later. m.slots) (performs tree see.message s rest (Invocation name es))
  unfolding CommandForm
  invocation_took edition mine callees name es rest a b (d, begin, (e, code, call)) (is, fit) left =
      let p = see.process in
      let declared = procedures_of (slice_get tree.processes p) in
      let number : procedure_of slots name.id ≡ is.number = ap procedure_in is.slot in
      let many : procedure_words declared (procedure_of slots name.id) ≡ frame_words (frame_of (variables_of is.procedure.body)) =
      ap (procedure_words declared) number
      ∙ ap (λ o. unwrap_or (option_map (λ (one : ProcedureDeclaration). frame_words (frame_of (variables_of one.body))) o) 0) is.there in
      let instr : slice_get c.instrs e
      ≡ Some (Call (procedure_start c p is.number) (length es) (frame_words (frame_of (variables_of is.procedure.body)))) =
      call.0 ∙ ap (λ k. Some (Call (procedure_start c p k) (length es) (procedure_words declared (procedure_of slots name.id)))) number
      ∙ ap (λ k. Some (Call (procedure_start c p is.number) (length es) k)) many in
      let found : procedure_named tree s.process name.text ≡ Some is.procedure = ap (λ k. procedure_named tree k name.text) mine ∙ is.found in
      took_on tree slots c see has (a + 1) e [] m (λ vs. onto vs []) (λ vs. m) (λ later. m.slots) (values_in s.environment es) _
      (arguments_come es (a + 1) e m.counters [] turn.two (subst (λ z. ArgumentsCode slots es c z e) begin.1 code) fit)
      (λ vs later at kept. same_took tree slots c see has e (onto vs []) (recounted later m) (λ later. m.slots)
      (calls_with c.edition (Some is.procedure) rest s vs) _
      (ap (λ x. calls_with x (Some is.procedure) rest s vs) edition ∙ ap (λ o. calls_with tree.edition o rest s vs) (sym found))
      (call_took is.procedure is.number vs later (length es) e rest (kept ∙ turn.two) (values_long s.environment es vs at ∙ sym is.parameters)
      (sym (values_long s.environment es vs at)) (callees is.number is.procedure is.there) instr
      (subst (λ z. Left tree slots c p (stacks_of s.environment.calls) rest m.calls z) call.1 left)))
