-- One step of a process comes to the same in the meaning and in the machine, whatever stands first.
use Rattle.std.proofs.Common.{◌≡◌, ◌<◌, ℕ, ◌+◌, ℤ, cond, Bool, true, false, List, [], ◌∷◌, length, slice_get, Option, Some, None, Result, Ok, Err, refl, sym, ap, ◌∙◌, subst}
use Rattle.std.proofs.lemmas.List.{length-map}
use Rattle.rb_base.specs.declared.event.Cause.{Cause}
use Rattle.rb_base.specs.declared.event.Cause.TheVariants.{Test as TestCause}
use Rattle.rb_syntax.specs.Tree.{Command, Assignment, Printing, Sending, Receiving, Conditional, Loop, Invocation, Failure, Recovering, Otherwise, NoElse, Else, ProcedureDeclaration, RecoveryBlock, Tree}
use Rattle.rb_world.proofs.ListFacts.{none_some, slice_get-there}
use Rattle.rb_world.specs.Kind.{Ends, SendsOn, Trapped, Held}
use Rattle.rb_world.specs.Slots.{Slots, slots_after, stepped_with_slots}
use Rattle.rb_meaning.specs.Value.{is_zero, value}
use Rattle.rb_meaning.specs.State.{Item, Perform, StartOf, TestOf, EndBlock, EndCall, State, continue_with}
use Rattle.rb_meaning.specs.Groups.{channel_number, channels_of, ends_of, procedures_of}
use Rattle.rb_meaning.specs.Step.{former, goes, judged, performs, step_items, test_in, wants_first, wants_receipt}
use Rattle.rb_meaning.specs.Meaning.{environment_of, tree_kind}
use Rattle.rb_meaning.proofs.Nesting.ChannelEnds.{first_receives, first_sends}
use Rattle.rb_meaning.proofs.Nesting.RecoveryPoints.{IsOwn}
use Rattle.rb_world.proofs.Erasing.ErasableKinds.{receives_on}
use Rattle.rb_scope.specs.declared.slot.Slot.{Slot}
use Rattle.rb_code.specs.Instructions.Plain.{Code}
use Rattle.rb_code.specs.WordMachine.Workspace.{Workspace}
use Rattle.rb_code.specs.WordMachine.Act.{Sight}
use Rattle.rb_code.specs.WordMachine.Turn.{Copy, Standing, memory_of, prior_words, sight}
use Rattle.rb_code.proofs.InWords.LaidOut.{stacks_of}
use Rattle.rb_code.proofs.Agreeing.TextLeft.{IsSettled, Left}
use Rattle.rb_code.proofs.Agreeing.StatesMeet.{IsPrior, Meets}
use Rattle.rb_code.proofs.Agreeing.StepOutcomes.{HasCursors, InTurn, Took}
use Rattle.rb_code.proofs.Agreeing.Assignments.{assignment_took}
use Rattle.rb_code.proofs.Agreeing.Branches.{conditional_took, loop_took}
use Rattle.rb_code.proofs.Agreeing.Printing.{printing_took}
use Rattle.rb_code.proofs.InWords.Cursors.{IsReceiver, IsSender}
use Rattle.rb_code.proofs.Agreeing.Mail.{MayReceive, receiving_took, sending_took, slots_then}
use Rattle.rb_code.proofs.Agreeing.Calls.{IsCallee, invocation_took}
use Rattle.rb_code.proofs.Agreeing.Alternates.{failure_took, start_took}
use Rattle.rb_code.proofs.Agreeing.AcceptanceTests.{Judged, Tested, test_judged}
use Rattle.rb_code.proofs.WholeRuns.Agreeing.{MayStep}
use Rattle.rb_code.proofs.WholeRuns.OwnMail.{HasOwnMail}
use Rattle.rb_code.proofs.WholeRuns.StandTogether.{ComesTo, PriorFor, StepsCome}

-- what each process of a code may call
abbrev pub HasCallees : Tree → List Slot → Code → Type 0
HasCallees tree slots c =
    (p number : ℕ) (procedure : ProcedureDeclaration) → slice_get (procedures_of (slice_get tree.processes p)) number ≡ Some procedure
    → IsCallee tree slots c p number procedure

module _ (tree : Tree) (slots : List Slot) (c : Code) (cursors : (p : ℕ) → HasCursors c p) (edition : c.edition ≡ tree.edition)
    (channels : c.channels ≡ channels_of tree) (callees : HasCallees tree slots c)
    (u : Standing) (s : State) (alternate : ℕ) (x : Option State) (y : Option Copy) (message : Option ℤ) (before : Slots)
    (own : IsOwn tree u.process s) (mail : HasOwnMail c u.process s) (lines : u.held ≡ s.held)
    (meets : Meets tree slots c u.process s u.at u.words u.calls) where
  abbrev see : Sight
  see = sight u alternate y message

  abbrev m : Workspace
  m = memory_of u before

  abbrev has : HasCursors c u.process
  has = cursors u.process

  turn : InTurn tree slots c (sight u alternate y message) (cursors u.process) s (memory_of u before)
  turn = record { words_meet = meets.words_meet; held = lines; two = refl }

  -- what the step takes, or its trap
  took_comes : (items : List Item) → s.items ≡ items → (stored : State → Slots) (o : Result State Cause)
      → ((t : State) → slots_after (tree_kind tree) tt (wants_first tree items) s t before ≡ stored t)
      → Took tree slots c see has (u.at + 1) [] m stored o → ComesTo tree slots c u see before (stepped_with_slots (tree_kind tree) s before (goes o))
  took_comes items e stored (Ok t) same r = record {
    to = r.to;
    later = r.later;
    ends = r.ends;
    meets = r.meets;
    settled = r.settled;
    held = r.held;
    slots_are = r.slots_are ∙ sym (ap (λ is. slots_after (tree_kind tree) tt (wants_first tree is) s t before) e ∙ same t);
  }
  took_comes items e stored (Err cause) same r = r

  -- a receipt stores nothing into slots
  receipt_slots : (channel : ℕ) (otherwise : Otherwise) (t : State)
      → slots_after (tree_kind tree) tt (wants_receipt channel otherwise) s t before ≡ before
  receipt_slots channel NoElse t = refl
  receipt_slots channel (Else other) t = refl

  receipt_on : (channel : ℕ) (otherwise : Otherwise) → receives_on (wants_receipt channel otherwise) ≡ Some channel
  receipt_on channel NoElse = refl
  receipt_on channel (Else other) = refl

  may_receive : (channel : ℕ) (otherwise : Otherwise) (given : Option ℤ) → MayStep (wants_receipt channel otherwise) given
      → MayReceive tree slots c see has s m turn channels edition given otherwise
  may_receive channel NoElse None may = absurd (none_some may.1)
  may_receive channel NoElse (Some v) may = tt
  may_receive channel (Else other) None may = tt
  may_receive channel (Else other) (Some v) may = tt

  -- the ends of a channel that is named
  ends_there : (channel : ℕ) → channel < length tree.channels → (ends : Ends) × (slice_get c.channels channel ≡ Some ends)
  ends_there channel h =
      let many : length c.channels ≡ length tree.channels = ap (λ (all : List Ends). length all) channels ∙ length-map tree.channels (ends_of tree) in
      slice_get-there c.channels channel (subst (λ n. channel < n) (sym many) h)

  as_channels : length c.channels ≡ length tree.channels
  as_channels = ap (λ (all : List Ends). length all) channels ∙ length-map tree.channels (ends_of tree)

  sender : (channel : ℕ) → channel < length tree.channels → wants_first tree s.items ≡ SendsOn channel → IsSender c u.process s channel
  sender channel h wants =
      let there = ends_there channel h in
      record {
        ends = there.0;
        at = there.1;
        is = first_sends tree u.process channel there.0 s.items own.clear wants
            (ap (λ (all : List Ends). slice_get all channel) (sym channels) ∙ there.1);
        within = subst (λ n. channel < n) (sym (mail.sent_long ∙ as_channels)) h;
      }

  receiver : (channel : ℕ) → channel < length tree.channels → receives_on (wants_first tree s.items) ≡ Some channel → IsReceiver c u.process s channel
  receiver channel h wants =
      let there = ends_there channel h in
      record {
        ends = there.0;
        at = there.1;
        is = first_receives tree u.process channel there.0 s.items own.clear wants
            (ap (λ (all : List Ends). slice_get all channel) (sym channels) ∙ there.1);
        within = subst (λ n. channel < n) (sym (mail.taken_long ∙ as_channels)) h;
      }

  -- an acceptance test
  tested_comes : (rest : List Item) (t : Bool) → Tested tree slots c see has s m turn (u.at + 1) rest t
      → ComesTo tree slots c u see before (stepped_with_slots (tree_kind tree) s before (cond t (Trapped TestCause) (Held (continue_with rest s))))
  tested_comes rest true r = r
  tested_comes rest false r = record { to = r.to; later = _; ends = r.ends; meets = r.meets; held = lines }

  judged_comes : (rest : List Item) (o : Result ℤ Cause) → Judged tree slots c see has s m turn (u.at + 1) rest o
      → ComesTo tree slots c u see before (stepped_with_slots (tree_kind tree) s before (judged rest s o))
  judged_comes rest (Ok v) r = tested_comes rest (is_zero v) r
  judged_comes rest (Err cause) r = r

  test_comes : (block : RecoveryBlock) (rest : List Item)
      → Left tree slots c u.process (stacks_of s.environment.calls) (TestOf block ∷ rest) u.calls u.at
      → PriorFor tree slots c u s (TestOf block ∷ rest) x y
      → ComesTo tree slots c u see before
      (stepped_with_slots (tree_kind tree) s before
      (judged rest s (value s.environment (former s.environment (environment_of x)) [] (test_in block))))
  test_comes block rest (b, code, is, left) (copy, seen, e, f, prior) =
      subst (λ (o : Option State). ComesTo tree slots c u see before
      (stepped_with_slots (tree_kind tree) s before
      (judged rest s (value s.environment (former s.environment (environment_of o)) [] (test_in block))))) (sym e)
      (judged_comes rest (value s.environment copy.environment [] (test_in block))
      (test_judged tree slots c see has s m turn copy u.calls
      (subst (λ (o : Option Copy). IsPrior tree c u.process s u.calls copy (prior_words o) u.calls) (sym f) prior) block rest u.at b code is left))

  -- whatever stands first
  command_comes : (command : Command) (rest : List Item) → s.items ≡ Perform command ∷ rest
      → Left tree slots c u.process (stacks_of s.environment.calls) (Perform command ∷ rest) u.calls u.at
      → MayStep (wants_first tree (Perform command ∷ rest)) message
      → ComesTo tree slots c u see before (stepped_with_slots (tree_kind tree) s before (goes (performs tree message s rest command)))
  command_comes (Assignment to value) rest e (b, code, is, left) may =
      took_comes (Perform (Assignment to value) ∷ rest) e (λ t. before) _ (λ t. refl)
      (assignment_took tree slots c see has s m turn to value rest u.at b code is left)
  command_comes (Printing items) rest e (b, code, is, left) may =
      took_comes (Perform (Printing items) ∷ rest) e (λ t. before) _ (λ t. refl)
      (printing_took tree slots c see has s m turn refl items rest u.at b code is left)
  command_comes (Sending name value) rest e (b, code, is, left) may =
      let channel = channel_number tree name.text in
      took_comes (Perform (Sending name value) ∷ rest) e (slots_then tree slots c see has s m turn channels edition channel) _ (λ t. refl)
      (sending_took tree slots c see has s m turn channels edition name value rest u.at b
      (sender channel is.0.there (ap (wants_first tree) e)) code is left)
  command_comes (Receiving name to otherwise) rest e (b, code, is, left) may =
      let channel = channel_number tree name.text in
      took_comes (Perform (Receiving name to otherwise) ∷ rest) e (λ t. before) _ (receipt_slots channel otherwise)
      (receiving_took tree slots c see has s m turn channels edition name to otherwise rest u.at b
      (receiver channel is.0.there (ap (λ items. receives_on (wants_first tree items)) e ∙ receipt_on channel otherwise))
      (may_receive channel otherwise message may) code is left)
  command_comes (Conditional test body otherwise) rest e (b, code, is, left) may =
      took_comes (Perform (Conditional test body otherwise) ∷ rest) e (λ t. before) _ (λ t. refl)
      (conditional_took tree slots c see has s m turn edition test body otherwise rest u.at b code is left)
  command_comes (Loop test body) rest e (b, code, is, left) may =
      took_comes (Perform (Loop test body) ∷ rest) e (λ t. before) _ (λ t. refl)
      (loop_took tree slots c see has s m turn edition test body rest u.at b code is left)
  command_comes (Invocation name arguments) rest e (b, code, is, left) may =
      took_comes (Perform (Invocation name arguments) ∷ rest) e (λ t. before) _ (λ t. refl)
      (invocation_took tree slots c see has s m turn edition own.process (callees u.process) name arguments rest u.at b code is left)
  command_comes Failure rest e (b, code, is, left) may =
      took_comes (Perform Failure ∷ rest) e (λ t. before) (performs tree message s rest Failure) (λ t. refl)
      (failure_took tree slots c see has s m turn rest u.at b code)
  command_comes (Recovering block) rest e (b, code, is, left) may = absurd may

  items_come : (items : List Item) → s.items ≡ items
      → Left tree slots c u.process (stacks_of s.environment.calls) items u.calls u.at → IsSettled items
      → PriorFor tree slots c u s items x y → MayStep (wants_first tree items) message
      → ComesTo tree slots c u see before
      (stepped_with_slots (tree_kind tree) s before (step_items tree alternate (environment_of x) s message items))
  items_come [] e left settled prior may = absurd may
  items_come (Perform command ∷ rest) e left settled prior may = command_comes command rest e left may
  items_come (StartOf block ∷ rest) e (b, code, is, left) settled prior may =
      took_comes (StartOf block ∷ rest) e (λ t. before) _ (λ t. refl)
      (start_took tree slots c see has s m turn edition block rest u.at b code is left)
  items_come (TestOf block ∷ rest) e left settled prior may = test_comes block rest left prior
  items_come (EndBlock ∷ rest) e left settled prior may = absurd settled
  items_come (EndCall ∷ rest) e left settled prior may = absurd settled

pub steps_come : (tree : Tree) (slots : List Slot) (c : Code) → ((p : ℕ) → HasCursors c p) → c.edition ≡ tree.edition → c.channels ≡ channels_of tree
    → HasCallees tree slots c → StepsCome tree slots c
steps_come tree slots c cursors edition channels callees u s alternate x y message before own mail lines meets settled prior may at =
    items_come tree slots c cursors edition channels callees u s alternate x y message before own mail lines meets s.items refl meets.left settled prior may
