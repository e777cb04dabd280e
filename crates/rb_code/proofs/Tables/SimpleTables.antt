-- Tables of the code of all simple statements of a process, and of the tests of its statements.
use Rattle.std.proofs.Common.{◌≡◌, ℕ, ◌+◌, ◌<◌, false, List, [], length, option_map, slice_get, unwrap_or, Option, Some, refl, ap, sym, ◌∙◌, subst, true≢false, arith}
use Rattle.rb_base.specs.declared.limits.TheConstants.{MOST_OPERANDS}
use Rattle.rb_syntax.specs.Tree.{Identifier, Expression, Reference, Command, Assignment, Printing, Sending, Receiving}
use Rattle.rb_syntax.specs.Tree.{Conditional, Loop, Invocation, Failure, Recovering, NoElse, Else, ProcedureDeclaration, Tree}
use Rattle.rb_meaning.specs.Environment.{frame_of, frame_words}
use Rattle.rb_meaning.specs.Step.{variables_of}
use Rattle.rb_meaning.specs.Groups.{channel_number, channels_of, groups_of, procedures_of}
use Rattle.rb_meaning.specs.Nesting.{Spot, uses_in_command}
use Rattle.rb_scope.specs.Frames.{Frames}
use Rattle.rb_scope.specs.InFrames.{CommandInFrames, ExpressionInFrames, IsChannel, IsScalar, ReferenceInFrames}
use Rattle.rb_scope.specs.Limits.{CommandWithin}
use Rattle.rb_scope.specs.declared.slot.Slot.{Slot}
use Rattle.rb_world.specs.Kind.{Ends}
use Rattle.rb_code.specs.Instructions.Plain.{Code}
use Rattle.rb_code.specs.WordMachine.Workspace.{part_of}
use Rattle.rb_code.specs.Agreement.Slots.{channel_in, channel_of, procedure_in, procedure_of}
use Rattle.rb_code.specs.Agreement.Operands.{HasRoom}
use Rattle.rb_code.specs.Agreement.RoomInTree.{CommandHasRoom, StoreHasRoom}
use Rattle.rb_code.specs.SoundCode.Sound.{BeginsAs, Changed, Entry, Free, Fresh, IsProcedureAt, IsReceiver, Mode, IsSender, LeadsTo, MayTake, OpenBlock, Table, Within}
use Rattle.rb_code.specs.Agreement.Template.{One}
use Rattle.rb_code.specs.Agreement.Forms.{CommandCode, CommandForm, ExpressionCode, Owner, ReceiptForm, StoreCode, procedure_start, procedure_words}
use Rattle.rb_code.specs.declared.instr.Instr.TheVariants.{Take}
use Rattle.rb_code.proofs.Tables.CommandTables.{IsSimple, Known, MayLookBack, SimpleAreTabled, TakenIsTabled, TestsAreTabled}
use Rattle.rb_code.proofs.Tables.BranchTables.{Judged, Onward}
use Rattle.rb_code.proofs.Tables.ExpressionTables.{HasWords}
use Rattle.rb_code.proofs.Tables.LineTables.{call_tabled, print_tabled}
use Rattle.rb_code.proofs.Tables.PlainTables.{quiet}
use Rattle.rb_code.proofs.Tables.Resting.{judged, resting}
use Rattle.rb_code.proofs.Tables.StatementPlaces.{KeepRules, receives_from, sends_on}
use Rattle.rb_code.proofs.Tables.StatementTables.{assignment_tabled, fail_tabled, receive_tabled, send_tabled, taken_tabled, value_tabled}
use Rattle.rb_code.proofs.Tables.Stretches.{stretch_of}
use Rattle.rb_code.proofs.Tables.Tabled.{Around, TabledFirst}

module _ (tree : Tree) (slots : List Slot) (c : Code) (owner : Owner) (P : Around) (within : Within) where
  -- the words of the frames are there
  words_there : (words : ℕ) (blocks : List OpenBlock) (frames : Frames) (spot : Spot) (mode : Mode)
      → Known tree slots c owner P within words blocks frames spot
      → MayLookBack tree slots c owner P within blocks frames
      → HasWords c (groups_of tree) slots frames.globals frames.running frames.in_test (resting within words blocks mode)
  words_there words blocks frames spot mode known before = record {
    above = known.above;
    running = omega (arith, known.running_are);
    own = omega (arith, known.globals_are);
    before = before;
  }

  -- outside a test
  no_test : (blocks : List OpenBlock) (frames : Frames) → frames.in_test ≡ false → MayLookBack tree slots c owner P within blocks frames
  no_test blocks frames outside in_it = absurd (true≢false (sym in_it ∙ outside))

  -- the frames are those that a statement's expressions stand in
  plain_frames : (words : ℕ) (blocks : List OpenBlock) (frames : Frames) (spot : Spot) → Known tree slots c owner P within words blocks frames spot
      → frames ≡ record frames { counters = []; quantified = 0 }
  plain_frames words blocks frames spot known =
      ap (λ named. record frames { counters = named }) known.none_counted
      ∙ ap (λ q. record frames { counters = []; quantified = q }) known.none_quantified

  -- the expression of a test
  pub test_tabled : (words : ℕ) (blocks : List OpenBlock) (frames : Frames) (spot : Spot) (x : Expression) (a b : ℕ)
      → Known tree slots c owner P within words blocks frames spot → MayLookBack tree slots c owner P within blocks frames
      → ExpressionInFrames slots frames x → HasRoom 0 x → ExpressionCode slots x c a b
      → TabledFirst c (groups_of tree) (λ t. P t × LeadsTo c (groups_of tree) t b (judged within words blocks)) a b
      (resting within words blocks Fresh)
  test_tabled words blocks frames spot x a b known before is room code =
      value_tabled c (groups_of tree) slots frames.globals frames.running frames.in_test (resting within words blocks Fresh)
      (words_there words blocks frames spot Fresh known before) x
      (λ t. P t × LeadsTo c (groups_of tree) t b (judged within words blocks)) a b [] Fresh Free
      (quiet Fresh tt) (subst (λ f. ExpressionInFrames slots f x) (plain_frames words blocks frames spot known) is) room code (λ t r. r.1)

  -- a message that goes to its place
  pub taken_first : (words : ℕ) (blocks : List OpenBlock) (frames : Frames) (spot : Spot) (to : Reference) (channel a b : ℕ)
      → Known tree slots c owner P within words blocks frames spot → frames.in_test ≡ false
      → ReferenceInFrames slots frames (IsScalar slots frames) to → StoreHasRoom to (λ n. n < MOST_OPERANDS)
      → StoreCode slots to (One (Take channel)) c a b
      → TabledFirst c (groups_of tree) (λ t. P t × LeadsTo c (groups_of tree) t b (resting within words blocks Changed)) a b
      (resting within words blocks (MayTake channel))
  taken_first words blocks frames spot to channel a b known outside is room code =
      taken_tabled c (groups_of tree) slots frames.globals frames.running frames.in_test (resting within words blocks (MayTake channel))
      (words_there words blocks frames spot (MayTake channel) known (no_test blocks frames outside)) channel
      (λ t. P t × LeadsTo c (groups_of tree) t b (resting within words blocks Changed)) to a b
      (subst (λ f. ReferenceInFrames slots f (IsScalar slots f) to) (plain_frames words blocks frames spot known) is) room code (λ t r. r.1)

  -- of each procedure it is known that it begins as it should, and that it is one of the process
  pub record KnowsProcedures : Type 0 where
    pub own : owner.procedures ≡ procedures_of (slice_get tree.processes within.process)
    pub there : (t : Table) → P t → (number : ℕ) (procedure : ProcedureDeclaration) → slice_get owner.procedures number ≡ Some procedure
        → IsProcedureAt (part_of c within.process).procedures (procedure_start c owner.number number)
    pub enters : (t : Table) → P t → (number : ℕ) (procedure : ProcedureDeclaration) → slice_get owner.procedures number ≡ Some procedure
        → BeginsAs (t (procedure_start c owner.number number)) within.process (procedure_start c owner.number number)
        (length procedure.parameters + frame_words (frame_of (variables_of procedure.body)))

  -- a statement without statements in it
  module _ (channels_are : c.channels ≡ channels_of tree) (procedures : KnowsProcedures) where
    pub simple_tabled : (words : ℕ) (blocks : List OpenBlock) (frames : Frames) (spot : Spot) (command : Command) (a b : ℕ) → IsSimple command
        → Known tree slots c owner P within words blocks frames spot → KeepRules tree (uses_in_command spot command) → frames.in_test ≡ false
        → CommandInFrames tree slots within.process frames command → CommandWithin command → CommandHasRoom command
        → CommandCode tree slots owner command c a b
        → TabledFirst c (groups_of tree) (λ t. P t × LeadsTo c (groups_of tree) t b (resting within words blocks Changed)) a b
        (resting within words blocks Changed)
    unfolding CommandForm ReceiptForm
    simple_tabled words blocks frames spot command a b simple known rules outside is limits room code =
        by command simple rules
        (subst (λ f. CommandInFrames tree slots within.process f command) (plain_frames words blocks frames spot known) is) limits room code
      where
        R : Around
        R t = P t × LeadsTo c (groups_of tree) t b (resting within words blocks Changed)

        plain : Frames
        plain = record frames { counters = []; quantified = 0 }

        e : Entry
        e = resting within words blocks Changed

        there : HasWords c (groups_of tree) slots frames.globals frames.running frames.in_test e
        there = words_there words blocks frames spot Changed known (no_test blocks frames outside)

        ends_are : (Is : Option Ends → ℕ → Type 0) (k : ℕ) (channel : Identifier) → IsChannel tree slots channel
            → Is (slice_get (channels_of tree) (channel_number tree channel.text)) within.process
            → Is (slice_get c.channels (channel_of slots channel.id)) within.process
        ends_are Is k channel here h =
            subst (λ n. Is (slice_get c.channels n) within.process) (sym (ap channel_in here.slot))
            (subst (λ channels. Is (slice_get channels (channel_number tree channel.text)) within.process) (sym channels_are) h)

        by : (command : Command) → IsSimple command → KeepRules tree (uses_in_command spot command)
            → CommandInFrames tree slots within.process plain command
            → CommandWithin command → CommandHasRoom command → CommandCode tree slots owner command c a b → TabledFirst c (groups_of tree) R a b e
        by (Assignment to value) simple rules is limits room code =
            assignment_tabled c
            (groups_of tree) slots frames.globals frames.running frames.in_test e there R to value a b Changed refl is.0 is.1 room code
            (λ t r. r.1)
        by (Printing items) simple rules is limits room code =
            print_tabled c
            (groups_of tree) slots frames.globals frames.running frames.in_test e there items R a b Changed refl is room limits code
            (λ t r. r.1)
        by (Sending channel value) simple rules is limits room code =
            let speaks = sends_on c tree within blocks spot channel known.stands rules in
            send_tabled c (groups_of tree) slots frames.globals frames.running frames.in_test e there
            (channel_of slots channel.id) R value a b Changed refl
            speaks.0 (ends_are IsSender 0 channel is.0 speaks.1) is.1 room code (λ t r. r.1)
        by (Receiving channel to NoElse) simple rules is limits room code =
            let speaks = receives_from c tree within blocks spot channel known.stands rules in
            receive_tabled c (groups_of tree) slots frames.globals frames.running frames.in_test e there
            (channel_of slots channel.id) R to a b Changed refl
            speaks.0 (ends_are IsReceiver 0 channel is.0 speaks.1) is.1 room.0 code (λ t r. r.1)
        by (Invocation name arguments) simple rules is limits room code =
            let called = is.0 in
            let same : procedure_of slots name.id ≡ called.number = ap procedure_in called.slot in
            let one : slice_get owner.procedures called.number ≡ Some called.procedure =
            ap (λ procedures. slice_get procedures called.number) procedures.own ∙ called.there in
            let n = frame_words (frame_of (variables_of called.procedure.body)) in
            let start = procedure_start c owner.number called.number in
            let are : procedure_words owner.procedures called.number ≡ n =
            ap (λ o. unwrap_or (option_map (λ (each : ProcedureDeclaration). frame_words (frame_of (variables_of each.body))) o) 0) one in
            call_tabled c (groups_of tree) slots frames.globals frames.running frames.in_test e there
            (procedure_start c owner.number (procedure_of slots name.id))
            (length arguments) (procedure_words owner.procedures (procedure_of slots name.id)) R b refl
            (λ t r. subst (λ k. IsProcedureAt (part_of c within.process).procedures (procedure_start c owner.number k)) (sym same)
            (procedures.there t r.0 called.number called.procedure one))
            (λ t r. subst
            (λ k. BeginsAs (t (procedure_start c owner.number k)) within.process (procedure_start c owner.number k)
            (length arguments + procedure_words owner.procedures k))
            (sym same)
            (subst (λ w. BeginsAs (t start) within.process start (length arguments + w)) (sym are)
            (subst (λ l. BeginsAs (t start) within.process start (l + n)) called.parameters
            (procedures.enters t r.0 called.number called.procedure one))))
            (λ t r. r.1) arguments a Changed is.1 room refl code
        by Failure simple rules is limits room code =
            fail_tabled c (groups_of tree) slots frames.globals frames.running frames.in_test e there R a b Changed refl code (λ t r. r.1)
        by (Receiving channel to (Else other)) simple rules is limits room code = absurd simple
        by (Conditional test body otherwise) simple rules is limits room code = absurd simple
        by (Loop test body) simple rules is limits room code = absurd simple
        by (Recovering block) simple rules is limits room code = absurd simple

    pub simple_are_tabled : SimpleAreTabled tree slots c owner P within
    simple_are_tabled words blocks frames spot command a b simple known rules outside is limits room code =
        stretch_of c (groups_of tree) P (Onward c (groups_of tree) P within words blocks b)
        (λ t. P t × LeadsTo c (groups_of tree) t b (resting within words blocks Changed)) a b (resting within words blocks Changed)
        (simple_tabled words blocks frames spot command a b simple known rules outside is limits room code) (λ t p asked. (p, asked))

  pub tests_are_tabled : TestsAreTabled tree slots c owner P within
  tests_are_tabled words blocks frames spot x a b known before is room code =
      stretch_of c (groups_of tree) P (Judged c (groups_of tree) P within words blocks b)
      (λ t. P t × LeadsTo c (groups_of tree) t b (judged within words blocks)) a b (resting within words blocks Fresh)
      (test_tabled words blocks frames spot x a b known before is room code) (λ t p asked. (p, asked))

  pub taken_is_tabled : TakenIsTabled tree slots c owner P within
  taken_is_tabled words blocks frames spot to channel a b known outside is room code =
      stretch_of c (groups_of tree) P (Onward c (groups_of tree) P within words blocks b)
      (λ t. P t × LeadsTo c (groups_of tree) t b (resting within words blocks Changed)) a b (resting within words blocks (MayTake channel))
      (taken_first words blocks frames spot to channel a b known outside is room code) (λ t p asked. (p, asked))
