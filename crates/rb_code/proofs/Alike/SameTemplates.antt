-- The code of a tree is the same by two lists of slots by which the tree is resolved.
use Rattle.std.proofs.Common.{◌≡◌, ℕ, suc, ◌+◌, List, [], ◌∷◌, length, slice_get, Some, refl, ap, sym, ◌∙◌, subst, arith}
use Rattle.std.specs.List.{AllByRecursion}
use Rattle.std.proofs.lemmas.List.Elements.{recursion_from_All}
use Rattle.rb_syntax.specs.Tree.{Expression, Literal, Variable, Former, Minus, Negation, Chained, Quantification, Reference, Refer, Scalar, Element, Links, NoLink, Linked, Printed, Words, Amount, PrintItem, Command, Assignment, Printing, Sending, Receiving, Conditional, Loop, Invocation, Failure, Recovering, Commands, NoCommand, Then, Body, Scope, NoElse, Else, Recovers, Alternates, NoAlternate, Alternate, ProcedureDeclaration, ProcessDeclaration, Tree}
use Rattle.rb_meaning.specs.Environment.{frame_of, frame_words, natural}
use Rattle.rb_meaning.specs.Step.{commands_of}
use Rattle.rb_scope.specs.Frames.{Frames, in_acceptance, in_body, in_limit, pushed}
use Rattle.rb_scope.specs.InFrames.{AlternatesInFrames, BodyInFrames, CommandInFrames, CommandsInFrames, ExpressionInFrames, IsScalar, LinksInFrames, PrintedInFrames, ProcedureInFrames, ProcessInFrames, ReferenceInFrames}
use Rattle.rb_scope.specs.Slots.{AreSlots}
use Rattle.rb_scope.specs.declared.slot.Slot.{Slot}
use Rattle.rb_code.specs.Instructions.Plain.{Part, Procedure}
use Rattle.rb_code.specs.Agreement.Slots.{channel_in, counter_in, elements_in, procedure_in, quantified_in, spot_in}
use Rattle.rb_code.specs.Agreement.Template.{Template, One, ◌⨾◌, Listed}
use Rattle.rb_code.specs.Agreement.Forms.{AlternatesCode, AlternatesForm, ArgumentsCode, BlockForm, BodyCode, BodyForm, BranchesForm, Called, CommandCode, CommandForm, CommandsCode, CommandsForm, DropCode, ExpressionCode, FrameCode, IfElseForm, IfForm, ItemsCode, LinksCode, OperatorCode, OthersCode, OthersForm, Owner, PrintedCode, ProceduresCode, QuantifiedCode, ReceiptForm, ReceiveElseForm, ReceiveForm, RecoveryForm, ScalarCode, StoreCode, SubscriptCode, TellsOf, WhileForm, procedure_words}
use Rattle.rb_code.specs.Agreement.StandsFor.{ProcessCode, ProcessesCode, TellsOfProcess}
use Rattle.rb_code.specs.declared.instr.Instr.TheVariants as instr
use Rattle.rb_code.proofs.Alike.OneSlot.{array_slot_same, channel_slot_same, procedure_slot_same, scalar_slot_same, value_slot_same}

module _ (slots others : List Slot) where
  mutual
    unfolding ExpressionCode SubscriptCode LinksCode

    expression_same : (x : Expression) (frames : Frames) → ExpressionInFrames slots frames x → ExpressionInFrames others frames x
        → ExpressionCode slots x ≡ ExpressionCode others x
    expression_same (Literal number) frames is it = refl
    expression_same (Variable (Refer name Scalar)) frames is it =
        ap (λ o. ScalarCode (counter_in o) (spot_in o)) (value_slot_same slots others frames name is it)
    expression_same (Variable (Refer name (Element index))) frames is it =
        ap (λ o. ExpressionCode slots index ⨾ One (instr.Bound (elements_in o)) ⨾ One (instr.LoadAt (spot_in o)))
        (array_slot_same slots others frames name is.0 it.0)
        ∙ ap (λ (P : Template). P ⨾ One (instr.Bound (elements_in (slice_get others name.id))) ⨾ One
        (instr.LoadAt (spot_in (slice_get others name.id))))
        (expression_same index frames is.1 it.1)
    expression_same (Former place (Refer name Scalar)) frames is it =
        ap (λ o. One (instr.Prior (spot_in o))) (scalar_slot_same slots others frames name is.1 it.1)
    expression_same (Former place (Refer name (Element index))) frames is it =
        ap (λ o. ExpressionCode slots index ⨾ One (instr.Bound (elements_in o)) ⨾ One (instr.PriorAt (spot_in o)))
        (array_slot_same slots others frames name is.1.0 it.1.0)
        ∙ ap (λ (P : Template). P ⨾ One (instr.Bound (elements_in (slice_get others name.id))) ⨾ One
        (instr.PriorAt (spot_in (slice_get others name.id))))
        (expression_same index frames is.1.1 it.1.1)
    expression_same (Minus operand) frames is it = ap (λ (P : Template). P ⨾ One instr.Neg) (expression_same operand frames is it)
    expression_same (Negation operand) frames is it = ap (λ (P : Template). P ⨾ One instr.Not) (expression_same operand frames is it)
    expression_same (Chained first links) frames is it =
        ap (λ (P : Template). P ⨾ LinksCode slots links) (expression_same first frames is.0 it.0)
        ∙ ap (λ (P : Template). ExpressionCode others first ⨾ P) (links_same links frames is.1 it.1)
    expression_same (Quantification kind place name low high body) frames is it =
        ap
        (λ o. QuantifiedCode kind (quantified_in o) (ExpressionCode slots low) (ExpressionCode slots high) (ExpressionCode slots body))
        (is.1 ∙ sym it.1)
        ∙ ap (λ (P : Template). QuantifiedCode kind (quantified_in (slice_get others name.id)) P (ExpressionCode slots high)
        (ExpressionCode slots body))
        (expression_same low (in_limit frames) is.2 it.2)
        ∙ ap (λ (P : Template). QuantifiedCode kind (quantified_in (slice_get others name.id)) (ExpressionCode others low) P
        (ExpressionCode slots body))
        (expression_same high (in_limit frames) is.3 it.3)
        ∙ ap (λ (P : Template). QuantifiedCode kind (quantified_in (slice_get others name.id)) (ExpressionCode others low)
        (ExpressionCode others high) P)
        (expression_same body (in_body name frames) is.4 it.4)

    links_same : (links : Links) (frames : Frames) → LinksInFrames slots frames links → LinksInFrames others frames links
        → LinksCode slots links ≡ LinksCode others links
    links_same NoLink frames is it = refl
    links_same (Linked op right links) frames is it =
        ap (λ (P : Template). OperatorCode op P ⨾ LinksCode slots links) (expression_same right frames is.0 it.0)
        ∙ ap (λ (P : Template). OperatorCode op (ExpressionCode others right) ⨾ P) (links_same links frames is.1 it.1)

  store_same : (to : Reference) (value : Template) (frames : Frames) → ReferenceInFrames slots frames (IsScalar slots frames) to
      → ReferenceInFrames others frames (IsScalar others frames) to → StoreCode slots to value ≡ StoreCode others to value
  store_same (Refer name Scalar) value frames is it =
      ap (λ o. value ⨾ One (instr.Store (spot_in o))) (scalar_slot_same slots others frames name is it)
  store_same (Refer name (Element index)) value frames is it =
      ap (λ o. ExpressionCode slots index ⨾ One (instr.Bound (elements_in o)) ⨾ value ⨾ One (instr.StoreAt (spot_in o)))
      (array_slot_same slots others frames name is.0 it.0)
      ∙ ap (λ (P : Template). P ⨾ One (instr.Bound (elements_in (slice_get others name.id))) ⨾ value ⨾ One
      (instr.StoreAt (spot_in (slice_get others name.id))))
      (expression_same index frames is.1 it.1)

  printed_same : (printed : Printed) (frames : Frames) → PrintedInFrames slots frames printed → PrintedInFrames others frames printed
      → PrintedCode slots printed ≡ PrintedCode others printed
  printed_same (Words text) frames is it = refl
  printed_same (Amount value) frames is it = ap (λ (P : Template). P ⨾ One instr.Item) (expression_same value frames is it)

  items_same : (items : List PrintItem) (frames : Frames) → AllByRecursion (λ item. PrintedInFrames slots frames item.what) items
      → AllByRecursion (λ item. PrintedInFrames others frames item.what) items → ItemsCode slots items ≡ ItemsCode others items
  items_same [] frames is it = refl
  items_same (item ∷ items) frames is it =
      ap (λ (P : Template). P ⨾ ItemsCode slots items) (printed_same item.what frames is.0 it.0)
      ∙ ap (λ (P : Template). PrintedCode others item.what ⨾ P) (items_same items frames is.1 it.1)

  arguments_same : (arguments : List Expression) (frames : Frames) → AllByRecursion (ExpressionInFrames slots frames) arguments
      → AllByRecursion (ExpressionInFrames others frames) arguments → ArgumentsCode slots arguments ≡ ArgumentsCode others arguments
  arguments_same [] frames is it = refl
  arguments_same (argument ∷ arguments) frames is it =
      ap (λ (P : Template). P ⨾ ArgumentsCode slots arguments) (expression_same argument frames is.0 it.0)
      ∙ ap (λ (P : Template). ExpressionCode others argument ⨾ P) (arguments_same arguments frames is.1 it.1)

  module _ (tree : Tree) (are : AreSlots tree slots) (p : ℕ) (owner : Owner) where
    mutual
      unfolding CommandForm CommandsForm BodyForm ReceiptForm BranchesForm BlockForm AlternatesForm OthersForm

      command_same : (command : Command) (frames : Frames) → CommandInFrames tree slots p frames command
          → CommandInFrames tree others p frames command
          → CommandCode tree slots owner command ≡ CommandCode tree others owner command
      command_same (Assignment to value) frames is it =
          ap (λ (P : Template). One instr.Turn ⨾ StoreCode slots to P) (expression_same value frames is.1 it.1)
          ∙ ap (λ (P : Template). One instr.Turn ⨾ P) (store_same to (ExpressionCode others value) frames is.0 it.0)
      command_same (Printing items) frames is it =
          ap (λ (P : Template). One instr.Turn ⨾ P ⨾ One instr.Print)
          (items_same items frames (recursion_from_All (λ item. PrintedInFrames slots frames item.what) items is)
          (recursion_from_All (λ item. PrintedInFrames others frames item.what) items it))
      command_same (Sending channel value) frames is it =
          ap (λ o. One instr.Turn ⨾ One (instr.Room (channel_in o)) ⨾ ExpressionCode slots value ⨾ One (instr.Put (channel_in o)))
          (channel_slot_same slots others tree channel is.0 it.0)
          ∙ ap (λ (P : Template). One instr.Turn ⨾ One (instr.Room (channel_in (slice_get others channel.id))) ⨾ P
          ⨾ One (instr.Put (channel_in (slice_get others channel.id)))) (expression_same value frames is.1 it.1)
      command_same (Receiving channel to NoElse) frames is it =
          ap (λ o. ReceiveForm (One instr.Turn) (channel_in o) (StoreCode slots to (One (instr.Take (channel_in o)))))
          (channel_slot_same slots others tree channel is.0 it.0)
          ∙ ap (λ (P : Template). ReceiveForm (One instr.Turn) (channel_in (slice_get others channel.id)) P)
          (store_same to (One (instr.Take (channel_in (slice_get others channel.id)))) frames is.1 it.1)
      command_same (Receiving channel to (Else other)) frames is it =
          ap (λ o. ReceiveElseForm (One instr.Turn) (channel_in o) (StoreCode slots to (One (instr.Take (channel_in o)))) (BodyCode tree slots owner other))
          (channel_slot_same slots others tree channel is.0 it.0)
          ∙ ap (λ (P : Template). ReceiveElseForm (One instr.Turn) (channel_in (slice_get others channel.id)) P (BodyCode tree slots owner other))
          (store_same to (One (instr.Take (channel_in (slice_get others channel.id)))) frames is.1 it.1)
          ∙ ap (λ (P : Template). ReceiveElseForm (One instr.Turn) (channel_in (slice_get others channel.id))
          (StoreCode others to (One (instr.Take (channel_in (slice_get others channel.id))))) P) (body_same other frames is.2 it.2)
      command_same (Conditional test body NoElse) frames is it =
          ap (λ (P : Template). IfForm (One instr.Turn) P (BodyCode tree slots owner body)) (expression_same test frames is.0 it.0)
          ∙ ap (λ (P : Template). IfForm (One instr.Turn) (ExpressionCode others test) P) (body_same body frames is.1 it.1)
      command_same (Conditional test body (Else other)) frames is it =
          ap (λ (P : Template). IfElseForm (One instr.Turn) P (BodyCode tree slots owner body) (BodyCode tree slots owner other))
          (expression_same test frames is.0 it.0)
          ∙ ap (λ (P : Template). IfElseForm (One instr.Turn) (ExpressionCode others test) P (BodyCode tree slots owner other)) (body_same body frames is.1 it.1)
          ∙ ap (λ (P : Template). IfElseForm (One instr.Turn) (ExpressionCode others test) (BodyCode tree others owner body) P) (body_same other frames is.2 it.2)
      command_same (Loop test body) frames is it =
          ap (λ (P : Template). WhileForm (One instr.Turn) P (BodyCode tree slots owner body)) (expression_same test frames is.0 it.0)
          ∙ ap (λ (P : Template). WhileForm (One instr.Turn) (ExpressionCode others test) P) (body_same body frames is.1 it.1)
      command_same (Invocation procedure arguments) frames is it =
          ap (λ o. One instr.Turn ⨾ ArgumentsCode slots arguments
          ⨾ Called owner.number (procedure_in o) (length arguments) (procedure_words owner.procedures (procedure_in o)))
          (procedure_slot_same slots others tree p (length arguments) procedure are is.0 it.0)
          ∙ ap (λ (P : Template). One instr.Turn ⨾ P ⨾ Called owner.number (procedure_in (slice_get others procedure.id)) (length arguments)
          (procedure_words owner.procedures (procedure_in (slice_get others procedure.id))))
          (arguments_same arguments frames (recursion_from_All (ExpressionInFrames slots frames) arguments is.1)
          (recursion_from_All (ExpressionInFrames others frames) arguments it.1))
      command_same Failure frames is it = refl
      command_same (Recovering (Recovers number conversation place test bound alternates)) frames is it =
          let Tells = TellsOf tree conversation place.line (natural bound.value) in
          ap (λ (P : Template). RecoveryForm (One instr.Turn) number Tells (AlternatesCode tree slots owner alternates) P)
          (expression_same test (in_acceptance frames) is.1 it.1)
          ∙ ap (λ (P : List ℕ → ℕ → Template). RecoveryForm (One instr.Turn) number Tells P (ExpressionCode others test)) (alternates_same alternates frames is.2 it.2)

      commands_same : (commands : Commands) (frames : Frames) → CommandsInFrames tree slots p frames commands
          → CommandsInFrames tree others p frames commands
          → CommandsCode tree slots owner commands ≡ CommandsCode tree others owner commands
      commands_same NoCommand frames is it = refl
      commands_same (Then first rest) frames is it =
          ap (λ (P : Template). P ⨾ CommandsCode tree slots owner rest) (command_same first frames is.0 it.0)
          ∙ ap (λ (P : Template). CommandCode tree others owner first ⨾ P) (commands_same rest frames is.1 it.1)

      body_same : (body : Body) (frames : Frames) → BodyInFrames tree slots p frames body → BodyInFrames tree others p frames body
          → BodyCode tree slots owner body ≡ BodyCode tree others owner body
      body_same (Scope variables commands) frames is it =
          ap (λ (P : Template). FrameCode (frame_words (frame_of variables)) ⨾ P ⨾ DropCode (frame_words (frame_of variables)))
          (commands_same commands (pushed variables frames) is it)

      alternates_same : (alternates : Alternates) (frames : Frames) → AlternatesInFrames tree slots p frames alternates
          → AlternatesInFrames tree others p frames alternates
          → AlternatesCode tree slots owner alternates ≡ AlternatesCode tree others owner alternates
      alternates_same NoAlternate frames is it = refl
      alternates_same (Alternate body rest) frames is it =
          ap (λ (P : Template). λ (addresses : List ℕ) (test : ℕ). Listed addresses (λ more. P ⨾ OthersCode tree slots owner rest more test))
          (body_same body frames is.0 it.0)
          ∙ ap (λ (P : List ℕ → ℕ → Template). λ (addresses : List ℕ) (test : ℕ). Listed addresses
          (λ more. BodyCode tree others owner body ⨾ P more test))
          (others_same rest frames is.1 it.1)

      others_same : (alternates : Alternates) (frames : Frames) → AlternatesInFrames tree slots p frames alternates
          → AlternatesInFrames tree others p frames alternates → OthersCode tree slots owner alternates ≡ OthersCode tree others owner alternates
      others_same NoAlternate frames is it = refl
      others_same (Alternate body rest) frames is it =
          ap (λ (P : Template). λ (addresses : List ℕ) (test : ℕ). One (instr.Jump test) ⨾ Listed addresses
          (λ more. P ⨾ OthersCode tree slots owner rest more test))
          (body_same body frames is.0 it.0)
          ∙ ap (λ (P : List ℕ → ℕ → Template). λ (addresses : List ℕ) (test : ℕ). One (instr.Jump test)
          ⨾ Listed addresses (λ more. BodyCode tree others owner body ⨾ P more test)) (others_same rest frames is.1 it.1)

    procedures_same : (process : ProcessDeclaration) (procedures : List ProcedureDeclaration)
        → AllByRecursion (ProcedureInFrames tree slots p process) procedures → AllByRecursion (ProcedureInFrames tree others p process) procedures
        → ProceduresCode tree slots owner procedures ≡ ProceduresCode tree others owner procedures
    procedures_same process [] is it = refl
    procedures_same process (procedure ∷ rest) is it =
        ap (λ (P : Template). λ (entries : List Procedure) c a b. (more : List Procedure)
        × (entries ≡ record { name = procedure.name.text; start = a } ∷ more)
        × (P ⨾ One instr.Return ⨾ ProceduresCode tree slots owner rest more) c a b)
        (commands_same (commands_of procedure.body) _ is.0 it.0)
        ∙ ap (λ (P : List Procedure → Template). λ (entries : List Procedure) c a b. (more : List Procedure)
        × (entries ≡ record { name = procedure.name.text; start = a } ∷ more)
        × (CommandsCode tree others owner (commands_of procedure.body) ⨾ One instr.Return ⨾ P more) c a b)
        (procedures_same process rest is.1 it.1)

  module _ (tree : Tree) (are : AreSlots tree slots) where
    process_same : (p : ℕ) (process : ProcessDeclaration) → ProcessInFrames tree slots p process → ProcessInFrames tree others p process
        → ProcessCode tree slots p process ≡ ProcessCode tree others p process
    process_same p process is it =
        let owner : Owner = record { number = p; procedures = process.procedures } in
        ap (λ (P : Template). λ (part : Part) c a b. TellsOfProcess tree p process a part
        × (P ⨾ One instr.Done ⨾ ProceduresCode tree slots owner process.procedures part.procedures) c a b)
        (commands_same tree are p owner process.commands _ is.commands it.commands)
        ∙ ap (λ (P : List Procedure → Template). λ (part : Part) c a b. TellsOfProcess tree p process a part
        × (CommandsCode tree others owner process.commands ⨾ One instr.Done ⨾ P part.procedures) c a b)
        (procedures_same tree are p owner process process.procedures
        (recursion_from_All (ProcedureInFrames tree slots p process) process.procedures is.procedures)
        (recursion_from_All (ProcedureInFrames tree others p process) process.procedures it.procedures))

    pub processes_same : (p : ℕ) (processes : List ProcessDeclaration)
        → ((i : ℕ) (process : ProcessDeclaration) → slice_get processes i ≡ Some process → ProcessInFrames tree slots (p + i) process)
        → ((i : ℕ) (process : ProcessDeclaration) → slice_get processes i ≡ Some process → ProcessInFrames tree others (p + i) process)
        → ProcessesCode tree slots p processes ≡ ProcessesCode tree others p processes
    processes_same p [] is it = refl
    processes_same p (process ∷ rest) is it =
        let here : p + 0 ≡ p = omega arith in
        let on : (i : ℕ) → p + suc i ≡ p + 1 + i = λ i. omega arith in
        ap (λ (P : Part → Template). λ (parts : List Part) c a b. (part : Part) × (more : List Part) × (parts ≡ part ∷ more)
        × (P part ⨾ ProcessesCode tree slots (p + 1) rest more) c a b)
        (process_same p process (subst (λ k. ProcessInFrames tree slots k process) here (is 0 process refl))
        (subst (λ k. ProcessInFrames tree others k process) here (it 0 process refl)))
        ∙ ap (λ (P : List Part → Template). λ (parts : List Part) c a b. (part : Part) × (more : List Part) × (parts ≡ part ∷ more)
        × (ProcessCode tree others p process part ⨾ P more) c a b)
        (processes_same (p + 1) rest
        (λ i one there. subst (λ k. ProcessInFrames tree slots k one) (on i) (is (suc i) one there))
        (λ i one there. subst (λ k. ProcessInFrames tree others k one) (on i) (it (suc i) one there)))
