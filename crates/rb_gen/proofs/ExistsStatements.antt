-- The code of each statement can be added to any code so far.
use Rattle.std.proofs.Common.{◌≡◌, ℕ, zero, suc, List, [], ◌∷◌, ◌++◌, length, map, refl, sym, ap, ◌∙◌, subst}
use Rattle.std.specs.Prelude.{get_or}
use Rattle.std.specs.Option.{unwrap_or}
use Rattle.std.proofs.lemmas.Option.{slice_get-map, unwrap_or-slice_get}
use Rattle.rb_syntax.specs.Tree.{Identifier, Expression, Reference, Refer, Scalar, Element, Printed, Words, Amount, PrintItem, Command, Assignment, Printing, Sending, Receiving, Conditional, Loop, Invocation, Failure, Recovering, Commands, NoCommand, Then, Body, Scope, NoElse, Else, RecoveryBlock, Recovers, Alternates, NoAlternate, Alternate, ProcedureDeclaration}
use Rattle.rb_meaning.specs.Environment.{frame_of, frame_words, natural}
use Rattle.rb_scope.specs.declared.slot.Slot.{Slot}
use Rattle.rb_code.specs.declared.instr.Instr.TheVariants.{Turn, Bound, Store, StoreAt, Jump, JumpZero, Frame, Drop, Text, Item, Print, Room, Put, There, Take, Call, Fail, Enter, Start, Test, Absent}
use Rattle.rb_code.specs.Instructions.Plain.{Block}
use Rattle.rb_code.specs.Agreement.Slots.{channel_of, elements_of, procedure_of, spot_of}
use Rattle.rb_code.specs.Agreement.Template.{Template, One, Quoted}
use Rattle.rb_code.specs.Agreement.Forms.{ArgumentsCode, CallCode, Called, DropCode, FrameCode, ItemsCode, PrintedCode, StoreCode, procedure_words}
use Rattle.rb_draft.specs.Output.{Output, added, linked, patched, settled}
use Rattle.rb_draft.specs.Emits.{Emits}
use Rattle.rb_draft.specs.Lookups.{joined_of}
use Rattle.rb_gen.specs.Writes.{Setting, WritesAlternates, WritesBody, WritesCommand, WritesCommands, WritesElse, WritesOthers, WritesRecovery, room_of}
use Rattle.rb_draft.proofs.Emits.{as_if, both, one, quoted}
use Rattle.rb_gen.proofs.Exists.{Makes, add, expression_made, makes_nothing, makes_one, makes_then}
use Rattle.rb_draft.proofs.Growing.{same_length}
use Rattle.rb_gen.proofs.RecoveryRows.{first_alternate, further, no_alternate, no_other, recovered}
use Rattle.rb_gen.proofs.Rows.{then_adds}
use Rattle.rb_gen.proofs.StatementRows.{assigned, body_row, called, conditional, conditional_else, else_row, failed, looped, no_command, one_command, printing, received, received_else, sending}

turn_made : Makes (One Turn)
turn_made = makes_one Turn refl (λ j w. refl)

frame_made : (n : ℕ) → Makes (FrameCode n)
frame_made zero = makes_nothing
frame_made (suc n) = makes_one (Frame (suc n)) refl (λ j w. refl)

drop_made : (n : ℕ) → Makes (DropCode n)
drop_made zero = makes_nothing
drop_made (suc n) = makes_one (Drop (suc n)) refl (λ j w. refl)

-- a text
quoted_made : (text : List ℕ) → Makes (Quoted text)
quoted_made text c =
    let d : Output = record { instrs = (added (Text (length c.texts)) c).instrs; texts = c.texts ++ (text ∷ []); blocks = c.blocks } in
    (d, quoted text (length c.texts) c d refl refl refl refl)

-- the words of a procedure, by its number
words_known : (procedures : List ProcedureDeclaration) (number : ℕ) → get_or (map room_of procedures) number 0 ≡ procedure_words procedures number
words_known procedures number =
    sym (unwrap_or-slice_get (map room_of procedures) number 0) ∙ ap (λ o. unwrap_or o 0) (slice_get-map room_of procedures number)

module _ (slots : List Slot) where
  store_made : (to : Reference) {P : Template} → Makes P → Makes (StoreCode slots to P)
  store_made (Refer name Scalar) p = makes_then p (makes_one (Store (spot_of slots name.id)) refl (λ j w. refl))
  store_made (Refer name (Element index)) p =
      makes_then (expression_made slots index) (makes_then (makes_one (Bound (elements_of slots name.id)) refl (λ j w. refl))
      (makes_then p (makes_one (StoreAt (spot_of slots name.id)) refl (λ j w. refl))))

  printed_made : (x : Printed) → Makes (PrintedCode slots x)
  printed_made (Words text) = quoted_made text
  printed_made (Amount value) = makes_then (expression_made slots value) (makes_one Item refl (λ j w. refl))

  items_made : (items : List PrintItem) → Makes (ItemsCode slots items)
  items_made [] = makes_nothing
  items_made (item ∷ items) = makes_then (printed_made item.what) (items_made items)

  arguments_made : (arguments : List Expression) → Makes (ArgumentsCode slots arguments)
  arguments_made [] = makes_nothing
  arguments_made (argument ∷ arguments) = makes_then (expression_made slots argument) (arguments_made arguments)

  module _ (words : List ℕ) where
    call_made : (name : Identifier) (arguments : List Expression) (c : Output)
        → (d : Output) × ((s : Setting words) (n : ℕ) → Emits (linked s.owner.number) n n (CallCode slots s.owner name arguments) c d)
    call_made name arguments c =
        let before = makes_then turn_made (arguments_made arguments) c in
        let number = procedure_of slots name.id in
        let d = added (Call number (length arguments) (get_or words number 0)) before.0 in (
          d,
          λ s n.
              let sized : get_or words number 0 ≡ procedure_words s.owner.procedures number =
              ap (λ ws. get_or ws number 0) s.sized ∙ words_known s.owner.procedures number in
              let call : Emits (linked s.owner.number) n n
              (Called s.owner.number number (length arguments) (procedure_words s.owner.procedures number)) before.0 d =
              subst (λ (k : ℕ). Emits (linked s.owner.number) n n (Called s.owner.number number (length arguments) k) before.0 d) sized
              (one (Call number (length arguments) (get_or words number 0)) before.0 d refl refl refl refl s.owner.number n) in
              as_if (λ w a b (m, (k, first, rest), last). (k, first, (m, rest, last))) (both (before.1 s.owner.number n) call),
        )

    -- an `else`, with its address, behind whose jump its block was added
    else_of : (other : Body) (c : Output) → ((d : Output) × WritesBody slots words other (added (Jump 0) c) d)
        → (address : ℕ) × (d : Output) × WritesElse slots words address other c d
    else_of other c b = (
      length (added (Jump 0) c).instrs,
      patched b.0 (length c.instrs) (Jump (length b.0.instrs)),
      else_row slots words other (refl, refl) refl b.1 refl refl,
    )

    mutual
      pub command_made : (x : Command) (c : Output) → (d : Output) × WritesCommand slots words x c d
      command_made (Assignment to value) c =
          let m = makes_then turn_made (store_made to (expression_made slots value)) c in (m.0, assigned slots words refl m.1)
      command_made (Printing items) c =
          let m = makes_then turn_made (makes_then (items_made items) (makes_one Print refl (λ j w. refl))) c in (m.0, printing slots words refl m.1)
      command_made (Sending channel value) c =
          let number = channel_of slots channel.id in
          let m = makes_then turn_made (makes_then (makes_one (Room number) refl (λ j w. refl))
          (makes_then (expression_made slots value) (makes_one (Put number) refl (λ j w. refl)))) c in
          (m.0, sending slots words refl m.1)
      command_made (Receiving channel to NoElse) c =
          let number = channel_of slots channel.id in
          let there = added (There number) (added Turn c) in
          let m = store_made to (makes_one (Take number) refl (λ j w. refl)) there in
          (m.0, received slots words refl refl (add Turn refl (λ j w. refl) c) (add (There number) refl (λ j w. refl) (added Turn c)) m.1)
      command_made (Receiving channel to (Else other)) c =
          let number = channel_of slots channel.id in
          let turn = added Turn c in
          let m = store_made to (makes_one (Take number) refl (λ j w. refl)) (added (Jump 0) turn) in
          let e = else_of other m.0 (body_made other (added (Jump 0) m.0)) in (
            patched e.1 (length turn.instrs) (Absent number e.0),
            received_else slots words refl refl (add Turn refl (λ j w. refl) c) (refl, refl) m.1 e.2 refl,
          )
      command_made (Conditional test body NoElse) c =
          let m = makes_then turn_made (expression_made slots test) c in
          let b = body_made body (added (Jump 0) m.0) in
          (patched b.0 (length m.0.instrs) (JumpZero (length b.0.instrs)), conditional slots words refl (m.0, m.1, (refl, refl)) b.1 refl refl)
      command_made (Conditional test body (Else other)) c =
          let m = makes_then turn_made (expression_made slots test) c in
          let b = body_made body (added (Jump 0) m.0) in
          let e = else_of other b.0 (body_made other (added (Jump 0) b.0)) in
          (patched e.1 (length m.0.instrs) (JumpZero e.0), conditional_else slots words refl (m.0, m.1, (refl, refl)) b.1 e.2 refl)
      command_made (Loop test body) c =
          let m = makes_then turn_made (expression_made slots test) c in
          let b = body_made body (added (Jump 0) m.0) in
          let back = added (Jump (length c.instrs)) b.0 in (
            patched back (length m.0.instrs) (JumpZero (length back.instrs)),
            looped slots words refl refl (m.0, m.1, (refl, refl)) b.1 (add (Jump (length c.instrs)) refl (λ j w. refl) b.0) refl refl,
          )
      command_made (Invocation name arguments) c = let m = call_made name arguments c in (m.0, called slots words refl m.1)
      command_made Failure c =
          (added Fail (added Turn c), failed slots words refl (then_adds (add Turn refl (λ j w. refl) c) (add Fail refl (λ j w. refl) (added Turn c))))
      command_made (Recovering block) c = recovery_made block c

      pub commands_made : (x : Commands) (c : Output) → (d : Output) × WritesCommands slots words x c d
      commands_made NoCommand c = (c, no_command slots words c refl)
      commands_made (Then first rest) c =
          let m = command_made first c in
          let k = commands_made rest m.0 in
          (k.0, one_command slots words refl m.1 k.1)

      pub body_made : (x : Body) (c : Output) → (d : Output) × WritesBody slots words x c d
      body_made (Scope variables commands) c =
          let size = frame_words (frame_of variables) in
          let f = frame_made size c in
          let k = commands_made commands f.0 in
          let d = drop_made size k.0 in
          (d.0, body_row slots words variables commands refl refl f.1 k.1 d.1)

      recovery_made : (x : RecoveryBlock) (c : Output) → (d : Output) × WritesRecovery slots words x c d
      recovery_made (Recovers number conversation place test bound alternates) c =
          let enter = added (Enter number) (added Turn c) in
          let start = added (Start number) (added Turn enter) in
          let a = alternates_made alternates start in
          let inside = a.2 a.1 in
          let turn = added Turn inside.0 in
          let t = expression_made slots test turn in
          let entry : Block = record {
            line = place.line;
            conversation = joined_of slots conversation;
            bound = natural bound.value;
            restart = length enter.instrs;
            test = a.1;
            alternates = a.0;
          } in (
            settled (added (Test number) t.0) number entry,
            recovered slots words number conversation place test bound alternates entry refl refl refl refl (
              added Turn c,
              enter,
              added Turn enter,
              add Turn refl (λ j w. refl) c,
              add (Enter number) refl (λ j w. refl) (added Turn c),
              refl,
              add Turn refl (λ j w. refl) enter,
              add (Start number) refl (λ j w. refl) (added Turn enter),
            ) inside.1 (sym inside.2)
                (then_adds (add Turn refl (λ j w. refl) inside.0) (then_adds t.1 (add (Test number) refl (λ j w. refl) t.0))) refl,
          )

      -- Alternates, at these addresses, before an acceptance test at any address; and where they end.
      alternates_made : (x : Alternates) (c : Output)
          → (addresses : List ℕ) × (end : ℕ)
          × ((t : ℕ) → (d : Output) × WritesAlternates slots words x addresses t c d × (length d.instrs ≡ end))
      alternates_made NoAlternate c = ([], length c.instrs, λ t. (c, no_alternate slots words t [] c refl refl, refl))
      alternates_made (Alternate body others) c =
          let b = body_made body c in
          let o = others_made others b.0 in
          (length c.instrs ∷ o.0, o.1, λ t. let d = o.2 t in (d.0, first_alternate slots words t (length c.instrs) o.0 refl refl b.1 d.1, d.2))

      others_made : (x : Alternates) (c : Output)
          → (addresses : List ℕ) × (end : ℕ) × ((t : ℕ) → (d : Output) × WritesOthers slots words x addresses t c d × (length d.instrs ≡ end))
      others_made NoAlternate c = ([], length c.instrs, λ t. (c, no_other slots words t c refl, refl))
      others_made (Alternate body others) c =
          let jump = added (Jump 0) c in
          let b = body_made body jump in
          let o = others_made others b.0 in (
            length jump.instrs ∷ o.0,
            o.1,
            λ t.
                let d = o.2 t in (
                  patched d.0 (length c.instrs) (Jump t),
                  further slots words t (length jump.instrs) (length c.instrs) o.0 refl (refl, refl) refl b.1 d.1,
                  same_length d.0.instrs (length c.instrs) (Jump t) ∙ d.2,
                ),
          )
