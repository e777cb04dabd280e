-- The code of each statement, and of all processes, has at its turns the places that are told there.
use Rattle.std.proofs.Common.{◌≡◌, ℕ, ◌+◌, List, [], ◌∷◌, ◌++◌, length, unwrap_or, Option, Some, None, append_assoc, refl, ap, ◌∙◌, subst, arith}
use Rattle.rb_base.specs.declared.place.Place.{Place}
use Rattle.rb_syntax.specs.Tree.{Command, Assignment, Printing, Sending, Receiving, Conditional, Loop, Invocation, Failure, Recovering, Commands, NoCommand, Then, Body, Scope, NoElse, Else, Recovers, Alternates, NoAlternate, Alternate, ProcedureDeclaration, ProcessDeclaration, Tree}
use Rattle.rb_meaning.specs.Environment.{frame_of, frame_words, natural}
use Rattle.rb_meaning.specs.Step.{commands_of}
use Rattle.rb_scope.specs.declared.slot.Slot.{Slot}
use Rattle.rb_code.specs.Instructions.Plain.{Block, Code, Part, Procedure}
use Rattle.rb_code.specs.Agreement.Slots.{channel_of, procedure_of}
use Rattle.rb_code.specs.Agreement.Template.{Template, One, ◌⨾◌}
use Rattle.rb_code.specs.Agreement.Places.{alternates_turns, body_turns, command_place, command_turns, commands_turns, place_number, procedures_turns, processes_turns}
use Rattle.rb_code.specs.Agreement.Forms.{AlternatesCode, BodyCode, CommandCode, CommandForm, CommandsCode, IfElseForm, IfForm, OthersCode, Owner, ProceduresCode, ReceiveElseForm, ReceiveForm, RecoveryForm, TellsOf, WhileForm, procedure_words}
use Rattle.rb_code.specs.Agreement.StandsFor.{ProcessCode, ProcessesCode, ProcessesForm, StandsFor}
use Rattle.rb_code.specs.declared.instr.Instr.TheVariants as instr
use Rattle.rb_code.proofs.Agreeing.Placed.{AlternatesPlaced, BodyPlaced, CommandPlaced, CommandsPlaced, OthersPlaced, ProceduresPlaced, ProcessPlaced, TurnAt}
use Rattle.rb_code.proofs.Placing.QuietCode.{arguments_quiet, called_quiet, drop_quiet, expression_quiet, frame_quiet, items_quiet, store_quiet}
use Rattle.rb_code.proofs.Placing.TurnsCounted.{Gives, Quiet, begun, gives_before, gives_behind, gives_block, gives_both, gives_label, gives_listed, gives_none, gives_turn, quiet_at, quiet_empty, quiet_one, quiet_only, quiet_then}

module _ (tree : Tree) (c : Code) (slots : List Slot) where
  -- forms of statements, of what their parts give
  if_gives : (place : Option Place) (ts : List (Option Place)) {test body inside : Template} → Quiet tree c test → Gives tree c ts body inside
      → Gives tree c (place ∷ (ts ++ [])) (IfForm (One instr.Turn) test body) (IfForm (TurnAt tree place) test inside)
  if_gives place ts f g =
      gives_label tree c (λ end.
      gives_turn tree c place
      (gives_behind tree c f
      (gives_behind tree c (quiet_one tree c (instr.JumpZero end) refl)
      (gives_both tree c ts [] g (gives_none tree c (quiet_at tree c end))))))

  if_else_gives : (place : Option Place) (ts us : List (Option Place)) {test body inside other instead : Template} → Quiet tree c test
      → Gives tree c ts body inside → Gives tree c us other instead
      → Gives tree c (place ∷ (ts ++ us)) (IfElseForm (One instr.Turn) test body other) (IfElseForm (TurnAt tree place) test inside instead)
  if_else_gives place ts us f g h =
      gives_label tree c (λ no. gives_label tree c (λ end.
      gives_turn tree c place
      (gives_behind tree c f
      (gives_behind tree c (quiet_one tree c (instr.JumpZero no) refl)
      (gives_both tree c ts us g
      (gives_behind tree c (quiet_one tree c (instr.Jump end) refl)
      (gives_behind tree c (quiet_at tree c no)
      (gives_before tree c h (quiet_at tree c end)))))))))

  while_gives : (place : Option Place) {ts : List (Option Place)} {test body inside : Template} → Quiet tree c test → Gives tree c ts body inside
      → Gives tree c (place ∷ ts) (WhileForm (One instr.Turn) test body) (WhileForm (TurnAt tree place) test inside)
  while_gives place f g =
      gives_label tree c (λ loop. gives_label tree c (λ end.
      gives_behind tree c (quiet_at tree c loop)
      (gives_turn tree c place
      (gives_behind tree c f
      (gives_behind tree c (quiet_one tree c (instr.JumpZero end) refl)
      (gives_before tree c g
      (quiet_then tree c (quiet_one tree c (instr.Jump loop) refl) (quiet_at tree c end))))))))

  receive_gives : (place : Option Place) (channel : ℕ) {taken : Template} → Quiet tree c taken
      → Gives tree c (place ∷ []) (ReceiveForm (One instr.Turn) channel taken) (ReceiveForm (TurnAt tree place) channel taken)
  receive_gives place channel f =
      gives_turn tree c place (gives_none tree c (quiet_then tree c (quiet_one tree c (instr.There channel) refl) f))

  receive_else_gives : (place : Option Place) {ts : List (Option Place)} (channel : ℕ) {taken other instead : Template} → Quiet tree c taken
      → Gives tree c ts other instead
      → Gives tree c (place ∷ ts) (ReceiveElseForm (One instr.Turn) channel taken other) (ReceiveElseForm (TurnAt tree place) channel taken instead)
  receive_else_gives place channel f g =
      gives_label tree c (λ none. gives_label tree c (λ end.
      gives_turn tree c place
      (gives_behind tree c (quiet_one tree c (instr.Absent channel none) refl)
      (gives_behind tree c f
      (gives_behind tree c (quiet_one tree c (instr.Jump end) refl)
      (gives_behind tree c (quiet_at tree c none)
      (gives_before tree c g (quiet_at tree c end))))))))

  recovery_gives : (place : Option Place) (ts : List (Option Place)) (number : ℕ) (Tells : Block → Type 0)
      {alternates others : List ℕ → ℕ → Template} {test : Template}
      → ((addresses : List ℕ) (to : ℕ) → Gives tree c ts (alternates addresses to) (others addresses to)) → Quiet tree c test
      → Gives tree c (place ∷ place ∷ (ts ++ place ∷ [])) (RecoveryForm (One instr.Turn) number Tells alternates test)
      (RecoveryForm (TurnAt tree place) number Tells others test)
  recovery_gives place ts number Tells f g =
      gives_block tree c number (λ block.
      gives_behind tree c (quiet_only tree c (Tells block))
      (gives_turn tree c place
      (gives_behind tree c (quiet_one tree c (instr.Enter number) refl)
      (gives_behind tree c (quiet_at tree c block.restart)
      (gives_turn tree c place
      (gives_behind tree c (quiet_one tree c (instr.Start number) refl)
      (gives_both tree c ts (place ∷ []) (f block.alternates block.test)
      (gives_behind tree c (quiet_at tree c block.test)
      (gives_turn tree c place
      (gives_none tree c (quiet_then tree c g (quiet_one tree c (instr.Test number) refl))))))))))))

  module _ (owner : Owner) where
    mutual
      unfolding CommandForm

      pub command_gives : (command : Command)
          → Gives tree c (command_turns command) (CommandCode tree slots owner command) (CommandPlaced tree slots owner command)
      command_gives (Assignment to value) =
          gives_turn tree c (command_place (Assignment to value))
          (gives_none tree c (store_quiet tree c slots to (expression_quiet tree c slots value)))
      command_gives (Printing items) =
          gives_turn tree c (command_place (Printing items))
          (gives_none tree c (quiet_then tree c (items_quiet tree c slots items) (quiet_one tree c instr.Print refl)))
      command_gives (Sending channel value) =
          gives_turn tree c (command_place (Sending channel value))
          (gives_none tree c (quiet_then tree c (quiet_one tree c (instr.Room (channel_of slots channel.id)) refl)
          (quiet_then tree c (expression_quiet tree c slots value) (quiet_one tree c (instr.Put (channel_of slots channel.id)) refl))))
      command_gives (Receiving channel to NoElse) =
          receive_gives (Some channel.place) (channel_of slots channel.id)
          (store_quiet tree c slots to (quiet_one tree c (instr.Take (channel_of slots channel.id)) refl))
      command_gives (Receiving channel to (Else other)) =
          receive_else_gives (Some channel.place) (channel_of slots channel.id)
          (store_quiet tree c slots to (quiet_one tree c (instr.Take (channel_of slots channel.id)) refl)) (body_gives other)
      command_gives (Conditional test body NoElse) =
          if_gives (command_place (Conditional test body NoElse)) (body_turns body) (expression_quiet tree c slots test) (body_gives body)
      command_gives (Conditional test body (Else other)) =
          if_else_gives (command_place (Conditional test body (Else other))) (body_turns body) (body_turns other) (expression_quiet tree c slots test)
          (body_gives body) (body_gives other)
      command_gives (Loop test body) =
          while_gives (command_place (Loop test body)) (expression_quiet tree c slots test) (body_gives body)
      command_gives (Invocation procedure arguments) =
          gives_turn tree c (Some procedure.place)
          (gives_none tree c (quiet_then tree c (arguments_quiet tree c slots arguments)
          (called_quiet tree c owner.number (procedure_of slots procedure.id) (length arguments)
          (procedure_words owner.procedures (procedure_of slots procedure.id)))))
      command_gives Failure = gives_turn tree c None (gives_none tree c (quiet_one tree c instr.Fail refl))
      command_gives (Recovering (Recovers number conversation place test bound alternates)) =
          recovery_gives (Some place) (alternates_turns alternates) number (TellsOf tree conversation place.line (natural bound.value))
          (λ addresses to. alternates_give alternates addresses to) (expression_quiet tree c slots test)

      pub commands_give : (commands : Commands)
          → Gives tree c (commands_turns commands) (CommandsCode tree slots owner commands) (CommandsPlaced tree slots owner commands)
      commands_give NoCommand = gives_none tree c (quiet_empty tree c)
      commands_give (Then first rest) =
          gives_both tree c (command_turns first) (commands_turns rest) (command_gives first) (commands_give rest)

      body_gives : (body : Body) → Gives tree c (body_turns body) (BodyCode tree slots owner body) (BodyPlaced tree slots owner body)
      body_gives (Scope variables commands) =
          gives_behind tree c (frame_quiet tree c (frame_words (frame_of variables)))
          (gives_before tree c (commands_give commands) (drop_quiet tree c (frame_words (frame_of variables))))

      alternates_give : (alternates : Alternates) (addresses : List ℕ) (test : ℕ)
          → Gives tree c (alternates_turns alternates) (AlternatesCode tree slots owner alternates addresses test)
          (AlternatesPlaced tree slots owner alternates addresses test)
      alternates_give NoAlternate addresses test = gives_none tree c (quiet_only tree c (addresses ≡ []))
      alternates_give (Alternate body others) addresses test =
          gives_listed tree c addresses (λ more.
          gives_both tree c (body_turns body) (alternates_turns others) (body_gives body) (others_give others more test))

      others_give : (others : Alternates) (addresses : List ℕ) (test : ℕ)
          → Gives tree c (alternates_turns others) (OthersCode tree slots owner others addresses test) (OthersPlaced tree slots owner others addresses test)
      others_give NoAlternate addresses test = gives_none tree c (quiet_only tree c (addresses ≡ []))
      others_give (Alternate body others) addresses test =
          gives_behind tree c (quiet_one tree c (instr.Jump test) refl)
          (gives_listed tree c addresses (λ more.
          gives_both tree c (body_turns body) (alternates_turns others) (body_gives body) (others_give others more test)))

    -- procedures, and behind each the way back
    statements_give : (body : Body)
        → Gives tree c (body_turns body) (CommandsCode tree slots owner (commands_of body)) (CommandsPlaced tree slots owner (commands_of body))
    statements_give (Scope variables commands) = commands_give commands

    procedure_gives : (procedure : ProcedureDeclaration) (others : List ProcedureDeclaration) (more : List Procedure)
        → Gives tree c (procedures_turns others) (ProceduresCode tree slots owner others more) (ProceduresPlaced tree slots owner others more)
        → Gives tree c (body_turns procedure.body ++ procedures_turns others)
        (CommandsCode tree slots owner (commands_of procedure.body) ⨾ One instr.Return ⨾ ProceduresCode tree slots owner others more)
        (CommandsPlaced tree slots owner (commands_of procedure.body) ⨾ One instr.Return ⨾ ProceduresPlaced tree slots owner others more)
    procedure_gives procedure others more rest =
        gives_both tree c (body_turns procedure.body) (procedures_turns others) (statements_give procedure.body)
        (gives_behind tree c (quiet_one tree c instr.Return refl) rest)

    pub procedures_give : (procedures : List ProcedureDeclaration) (entries : List Procedure)
        → Gives tree c (procedures_turns procedures) (ProceduresCode tree slots owner procedures entries)
        (ProceduresPlaced tree slots owner procedures entries)
    procedures_give [] entries = record { counted = λ a b p. ap (begun c.instrs) p.1 ∙ (omega arith); placed = λ a b p from. p }
    procedures_give (procedure ∷ others) entries = record {
      counted = λ a b (more, is, p). (procedure_gives procedure others more (procedures_give others more)).counted a b p;
      placed = λ a b (more, is, p) from. (more, is, (procedure_gives procedure others more (procedures_give others more)).placed a b p from);
    }

  -- a process: its statements, `done`, and its procedures
  process_gives : (p : ℕ) (process : ProcessDeclaration) (part : Part)
      → Gives tree c (commands_turns process.commands ++ procedures_turns process.procedures) (ProcessCode tree slots p process part)
      (ProcessPlaced tree slots p process part)
  process_gives p process part = record {
    counted = λ a b (tells, code). these.counted a b code;
    placed = λ a b (tells, code) from. (tells, these.placed a b code from);
  }
    where
      these : Gives tree c (commands_turns process.commands ++ procedures_turns process.procedures)
          (CommandsCode tree slots (record { number = p; procedures = process.procedures }) process.commands ⨾ One instr.Done
          ⨾ ProceduresCode tree slots (record { number = p; procedures = process.procedures }) process.procedures part.procedures)
          (CommandsPlaced tree slots (record { number = p; procedures = process.procedures }) process.commands ⨾ One instr.Done
          ⨾ ProceduresPlaced tree slots (record { number = p; procedures = process.procedures }) process.procedures part.procedures)
      these =
          gives_both tree c (commands_turns process.commands) (procedures_turns process.procedures)
          (commands_give (record { number = p; procedures = process.procedures }) process.commands)
          (gives_behind tree c (quiet_one tree c instr.Done refl)
          (procedures_give (record { number = p; procedures = process.procedures }) process.procedures part.procedures))

  processes_give : (p : ℕ) (processes : List ProcessDeclaration) (parts : List Part)
      → Gives tree c (processes_turns processes) (ProcessesCode tree slots p processes parts) (ProcessesForm (TurnAt tree) tree slots p processes parts)
  processes_give p [] parts = record { counted = λ a b p. ap (begun c.instrs) p.1 ∙ (omega arith); placed = λ a b p from. p }
  processes_give p (process ∷ others) parts =
      subst (λ (ts : List (Option Place)). Gives tree c ts (ProcessesCode tree slots p (process ∷ others) parts)
      (ProcessesForm (TurnAt tree) tree slots p (process ∷ others) parts))
      (append_assoc (commands_turns process.commands) (procedures_turns process.procedures) (processes_turns others))
      (record {
        counted = λ a b (part, more, is, code). (these part more (processes_give (p + 1) others more)).counted a b code;
        placed = λ a b (part, more, is, code) from. (
          part,
          more,
          is,
          (these part more (processes_give (p + 1) others more)).placed a b code from,
        );
      })
    where
      these : (part : Part) (more : List Part)
          → Gives tree c (processes_turns others) (ProcessesCode tree slots (p + 1) others more)
          (ProcessesForm (TurnAt tree) tree slots (p + 1) others more)
          → Gives tree c ((commands_turns process.commands ++ procedures_turns process.procedures) ++ processes_turns others)
          (ProcessCode tree slots p process part ⨾ ProcessesCode tree slots (p + 1) others more)
          (ProcessPlaced tree slots p process part ⨾ ProcessesForm (TurnAt tree) tree slots (p + 1) others more)
      these part more rest =
          gives_both tree c (commands_turns process.commands ++ procedures_turns process.procedures) (processes_turns others)
          (process_gives p process part) rest

-- Of code that stands for a tree each turn has the place that is told there.
pub all_placed : (tree : Tree) (slots : List Slot) (c : Code) → StandsFor tree slots c
    → ProcessesForm (TurnAt tree) tree slots 0 tree.processes c.processes c 0 (length c.instrs)
all_placed tree slots c stands =
    (processes_give tree c slots 0 tree.processes c.processes).placed 0 (length c.instrs) stands.instrs_are
    (λ i place e. let here : 0 + i ≡ i = omega arith in
    ap (place_number (processes_turns tree.processes)) here ∙ ap (λ (o : Option (Option Place)). unwrap_or o None) e)
