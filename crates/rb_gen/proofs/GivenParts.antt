-- Resolved and numbered trees give what the code of recovery blocks takes from them.
use Rattle.std.proofs.Common.{◌≡◌, ℕ, suc, ◌+◌, arith, subst, List, [], ◌∷◌, Option, Some, None, refl, ap, ◌∙◌, map}
use Rattle.std.specs.Prelude.{slice_get}
use Rattle.std.specs.List.{All}
use Rattle.std.proofs.lemmas.List.Elements.{All-head, All-tail}
use Rattle.rb_syntax.specs.Tree.{Identifier, Command, Assignment, Printing, Sending, Receiving, Conditional, Loop, Invocation, Failure, Recovering, Commands, NoCommand, Then, Body, Scope, Otherwise, NoElse, Else, RecoveryBlock, Recovers, Alternates, NoAlternate, Alternate, ChannelDeclaration, ProcedureDeclaration, ProcessDeclaration, Tree}
use Rattle.rb_syntax.specs.Numbered.{AlternatesNumbered, BodyNumbered, CommandNumbered, CommandsNumbered, OtherwiseNumbered, ProceduresNumbered, ProcessNumbered, ProcessesNumbered, RecoveryNumbered, blocks_in_body, blocks_in_command, blocks_in_procedures, blocks_in_process}
use Rattle.rb_meaning.specs.Environment.{natural}
use Rattle.rb_meaning.specs.Groups.{conversation_of, ends_of, process_number}
use Rattle.rb_meaning.specs.Step.{commands_of}
use Rattle.rb_world.specs.Kind.{Ends}
use Rattle.rb_scope.specs.Frames.{Frames, main_frames, procedure_frames, pushed}
use Rattle.rb_scope.specs.InFrames.{AlternatesInFrames, BodyInFrames, ChannelInFrames, CommandInFrames, CommandsInFrames, JoinedInFrames, OtherwiseInFrames, ProcedureInFrames, ProcessInFrames, RecoveryInFrames}
use Rattle.rb_scope.specs.declared.slot.Slot.{Slot}
use Rattle.rb_draft.specs.Lookups.{joined_in, joined_of, process_in, process_of}
use Rattle.rb_draft.specs.Channels.{ends_by}
use Rattle.rb_gen.specs.Given.{AlternatesGiven, BodyGiven, CommandGiven, CommandsGiven, OtherwiseGiven, ProceduresGiven, ProcessGiven, ProcessesGiven, RecoveryGiven}

module _ (tree : Tree) (slots : List Slot) where
  joined_given : (conversation : Option Identifier) → JoinedInFrames tree slots conversation
      → joined_of slots conversation ≡ conversation_of tree conversation
  joined_given None h = refl
  joined_given (Some name) h = ap (λ slot. Some (joined_in slot)) h.slot

  mutual
    command_given : (p : ℕ) (frames : Frames) (n : ℕ) (x : Command) → CommandNumbered n x
        → CommandInFrames tree slots p frames x → CommandGiven tree slots n x
    command_given p frames n (Assignment to value) numbered inside = tt
    command_given p frames n (Printing items) numbered inside = tt
    command_given p frames n (Sending channel value) numbered inside = tt
    command_given p frames n (Receiving channel to otherwise) numbered inside = otherwise_given p frames n otherwise numbered inside.2
    command_given p frames n (Conditional test body otherwise) numbered inside =
        (body_given p frames n body numbered.0 inside.1, otherwise_given p frames (n + blocks_in_body body) otherwise numbered.1 inside.2)
    command_given p frames n (Loop test body) numbered inside = body_given p frames n body numbered inside.1
    command_given p frames n (Invocation procedure arguments) numbered inside = tt
    command_given p frames n Failure numbered inside = tt
    command_given p frames n (Recovering block) numbered inside = recovery_given p frames n block numbered inside

    commands_given : (p : ℕ) (frames : Frames) (n : ℕ) (x : Commands) → CommandsNumbered n x
        → CommandsInFrames tree slots p frames x → CommandsGiven tree slots n x
    commands_given p frames n NoCommand numbered inside = tt
    commands_given p frames n (Then first rest) numbered inside =
        (command_given p frames n first numbered.0 inside.0, commands_given p frames (n + blocks_in_command first) rest numbered.1 inside.1)

    body_given : (p : ℕ) (frames : Frames) (n : ℕ) (x : Body) → BodyNumbered n x → BodyInFrames tree slots p frames x → BodyGiven tree slots n x
    body_given p frames n (Scope variables commands) numbered inside = commands_given p (pushed variables frames) n commands numbered inside

    otherwise_given : (p : ℕ) (frames : Frames) (n : ℕ) (x : Otherwise) → OtherwiseNumbered n x
        → OtherwiseInFrames tree slots p frames x → OtherwiseGiven tree slots n x
    otherwise_given p frames n NoElse numbered inside = tt
    otherwise_given p frames n (Else body) numbered inside = body_given p frames n body numbered inside

    recovery_given : (p : ℕ) (frames : Frames) (n : ℕ) (x : RecoveryBlock) → RecoveryNumbered n x
        → RecoveryInFrames tree slots p frames x → RecoveryGiven tree slots n x
    recovery_given p frames n (Recovers number conversation place test bound alternates) numbered inside =
        (numbered.0, joined_given conversation inside.0, alternates_given p frames (n + 1) alternates numbered.1 inside.2)

    alternates_given : (p : ℕ) (frames : Frames) (n : ℕ) (x : Alternates) → AlternatesNumbered n x
        → AlternatesInFrames tree slots p frames x → AlternatesGiven tree slots n x
    alternates_given p frames n NoAlternate numbered inside = tt
    alternates_given p frames n (Alternate body others) numbered inside =
        (body_given p frames n body numbered.0 inside.0, alternates_given p frames (n + blocks_in_body body) others numbered.1 inside.1)

  -- the block of a procedure, whose own frame its call pushes
  inside_given : (p : ℕ) (frames : Frames) (n : ℕ) (x : Body) → BodyNumbered n x
      → CommandsInFrames tree slots p frames (commands_of x) → BodyGiven tree slots n x
  inside_given p frames n (Scope variables commands) numbered inside = commands_given p frames n commands numbered inside

  procedures_given : (p : ℕ) (process : ProcessDeclaration) (n : ℕ) (x : List ProcedureDeclaration) → ProceduresNumbered n x
      → All (ProcedureInFrames tree slots p process) x → ProceduresGiven tree slots n x
  procedures_given p process n [] numbered inside = tt
  procedures_given p process n (procedure ∷ others) numbered inside = (
    inside_given p (procedure_frames process procedure) n procedure.body numbered.0
        (All-head (ProcedureInFrames tree slots p process) procedure others inside),
    procedures_given p process (n + blocks_in_body procedure.body) others numbered.1
        (All-tail (ProcedureInFrames tree slots p process) procedure others inside),
  )

  process_given : (p n : ℕ) (process : ProcessDeclaration) → ProcessNumbered n process
      → ProcessInFrames tree slots p process → ProcessGiven tree slots n process
  process_given p n process numbered inside = (
    procedures_given p process n process.procedures numbered.0 inside.procedures,
    commands_given p (main_frames process)
        (n + blocks_in_procedures process.procedures) process.commands numbered.1 inside.commands,
  )

  pub processes_given : (p n : ℕ) (x : List ProcessDeclaration) → ProcessesNumbered n x
      → ((i : ℕ) (process : ProcessDeclaration) → slice_get x i ≡ Some process → ProcessInFrames tree slots (p + i) process)
      → ProcessesGiven tree slots n x
  processes_given p n [] numbered inside = tt
  processes_given p n (process ∷ others) numbered inside =
      let first : ProcessInFrames tree slots p process =
      subst (λ (i : ℕ). ProcessInFrames tree slots i process) (omega arith) (inside 0 process refl) in (
        process_given p n process numbered.0 first,
        processes_given (p + 1) (n + blocks_in_process process) others numbered.1
            (λ i one is. subst (λ (k : ℕ). ProcessInFrames tree slots k one) (omega arith) (inside (suc i) one is)),
      )

  -- the ends of channels
  pub ends_given : (x : List ChannelDeclaration) → All (ChannelInFrames tree slots) x → map (ends_by slots) x ≡ map (ends_of tree) x
  ends_given [] inside = refl
  ends_given (channel ∷ others) inside =
      let ends : ℕ → ℕ → Ends = λ from to. record { sender = from; receiver = to; size = natural channel.size.value } in
      let first = All-head (ChannelInFrames tree slots) channel others inside in
      ap (λ from. ends from (process_of slots channel.receiver.id) ∷ map (ends_by slots) others) (ap process_in first.sender.slot)
      ∙ ap (λ to. ends (process_number tree channel.sender.text) to ∷ map (ends_by slots) others) (ap process_in first.receiver.slot)
      ∙ ap (λ rest. ends_of tree channel ∷ rest) (ends_given others (All-tail (ChannelInFrames tree slots) channel others inside))
