-- What the code of each form with recovery blocks adds to the draft, for whatever process has procedures with so many words.
use Rattle.std.specs.Prelude.{◌≡◌, ℕ, ◌+◌, ◌<◌, ◌≤◌, List, [], ◌∷◌, length, map, option_map, slice_get, Some}
use Rattle.rb_syntax.specs.Tree.{Alternates, Body, Command, Commands, Expression, Identifier, Otherwise, NoElse, Else, ProcedureDeclaration, ProcessDeclaration, RecoveryBlock, Recovering, Tree}
use Rattle.rb_syntax.specs.Numbered.{blocks_in, blocks_in_alternates, blocks_in_body, blocks_in_command, blocks_in_procedures, blocks_in_process, blocks_in_processes}
use Rattle.rb_meaning.specs.Environment.{frame_of, frame_words}
use Rattle.rb_meaning.specs.Groups.{channels_of}
use Rattle.rb_meaning.specs.Step.{variables_of}
use Rattle.rb_world.specs.Kind.{Ends}
use Rattle.rb_scope.specs.declared.slot.Slot.{Slot}
use Rattle.rb_code.specs.WordMachine.Workspace.{part_of}
use Rattle.rb_code.specs.Instructions.Plain.{Code, Part, Procedure}
use Rattle.rb_code.specs.Agreement.StandsFor.{ProcessesCode, text_numbers}
use Rattle.rb_code.specs.Agreement.Template.{Template, One, ◌⨾◌, At, Label}
use Rattle.rb_code.specs.Agreement.Forms.{AlternatesCode, BodyCode, CallCode, CommandCode, CommandsCode, OthersCode, Owner, ProceduresCode}
use Rattle.rb_code.specs.declared.instr.Instr.TheVariants.{Done, Jump, JumpZero}
use Rattle.rb_draft.specs.Output.{Output, as_it_is, linked, linked_to, patched}
use Rattle.rb_draft.specs.Emits.{Emits}
use Rattle.rb_gen.specs.InMemory.{LeavesTest}
use Rattle.rb_gen.specs.Given.{AlternatesGiven, BodyGiven, CommandGiven, CommandsGiven, ProceduresGiven, ProcessGiven, ProcessesGiven}

-- how many words the variables of a procedure's block have
abbrev pub room_of : ProcedureDeclaration → ℕ
room_of procedure = frame_words (frame_of (variables_of procedure.body))

-- a tree and a process of it whose procedures have so many words
pub record Setting (words : List ℕ) : Type 0 where
  pub tree : Tree
  pub owner : Owner
  pub sized : words ≡ map room_of owner.procedures

-- a call, which has no recovery block
abbrev pub WritesCall : List Slot → List ℕ → Identifier → List Expression → Output → Output → Type 0
WritesCall slots words name arguments old new =
    (s : Setting words) (n : ℕ) → Emits (linked s.owner.number) n n (CallCode slots s.owner name arguments) old new

-- Code of a form whose recovery blocks, so many, are numbered from any number on.
abbrev pub Writes : List ℕ → (Tree → ℕ → Type 0) → ℕ → (Tree → Owner → Template) → Output → Output → Type 0
Writes words Given count P old new =
    (s : Setting words) (n : ℕ) → Given s.tree n → Emits (linked s.owner.number) n (n + count) (P s.tree s.owner) old new

abbrev pub WritesCommand : List Slot → List ℕ → Command → Output → Output → Type 0
WritesCommand slots words x =
    Writes words (λ tree n. CommandGiven tree slots n x) (blocks_in_command x) (λ tree owner. CommandCode tree slots owner x)

abbrev pub WritesCommands : List Slot → List ℕ → Commands → Output → Output → Type 0
WritesCommands slots words x =
    Writes words (λ tree n. CommandsGiven tree slots n x) (blocks_in x) (λ tree owner. CommandsCode tree slots owner x)

abbrev pub WritesBody : List Slot → List ℕ → Body → Output → Output → Type 0
WritesBody slots words x =
    Writes words (λ tree n. BodyGiven tree slots n x) (blocks_in_body x) (λ tree owner. BodyCode tree slots owner x)

abbrev pub WritesRecovery : List Slot → List ℕ → RecoveryBlock → Output → Output → Type 0
WritesRecovery slots words x = WritesCommand slots words (Recovering x)

-- alternates at these addresses, before an acceptance test at this one
abbrev pub WritesAlternates : List Slot → List ℕ → Alternates → List ℕ → ℕ → Output → Output → Type 0
WritesAlternates slots words x addresses test =
    Writes words (λ tree n. AlternatesGiven tree slots n x) (blocks_in_alternates x)
    (λ tree owner. AlternatesCode tree slots owner x addresses test)

-- those behind the first
abbrev pub WritesOthers : List Slot → List ℕ → Alternates → List ℕ → ℕ → Output → Output → Type 0
WritesOthers slots words x addresses test =
    Writes words (λ tree n. AlternatesGiven tree slots n x) (blocks_in_alternates x)
    (λ tree owner. OthersCode tree slots owner x addresses test)

-- an `else` behind what it is the other to, with its address
abbrev pub WritesElse : List Slot → List ℕ → ℕ → Body → Output → Output → Type 0
WritesElse slots words address x =
    Writes words (λ tree n. BodyGiven tree slots n x) (blocks_in_body x)
    (λ tree owner. Label (λ end. One (Jump end) ⨾ At address ⨾ BodyCode tree slots owner x ⨾ At end))

-- the turn and the test of an `if`, behind which a place is left, and its block
abbrev pub WritesThen : List Slot → List ℕ → Expression → Body → ℕ → Output → Output → Type 0
WritesThen slots words test x place old new = (d : Output) × LeavesTest slots test place old d × WritesBody slots words x d new

-- what stands behind the block of an `if`: its `else`, or nothing; the place that was left behind the test leads there
abbrev pub WritesOtherwise : List Slot → List ℕ → ℕ → Otherwise → Output → Output → Type 0
WritesOtherwise slots words place NoElse old new = new ≡ patched old place (JumpZero (length old.instrs))
WritesOtherwise slots words place (Else x) old new =
    (address : ℕ) × (d : Output) × WritesElse slots words address x old d × (new ≡ patched d place (JumpZero address))

-- procedures, of which the list of procedures has these entries
abbrev pub WritesProcedures : List Slot → List ℕ → List ProcedureDeclaration → List Procedure → Output → Output → Type 0
WritesProcedures slots words x entries =
    Writes words (λ tree n. ProceduresGiven tree slots n x) (blocks_in_procedures x) (λ tree owner. ProceduresCode tree slots owner x entries)

-- a process with its procedures, in every whole code that has these entries of them
abbrev pub ProcessTemplate : Tree → List Slot → ℕ → ProcessDeclaration → List Procedure → Template
ProcessTemplate tree slots p process entries w a b =
    let owner : Owner = record { number = p; procedures = process.procedures } in
    (part_of w p).procedures ≡ entries
    → (CommandsCode tree slots owner process.commands ⨾ One Done ⨾ ProceduresCode tree slots owner process.procedures entries) w a b

abbrev pub WritesProcess : List Slot → ProcessDeclaration → List Procedure → Output → Output → Type 0
WritesProcess slots process entries old new =
    (tree : Tree) (p n : ℕ) → ProcessGiven tree slots n process
    → Emits as_it_is n (n + blocks_in_process process) (ProcessTemplate tree slots p process entries) old new

-- the whole code has these processes from number p on
abbrev pub HasParts : ℕ → List Part → Code → Type 0
HasParts p [] whole = Unit {0}
HasParts p (part ∷ others) whole = (slice_get whole.processes p ≡ Some part) × HasParts (p + 1) others whole

-- processes from number p on, in every whole code that has these parts, in a program with channels of these ends
abbrev pub WritesProcesses : List Slot → List Ends → ℕ → List ProcessDeclaration → List Part → Output → Output → Type 0
WritesProcesses slots ends p processes parts old new =
    (tree : Tree) → ends ≡ channels_of tree → (n : ℕ) → ProcessesGiven tree slots n processes →
    Emits as_it_is n (n + blocks_in_processes processes) (λ w a b. HasParts p parts w → ProcessesCode tree slots p processes parts w a b) old new

-- every instruction from an address on is linked
pub record IsLinked (procedures : List Procedure) (from : ℕ) (old new : Output) : Type 0 where
  pub long : length new.instrs ≡ length old.instrs
  pub before : (i : ℕ) → i < from → slice_get new.instrs i ≡ slice_get old.instrs i
  pub behind : (i : ℕ) → from ≤ i → i < length old.instrs → slice_get new.instrs i ≡ option_map (linked_to procedures) (slice_get old.instrs i)
  pub numbers : text_numbers new.instrs ≡ text_numbers old.instrs
  pub texts : new.texts ≡ old.texts
  pub blocks : new.blocks ≡ old.blocks
