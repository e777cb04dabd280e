-- Which code stands for a tree whose names have these slots.
use Rattle.std.specs.Prelude.{◌≡◌, ℕ, ◌+◌, nat_eq, cond, ◌||◌, List, [], ◌∷◌, length, Option}
use Rattle.rb_base.specs.declared.place.Place.{Place}
use Rattle.rb_syntax.specs.Tree.{ProcessDeclaration, Tree}
use Rattle.rb_meaning.specs.Environment.{frame_of, frame_words}
use Rattle.rb_meaning.specs.Groups.{channels_of}
use Rattle.rb_meaning.specs.Meaning.{naming_of}
use Rattle.rb_world.specs.Kind.{Ends}
use Rattle.rb_scope.specs.declared.slot.Slot.{Slot}
use Rattle.rb_code.specs.Instructions.Plain.{Code, Part}
use Rattle.rb_code.specs.Agreement.Template.{Template, One, ◌⨾◌}
use Rattle.rb_code.specs.Agreement.Forms.{CommandsForm, ProceduresForm, any_turn}
use Rattle.rb_code.specs.declared.instr.Instr.{Instr}
use Rattle.rb_code.specs.declared.instr.Instr.TheVariants.{Done, Text}

-- the channels from number c on of which process p is an end, in order
abbrev pub channels_from : ℕ → ℕ → List Ends → List ℕ
channels_from p c [] = []
channels_from p c (ends ∷ others) =
    cond (nat_eq ends.sender p || nat_eq ends.receiver p) (c ∷ channels_from p (c + 1) others) (channels_from p (c + 1) others)

-- what the list of processes tells of process number p, whose body begins at this address
pub record TellsOfProcess (tree : Tree) (p : ℕ) (process : ProcessDeclaration) (start : ℕ) (part : Part) : Type 0 where
  pub start_is : part.start ≡ start
  pub words_are : part.words ≡ frame_words (frame_of process.variables)
  pub channels_are : part.channels ≡ channels_from p 0 (channels_of tree)

-- Processes, by how a turn begins for a statement that stands at a place in the source.
module _ (begin : Option Place → Template) where
  -- process number p, of which the list has this part: its body, `done`, and its procedures
  abbrev pub ProcessForm : Tree → List Slot → ℕ → ProcessDeclaration → Part → Template
  ProcessForm tree slots p process part c a b =
      TellsOfProcess tree p process a part
      × (CommandsForm begin tree slots (record { number = p; procedures = process.procedures }) process.commands ⨾ One Done
      ⨾ ProceduresForm begin tree slots (record { number = p; procedures = process.procedures }) process.procedures part.procedures) c a b

  -- the processes from number p on, one after another
  abbrev pub ProcessesForm : Tree → List Slot → ℕ → List ProcessDeclaration → List Part → Template
  ProcessesForm tree slots p [] parts c a b = (parts ≡ []) × (b ≡ a)
  ProcessesForm tree slots p (process ∷ others) parts c a b =
      (part : Part) × (more : List Part) × (parts ≡ part ∷ more)
      × (ProcessForm tree slots p process part ⨾ ProcessesForm tree slots (p + 1) others more) c a b

abbrev pub ProcessCode : Tree → List Slot → ℕ → ProcessDeclaration → Part → Template
ProcessCode = ProcessForm any_turn

abbrev pub ProcessesCode : Tree → List Slot → ℕ → List ProcessDeclaration → List Part → Template
ProcessesCode = ProcessesForm any_turn

-- the numbers of the texts that instructions name, in the order of their addresses
abbrev pub text_numbers : List Instr → List ℕ
text_numbers [] = []
text_numbers (Text k ∷ instrs) = k ∷ text_numbers instrs
text_numbers (instr ∷ instrs) = text_numbers instrs

-- so many numbers from k on
abbrev pub numbers_from : {A : Type 0} → ℕ → List A → List ℕ
numbers_from k [] = []
numbers_from k (x ∷ xs) = k ∷ numbers_from (k + 1) xs

-- A code stands for a tree whose names have these slots.
pub record StandsFor (tree : Tree) (slots : List Slot) (c : Code) : Type 0 where
  pub edition_is : c.edition ≡ tree.edition
  pub names_are : c.names ≡ naming_of tree
  pub channels_are : c.channels ≡ channels_of tree
  pub instrs_are : ProcessesCode tree slots 0 tree.processes c.processes c 0 (length c.instrs)
  pub one_block_each : length c.blocks ≡ tree.blocks
  pub one_text_each : text_numbers c.instrs ≡ numbers_from 0 c.texts
