-- What is known of a fault beside its place and the text that has it: nothing more of a fault of the first text, and the names of the program of
-- one of a text behind the program.
use Rattle.std.specs.Prelude.{◌≡◌, ℕ, List, [], ◌∷◌, Ok, Some}
use Rattle.rb_base.specs.declared.fault.TextFault.{TextFault}
use Rattle.rb_base.specs.declared.kept.Kept.{Kept}
use Rattle.rb_base.specs.declared.names.Names.{Names}
use Rattle.rb_syntax.specs.Tree.{Tree}
use Rattle.rb_trace.specs.Naming.{naming}
use Rattle.rb_meaning.specs.Meaning.{naming_of}
use Rattle.rb_judge.specs.Verdict.{IsAccepted}
use Rattle.rb_image.specs.Laws.{IsImage}
use Rattle.rb_plain.specs.Stuck.{stuck_turn}
use Rattle.rb_plain.specs.declared.stuck.StuckTurn.{StuckTurn}
use Rattle.rb_record.specs.Record.{record_of}
use Rattle.rb_hall.specs.declared.fault.Fault.{Fault}
use Rattle.rb_hall.specs.declared.fault.Fault.TheVariants as of
use Rattle.rb_verdict.specs.Programs.{Program}
use Rattle.rb_verdict.specs.Texts.{names_of}
use Rattle.rb_commands.specs.declared.why.Why.{Why}
use Rattle.rb_commands.specs.declared.why.Why.TheVariants as why

-- these are the names of the program of a source
pub record NamesOfSource (source : List ℕ) (names : Names) : Type 0 where
  pub tree : Tree
  pub accepted : IsAccepted source tree
  pub named : naming names ≡ naming_of tree

-- these are the names of the program of an image
pub record NamesOfImage (image : List ℕ) (names : Names) : Type 0 where
  pub program : Program
  pub holds : IsImage image program.code program.groups program.counts
  pub named : naming names ≡ program.code.names

-- of a command over one text or none nothing more is known
abbrev pub ExplainsSource : List (List ℕ) → Fault → Why → Type 0
ExplainsSource texts fault known = known ≡ why.Plain

-- Of a command over a program and texts behind it.
pub data ExplainsProgram (NamesOf : List ℕ → Names → Type 0) : List (List ℕ) → Fault → Why → Type 0 where
  of_program : (program : List ℕ) (fault : Fault) → ExplainsProgram NamesOf (program ∷ []) fault why.Plain
  of_text : (program text : List ℕ) (more : List (List ℕ)) (fault : Fault) (names : Names) → NamesOf program names
      → ExplainsProgram NamesOf (program ∷ text ∷ more) fault (why.Names names)

-- This turn of a record is the one at which the record's plain run over a tree is stuck, as it was found, and these are the names of the program.
pub record IsStuckAt (tree : Tree) (turns : List Kept) (turn : ℕ) (found : StuckTurn) (names : Names) : Type 0 where
  pub stuck : stuck_turn tree turn turns ≡ Some found
  pub named : naming names ≡ naming_of tree

-- Of `plain`, which reads a source and a record for it.
pub data ExplainsRecord : List (List ℕ) → Fault → Why → Type 0 where
  of_source : (source : List ℕ) (fault : Fault) → ExplainsRecord (source ∷ []) fault why.Plain
  of_record : (source kept : List ℕ) (fault : TextFault) (names : Names) → NamesOfSource source names
      → ExplainsRecord (source ∷ kept ∷ []) (of.Text fault) (why.Names names)
  of_stuck : (source kept : List ℕ) (tree : Tree) (turns : List Kept) (turn : ℕ) (found : StuckTurn) (names : Names) → IsAccepted source tree
      → record_of (names_of tree) kept ≡ Ok turns → IsStuckAt tree turns turn found names
      → ExplainsRecord (source ∷ kept ∷ []) (of.Stuck turn) (why.Stuck found names)
