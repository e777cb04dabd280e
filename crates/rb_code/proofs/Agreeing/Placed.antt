-- The code of statements, each turn of which has the place that is told of its statement.
use Rattle.std.specs.Prelude.{◌≡◌, ℕ, ◌+◌, List, slice_get, Option, Some}
use Rattle.rb_base.specs.declared.place.Place.{Place}
use Rattle.rb_syntax.specs.Tree.{Alternates, Body, Command, Commands, Otherwise, ProcedureDeclaration, ProcessDeclaration, Tree}
use Rattle.rb_scope.specs.declared.slot.Slot.{Slot}
use Rattle.rb_code.specs.Instructions.Plain.{Part, Procedure}
use Rattle.rb_code.specs.Agreement.Forms.{AlternatesForm, BodyForm, BranchesForm, CommandForm, CommandsForm, OthersForm, Owner, ProceduresForm, ReceiptForm}
use Rattle.rb_code.specs.Agreement.Places.{place_number, places_told}
use Rattle.rb_code.specs.Agreement.StandsFor.{ProcessForm}
use Rattle.rb_code.specs.Agreement.Template.{Template}
use Rattle.rb_code.specs.declared.instr.Instr.TheVariants.{Turn}

-- a `turn` at whose address this place is told
abbrev pub TurnAt : Tree → Option Place → Template
TurnAt tree place c a b = (slice_get c.instrs a ≡ Some Turn) × (b ≡ a + 1) × (place_number (places_told tree c.instrs) a ≡ place)

abbrev pub CommandPlaced : Tree → List Slot → Owner → Command → Template
CommandPlaced tree = CommandForm (TurnAt tree) tree

abbrev pub CommandsPlaced : Tree → List Slot → Owner → Commands → Template
CommandsPlaced tree = CommandsForm (TurnAt tree) tree

abbrev pub BodyPlaced : Tree → List Slot → Owner → Body → Template
BodyPlaced tree = BodyForm (TurnAt tree) tree

abbrev pub ReceiptPlaced : Tree → List Slot → Owner → Option Place → ℕ → Template → Otherwise → Template
ReceiptPlaced tree slots owner place = ReceiptForm (TurnAt tree) tree slots owner (TurnAt tree place)

abbrev pub BranchesPlaced : Tree → List Slot → Owner → Option Place → Template → Template → Otherwise → Template
BranchesPlaced tree slots owner place = BranchesForm (TurnAt tree) tree slots owner (TurnAt tree place)

abbrev pub AlternatesPlaced : Tree → List Slot → Owner → Alternates → List ℕ → ℕ → Template
AlternatesPlaced tree = AlternatesForm (TurnAt tree) tree

abbrev pub OthersPlaced : Tree → List Slot → Owner → Alternates → List ℕ → ℕ → Template
OthersPlaced tree = OthersForm (TurnAt tree) tree

abbrev pub ProceduresPlaced : Tree → List Slot → Owner → List ProcedureDeclaration → List Procedure → Template
ProceduresPlaced tree = ProceduresForm (TurnAt tree) tree

abbrev pub ProcessPlaced : Tree → List Slot → ℕ → ProcessDeclaration → Part → Template
ProcessPlaced tree = ProcessForm (TurnAt tree) tree
