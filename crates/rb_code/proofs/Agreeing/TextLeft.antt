-- What is left of a process's text, against the address at which it goes on and the addresses to which its calls go back.
use Rattle.std.specs.Prelude.{◌≡◌, ◌⊎◌, ℕ, false, List, [], ◌∷◌, slice_get, Option, Some, None}
use Rattle.rb_syntax.specs.Tree.{Declaration, ProcessDeclaration, RecoveryBlock, Recovers, Tree}
use Rattle.rb_meaning.specs.Environment.{frame_of, natural}
use Rattle.rb_meaning.specs.State.{Item, Perform, StartOf, TestOf, EndBlock, EndCall}
use Rattle.rb_meaning.specs.Groups.{procedures_of}
use Rattle.rb_scope.specs.Frames.{Frames, Shape, in_acceptance, shape_of, shape_words}
use Rattle.rb_scope.specs.InFrames.{CommandInFrames, ExpressionInFrames, RecoveryInFrames}
use Rattle.rb_scope.specs.declared.slot.Slot.{Slot}
use Rattle.rb_code.specs.Instructions.Plain.{Code}
use Rattle.rb_code.specs.WordMachine.Workspace.{OpenCall}
use Rattle.rb_code.specs.Agreement.Template.{Template, One, ◌⨾◌, At, WithBlock, Only}
use Rattle.rb_code.specs.Agreement.Forms.{DropCode, ExpressionCode, Owner, TellsOf}
use Rattle.rb_code.specs.declared.instr.Instr.TheVariants.{Done, Jump, Return, Start, Test}
use Rattle.rb_code.proofs.Agreeing.Placed.{AlternatesPlaced, CommandPlaced, TurnAt}
use Rattle.rb_code.proofs.InWords.LaidOut.{running}

-- the variables of a process, and none where there is no process
abbrev pub variables_of_process : Option ProcessDeclaration → List Declaration
variables_of_process None = []
variables_of_process (Some process) = process.variables

-- process number p as the owner of code, and the shape of its own frame
abbrev pub owner_of : Tree → ℕ → Owner
owner_of tree p = record { number = p; procedures = procedures_of (slice_get tree.processes p) }

abbrev pub own_shape : Tree → ℕ → Shape
own_shape tree p = shape_of (frame_of (variables_of_process (slice_get tree.processes p)))

-- the frames around a statement of process number p, with these of the running call
abbrev pub frames_at : Tree → ℕ → List Shape → Frames
frames_at tree p shapes = record { globals = own_shape tree p; running = shapes; counters = []; quantified = 0; in_test = false }

-- b is the address, or a jump leads to it
abbrev pub Onward : Code → ℕ → ℕ → Type 0
Onward c a b = (b ≡ a) ⊎ (slice_get c.instrs a ≡ Some (Jump b))

-- the acceptance test of a recovery block, and its alternates with it
abbrev pub TestCode : Tree → List Slot → RecoveryBlock → Template
TestCode tree slots (Recovers number conversation place test bound alternates) =
    TurnAt tree (Some place) ⨾ ExpressionCode slots test ⨾ One (Test number)

abbrev pub StartCode : Tree → List Slot → Owner → RecoveryBlock → Template
StartCode tree slots owner (Recovers number conversation place test bound alternates) =
    WithBlock number (λ block.
    Only (TellsOf tree conversation place.line (natural bound.value) block) ⨾ At block.restart ⨾ TurnAt tree (Some place) ⨾ One (Start number)
    ⨾ AlternatesPlaced tree slots owner alternates block.alternates block.test ⨾ At block.test ⨾ TurnAt tree (Some place)
    ⨾ ExpressionCode slots test ⨾ One (Test number))

-- the acceptance test in its frames
abbrev pub TestInFrames : List Slot → Frames → RecoveryBlock → Type 0
TestInFrames slots frames (Recovers number conversation place test bound alternates) = ExpressionInFrames slots (in_acceptance frames) test

module _ (tree : Tree) (slots : List Slot) (c : Code) (p : ℕ) where
  -- The items are what stands at the address, with these frames in each call.
  abbrev pub Left : List (List Shape) → List Item → List OpenCall → ℕ → Type 0
  Left stacks [] calls a = (slice_get c.instrs a ≡ Some Done) × (calls ≡ [])
  Left stacks (Perform command ∷ rest) calls a =
      (b : ℕ) × CommandPlaced tree slots (owner_of tree p) command c a b
      × CommandInFrames tree slots p (frames_at tree p (running stacks)) command × Left stacks rest calls b
  Left stacks (StartOf block ∷ rest) calls a =
      (b : ℕ) × StartCode tree slots (owner_of tree p) block c a b
      × RecoveryInFrames tree slots p (frames_at tree p (running stacks)) block × Left stacks rest calls b
  Left stacks (TestOf block ∷ rest) calls a =
      (b : ℕ) × TestCode tree slots block c a b
      × TestInFrames slots (frames_at tree p (running stacks)) block × Left stacks rest calls b
  Left ((shape ∷ shapes) ∷ outer) (EndBlock ∷ rest) calls a =
      (m b : ℕ) × DropCode (shape_words shape) c a m × Onward c m b × Left (shapes ∷ outer) rest calls b
  Left stacks (EndBlock ∷ rest) calls a = ⊥
  Left (shapes ∷ outer) (EndCall ∷ rest) (call ∷ calls) a =
      (slice_get c.instrs a ≡ Some Return) × Left outer rest calls call.back
  Left stacks (EndCall ∷ rest) calls a = ⊥

-- no end of a block or of a call stands first
abbrev pub IsSettled : List Item → Type 0
IsSettled [] = Unit {0}
IsSettled (Perform command ∷ rest) = Unit {0}
IsSettled (StartOf block ∷ rest) = Unit {0}
IsSettled (TestOf block ∷ rest) = Unit {0}
IsSettled (EndBlock ∷ rest) = ⊥
IsSettled (EndCall ∷ rest) = ⊥
