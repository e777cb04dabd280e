-- Worked codes that are sound or not, one for each point where sound code is easily taken for something else.
use Rattle.std.specs.Prelude.{◌≡◌, ℕ, pos, List, [], ◌∷◌, codes, Some, None}
use Rattle.std.specs.List.{IsDistinct}
use Rattle.rb_base.specs.declared.edition.Edition.TheVariants.{First, Second}
use Rattle.rb_world.specs.Kind.{Ends}
use Rattle.rb_world.specs.Text.{Naming}
use Rattle.rb_meaning.specs.Environment.{same_name}
use Rattle.rb_scope.specs.Spelled.{IsNaming}
use Rattle.rb_code.specs.Instructions.Plain.{Block, Code, Procedure}
use Rattle.rb_code.specs.SoundCode.Reached.{Reached}
use Rattle.rb_code.specs.SoundCode.Sound.{Entry, HasTable, Table}
use Rattle.rb_code.specs.SoundCode.WellFormed.{JoinsOnce, LoopsStayOpen, Names, outer_names}
use Rattle.rb_code.specs.declared.instr.Instr.{Instr}
use Rattle.rb_code.specs.declared.instr.Spot.TheVariants.{Global}
use Rattle.rb_code.specs.declared.instr.Instr.TheVariants.{Turn, Push, Jump, JumpZero, Frame, There, Take, Store, Call, Return, Fail, Enter, Start, Test, Done, Range, Again, Counter}

abbrev pub no_names : Naming
no_names = record { processes = []; channels = []; conversations = [] }

-- the code of one process with one word of variables, whose main body begins at an address
abbrev pub code_of : ℕ → List Instr → List Procedure → List Block → List Ends → Code
code_of start instrs procedures blocks channels = record {
  edition = First;
  instrs = instrs;
  processes = record { start = start; words = 1; channels = []; procedures = procedures } ∷ [];
  blocks = blocks;
  channels = channels;
  texts = [];
  names = no_names;
}

abbrev pub procedure_at : ℕ → Procedure
procedure_at start = record { name = codes "f"; start = start }

-- a private recovery block
abbrev pub block_of : ℕ → ℕ → List ℕ → Block
block_of restart test alternates = record {
  line = 1;
  conversation = None;
  bound = 9;
  restart = restart;
  test = test;
  alternates = alternates;
}

-- there is a table as sound code has it
pub record IsTabled (c : Code) : Type 0 where
  pub table : Table
  pub has : HasTable c [] table
  pub reached : (a : ℕ) (e : Entry) → table a ≡ Some e → Reached c a
  pub loops : LoopsStayOpen c table

abbrev pub IsUntabled : Code → Type 0
IsUntabled c = IsTabled c → ⊥

-- Two procedures of a process are two bodies: no jump leads from the one at 5 into the one at 7.
abbrev pub jump_between_procedures : Code
jump_between_procedures =
    code_of 0
    (Turn ∷ Call 5 0 0 ∷ Turn ∷ Call 7 0 0 ∷ Done ∷ Turn ∷ Jump 7 ∷ Turn ∷ Return ∷ [])
    (procedure_at 5 ∷ procedure_at 7 ∷ []) [] []

-- An address that a jump leaves out is not reached, so that its `enter` is nobody's.
abbrev pub jump_over_an_entry : Code
jump_over_an_entry = code_of 0 (Jump 2 ∷ Enter 0 ∷ Turn ∷ Done ∷ []) [] (block_of 2 2 (2 ∷ []) ∷ []) []

-- A loop that goes back once is sound.
abbrev pub small_loop : Code
small_loop = code_of 0 (Turn ∷ Push (pos 0) ∷ Push (pos 1) ∷ Range 0 5 ∷ Again 0 4 ∷ Done ∷ []) [] [] []

-- Two loops may overlap: where the outer one goes back the inner one is left, and where it goes on only the inner one is open. Its own way
-- back, at 9, is not reached.
abbrev pub overlapping_loops : Code
overlapping_loops =
    code_of 0
    (Turn ∷ Push (pos 0) ∷ Push (pos 1) ∷ Range 0 10 ∷ Push (pos 0) ∷ Push (pos 1) ∷ Range 1 10 ∷ Again 0 4 ∷ Jump 10 ∷ Again 1 7 ∷ Done ∷ [])
    [] [] []

-- The loop ends at the first way back: behind it the counter is not set, so no second one may stand there.
abbrev pub two_ways_back : Code
two_ways_back = code_of 0 (Turn ∷ Push (pos 0) ∷ Push (pos 1) ∷ Range 0 6 ∷ Again 0 4 ∷ Again 0 4 ∷ Done ∷ []) [] [] []

-- No jump leads past a `range` into its loop: at 7 the loop would not be open.
abbrev pub jump_into_a_loop : Code
jump_into_a_loop =
    code_of 0
    (Turn ∷ Push (pos 0) ∷ JumpZero 7 ∷ Push (pos 1) ∷ Push (pos 0) ∷ Range 0 9 ∷ Jump 8 ∷ Jump 9 ∷ Again 0 6 ∷ Done ∷ [])
    [] [] []

-- What stands behind a `fail` may still ask for a message, as the turn has done nothing yet.
abbrev pub message_behind_fail : Code
message_behind_fail =
    code_of 0 (Turn ∷ Fail ∷ There 0 ∷ Take 0 ∷ Store (Global 0) ∷ Done ∷ []) [] [] (record { sender = 1; receiver = 0; size = 1 } ∷ [])

-- An alternate may stand before the `start` that goes to it, at an address that is no `turn`.
abbrev pub alternate_before_its_start : Code
alternate_before_its_start =
    code_of 2
    (Frame 0 ∷ Jump 6 ∷ Turn ∷ Enter 0 ∷ Turn ∷ Start 0 ∷ Turn ∷ Push (pos 1) ∷ Test 0 ∷ Done ∷ [])
    [] (block_of 4 6 (0 ∷ []) ∷ []) []

-- A block of a conversation has the number of alternates that is counted of the conversation, here two, and not one.
abbrev pub joined_code : Code
joined_code =
    code_of 0
    (Turn ∷ Enter 0 ∷ Turn ∷ Start 0 ∷ Turn ∷ Push (pos 1) ∷ Test 0 ∷ Done ∷ [])
    [] (record { line = 1; conversation = Some 0; bound = 9; restart = 2; test = 4; alternates = 4 ∷ 4 ∷ [] } ∷ []) []

abbrev pub MiscountedAlternates : Type 0
MiscountedAlternates = (t : Table) → JoinsOnce joined_code (record { members = 0 ∷ []; parent = None } ∷ []) (1 ∷ []) t → ⊥

-- A reserved word of the second edition is a name of the first.
abbrev pub ReservedNames : Type 0
ReservedNames = IsNaming First (codes "every") × (IsNaming Second (codes "every") → ⊥)

-- A process and a channel may not have one name.
abbrev pub OneNameForTwo : Type 0
OneNameForTwo =
    IsDistinct same_name (outer_names (record {
      processes = record { name = codes "a"; variables = [] } ∷ [];
      channels = codes "a" ∷ [];
      conversations = [];
    }))
    → ⊥

-- There is no third counter.
abbrev pub ThirdCounter : Type 0
ThirdCounter = Names small_loop (Counter 2) → ⊥
