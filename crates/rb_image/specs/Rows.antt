-- Worked bytes.
use Rattle.std.specs.Prelude.{◌≡◌, ◌-◌, ◌^◌, pos, negsuc, [], ◌∷◌, ◌++◌, codes, length, replicate, Some, None}
use Rattle.rb_base.specs.declared.edition.Edition.TheVariants.{First}
use Rattle.rb_code.specs.Instructions.Plain.{Code}
use Rattle.rb_code.specs.declared.instr.Spot.TheVariants.{Local}
use Rattle.rb_code.specs.declared.instr.Instr.TheVariants.{Call, Done, Load}
use Rattle.rb_image.specs.Pieces.{number, optional, text}
use Rattle.rb_image.specs.Instrs.{instr}
use Rattle.rb_image.specs.Image.{group, image_of}

-- numbers: 0, 1, 258, -1, and the largest and the least
abbrev pub NumberBytes : Type 0
NumberBytes =
    (number (pos 0) ≡ replicate 8 0)
    × (number (pos 1) ≡ replicate 7 0 ++ 1 ∷ [])
    × (number (pos 258) ≡ replicate 6 0 ++ 1 ∷ 2 ∷ [])
    × (number (negsuc 0) ≡ replicate 8 255)
    × (number (pos (2 ^ 63 - 1)) ≡ 127 ∷ replicate 7 255)
    × (number (negsuc (2 ^ 63 - 1)) ≡ 128 ∷ replicate 7 0)

-- a text, and a number that may be there
abbrev pub PieceBytes : Type 0
PieceBytes =
    (text (codes "ab") ≡ replicate 7 0 ++ 2 ∷ 97 ∷ 98 ∷ [])
    × (optional None ≡ replicate 8 0)
    × (optional (Some 3) ≡ replicate 7 0 ++ 1 ∷ (replicate 7 0 ++ 3 ∷ []))

-- `done`, `load l 4` and `call 5 1 2`
abbrev pub InstrBytes : Type 0
InstrBytes =
    (instr Done ≡ 40 ∷ [])
    × (instr (Load (Local 4)) ≡ 2 ∷ (replicate 7 0 ++ 1 ∷ (replicate 7 0 ++ 4 ∷ [])))
    × (instr (Call 5 1 2) ≡ 34 ∷ (replicate 7 0 ++ 5 ∷ (replicate 7 0 ++ 1 ∷ (replicate 7 0 ++ 2 ∷ []))))

-- `program p; process q { } end.`: one process, which is done at once
abbrev pub smallest : Code
smallest = record {
  edition = First;
  instrs = Done ∷ [];
  processes = record { start = 0; words = 0; channels = []; procedures = [] } ∷ [];
  blocks = [];
  channels = [];
  texts = [];
  names = record { processes = record { name = codes "q"; variables = [] } ∷ []; channels = []; conversations = [] };
}

-- Its image has 134 bytes: the first four, its edition, one instruction, one process, no block, channel or text, one name, no other name
-- and no conversation.
abbrev pub SmallestImage : Type 0
SmallestImage =
    image_of smallest [] []
    ≡ codes "RBL2"
    ++ (replicate 7 0 ++ 1 ∷ (replicate 7 0 ++ 1 ∷ 40 ∷ (replicate 7 0 ++ 1 ∷ (replicate 32 0 ++ (replicate 24 0
    ++ (replicate 7 0 ++ 1 ∷ (replicate 7 0 ++ 1 ∷ 113 ∷ replicate 32 0)))))))

abbrev pub SmallestLength : Type 0
SmallestLength = length (image_of smallest [] []) ≡ 134

-- a conversation of the processes 0 and 2 in conversation 0, with two alternates
abbrev pub GroupBytes : Type 0
GroupBytes =
    group (record { members = 0 ∷ 2 ∷ []; parent = Some 0 }, 2)
    ≡ replicate 7 0 ++ 2 ∷ (replicate 15 0 ++ 2 ∷ (replicate 7 0 ++ 1 ∷ (replicate 15 0 ++ 2 ∷ [])))
