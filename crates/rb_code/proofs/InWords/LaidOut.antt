-- How an environment lies in words: frames stand from the inside out, and their words from the outside in.
use Rattle.std.specs.Prelude.{◌≡◌, ℕ, ◌+◌, ℤ, List, [], ◌∷◌, ◌++◌, length, map}
use Rattle.rb_meaning.specs.Environment.{Environment, Frame}
use Rattle.rb_scope.specs.Frames.{Lying, OfCall, OfProcess, Shape, shape_of, shape_words, shapes_words}
use Rattle.rb_code.specs.Instructions.Plain.{Part}
use Rattle.rb_code.specs.WordMachine.Workspace.{OpenCall, base_of, body_place, variables_place}
use Rattle.rb_code.specs.declared.instr.Spot.{Spot}
use Rattle.rb_code.specs.declared.instr.Spot.TheVariants as spots

-- the words of a frame, of frames and of calls
abbrev pub flat_frame : Frame → List ℤ
flat_frame [] = []
flat_frame (stored ∷ frame) = stored.values ++ flat_frame frame

abbrev pub flat_frames : List Frame → List ℤ
flat_frames [] = []
flat_frames (frame ∷ around) = flat_frames around ++ flat_frame frame

abbrev pub flat_calls : List (List Frame) → List ℤ
flat_calls [] = []
flat_calls (frames ∷ outer) = flat_calls outer ++ flat_frames frames

-- all words of an environment
abbrev pub flat : Environment → List ℤ
flat env = flat_frame env.globals ++ flat_calls env.calls

-- the shapes of frames, and of the frames of calls
abbrev pub shapes_of : List Frame → List Shape
shapes_of frames = map shape_of frames

abbrev pub stacks_of : List (List Frame) → List (List Shape)
stacks_of calls = map shapes_of calls

-- how many words calls have
abbrev pub stacks_words : List (List Shape) → ℕ
stacks_words [] = 0
stacks_words (shapes ∷ outer) = shapes_words shapes + stacks_words outer

-- The words of each open call begin behind those of the calls around it, which begin at n. The main body, which is the outermost, is
-- no open call.
abbrev pub Based : ℕ → List OpenCall → List (List Shape) → Type 0
Based n [] [] = ⊥
Based n [] (shapes ∷ []) = Unit {0}
Based n [] (shapes ∷ outer ∷ more) = ⊥
Based n (call ∷ calls) [] = ⊥
Based n (call ∷ calls) (shapes ∷ outer) = (call.base ≡ n + stacks_words outer) × Based n calls outer

-- the frames of the running call
abbrev pub running : List (List Shape) → List Shape
running [] = []
running (shapes ∷ outer) = shapes

-- The words are the held length and the cursors, which are the front, and then those of the environment.
pub record Laid (part : Part) (front : List ℤ) (env : Environment) (words : List ℤ) (calls : List OpenCall) : Type 0 where
  pub long : length front ≡ variables_place part
  pub is : words ≡ front ++ flat env
  pub globals : shape_words (shape_of env.globals) ≡ part.words
  pub based : Based (body_place part) calls (stacks_of env.calls)

-- the spot of a variable that lies there, and the place of its first word
abbrev pub spot_at : Lying → Spot
spot_at (OfProcess at words) = spots.Global at
spot_at (OfCall at words) = spots.Local at

abbrev pub place_lying : Part → List OpenCall → Lying → ℕ
place_lying part calls (OfProcess at words) = variables_place part + at
place_lying part calls (OfCall at words) = base_of part calls + at
