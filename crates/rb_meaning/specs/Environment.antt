-- Environments: the variables of a process, in frames. Scopes are those of block structure.
use Rattle.std.specs.Prelude.{ℕ, ℤ, pos, negsuc, ◌+◌, nat_eq, Bool, cond, List, [], ◌∷◌, length, map, sum_by, replicate, slice_set, Option, Some, None}
use Rattle.std.specs.List.{list_any, flat_map}
use Rattle.std.specs.Cmp.Lexicographic.{pointwise}
use Rattle.rb_syntax.specs.declared.expression.Number.{Number}
use Rattle.rb_syntax.specs.Tree.{Declaration}

-- two names are one
abbrev pub same_name : List ℕ → List ℕ → Bool
same_name x y = pointwise nat_eq x y

-- a variable: its name, and its numbers; a scalar has one, an array as many as its size
pub record Stored : Type 0 where
  pub name : List ℕ
  pub values : List ℤ

-- a frame: the variables of a process, of a call or of a block, in the order of declaration
abbrev pub Frame : Type 0
Frame = List Stored

-- the frame of the process, and the frames of its open calls: the running call first, and in each the innermost frame
-- first; the main body counts as a call
pub record Environment : Type 0 where
  pub globals : Frame
  pub calls : List (List Frame)

-- a number as a count; one below 0 is 0
abbrev pub natural : ℤ → ℕ
natural (pos n) = n
natural (negsuc n) = 0

-- how many numbers a variable has: one, or the size of an array
abbrev pub size_of : Option Number → ℕ
size_of None = 1
size_of (Some number) = natural number.value

-- a frame is pushed with zeros
abbrev pub zeros : Declaration → Stored
zeros declaration = record { name = declaration.name.text; values = replicate (size_of declaration.size) (pos 0) }

-- the frame of these declarations, all zeros
abbrev pub frame_of : List Declaration → Frame
frame_of declarations = map zeros declarations

-- a frame has a variable of this name
abbrev pub has : List ℕ → Frame → Bool
has x frame = list_any (λ stored. same_name stored.name x) frame

-- the numbers of a variable in a frame, if it is there; of two with one name the first counts
abbrev pub found_in : List ℕ → Frame → Option (List ℤ)
found_in x [] = None
found_in x (stored ∷ frame) = cond (same_name stored.name x) (Some stored.values) (found_in x frame)

-- the first answer, or the other where the first is none
abbrev pub or_else : {A : Type 0} → Option A → Option A → Option A
or_else None other = other
or_else (Some a) other = Some a

-- the numbers of a variable in the first of these frames that has it
abbrev pub found_among : List ℕ → List Frame → Option (List ℤ)
found_among x [] = None
found_among x (frame ∷ frames) = or_else (found_in x frame) (found_among x frames)

-- the frames of the running call, the innermost first
abbrev pub running_frames : List (List Frame) → List Frame
running_frames [] = []
running_frames (frames ∷ calls) = frames

-- The numbers of a variable: the frames of the running call from the inside out, then the frame of the process.
abbrev pub found : Environment → List ℕ → Option (List ℤ)
found env x = or_else (found_among x (running_frames env.calls)) (found_in x env.globals)

-- the numbers that were found, and none for an unknown name
abbrev pub values_or_none : Option (List ℤ) → List ℤ
values_or_none None = []
values_or_none (Some values) = values

-- the numbers of a variable by its name, and none for an unknown name
abbrev pub values_of : Environment → List ℕ → List ℤ
values_of env x = values_or_none (found env x)

-- one number of a variable is replaced, where the variable is found
abbrev pub stored_in : List ℕ → ℕ → ℤ → Frame → Frame
stored_in x i v [] = []
stored_in x i v (stored ∷ frame) =
    cond (same_name stored.name x) (record { name = stored.name; values = slice_set stored.values i v } ∷ frame) (stored ∷ stored_in x i v frame)

-- the same in the first of these frames that has the variable
abbrev pub stored_among : List ℕ → ℕ → ℤ → List Frame → List Frame
stored_among x i v [] = []
stored_among x i v (frame ∷ frames) = cond (has x frame) (stored_in x i v frame ∷ frames) (frame ∷ stored_among x i v frames)

-- the frames of the running call are changed
abbrev pub in_running : (List Frame → List Frame) → List (List Frame) → List (List Frame)
in_running f [] = []
in_running f (frames ∷ calls) = f frames ∷ calls

-- a number of a variable is replaced, in the running call's frames or else in the frame of the process
abbrev pub store : Environment → List ℕ → ℕ → ℤ → Environment
store env x i v =
    cond (list_any (has x) (running_frames env.calls))
    (record { globals = env.globals; calls = in_running (stored_among x i v) env.calls })
    (record { globals = stored_in x i v env.globals; calls = env.calls })

-- how many numbers a frame holds.
abbrev pub frame_words : Frame → ℕ
frame_words frame = sum_by (λ stored. length stored.values) frame

-- how many numbers these frames hold
abbrev pub frames_words : List Frame → ℕ
frames_words frames = sum_by frame_words frames

-- how many numbers an environment holds, in the frame of the process and in all calls
abbrev pub words : Environment → ℕ
words env = frame_words env.globals + sum_by frames_words env.calls

-- a block begins, and its frame is the innermost of the running call.
abbrev pub push_frame : Frame → Environment → Environment
push_frame frame env = record { globals = env.globals; calls = in_running (λ frames. frame ∷ frames) env.calls }

-- a list without its first element
abbrev pub rest_of : {A : Type 0} → List A → List A
rest_of [] = []
rest_of (x ∷ xs) = xs

-- a block ends, and its frame goes
abbrev pub pop_frame : Environment → Environment
pop_frame env = record { globals = env.globals; calls = in_running rest_of env.calls }

-- a call begins, with this frame
abbrev pub push_call : Frame → Environment → Environment
push_call frame env = record { globals = env.globals; calls = (frame ∷ []) ∷ env.calls }

-- the running call ends, and the one that called it goes on
abbrev pub pop_call : Environment → Environment
pop_call env = record { globals = env.globals; calls = rest_of env.calls }

-- the words of the process's own variables, in order
abbrev pub global_words : Environment → List ℤ
global_words env = flat_map (λ stored. stored.values) env.globals
