-- What the word machine works on: the words of a process, with whole copies of them at the entries of its open levels, and its open
-- calls, its line and its counters. Word 0 is the held length, then comes a cursor for each channel of the process in order, then its
-- variables, and then the words of its calls.
use Rattle.std.specs.Prelude.{ℕ, suc, ◌+◌, ◌-◌, ℤ, pos, cond, nat_eq, nat_le, List, [], ◌∷◌, ◌++◌, length, take, replicate, slice_get, slice_set, Option, None}
use Rattle.std.specs.Option.{unwrap_or}
use Rattle.rb_world.specs.Slots.{Slots}
use Rattle.rb_cache.specs.Copies.{Level as Touched, change_last, joined}
use Rattle.rb_code.specs.Instructions.Plain.{Code, Part}

-- an open call: the address behind its `call`, and where its words begin
pub record OpenCall : Type 0 where
  pub back : ℕ
  pub base : ℕ

-- a counter of a quantified expression: the number that it stands at, and the last one
pub record Counting : Type 0 where
  pub now : ℤ
  pub end : ℤ

-- What a process can recover, and what it works on within a turn. Calls stand with the running one first. Of each open level, from the
-- outermost in, it is known how many words there were at its entry, and which of them were touched in it.
pub record Workspace : Type 0 where
  pub words : List ℤ
  pub calls : List OpenCall
  pub held : List (List ℕ)
  pub touched : List Touched
  pub slots : Slots
  -- within a turn alone: the pieces of the line, and the two counters
  pub pieces : List (List ℕ)
  pub counters : List (Option Counting)

-- no counter is set
abbrev pub no_counters : List (Option Counting)
no_counters = None ∷ None ∷ []

-- a word by its place; a place that no sound code names holds 0
abbrev pub word_at : List ℤ → ℕ → ℤ
word_at words at = unwrap_or (slice_get words at) (pos 0)

-- the place of the held length
abbrev pub held_place : ℕ
held_place = 0

-- a channel's place in a list of channels
abbrev pub place_among : ℕ → List ℕ → ℕ
place_among c [] = 0
place_among c (d ∷ others) = cond (nat_eq d c) 0 (suc (place_among c others))

-- the place of the cursor of a channel of the process
abbrev pub cursor_place : Part → ℕ → ℕ
cursor_place part c = 1 + place_among c part.channels

-- where the variables of a process begin
abbrev pub variables_place : Part → ℕ
variables_place part = 1 + length part.channels

-- where the words of the main body begin
abbrev pub body_place : Part → ℕ
body_place part = variables_place part + part.words

-- where the words of the running call begin; the main body counts as one
abbrev pub base_of : Part → List OpenCall → ℕ
base_of part [] = body_place part
base_of part (call ∷ calls) = call.base

-- a part of a process that the code does not have
abbrev pub no_part : Part
no_part = record { start = 0; words = 0; channels = []; procedures = [] }

-- the part of process number p
abbrev pub part_of : Code → ℕ → Part
part_of c p = unwrap_or (slice_get c.processes p) no_part

-- other words
abbrev pub with_words : List ℤ → Workspace → Workspace
with_words words m = record m { words = words }

-- A word is written, which touches its place in the innermost level, if the word was there at its entry.
abbrev pub written : ℕ → ℤ → Workspace → Workspace
written at value m = record m { words = slice_set m.words at value; touched = change_last (joined (at ∷ [])) m.touched }

-- so many words more, each 0
abbrev pub framed : ℕ → Workspace → Workspace
framed n m = with_words (m.words ++ replicate n (pos 0)) m

-- so many words fewer
abbrev pub dropped : ℕ → Workspace → Workspace
dropped n m = with_words (take (length m.words - n) m.words) m

-- a call is opened, with its arguments and so many zeros
abbrev pub called : ℕ → List ℤ → ℕ → Workspace → Workspace
called back arguments n m = record m {
  words = m.words ++ (arguments ++ replicate n (pos 0));
  calls = record { back = back; base = length m.words } ∷ m.calls;
}

-- the running call ends, and its words go
abbrev pub ended : OpenCall → List OpenCall → Workspace → Workspace
ended call calls m = record m { words = take call.base m.words; calls = calls }

-- the first held lines that have so many bytes in all
abbrev pub cut_held : ℕ → List (List ℕ) → List (List ℕ)
cut_held n [] = []
cut_held n (line ∷ lines) = cond (nat_le (length line + 1) n) (line ∷ cut_held (n - (length line + 1)) lines) []
