-- A file as it is read, piece after piece.
use Rattle.std.specs.Prelude.{◌≡◌, ◌<◌, ◌≤◌, ◌+◌, ℕ, nat_eq, Bool, true, false, List, ◌∷◌, length, take, Option, Some, None, Result, Ok, Err}
use Rattle.rb_outside.specs.Outside.{File, Faults, Start, HasMore, begun, bytes_of, named, failed_once, was_missing}
use Rattle.rb_hall.specs.Answers.{IsRead, piece_bytes}
use Rattle.rb_hall.specs.declared.read.Unread.{Unread}
use Rattle.rb_hall.specs.declared.read.Unread.TheVariants.{Fault, Memory}

-- one fact where the error is a fault of the shelf, another where memory is wanting
abbrev pub OnUnread : {T : Type 0} → Result T Unread → Type 0 → Type 0 → Type 0
OnUnread (Ok bytes) fault memory = Unit {0}
OnUnread (Err Fault) fault memory = fault
OnUnread (Err Memory) fault memory = memory

-- these bytes are the front of the file of this name; its start is the newest, after the others, and so far it was read, its end told or not
pub record HasFront (files : List File) (name bytes : List ℕ) (ended : Bool) (others now : List Start) : Type 0 where
  pub all : List ℕ
  pub stored : bytes_of files name ≡ Some all
  pub front : bytes ≡ take (length bytes) all
  pub within : length bytes ≤ length all
  pub started : now ≡ record { file = Some name; passed = length bytes; went = true; ended = ended } ∷ others

-- before the end was told, where files are told; else a file is open whose end was not told
abbrev pub HasFrontIn : Option (List File) → List ℕ → List ℕ → List Start → List Start → Type 0
HasFrontIn None name bytes others now = HasMore now
HasFrontIn (Some files) name bytes others now = HasFront files name bytes false others now

-- the file of this name is open, and no more than so many bytes of it were passed; its start is the newest, after the others
pub record StandsAt (files : List File) (name : List ℕ) (furthest : ℕ) (others now : List Start) : Type 0 where
  pub passed : ℕ
  pub ended : Bool
  pub not_far : passed ≤ furthest
  pub started : now ≡ record { file = named files name; passed = passed; went = true; ended = ended } ∷ others

-- the same, where files are told
abbrev pub StandsAtIn : Option (List File) → List ℕ → ℕ → List Start → List Start → Type 0
StandsAtIn None name furthest others now = Unit {0}
StandsAtIn (Some files) name furthest others now = StandsAt files name furthest others now

-- A piece of n bytes more was read: what was the front of a file still is, and where n is 0 it is all of it, and its end was told.
abbrev pub ReadOn : Option (List File) → List Start → List Start → List ℕ → List ℕ → ℕ → Type 0
ReadOn None old new before after n = 0 < n → HasMore new
ReadOn (Some files) old new before after n =
    (name : List ℕ) (others : List Start) → HasFront files name before false others old
    → HasFront files name after (nat_eq n 0) others new × (n ≡ 0 → IsWhole files name after)
  where
    IsWhole : List File → List ℕ → List ℕ → Type 0
    IsWhole files name bytes = (all : List ℕ) → bytes_of files name ≡ Some all → length bytes ≡ length all

-- A piece was passed that there was no memory for: what was the front of a file is less than a piece behind.
abbrev pub PassedOn : Option (List File) → List Start → List Start → List ℕ → Type 0
PassedOn None old new before = Unit {0}
PassedOn (Some files) old new before =
    (name : List ℕ) (others : List Start) → HasFront files name before false others old → StandsAt files name (length before + piece_bytes) others new

-- a file was read whole, or to above the most that is taken
pub record WasRead (files : List File) (name : List ℕ) (most : ℕ) (bytes : List ℕ) (others now : List Start) : Type 0 where
  pub all : List ℕ
  pub stored : bytes_of files name ≡ Some all
  pub front : bytes ≡ take (length bytes) all
  pub ended : Bool
  pub read : IsRead most all (length bytes) ended
  pub started : now ≡ record { file = Some name; passed = length bytes; went = true; ended = ended } ∷ others

-- the same, where files are told
abbrev pub WasReadIn : Option (List File) → List ℕ → ℕ → List ℕ → List Start → List Start → Type 0
WasReadIn None name most bytes others now = Unit {0}
WasReadIn (Some files) name most bytes others now = WasRead files name most bytes others now

-- a fault stopped the reading of a file: at its start, or since no file has the name, or at a piece
pub data StopsForFault (files : List File) (name : List ℕ) (most : ℕ) (old new : List Start) (before after : Faults) : Type 0 where
  at_start : after ≡ failed_once before → new ≡ begun files name false ∷ old → StopsForFault files name most old new before after
  missing : after ≡ was_missing before → bytes_of files name ≡ None → new ≡ begun files name false ∷ old
      → StopsForFault files name most old new before after
  within : after ≡ failed_once before → StandsAt files name (most + piece_bytes) old new → StopsForFault files name most old new before after

-- a fault stopped the reading of a file: where no files are told, it was counted
abbrev pub StopsForFaultIn : Option (List File) → List ℕ → ℕ → List Start → List Start → Faults → Faults → Type 0
StopsForFaultIn None name most old new before after = after ≡ failed_once before
StopsForFaultIn (Some files) name most old new before after = StopsForFault files name most old new before after

-- want of memory stopped the reading of a file that is open
abbrev pub StopsForMemory : Option (List File) → List ℕ → ℕ → List Start → List Start → Faults → Faults → Type 0
StopsForMemory files name most old new before after =
    (after.count ≡ before.count) × StandsAtIn files name (most + piece_bytes) old new
