-- Worlds: all processes with their open levels, the conversations, and the memory.
-- Levels with recovery points are from Horning, Lauer, Melliar-Smith, Randell (1974), and conversations from
-- Randell (1975).
use Rattle.std.specs.Prelude.{ℕ, zero, suc, nat_eq, Bool, false, List, [], ◌∷◌, map, slice_get, Option, Some, None}
use Rattle.std.specs.List.{list_any}
use Rattle.rb_base.specs.declared.event.Cause.{Cause}
use Rattle.rb_world.specs.Kind.{Facts, Kind, Want, NothingLeft, SendsOn, ReceivesOn, MayReceiveOn, Enters, Starts, Acts}

-- an open level: the recovery block, the alternate that is tried, the turns that it used, and the recovery point (1974)
pub record Level (C : Type 0) : Type 0 where
  pub facts : Facts
  pub alternate : ℕ
  pub used : ℕ
  pub copy : C

-- whether a process still runs, is done, or has failed, and then with which cause
pub data ProcessStatus : Type 0 where
  Running : ProcessStatus
  Finished : ProcessStatus
  FailedWith : (cause : Cause) → ProcessStatus

-- a process: its present state, its levels from the outside in, whether it stands at the test line of its innermost level
pub record Process (S C : Type 0) : Type 0 where
  pub state : S
  pub levels : List (Level C)
  pub at_line : Bool
  pub status : ProcessStatus

-- a conversation: its present alternate, and whether it is broken
pub record Talk : Type 0 where
  pub alternate : ℕ
  pub is_broken : Bool

-- a world: all processes, all conversations, and the memory that no recovery point holds
pub record World (S C M : Type 0) : Type 0 where
  pub processes : List (Process S C)
  pub talks : List Talk
  pub memory : M

-- a list with one element changed
abbrev pub change_at : {A : Type 0} → ℕ → (A → A) → List A → List A
change_at n f [] = []
change_at zero f (x ∷ xs) = f x ∷ xs
change_at (suc n) f (x ∷ xs) = x ∷ change_at n f xs

-- the last element, and the list without it
abbrev pub last_of : {A : Type 0} → List A → Option A
last_of [] = None
last_of (x ∷ []) = Some x
last_of (x ∷ y ∷ ys) = last_of (y ∷ ys)

-- the recovery point of a level, if there is one
abbrev pub copy_of : {C : Type 0} → Option (Level C) → Option C
copy_of None = None
copy_of (Some level) = Some level.copy

-- a list without its last element
abbrev pub without_last : {A : Type 0} → List A → List A
without_last [] = []
without_last (x ∷ []) = []
without_last (x ∷ y ∷ ys) = x ∷ without_last (y ∷ ys)

-- the number in an option is this one
abbrev pub is_number : Option ℕ → ℕ → Bool
is_number None c = false
is_number (Some d) c = nat_eq d c

-- both are of one conversation
abbrev pub is_shared : Option ℕ → Option ℕ → Bool
is_shared None d = false
is_shared (Some c) d = is_number d c

-- a level of this conversation
abbrev pub is_of : {C : Type 0} → ℕ → Level C → Bool
is_of c level = is_number level.facts.conversation c

-- inside a conversation is who has a level of it
abbrev pub is_inside : {S C : Type 0} → ℕ → Process S C → Bool
is_inside c q = list_any (is_of c) q.levels

-- the levels of a process, and none where there is no process.
abbrev pub levels_of : {S C : Type 0} → Option (Process S C) → List (Level C)
levels_of None = []
levels_of (Some q) = q.levels

-- the open levels of process number p, from the outside in
abbrev pub process_levels : {S C M : Type 0} → World S C M → ℕ → List (Level C)
process_levels w p = levels_of (slice_get w.processes p)

-- conversation number c, if there is one
abbrev pub talk_at : {S C M : Type 0} → World S C M → ℕ → Option Talk
talk_at w c = slice_get w.talks c

-- the world with one process, every process, or one conversation changed
abbrev pub with_process : {S C M : Type 0} → ℕ → (Process S C → Process S C) → World S C M → World S C M
with_process p f w = record { processes = change_at p f w.processes; talks = w.talks; memory = w.memory }

-- the world with every process changed
abbrev pub with_each : {S C M : Type 0} → (Process S C → Process S C) → World S C M → World S C M
with_each f w = record { processes = map f w.processes; talks = w.talks; memory = w.memory }

-- the world with its conversations changed
abbrev pub with_talks : {S C M : Type 0} → (List Talk → List Talk) → World S C M → World S C M
with_talks f w = record { processes = w.processes; talks = f w.talks; memory = w.memory }

-- the world with another memory
abbrev pub with_memory : {S C M : Type 0} → M → World S C M → World S C M
with_memory m w = record { processes = w.processes; talks = w.talks; memory = m }

-- a process that has nothing left is done
abbrev pub status_at : Want → ProcessStatus
status_at NothingLeft = Finished
status_at (SendsOn c) = Running
status_at (ReceivesOn c) = Running
status_at (MayReceiveOn c) = Running
status_at (Enters facts) = Running
status_at Starts = Running
status_at Acts = Running

-- a running process in this state, with these levels, away from every test line
abbrev pub goes_on : {S C M : Type 0} → Kind S C M → S → List (Level C) → Process S C
goes_on k s levels = record { state = s; levels = levels; at_line = false; status = status_at (k.want s) }

-- the same once it has settled by the recovery point that is innermost then, if a level is left
abbrev pub settled : {S C M : Type 0} → Kind S C M → S → List (Level C) → Process S C
settled k s levels = goes_on k (k.settle (copy_of (last_of levels)) s) levels
