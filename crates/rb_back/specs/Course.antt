-- A session: the turns of a run that were taken so far, and how many of them are shown. What a session shows is the run over the turns up to
-- its position. That going back is by undo is this project's own.
use Rattle.std.specs.Prelude.{◌≡◌, ◌<◌, ◌+◌, ◌-◌, ℕ, ℤ, nat_lt, cond, List, [], ◌∷◌, ◌++◌, length, slice_get, take, Some}
use Rattle.rb_base.specs.declared.event.State.{State}
use Rattle.rb_world.specs.Kind.{Membership}
use Rattle.rb_code.specs.Instructions.Plain.{Code}
use Rattle.rb_code.specs.WordMachine.WordRun.{WordWorld, word_run}
use Rattle.rb_recovery.specs.Reading.{states_of, variables_of}
use Rattle.rb_back.specs.Noting.{changed}

-- its code and conversations, how many turns it may take, the processes of those that it took, and its position among them
pub record Course : Type 0 where
  pub code : Code
  pub groups : List Membership
  pub turns : ℕ
  pub ran : List ℕ
  pub position : ℕ

-- before the first turn
abbrev pub opening_course : Code → List Membership → ℕ → Course
opening_course c groups turns = record { code = c; groups = groups; turns = turns; ran = []; position = 0 }

-- the world of the run over so many of its turns
abbrev pub world_at : Course → ℕ → WordWorld
world_at s n = (word_run s.code s.groups (take n s.ran)).0

-- how each process stands there, and the words of its variables
abbrev pub states_at : Course → ℕ → List State
states_at s n = states_of (world_at s n).processes

abbrev pub variables_at : Course → ℕ → List (List ℤ)
variables_at s n = variables_of s.code (world_at s n).processes

-- what it shows
abbrev pub shown_states : Course → List State
shown_states s = states_at s s.position

abbrev pub shown_variables : Course → List (List ℤ)
shown_variables s = variables_at s s.position

-- the world behind the last turn that was taken
abbrev pub farthest_world : Course → WordWorld
farthest_world s = (word_run s.code s.groups s.ran).0

-- A turn forth can be taken, of process number p: one that was taken before is again of the same process.
pub record MayStep (s : Course) (p : ℕ) : Type 0 where
  pub more : s.position < s.turns
  pub same : s.position < length s.ran → slice_get s.ran s.position ≡ Some p

-- one turn forth, which is new behind the last one that was taken; and one turn back
abbrev pub stepped : Course → ℕ → Course
stepped s p = record s { ran = cond (nat_lt s.position (length s.ran)) s.ran (s.ran ++ p ∷ []); position = s.position + 1 }

abbrev pub went_back : Course → Course
went_back s = record s { position = s.position - 1 }

-- how many words of variables the turn behind position n changed
abbrev pub changed_words : Course → ℕ → ℕ
changed_words s n = changed (variables_at s n) (variables_at s (n + 1))
