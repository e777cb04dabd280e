-- The word machine with copies, as a kind of process state: an entry copies all words of the process, and a rejection puts that copy
-- back (Horning, Lauer, Melliar-Smith, Randell 1974). Levels, test lines and channels are those of every kind.
use Rattle.std.specs.Prelude.{ℕ, ◌+◌, ℤ, pos, nat_eq, cond, List, [], ◌∷◌, ◌++◌, length, take, slice_get, slice_set, Option, Some, None}
use Rattle.rb_meaning.specs.Environment.{natural}
use Rattle.rb_world.specs.Kind.{Ends, Kind, Membership}
use Rattle.rb_world.specs.Slots.{slot_of}
use Rattle.rb_cache.specs.Copies.{accepted, change_last, entered}
use Rattle.rb_code.specs.Instructions.Plain.{Code}
use Rattle.rb_code.specs.WordMachine.Workspace.{cursor_place, cut_held, held_place, part_of, word_at}
use Rattle.rb_code.specs.WordMachine.Turn.{Common, Copy, Standing, settle, step, want}

-- the cursor of a channel among the words of process p
abbrev pub cursor_in : Code → ℕ → List ℤ → ℕ → ℕ
cursor_in c p words channel = natural (word_at words (cursor_place (part_of c p) channel))

-- how many values process p has sent on a channel with these ends: its cursor, if it is the sender
abbrev pub sent_by : Code → ℕ → List ℤ → ℕ → Option Ends → ℕ
sent_by c p words channel None = 0
sent_by c p words channel (Some ends) = cond (nat_eq ends.sender p) (cursor_in c p words channel) 0

-- how many it has taken, if it is the receiver
abbrev pub taken_by : Code → ℕ → List ℤ → ℕ → Option Ends → ℕ
taken_by c p words channel None = 0
taken_by c p words channel (Some ends) = cond (nat_eq ends.receiver p) (cursor_in c p words channel) 0

-- at the restart of the block that is entered, with nothing touched in its level
abbrev pub entered_at : Standing → Standing
entered_at s = record s { at = s.at + 2; touched = s.touched ++ entered (length s.words) ∷ [] }

abbrev pub copied : Standing → Copy
copied s = record { at = s.at; words = s.words; calls = s.calls; last_kept = s.last_kept }

-- a copy is put back, of the held lines those that were held at the entry stay, and nothing is touched in its level
abbrev pub restored : Standing → Copy → Standing
restored s copy = record {
  process = s.process;
  at = copy.at;
  words = copy.words;
  calls = copy.calls;
  last_kept = copy.last_kept;
  held = cut_held (natural (word_at copy.words held_place)) s.held;
  touched = change_last (λ level. entered level.height) s.touched;
}

-- held lines are released, and nothing is held
abbrev pub released : Standing → Standing
released s = record s { held = []; words = slice_set s.words held_place (pos 0) }

-- a turn is kept: it is the last one, and its link leads to the one before
abbrev pub kept : ℕ → ℕ → Standing → Common → Standing × Common
kept t alternate s memory = (
  record s { last_kept = t },
  record memory { links = record { turn = t; process = s.process; alternate = alternate; before = s.last_kept } ∷ memory.links },
)

-- the kind of state that code has, with these conversations
abbrev pub word_kind : Code → List Membership → Kind Standing Copy Common
word_kind c groups = record {
  channels = c.channels;
  groups = groups;
  want = want c;
  settle = settle c;
  enter = entered_at;
  copy = copied;
  restore = restored;
  cut = λ n s. record s { touched = take n s.touched };
  accept = λ s. record s { touched = accepted s.touched };
  step = step c;
  sent = λ s channel. sent_by c s.process s.words channel (slice_get c.channels channel);
  taken = λ s channel. taken_by c s.process s.words channel (slice_get c.channels channel);
  sent_then = λ s copy channel. sent_by c s.process copy.words channel (slice_get c.channels channel);
  taken_then = λ s copy channel. taken_by c s.process copy.words channel (slice_get c.channels channel);
  message = λ memory s channel n. slot_of c.channels memory.slots channel n;
  message_then = λ memory s copy channel n. slot_of c.channels memory.slots channel n;
  held = λ s. s.held;
  release = released;
  keep = kept;
}
