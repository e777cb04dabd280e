-- The journal of a session: the turns that were taken, each with what it changed.
use Rattle.std.specs.Prelude.{◌≡◌, ◌≤◌, ◌<◌, ◌+◌, ◌-◌, ◌^◌, ℕ, false, List, length, map, take, slice_range, sum_by, count_by}
use Rattle.rb_world.specs.Kind.{Membership}
use Rattle.rb_world.specs.Standing.{Each}
use Rattle.rb_code.specs.Instructions.Plain.{Code, Part}
use Rattle.rb_code.specs.WordMachine.WordRun.{word_run}
use Rattle.rb_recovery.specs.Known.{IsSoundFor}
use Rattle.rb_machine.specs.Machine.{Seen, opening_seen}
use Rattle.rb_recovery.specs.Reading.{states_of, variables_of}
use Rattle.rb_back.specs.declared.session.Turn.{Turn}
use Rattle.rb_back.specs.declared.view.Change.{Change}
use Rattle.rb_back.specs.Course.{Course}
use Rattle.rb_back.specs.Noting.{changed}
use Rattle.rb_back.specs.Picture.{Picture, is_word, redone_all, undone_all}

-- the processes of turns
abbrev pub processes_of : List Turn → List ℕ
processes_of turns = map (λ (turn : Turn). turn.process) turns

-- a session as contracts see it
abbrev pub course_of : Seen → List Turn → ℕ → Course
course_of m turns position = record { code = m.code; groups = m.groups; turns = m.most; ran = processes_of turns; position = position }

-- the machine behind these turns, which holds no links
abbrev pub machine_behind : Code → List Membership → ℕ → List ℕ → Seen
machine_behind c groups most ran = record (opening_seen c groups false most) { world = (word_run c groups ran).0; taken = length ran }

-- what the run over these turns shows
abbrev pub picture_after : Code → List Membership → List ℕ → Picture
picture_after c groups ran = record {
  states = states_of (word_run c groups ran).0.processes;
  words = variables_of c (word_run c groups ran).0.processes;
}

-- What a turn changed lies among all changes. Made again it leads from what is shown before the turn to what is shown after it, and taken
-- back it leads from there to what is shown before. It names at most as many words as the turn changed.
pub record IsNoted (changes : List Change) (turn : Turn) (before after : Picture) : Type 0 where
  pub ordered : turn.from ≤ turn.to
  pub within : turn.to ≤ length changes
  pub forth : redone_all (slice_range changes turn.from turn.to) before ≡ after
  pub back : undone_all (slice_range changes turn.from turn.to) after ≡ before
  pub few : count_by is_word (slice_range changes turn.from turn.to) ≤ changed before.words after.words

-- so is each turn
abbrev pub AreNoted : Code → List Membership → List Turn → List Change → Type 0
AreNoted c groups turns changes =
    Each (λ n turn. IsNoted changes turn (picture_after c groups (take n (processes_of turns)))
    (picture_after c groups (take (n + 1) (processes_of turns)))) turns

-- how many words the variables of all processes have
abbrev pub words_of : Code → ℕ
words_of c = sum_by (λ (part : Part). part.words) c.processes

-- What a session keeps: its code is sound, the machine stands behind the last turn, what is shown is the run up to the position, each turn
-- is noted, and there is room for all turns that may come. It knows how many changes a turn can make.
pub record IsKept (m : Seen) (shown : Picture) (turns : List Turn) (capacity : ℕ) (changes : List Change) (most_changed position : ℕ)
    : Type 0 where
  pub sound : IsSoundFor m.code m.groups
  pub stands : m ≡ machine_behind m.code m.groups m.most (processes_of turns)
  pub within : position ≤ length turns
  pub few : length turns ≤ m.most
  pub most_few : m.most < 2 ^ 32 - 1
  pub room : m.most ≤ capacity
  pub shows : shown ≡ picture_after m.code m.groups (take position (processes_of turns))
  pub noted : AreNoted m.code m.groups turns changes
  pub most_changes : most_changed ≡ length m.code.processes + words_of m.code
