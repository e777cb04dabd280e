-- What is kept in mind of a program from one turn to the next.
use Rattle.std.specs.Prelude.{◌≡◌, ◌≤◌, ℕ, List, [], map, length, vec_capacity}
use Rattle.rb_world.specs.Kind.{Ends}
use Rattle.rb_world.specs.Standing.{Each}
use Rattle.rb_world.specs.World.{Talk}
use Rattle.rb_base.specs.declared.limits.TheConstants.{MOST_HELD_BYTES, MOST_OPEN_LEVELS}
use Rattle.rb_base.specs.declared.event.TurnKind.{TurnKind}
use Rattle.rb_base.specs.declared.event.TurnKind.TheVariants.{Undone}
use Rattle.rb_world.specs.Text.{ProcessNaming}
use Rattle.rb_changes.specs.Changes.{all_back}
use Rattle.rb_changes.specs.Noted.{ProcessNoted, WorldNoted, noted_of, talk_of}
use Rattle.rb_changes.specs.Shown.{ProcessShown, unused}
use Rattle.rb_changes.specs.declared.noted.Numbers.{Numbers}
use Rattle.rb_changes.specs.declared.noted.ProcessWas.{ProcessWas}
use Rattle.rb_changes.specs.declared.noted.TalkNoted.{TalkNoted}
use Rattle.rb_view.specs.declared.was.Noted.{Noted}

-- processes and conversations in memory
abbrev pub processes_noted : List ProcessWas → List ProcessNoted
processes_noted all = map noted_of all

abbrev pub talks_noted : List TalkNoted → List Talk
talks_noted all = map talk_of all

-- a program in memory
abbrev pub noted : Noted → WorldNoted
noted one = record {
  processes = processes_noted one.processes.items;
  channels = one.channels.items;
  talks = talks_noted one.talks.items;
}

-- how many words a process has that is kept in mind
abbrev pub words_long : ProcessNoted → ℕ
words_long one = length one.words

-- a channel before the opening
abbrev pub first_numbers : Ends → Numbers
first_numbers ends = (unused ends.size).numbers

-- which processes a turn put back, as they are shown
abbrev pub back_shown : TurnKind → ℕ → List ProcessNaming → List ProcessNoted → List ProcessShown → List ℕ
back_shown Undone t names before after = all_back t names before after
back_shown _ t names before after = []

-- A process in memory can have all levels that one may have, and has no more levels and lines than one may have.
pub record IsReady (one : ProcessWas) : Type 0 where
  pub room : MOST_OPEN_LEVELS ≤ vec_capacity one.levels
  pub levels : length one.levels.items ≤ MOST_OPEN_LEVELS
  pub held : one.held ≤ MOST_HELD_BYTES

abbrev pub AreReady : List ProcessWas → Type 0
AreReady all = Each (λ _ (one : ProcessWas). IsReady one) all

-- twice the same in memory
pub record IsKept (told now : Noted) : Type 0 where
  pub same : noted now ≡ noted told
  pub told_ready : AreReady told.processes.items
  pub now_ready : AreReady now.processes.items
