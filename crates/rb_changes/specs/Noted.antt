-- What is kept in mind of a world until the next turn: as much of what is shown as lines are compared by.
use Rattle.std.specs.Prelude.{ℕ, ℤ, ◌-◌, ◌<◌, ◌^◌, List, length, map}
use Rattle.rb_world.specs.World.{Talk}
use Rattle.rb_changes.specs.Shown.{ProcessShown, WorldShown}
use Rattle.rb_changes.specs.declared.noted.Numbers.{Numbers}
use Rattle.rb_changes.specs.declared.noted.OpenLevel.{OpenLevel}
use Rattle.rb_changes.specs.declared.noted.ProcessWas.{ProcessWas}
use Rattle.rb_changes.specs.declared.noted.Stand.{Stand}
use Rattle.rb_changes.specs.declared.noted.TalkNoted.{TalkNoted}

-- of a process: its words, its open levels, how many lines it holds, and how it stands
pub record ProcessNoted : Type 0 where
  pub words : List ℤ
  pub levels : List OpenLevel
  pub held : ℕ
  pub stand : Stand

pub record WorldNoted : Type 0 where
  pub processes : List ProcessNoted
  pub channels : List Numbers
  pub talks : List Talk

abbrev pub process_noted : ProcessShown → ProcessNoted
process_noted p = record { words = p.words; levels = p.levels; held = length p.held; stand = p.stand }

abbrev pub world_noted : WorldShown → WorldNoted
world_noted w = record {
  processes = map process_noted w.processes;
  channels = map (λ channel. channel.numbers) w.channels;
  talks = w.talks;
}

-- a conversation in memory
abbrev pub talk_of : TalkNoted → Talk
talk_of one = record { alternate = one.alternate; is_broken = one.is_broken }

-- a process in memory
abbrev pub noted_of : ProcessWas → ProcessNoted
noted_of was = record { words = was.words.items; levels = was.levels.items; held = was.held; stand = was.stand }

-- and as it is shown, with the lines that it holds
abbrev pub shown_with : List (List ℕ) → ProcessWas → ProcessShown
shown_with held now = record { words = now.words.items; levels = now.levels.items; held = held; stand = now.stand }

-- its levels and its lines are so few that one more could be counted
abbrev pub IsCountable : ProcessWas → Type 0
IsCountable was = (length was.levels.items < 2 ^ 32 - 1) × (was.held < 2 ^ 32 - 1)
