-- What is shown of a world, whatever the kind of its processes' states: of each process its variables, its open levels, the lines that it
-- holds and how it stands; of each channel what was sent, taken, can be seen and still has room; and each conversation.
use Rattle.std.specs.Prelude.{ℕ, zero, suc, ℤ, ◌+◌, ◌-◌, pos, Bool, cond, List, [], ◌∷◌, map, slice_get, Option, Some, None}
use Rattle.rb_base.specs.declared.place.Place.{Place}
use Rattle.rb_world.specs.Kind.{Ends, Kind}
use Rattle.rb_world.specs.World.{Level, Process, ProcessStatus, Running, Finished, FailedWith, Talk, World}
use Rattle.rb_world.specs.Channels.{room_from, seen_copy, seen_count}
use Rattle.rb_changes.specs.declared.noted.Numbers.{Numbers}
use Rattle.rb_changes.specs.declared.noted.OpenLevel.{OpenLevel}
use Rattle.rb_changes.specs.declared.noted.Stand.{Stand}
use Rattle.rb_changes.specs.declared.noted.Stand.TheVariants.{Runs, AtLine, Done, Failed}

-- What is read of a process for a picture, beside what turns ask of its kind: the words of its own variables, the turn of an entry by its
-- recovery point, and where in the text stands what is next.
pub record Reading (S C M : Type 0) : Type 0 where
  pub kind : Kind S C M
  pub words : S → List ℤ
  pub entered : M → C → ℕ
  pub place : Process S C → Option Place

-- how a process stands: a test line is told only of one that runs
abbrev pub stand_of : ProcessStatus → Bool → Stand
stand_of Running at_line = cond at_line AtLine Runs
stand_of Finished at_line = Done
stand_of (FailedWith cause) at_line = Failed cause

-- a process: its variables' words, its open levels from the outside in, the lines that it holds, and how it stands
pub record ProcessShown : Type 0 where
  pub words : List ℤ
  pub levels : List OpenLevel
  pub held : List (List ℕ)
  pub stand : Stand

-- a channel: its numbers, and the value that was sent last, 0 before the first
pub record ChannelShown : Type 0 where
  pub numbers : Numbers
  pub last : ℤ

-- all of a world
pub record WorldShown : Type 0 where
  pub processes : List ProcessShown
  pub channels : List ChannelShown
  pub talks : List Talk

-- a channel on which nothing was sent
abbrev pub unused : ℕ → ChannelShown
unused size = record { numbers = record { sent = 0; taken = 0; seen = 0; free = size }; last = pos 0 }

module _ {S C M : Type 0} (r : Reading S C M) where
  abbrev pub level_shown : M → Level C → OpenLevel
  level_shown m level = record {
    block = level.facts.number;
    alternate = level.alternate;
    used = level.used;
    entered = r.entered m level.copy;
  }

  abbrev pub process_shown : M → Process S C → ProcessShown
  process_shown m q = record {
    words = r.words q.state;
    levels = map (level_shown m) q.levels;
    held = r.kind.held q.state;
    stand = stand_of q.status q.at_line;
  }

  -- the value that was sent last on a channel, where so many were sent
  abbrev pub last_value : M → S → ℕ → ℕ → ℤ
  last_value m s c zero = pos 0
  last_value m s c (suc n) = r.kind.message m s c n

  -- a channel between two processes that are there
  abbrev pub channel_between : M → ℕ → ℕ → Process S C → Process S C → ChannelShown
  channel_between m c size p q = record {
    numbers = record {
      sent = r.kind.sent p.state c;
      taken = r.kind.taken q.state c;
      seen = seen_count r.kind p.state (seen_copy p.levels q.levels) c;
      free = size + room_from r.kind q.state q.levels c - r.kind.sent p.state c;
    };
    last = last_value m p.state c (r.kind.sent p.state c);
  }

  abbrev pub channel_of : M → ℕ → ℕ → Option (Process S C) → Option (Process S C) → ChannelShown
  channel_of m c size None q = unused size
  channel_of m c size (Some p) None = unused size
  channel_of m c size (Some p) (Some q) = channel_between m c size p q

  -- the channels from number c on
  abbrev pub channels_shown : World S C M → ℕ → List Ends → List ChannelShown
  channels_shown w c [] = []
  channels_shown w c (ends ∷ others) =
      channel_of w.memory c ends.size (slice_get w.processes ends.sender) (slice_get w.processes ends.receiver)
      ∷ channels_shown w (c + 1) others

  abbrev pub world_shown : World S C M → WorldShown
  world_shown w = record {
    processes = map (process_shown w.memory) w.processes;
    channels = channels_shown w 0 r.kind.channels;
    talks = w.talks;
  }
