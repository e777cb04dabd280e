-- Worlds that differ in nothing but the turns that levels used.
use Rattle.std.specs.Prelude.{◌≡◌, List, map}
use Rattle.rb_world.specs.World.{Level, Process, World}

-- a level, a process and a world without the turns that they used
abbrev pub unused : {C : Type 0} → Level C → Level C
unused level = record { facts = level.facts; alternate = level.alternate; used = 0; copy = level.copy }

abbrev pub uncounted : {S C : Type 0} → Process S C → Process S C
uncounted q = record { state = q.state; levels = map unused q.levels; at_line = q.at_line; status = q.status }

abbrev pub all_uncounted : {S C : Type 0} → List (Process S C) → List (Process S C)
all_uncounted processes = map uncounted processes

-- both are the same without them
pub record IsAlike {S C M : Type 0} (w v : World S C M) : Type 0 where
  pub processes : all_uncounted w.processes ≡ all_uncounted v.processes
  pub talks : w.talks ≡ v.talks
  pub memory : w.memory ≡ v.memory
