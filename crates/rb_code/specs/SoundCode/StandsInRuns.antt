-- A process of a run stands in the table of sound code: between two turns, at a test line, and from the copy of each of its levels.
use Rattle.std.specs.Prelude.{◌≡◌, ℕ, ◌+◌, ◌≤◌, Bool, true, false, List, [], ◌∷◌, length, map, reverse, slice_get, Some}
use Rattle.rb_meaning.specs.Step.{most_calls}
use Rattle.rb_world.specs.World.{Level, ProcessStatus, Running, Finished, FailedWith, Process, without_last}
use Rattle.rb_cache.specs.Copies.{accepted}
use Rattle.rb_code.specs.Instructions.Plain.{Code}
use Rattle.rb_code.specs.WordMachine.Workspace.{base_of, part_of}
use Rattle.rb_code.specs.WordMachine.Turn.{Copy, Standing}
use Rattle.rb_code.specs.SoundCode.Sound.{Entry, Table}
use Rattle.rb_code.specs.SoundCode.Safe.{IsThere}
use Rattle.rb_code.specs.SoundCode.Stands.{BodyFits, Levels, Opened, Settles, Stands, height_of, inside_out}
use Rattle.rb_code.specs.declared.instr.Instr.TheVariants.{Turn}

-- the copy of a level stands, with the level and those around it
pub record Recovers (c : Code) (t : Table) (p : ℕ) (around : Levels) (level : Opened) : Type 0 where
  pub entry : Entry
  pub there : t level.copy.at ≡ Some entry
  pub restart : slice_get c.instrs level.copy.at ≡ Some Turn
  pub words_are : height_of level ≡ base_of (part_of c p) level.copy.calls + entry.words
  pub calls_few : length level.copy.calls ≤ most_calls
  pub body : BodyFits c t p level.copy.calls entry.within entry.blocks (level ∷ around)

abbrev pub AllRecover : Code → Table → ℕ → Levels → Type 0
AllRecover c t p [] = Unit {0}
AllRecover c t p (level ∷ around) = Recovers c t p around level × AllRecover c t p around

-- where a process stands by its status and whether it is at a test line: one at a line settles once its innermost level is accepted, and
-- of one that has failed nothing is asked
abbrev pub StandsNow : Code → Table → ProcessStatus → Bool → Standing → List (Level Copy) → Type 0
StandsNow c t (FailedWith cause) at_line s levels = at_line ≡ false
StandsNow c t Running false s levels = Stands c t s levels
StandsNow c t Finished false s levels = Stands c t s levels
StandsNow c t Running true s levels = Settles c t (record s { touched = accepted s.touched }) (without_last levels)
StandsNow c t Finished true s levels = Settles c t (record s { touched = accepted s.touched }) (without_last levels)

-- a process stands, and so does each of its copies
pub record ProcessStands (c : Code) (t : Table) (q : Process Standing Copy) : Type 0 where
  pub exists : IsThere (slice_get c.processes q.state.process)
  pub recovers : AllRecover c t q.state.process (inside_out q.levels)
  pub heights : map (λ level. level.height) q.state.touched ≡ reverse (map height_of (inside_out q.levels))
  pub now : StandsNow c t q.status q.at_line q.state q.levels
