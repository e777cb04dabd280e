-- How a program ends over files in memory, and what it leaves in places of so many bytes.
use Rattle.std.specs.Prelude.{◌≡◌, ℕ, List, [], Option, Some}
use Rattle.rb_outside.specs.Outside.{Faults, File, no_faults, went_well}
use Rattle.rb_hall.specs.Answers.{Scene}
use Rattle.rb_asking.specs.Views.{view_of}
use Rattle.rb_verdict.specs.Words.{request_for}
use Rattle.rb_tell.specs.Entrance.{RblEnds}
use Rattle.rb_tell.specs.declared.end.Telling.{Telling}
use Rattle.rb_show.specs.Entrance.{RblviewEnds}
use Rattle.rb_show.specs.Wished.{Carries, IsWished, Task}
use Rattle.rb_web.specs.Kept.{FailsWhenFull, KeptBytes, KeptTexts, no_fault}
use Rattle.rb_web.specs.declared.over_texts.Program.{Program}
use Rattle.rb_web.specs.declared.over_texts.Program.TheVariants as programs

-- How a program ends: from one scene to another, with what was told before and by then, and the faults of that; with this exit status, and
-- with this become of what was to be told.
abbrev pub Ending : Type 1
Ending = Scene → Scene → Option (List ℕ) → Option (List ℕ) → Faults → Faults → ℕ → Telling → Type 0

-- how each program ends for these words, over any shelf and any sinks
abbrev pub EndsOf : Program → List (List ℕ) → Ending
EndsOf programs.Rbl words = RblEnds words
EndsOf programs.Rblview words = RblviewEnds words

-- what these words ask each program for
abbrev pub IsAsked : Program → List (List ℕ) → Task → Type 0
IsAsked programs.Rbl words task = task ≡ Carries (request_for words)
IsAsked programs.Rblview words task = IsWished (view_of words) task

-- the scene of files and of a place in memory; no call of such files is a fault
abbrev pub scene_in : KeptTexts → KeptBytes → Scene
scene_in texts place = record {
  files = Some texts.files;
  starts = texts.starts;
  read_faults = no_fault texts;
  written = Some place.bytes;
  write_faults = place.faults;
}

-- a place, as if no call before had failed last
abbrev pub quiet : KeptBytes → KeptBytes
quiet place = record { room = place.room; bytes = place.bytes; faults = went_well place.faults }

-- what a program finds: these files, of which none was started, and nothing written
abbrev pub opening : List File → Scene
opening files = record { files = Some files; starts = []; read_faults = no_faults; written = Some []; write_faults = no_faults }

-- A program over files in memory ends as it does over any shelf and any sinks. No read fails but that of a file that is not there; and what is
-- written, and what is told, fails only once its place is full.
pub record EndsInMemory (EndsSo : Ending) (files : List File) (room reason_room : ℕ) (bytes told : List ℕ) (number : ℕ) (telling : Telling)
    : Type 0 where
  pub scene : Scene
  pub after : Faults
  pub files_stay : scene.files ≡ Some files
  pub reads_well : scene.read_faults.count ≡ 0
  pub wrote : scene.written ≡ Some bytes
  pub writes_well : FailsWhenFull room bytes scene.write_faults
  pub tells_well : FailsWhenFull reason_room told after
  pub ends : EndsSo (opening files) scene (Some []) (Some told) no_faults after number telling
