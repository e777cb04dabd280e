-- How the program ends: its exit status, what stands at its sink, and what standard error is told.
use Rattle.std.specs.Prelude.{◌≡◌, ℕ, List, [], codes, Option, Some}
use Rattle.rb_asking.specs.Guides.{view_guides}
use Rattle.rb_asking.specs.Misasked.{misasked_text, misnamed_text}
use Rattle.rb_asking.specs.Views.{View, Explains, view_of}
use Rattle.rb_reasons.specs.Names.{names}
use Rattle.rb_outside.specs.Outside.{Faults}
use Rattle.rb_hall.specs.Answers.{Scene}
use Rattle.rb_hall.specs.declared.outcome.Outcome.{Outcome}
use Rattle.rb_commands.specs.declared.why.Why.{Why}
use Rattle.rb_tell.specs.Entrance.{file_of, number_of, wrong_in}
use Rattle.rb_tell.specs.Telling.{TellsEnd}
use Rattle.rb_tell.specs.declared.end.Telling.{Telling}
use Rattle.rb_show.specs.Wished.{IsWished, Task, TaskEnds, request_of}

-- what was wrong with words that ask for this, and are shown the commands
abbrev pub view_wrong : List (List ℕ) → Option View → List ℕ
view_wrong words (Some (Explains (Some name))) = misnamed_text (codes "fault or cause") (codes "rblview") names name
view_wrong words view = misasked_text view_guides (codes "rblview") words

-- So `rblview` ends that carries this out, where this is what was wrong with words that are shown the commands: there is one end with this exit
-- status; it has its cause behind the buffer, comes where nothing outside stands in the way, and is told on standard error.
pub record ViewEnds (task : Task) (wrong : List ℕ) (old new : Scene) (told_old told_new : Option (List ℕ)) (told_before told_after : Faults)
    (number : ℕ) (telling : Telling) : Type 0 where
  pub outcome : Outcome Why
  pub is : number ≡ number_of (request_of task).command outcome
  pub ends : TaskEnds task old new outcome
  pub untouched : (request_of task).files ≡ [] → (new.starts ≡ old.starts) × (new.read_faults ≡ old.read_faults)
  pub tells : TellsEnd (codes "rblview") (wrong_in (request_of task).command wrong) (file_of (request_of task) outcome) outcome
      told_old told_new told_before told_after telling

-- so it ends for words that ask for this
abbrev pub WishedEnds : Option View → List ℕ → Scene → Scene → Option (List ℕ) → Option (List ℕ) → Faults → Faults → ℕ → Telling → Type 0
WishedEnds view wrong old new told_old told_new told_before told_after number telling =
    (task : Task) × IsWished view task × ViewEnds task wrong old new told_old told_new told_before told_after number telling

-- and so for these words
abbrev pub RblviewEnds : List (List ℕ) → Scene → Scene → Option (List ℕ) → Option (List ℕ) → Faults → Faults → ℕ → Telling → Type 0
RblviewEnds words = WishedEnds (view_of words) (view_wrong words (view_of words))
