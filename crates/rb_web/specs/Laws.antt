-- What an end over files in memory says of the verdict on their texts.
use Rattle.std.specs.Prelude.{◌≡◌, ◌⊎◌, ◌≤◌, ℕ, List, [], length, take}
use Rattle.rb_outside.specs.Outside.{File}
use Rattle.rb_hall.specs.Complete.{AreStored}
use Rattle.rb_hall.specs.Judgement.{EndsBy, Judgement, ReadsOn, RefusedWith, Writes, line_of}
use Rattle.rb_verdict.specs.Words.{Command}
use Rattle.rb_tell.specs.Entrance.{done_number}
use Rattle.rb_tell.specs.declared.end.Telling.{Telling}
use Rattle.rb_show.specs.Wished.{Task, judges_of, request_of}
use Rattle.rb_web.specs.Ending.{EndsInMemory, EndsOf, IsAsked}
use Rattle.rb_web.specs.declared.over_texts.Program.{Program}

-- what is to be written for a judgement: its text, or the line of the refusal
abbrev pub written_for : Judgement → List ℕ
written_for ReadsOn = []
written_for (RefusedWith fault) = line_of fault
written_for (Writes text) = text

-- the exit status where that is written whole; no call ends with the wish for a further file
abbrev pub IsStatusOf : Command → Judgement → ℕ → Type 0
IsStatusOf command ReadsOn number = ⊥
IsStatusOf command (RefusedWith fault) number = number ≡ 1
IsStatusOf command (Writes text) number = number ≡ done_number command

-- all of it is written, and the exit status is that of the judgement
abbrev pub IsWhole : Command → Judgement → List ℕ → ℕ → Type 0
IsWhole command judgement bytes number = (bytes ≡ written_for judgement) × IsStatusOf command judgement number

-- The place was too small for it: as much as there is room for is written, and the exit status says so.
pub record IsCut (room : ℕ) (judgement : Judgement) (bytes : List ℕ) (number : ℕ) : Type 0 where
  pub too_small : room ≤ length (written_for judgement)
  pub front : bytes ≡ take room (written_for judgement)
  pub says : number ≡ 4

-- What is carried out ends so over these texts: memory was wanting, or the verdict on them is written, whole, or cut where the place was too small.
abbrev pub EndsOverTexts : Task → List (List ℕ) → ℕ → List ℕ → ℕ → Type 0
EndsOverTexts task texts room bytes number =
    (number ≡ 5)
    ⊎ ((judgement : Judgement) × EndsBy (judges_of task) [] texts judgement
    × (IsWhole (request_of task).command judgement bytes number ⊎ IsCut room judgement bytes number))

-- Of a program over files in memory: where all the files stand there that its words name, it ends over their texts. So what is written is
-- never a part that passes for the whole, and where there is room for more than is to be written, it is written whole.
abbrev pub TextsDecide : Type 0
TextsDecide =
    (program : Program) (words : List (List ℕ)) (files : List File) (room reason_room : ℕ) (bytes told : List ℕ) (number : ℕ) (telling : Telling)
    → EndsInMemory (EndsOf program words) files room reason_room bytes told number telling
    → (task : Task) × IsAsked program words task
    × ((texts : List (List ℕ)) → AreStored files (request_of task).files texts → EndsOverTexts task texts room bytes number)
