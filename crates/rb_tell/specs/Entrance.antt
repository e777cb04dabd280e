-- How a program ends: its exit status, what stands at its sink, and what standard error is told.
use Rattle.std.specs.Prelude.{◌≡◌, ℕ, List, [], slice_get, codes, Option, Some, None}
use Rattle.rb_asking.specs.Guides.{command_guides}
use Rattle.rb_asking.specs.Misasked.{misasked_text}
use Rattle.rb_outside.specs.Outside.{Faults}
use Rattle.rb_hall.specs.Answers.{Scene}
use Rattle.rb_hall.specs.Ending.{EndsBehind}
use Rattle.rb_hall.specs.Judgement.{Explaining, Wants}
use Rattle.rb_hall.specs.declared.outcome.Outcome.{Outcome}
use Rattle.rb_hall.specs.declared.outcome.Outcome.TheVariants as out
use Rattle.rb_verdict.specs.Judging.{JudgesWithin, TakesWhileWriting}
use Rattle.rb_verdict.specs.Words.{Command, Usage, Request, request_for}
use Rattle.rb_commands.specs.Requests.{explains_of}
use Rattle.rb_commands.specs.declared.why.Why.{Why}
use Rattle.rb_tell.specs.Telling.{TellsEnd}
use Rattle.rb_tell.specs.declared.end.Telling.{Telling}

-- the exit status where what was to be written is written: 2 for the line that shows the commands, which comes where words ask for nothing
abbrev pub done_number : Command → ℕ
done_number (Usage line) = 2
done_number command = 0

-- the exit status of each end
abbrev pub number_of : Command → Outcome Why → ℕ
number_of command out.Done = done_number command
number_of command (out.Refused refusal) = 1
number_of command (out.ReadFault number) = 3
number_of command out.WriteFault = 4
number_of command out.Memory = 5

-- the file that an end is about: that of a refusal, or the one that was not read
abbrev pub file_of : Request → Outcome Why → Option Wants
file_of request (out.Refused refusal) = slice_get request.files refusal.number
file_of request (out.ReadFault number) = slice_get request.files number
file_of request outcome = None

-- what was wrong with the words, where they ask for nothing
abbrev pub wrong_in : Command → List ℕ → Option (List ℕ)
wrong_in (Usage line) wrong = Some wrong
wrong_in command wrong = None

-- A program that carries out this request ends so, where this is what was wrong with words that ask for nothing: there is one end with this exit
-- status; it has its cause behind the buffer, comes where nothing outside stands in the way, and is told on standard error.
pub record ProgramEndsSo (explains : Command → Explaining Why) (program : List ℕ) (request : Request) (wrong : List ℕ) (old new : Scene)
    (told_old told_new : Option (List ℕ)) (told_before told_after : Faults) (number : ℕ) (telling : Telling) : Type 0 where
  pub outcome : Outcome Why
  pub is : number ≡ number_of request.command outcome
  pub ends : EndsBehind (JudgesWithin request) (explains request.command) request.files (TakesWhileWriting request.command) old new outcome
  pub untouched : request.files ≡ [] → (new.starts ≡ old.starts) × (new.read_faults ≡ old.read_faults)
  pub tells : TellsEnd program (wrong_in request.command wrong) (file_of request outcome) outcome told_old told_new told_before told_after telling

-- so a program ends whose commands are those of `rbl`
abbrev pub ProgramEnds : List ℕ → Request → List ℕ → Scene → Scene → Option (List ℕ) → Option (List ℕ) → Faults → Faults → ℕ → Telling → Type 0
ProgramEnds = ProgramEndsSo explains_of

-- and so `rbl` ends for these words
abbrev pub RblEnds : List (List ℕ) → Scene → Scene → Option (List ℕ) → Option (List ℕ) → Faults → Faults → ℕ → Telling → Type 0
RblEnds words = ProgramEnds (codes "rbl") (request_for words) (misasked_text command_guides (codes "rbl") words)
