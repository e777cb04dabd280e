-- The commands, the files that they read, and the words that ask for them. All of it is this project's own.
use Rattle.std.specs.Prelude.{◌≡◌, ℕ, List, [], ◌∷◌, map, codes, unwrap_or, option_map}
use Rattle.rb_base.specs.declared.limits.TheConstants.{MOST_BYTES}
use Rattle.rb_hall.specs.Judgement.{Wants}
use Rattle.rb_asking.specs.Commands.{Asked, asked_of}
use Rattle.rb_asking.specs.Commands as given
use Rattle.rb_verdict.specs.declared.limits.TheConstants.{MOST_IMAGE}

-- a command, with what its words give it beside files
pub data Command : Type 0 where
  Run : Command
  Survive : Command
  Replay : Command
  Check : Command
  ListCode : Command
  Trial : (number : ℕ) → Command
  Session : Command
  Analyse : Command
  Survey : Command
  Compile : Command
  Load : Command
  Trace : Command
  Page : Command
  Explain : (text : List ℕ) → Command
  Usage : (line : List ℕ) → Command

-- a command with the files that it reads, in their order
pub record Request : Type 0 where
  pub command : Command
  pub files : List Wants

-- how many files a command reads
abbrev pub files_of : Command → ℕ
files_of Run = 2
files_of Survive = 2
files_of Replay = 2
files_of Check = 1
files_of ListCode = 1
files_of (Trial number) = 0
files_of Session = 3
files_of Analyse = 1
files_of Survey = 2
files_of Compile = 1
files_of Load = 2
files_of Trace = 2
files_of Page = 3
files_of (Explain text) = 0
files_of (Usage line) = 0

-- how many bytes each of them may have, in their order
abbrev pub limits_of : Command → List ℕ
limits_of Run = MOST_BYTES ∷ MOST_BYTES ∷ []
limits_of Survive = MOST_BYTES ∷ MOST_BYTES ∷ []
limits_of Replay = MOST_BYTES ∷ MOST_BYTES ∷ []
limits_of Check = MOST_BYTES ∷ []
limits_of ListCode = MOST_BYTES ∷ []
limits_of (Trial number) = []
limits_of Session = MOST_BYTES ∷ MOST_BYTES ∷ MOST_BYTES ∷ []
limits_of Analyse = MOST_BYTES ∷ []
limits_of Survey = MOST_BYTES ∷ MOST_BYTES ∷ []
limits_of Compile = MOST_BYTES ∷ []
limits_of Load = MOST_IMAGE ∷ MOST_BYTES ∷ []
limits_of Trace = MOST_BYTES ∷ MOST_BYTES ∷ []
limits_of Page = MOST_BYTES ∷ MOST_BYTES ∷ MOST_BYTES ∷ []
limits_of (Explain text) = []
limits_of (Usage line) = []

-- a request names the files of its command, each with its limit
abbrev pub HasItsFiles : Request → Type 0
HasItsFiles request = map (λ file. file.most) request.files ≡ limits_of request.command

-- a file that holds a text
abbrev pub text_named : List ℕ → Wants
text_named name = record { name = name; most = MOST_BYTES }

-- and one that holds a compiled image
abbrev pub image_named : List ℕ → Wants
image_named name = record { name = name; most = MOST_IMAGE }

-- a run of the source under one name over the schedule under another
abbrev pub run_of : List ℕ → List ℕ → Request
run_of source schedule = record { command = Run; files = text_named source ∷ text_named schedule ∷ [] }

-- the survivors of that run
abbrev pub survive_of : List ℕ → List ℕ → Request
survive_of source schedule = record { command = Survive; files = text_named source ∷ text_named schedule ∷ [] }

-- the plain run of the source under one name, of the record under another
abbrev pub plain_of : List ℕ → List ℕ → Request
plain_of source kept = record { command = Replay; files = text_named source ∷ text_named kept ∷ [] }

-- a check of the source under a name
abbrev pub check_of : List ℕ → Request
check_of source = record { command = Check; files = text_named source ∷ [] }

-- the code of the source under a name
abbrev pub code_of : List ℕ → Request
code_of source = record { command = ListCode; files = text_named source ∷ [] }

-- the trial of this number, which reads no file
abbrev pub trial_of : ℕ → Request
trial_of number = record { command = Trial number; files = [] }

-- what a session shows of that run, stepping forth and back
abbrev pub session_of : List ℕ → List ℕ → List ℕ → Request
session_of source schedule session = record {
  command = Session;
  files = text_named source ∷ text_named schedule ∷ text_named session ∷ [];
}

-- what a failure leaves of the history under a name
abbrev pub analyse_of : List ℕ → Request
analyse_of history = record { command = Analyse; files = text_named history ∷ [] }

-- how that run stands at its end
abbrev pub survey_of : List ℕ → List ℕ → Request
survey_of source schedule = record { command = Survey; files = text_named source ∷ text_named schedule ∷ [] }

-- the image of the source under a name
abbrev pub compile_of : List ℕ → Request
compile_of source = record { command = Compile; files = text_named source ∷ [] }

-- the run of the image under one name over the schedule under another
abbrev pub load_of : List ℕ → List ℕ → Request
load_of image schedule = record { command = Load; files = image_named image ∷ text_named schedule ∷ [] }

-- the trace of the run of the source under one name over the schedule under another
abbrev pub trace_of : List ℕ → List ℕ → Request
trace_of source schedule = record { command = Trace; files = text_named source ∷ text_named schedule ∷ [] }

-- the page under a name, with that source, that schedule and that trace in it
abbrev pub page_of : List ℕ → List ℕ → List ℕ → Request
page_of page source schedule = record { command = Page; files = text_named page ∷ text_named source ∷ text_named schedule ∷ [] }

-- the line that shows the commands, where words ask for nothing
abbrev pub usage_of : List ℕ → Request
usage_of line = record { command = Usage line; files = [] }

-- what is carried out for a command with the words that it was given
abbrev pub request_with : Asked → Request
request_with (given.Run source schedule) = run_of source schedule
request_with (given.Survive source schedule) = survive_of source schedule
request_with (given.Plain source kept) = plain_of source kept
request_with (given.Check source) = check_of source
request_with (given.Code source) = code_of source
request_with (given.Trial number) = trial_of number
request_with (given.Compile source) = compile_of source
request_with (given.Load image schedule) = load_of image schedule
request_with (given.Session source schedule session) = session_of source schedule session
request_with (given.Domino history) = analyse_of history
request_with (given.Stuck source schedule) = survey_of source schedule

-- the line for words that ask for nothing
abbrev pub usage_line : List ℕ
usage_line = codes "usage: rbl run SOURCE SCHEDULE | survive SOURCE SCHEDULE | plain SOURCE RECORD | check SOURCE | code SOURCE | trial NUMBER | compile SOURCE | load IMAGE SCHEDULE | session SOURCE SCHEDULE SESSION | domino HISTORY | stuck SOURCE SCHEDULE\n"

-- what is carried out: what the words ask for, or else the usage line is written
abbrev pub request_for : List (List ℕ) → Request
request_for words = unwrap_or (option_map request_with (asked_of words)) (usage_of usage_line)
