-- What is carried out for the words of `rblview`, and how it ends.
use Rattle.std.specs.Prelude.{◌≡◌, ℕ, List, [], codes, Option, Some, None, option_map}
use Rattle.std.specs.List.{flat_map}
use Rattle.rb_asking.specs.Guides.{Guide, view_guides}
use Rattle.rb_asking.specs.Misasked.{guide_named, help_rows, version_text}
use Rattle.rb_asking.specs.Views.{View, Explains, Explores, Helps, Lists, Pages, TellsVersion, Traces}
use Rattle.rb_reasons.specs.Headlines.{AreHeadlines}
use Rattle.rb_reasons.specs.Names.{name_of, named}
use Rattle.rb_hall.specs.Answers.{Scene}
use Rattle.rb_hall.specs.Ending.{EndsBehind}
use Rattle.rb_hall.specs.Judgement.{Explaining, Judging, Limited}
use Rattle.rb_hall.specs.declared.outcome.Outcome.{Outcome}
use Rattle.rb_verdict.specs.Judging.{JudgesWithin, TakesWhileWriting}
use Rattle.rb_verdict.specs.Words.{Command, Explain, Page, Trace, Request, check_of, page_of, trace_of, usage_of}
use Rattle.rb_commands.specs.Explained.{ExplainsProgram, ExplainsSource, NamesOfSource}
use Rattle.rb_commands.specs.declared.why.Why.{Why}
use Rattle.rb_show.specs.Drawing.{ExplainsPage}
use Rattle.rb_show.specs.Explored.{JudgesExplored}
use Rattle.rb_show.specs.Faulted.{JudgesFaults}
use Rattle.rb_show.specs.declared.request.Wish.{Wish}
use Rattle.rb_show.specs.declared.request.Wish.TheVariants as given

-- the line that shows the commands
abbrev pub usage_line : List ℕ
usage_line = codes "usage: rblview explain [NAME] | trace SOURCE SCHEDULE | page PAGE SOURCE SCHEDULE | explore SOURCE [K] | faults SOURCE | help [NAME] | version\n"

-- a text that is written, and no file is read for it
abbrev pub explain_of : List ℕ → Request
explain_of text = record { command = Explain text; files = [] }

-- what is carried out: a request; or a search over all schedules of the source under a name, for all outcomes or for that of a number; or all faults
-- of the source under a name are told
pub data Task : Type 0 where
  Carries : (request : Request) → Task
  Searches : (source : List ℕ) (number : Option ℕ) → Task
  TellsFaults : (source : List ℕ) → Task

-- as the code has it
abbrev pub task_of : Wish → Task
task_of (given.Explain saying) = Carries (explain_of saying.text.now)
task_of (given.Tell text) = Carries (explain_of text.items)
task_of (given.Trace trace) = Carries (trace_of trace.source.now trace.schedule.now)
task_of (given.Page page) = Carries (page_of page.page.now page.source.now page.schedule.now)
task_of (given.Explore explore) = Searches explore.source.now explore.number
task_of (given.Faults faults) = TellsFaults faults.source.now
task_of (given.Usage usage) = Carries (usage_of usage.text.now)

-- the text of the fault or the cause that has this name is written, and where none has it the line that shows the commands
abbrev pub Explained : Option (List ℕ) → Task → Type 0
Explained None task = task ≡ Carries (usage_of usage_line)
Explained (Some name) task = (text : List ℕ) × (name_of text ≡ name) × (task ≡ Carries (explain_of text))

-- the help for the command of a name, if one of these has it, and that for all
abbrev pub help_in : List Guide → Option (List ℕ) → Option (List ℕ)
help_in guides None = Some (flat_map help_rows guides)
help_in guides (Some name) = option_map help_rows (guide_named guides name)

-- this text is written, and where there is none the line that shows the commands
abbrev pub said : Option (List ℕ) → Task
said None = Carries (usage_of usage_line)
said (Some text) = Carries (explain_of text)

-- the first lines of the texts of all faults and causes are written
abbrev pub Headlined : Task → Type 0
Headlined task = (text : List ℕ) × AreHeadlines text × (task ≡ Carries (explain_of text))

-- what is carried out for words that ask for this, and for words that ask for nothing
abbrev pub IsWished : Option View → Task → Type 0
IsWished None task = task ≡ Carries (usage_of usage_line)
IsWished (Some (Explains None)) task = Headlined task
IsWished (Some (Explains (Some name))) task = Explained (named name) task
IsWished (Some (Traces source schedule)) task = task ≡ Carries (trace_of source schedule)
IsWished (Some (Pages page source schedule)) task = task ≡ Carries (page_of page source schedule)
IsWished (Some (Explores source number)) task = task ≡ Searches source number
IsWished (Some (Lists source)) task = task ≡ TellsFaults source
IsWished (Some (Helps name)) task = task ≡ said (help_in view_guides name)
IsWished (Some TellsVersion) task = task ≡ Carries (explain_of (version_text (codes "rblview")))

-- the request that reads the same files and has the same exit statuses: what has no request of its own has those of `check`
abbrev pub request_of : Task → Request
request_of (Carries request) = request
request_of (Searches source number) = check_of source
request_of (TellsFaults source) = check_of source

-- what is made of the texts of its files
abbrev pub judges_of : Task → Judging
judges_of (Carries request) = JudgesWithin request
judges_of (Searches source number) = Limited (JudgesExplored number) (check_of source).files
judges_of (TellsFaults source) = Limited (JudgesFaults source) (check_of source).files

-- what is known of a fault of a command's texts
abbrev pub explains_of : Command → Explaining Why
explains_of Trace = ExplainsProgram NamesOfSource
explains_of Page = ExplainsPage
explains_of command = ExplainsSource

-- It ends so, its bytes behind a buffer: each end has its cause, and comes where nothing stands in the way.
abbrev pub TaskEnds : Task → Scene → Scene → Outcome Why → Type 0
TaskEnds task old new outcome =
    EndsBehind (judges_of task) (explains_of (request_of task).command) (request_of task).files (TakesWhileWriting (request_of task).command)
    old new outcome
