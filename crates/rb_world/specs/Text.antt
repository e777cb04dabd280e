-- The printed text of a run, of its ending, and of records.
use Rattle.std.specs.Prelude.{ℕ, ℤ, ◌+◌, nat_eq, Bool, true, false, cond, not, List, [], ◌∷◌, ◌++◌, map, filter, take, drop, codes, slice_get, Option, Some, None, decimal}
use Rattle.std.specs.List.{flat_map}
use Rattle.std.specs.Option.{unwrap_or}
use Rattle.std.specs.Fmt.{signed_decimal}
use Rattle.rb_base.specs.declared.event.Event.{Event}
use Rattle.rb_base.specs.declared.event.Event.TheVariants.{Reject, RejectAll, Error, Pass, Done}
use Rattle.rb_base.specs.Words.{cause_word}
use Rattle.rb_world.specs.Turn.{Told}
use Rattle.rb_world.specs.World.{ProcessStatus, Running, Finished, FailedWith}
use Rattle.rb_base.specs.declared.kept.Kept.{Kept}

-- A process-level variable: its name, its first word among the process's words, and the size of an array.
pub record VariableNaming : Type 0 where
  pub name : List ℕ
  pub at : ℕ
  pub size : Option ℕ

-- a process: its name, and the names of its own variables
pub record ProcessNaming : Type 0 where
  pub name : List ℕ
  pub variables : List VariableNaming

-- the names that lines speak of, in the order of declaration
pub record Naming : Type 0 where
  pub processes : List ProcessNaming
  pub channels : List (List ℕ)
  pub conversations : List (List ℕ)

-- the name of a process, and no bytes where there is none
abbrev pub process_name : Option ProcessNaming → List ℕ
process_name None = []
process_name (Some process) = process.name

-- the name of process number p
abbrev pub process_word : Naming → ℕ → List ℕ
process_word names p = process_name (slice_get names.processes p)

-- the name of conversation number c
abbrev pub conversation_word : Naming → ℕ → List ℕ
conversation_word names c = unwrap_or (slice_get names.conversations c) []

-- words with one blank between them, and one LF at the end
abbrev pub line_of : List (List ℕ) → List ℕ
line_of [] = 10 ∷ []
line_of (word ∷ []) = word ++ 10 ∷ []
line_of (word ∷ other ∷ words) = word ++ 32 ∷ line_of (other ∷ words)

-- the line of an event of turn t
abbrev pub event_line : Naming → ℕ → Event → List ℕ
event_line names t (Reject p line a cause) =
    line_of (decimal t ∷ codes "reject" ∷ process_word names p ∷ codes "ensure" ∷ decimal line ∷ decimal a ∷ cause_word cause ∷ [])
event_line names t (RejectAll c a p cause) =
    line_of (decimal t ∷ codes "reject" ∷ conversation_word names c ∷ decimal a ∷ codes "by" ∷ process_word names p ∷ cause_word cause ∷ [])
event_line names t (Error p cause) = line_of (decimal t ∷ codes "error" ∷ process_word names p ∷ cause_word cause ∷ [])
event_line names t (Pass c a) = line_of (decimal t ∷ codes "pass" ∷ conversation_word names c ∷ decimal a ∷ [])
event_line names t (Done p) = line_of (decimal t ∷ codes "done" ∷ process_word names p ∷ [])

-- an event tells that a process is done
abbrev pub is_done : Event → Bool
is_done (Reject p line a cause) = false
is_done (RejectAll c a p cause) = false
is_done (Error p cause) = false
is_done (Pass c a) = false
is_done (Done p) = true

-- the released lines of a process in turn t
abbrev pub out_lines : Naming → ℕ → ℕ → List (List (List ℕ)) → List ℕ
out_lines names t p [] = []
out_lines names t p (lines ∷ others) =
    flat_map (λ line. line_of (decimal t ∷ codes "out" ∷ process_word names p ∷ line ∷ [])) lines ++ out_lines names t (p + 1) others

-- Inside one turn: events but `done`, then released lines in the order of the processes, then `done` lines.
abbrev pub told_text : Naming → ℕ → Told → List ℕ
told_text names t one =
    flat_map (event_line names t) (filter (λ event. not (is_done event)) one.events)
    ++ (out_lines names t 0 one.released ++ flat_map (event_line names t) (filter is_done one.events))

-- turns are numbered from t on
abbrev pub all_told : Naming → ℕ → List Told → List ℕ
all_told names t [] = []
all_told names t (one ∷ others) = told_text names t one ++ all_told names (t + 1) others

-- the out lines alone, each turn with its own number
abbrev pub outs_text : Naming → List (ℕ × Told) → List ℕ
outs_text names [] = []
outs_text names ((t, one) ∷ others) = out_lines names t 0 one.released ++ outs_text names others

-- How a run ends: each process's status and its number of open levels, the words of its own variables, and for each
-- channel how many values were sent and taken.
pub record Final : Type 0 where
  pub statuses : List (ProcessStatus × ℕ)
  pub words : List (List ℤ)
  pub sent : List ℕ
  pub taken : List ℕ

-- the words of a status: of a process that still runs, with how many levels are open
abbrev pub status_words : ProcessStatus × ℕ → List (List ℕ)
status_words (Running, levels) = codes "open" ∷ decimal levels ∷ []
status_words (Finished, levels) = codes "done" ∷ []
status_words (FailedWith cause, levels) = codes "failed" ∷ []

-- how many words a variable has: one, or the size of an array
abbrev pub size_of : Option ℕ → ℕ
size_of None = 1
size_of (Some n) = n

-- `p.x = 7`, or for an array `p.a = 1 2 3`
abbrev pub variable_line : List ℕ → List ℤ → VariableNaming → List ℕ
variable_line process words variable =
    line_of ((process ++ 46 ∷ variable.name) ∷ codes "=" ∷ map signed_decimal (take (size_of variable.size) (drop variable.at words)))

-- the lines of all variables of a process, in the order of declaration
abbrev pub variable_lines : ProcessNaming → List ℤ → List ℕ
variable_lines process words = flat_map (variable_line process.name words) process.variables

-- the line of a process's name and status
abbrev pub status_line : ProcessNaming → ProcessStatus × ℕ → List ℕ
status_line process status = line_of (process.name ∷ status_words status)

-- each process's status and variables
abbrev pub process_lines : List ProcessNaming → List (ProcessStatus × ℕ) → List (List ℤ) → List ℕ
process_lines [] statuses words = []
process_lines (p ∷ ps) [] words = []
process_lines (p ∷ ps) (s ∷ ss) [] = []
process_lines (p ∷ ps) (s ∷ ss) (ws ∷ wss) = status_line p s ++ (variable_lines p ws ++ process_lines ps ss wss)

-- each process's variables alone
abbrev pub value_lines : List ProcessNaming → List (List ℤ) → List ℕ
value_lines [] words = []
value_lines (p ∷ ps) [] = []
value_lines (p ∷ ps) (ws ∷ wss) = variable_lines p ws ++ value_lines ps wss

-- each channel's line: how many values were sent on it, and taken from it
abbrev pub channel_lines : List (List ℕ) → List ℕ → List ℕ → List ℕ
channel_lines [] sent taken = []
channel_lines (c ∷ cs) [] taken = []
channel_lines (c ∷ cs) (s ∷ ss) [] = []
channel_lines (c ∷ cs) (s ∷ ss) (t ∷ ts) =
    line_of (c ∷ codes "sent" ∷ decimal s ∷ codes "taken" ∷ decimal t ∷ []) ++ channel_lines cs ss ts

-- the ending of a run of so many turns
abbrev pub end_text : Naming → ℕ → Final → List ℕ
end_text names turns final =
    line_of (codes "end" ∷ decimal turns ∷ [])
    ++ (process_lines names.processes final.statuses final.words ++ channel_lines names.channels final.sent final.taken)

-- the ending of a plain run: variables and channels alone
abbrev pub values_text : Naming → Final → List ℕ
values_text names final = value_lines names.processes final.words ++ channel_lines names.channels final.sent final.taken

-- a record: a line a turn, with the alternate of a start
abbrev pub kept_words : Naming → Kept → List (List ℕ)
kept_words names kept =
    decimal kept.turn ∷ process_word names kept.process ∷ cond (nat_eq kept.alternate 0) [] (decimal kept.alternate ∷ [])

-- the text of a record, in the order of its turns
abbrev pub record_text : Naming → List Kept → List ℕ
record_text names turns = flat_map (λ kept. line_of (kept_words names kept)) turns
