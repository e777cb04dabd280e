-- How a run ended, as it is read through `Final`, and as the texts of a world tell it.
use Rattle.std.specs.Prelude.{◌≡◌, ℕ, ◌+◌, ◌*◌, ℤ, List, [], ◌∷◌, ◌++◌, length, map, sum_by}
use Rattle.rb_base.specs.declared.event.State.{State}
use Rattle.rb_base.specs.declared.event.State.TheVariants as state
use Rattle.rb_world.specs.World.{ProcessStatus, Running, Finished, FailedWith}
use Rattle.rb_world.specs.Text.{Naming, ProcessNaming, VariableNaming, Final, line_of, size_of, variable_lines, channel_lines}
use Rattle.rb_trace.specs.Ending.{state_words}

-- the state of a process with this status and so many open levels
abbrev pub state_of : ProcessStatus × ℕ → State
state_of (Running, levels) = state.Running levels
state_of (Finished, levels) = state.Done
state_of (FailedWith cause, levels) = state.Failed

-- A run that ended so has these states, words and counts.
pub record IsEndOf (all_states : List State) (all_words : List (List ℤ)) (sent_counts taken_counts : List ℕ) (final : Final) : Type 0 where
  pub states : map state_of final.statuses ≡ all_states
  pub words : final.words ≡ all_words
  pub sent : final.sent ≡ sent_counts
  pub taken : final.taken ≡ taken_counts

-- how a process stands, and its variables
abbrev pub process_text : ProcessNaming → State → List ℤ → List ℕ
process_text process state words = line_of (process.name ∷ state_words state) ++ variable_lines process words

-- the same of each process
abbrev pub processes_text : List ProcessNaming → List State → List (List ℤ) → List ℕ
processes_text [] states words = []
processes_text (p ∷ ps) [] words = []
processes_text (p ∷ ps) (s ∷ ss) [] = []
processes_text (p ∷ ps) (s ∷ ss) (ws ∷ wss) = process_text p s ws ++ processes_text ps ss wss

-- processes and channels
abbrev pub ended_text : Naming → List State → List (List ℤ) → List ℕ → List ℕ → List ℕ
ended_text names states words sent taken = processes_text names.processes states words ++ channel_lines names.channels sent taken

-- how many words a variable has, how many a process prints of its variables, and how many numbers the ending of a run prints: these words,
-- and two of each channel
abbrev pub words_of : VariableNaming → ℕ
words_of variable = size_of variable.size

abbrev pub words_printed : ProcessNaming → ℕ
words_printed process = sum_by words_of process.variables

abbrev pub numbers_printed : Naming → ℕ
numbers_printed names = sum_by words_printed names.processes + 2 * length names.channels
