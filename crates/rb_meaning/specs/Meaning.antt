-- The meaning of a program: each recovery point is a whole copy of the process's recoverable state, and each rejection
-- puts that copy back (Horning, Lauer, Melliar-Smith, Randell 1974; in conversations, Randell 1975).
use Rattle.std.specs.Prelude.{ℕ, ℤ, pos, ◌+◌, List, [], ◌∷◌, ◌++◌, length, map, replicate, slice_get, Option, Some, None}
use Rattle.std.specs.Option.{option_map, unwrap_or}
use Rattle.rb_syntax.specs.Tree.{Declaration, ProcessDeclaration, Tree}
use Rattle.rb_world.specs.Kind.{Kind, Ends}
use Rattle.rb_world.specs.World.{ProcessStatus, Process, World}
use Rattle.rb_world.specs.Turn.{Told, run, opening, told_at_opening}
use Rattle.rb_base.specs.declared.kept.Kept.{Kept}
use Rattle.rb_world.specs.Plain.{survivors_of}
use Rattle.rb_world.specs.Text.{Naming, ProcessNaming, VariableNaming, Final, told_text, all_told, end_text}
use Rattle.rb_meaning.specs.Environment.{Environment, frame_of, size_of, global_words}
use Rattle.rb_meaning.specs.State.{State, performed, settle, with_held, with_kept}
use Rattle.rb_meaning.specs.Step.{Nothing, step, wants_first, enter}
use Rattle.rb_meaning.specs.Groups.{channels_of, groups_of}

-- what a state has sent and taken on a channel
abbrev pub sent_on : State → ℕ → List ℤ
sent_on s c = unwrap_or (slice_get s.sent c) []

-- how many values a process has taken from a channel
abbrev pub taken_on : State → ℕ → ℕ
taken_on s c = unwrap_or (slice_get s.taken c) 0

-- value number n of those that a process has sent on a channel, and 0 where none was sent
abbrev pub message_number : State → ℕ → ℕ → ℤ
message_number s c n = unwrap_or (slice_get (sent_on s c) n) (pos 0)

-- the variables in a recovery point, if there is one
abbrev pub environment_of : Option State → Option Environment
environment_of copy = option_map (λ s. s.environment) copy

-- a turn joins the kept turns
abbrev pub keep : ℕ → ℕ → State → Nothing → State × Nothing
keep t alternate s memory = (with_kept (s.kept ++ (t, alternate) ∷ []) s, memory)

-- the kind of state that trees have: copies are whole states (1974)
abbrev pub tree_kind : Tree → Kind State State Nothing
tree_kind tree = record {
  channels = channels_of tree;
  groups = groups_of tree;
  want = λ s. wants_first tree s.items;
  settle = λ copy s. settle s;
  enter = enter;
  copy = λ s. s;
  restore = λ s copy. copy;
  cut = λ n s. s;
  accept = λ s. s;
  step = λ alternate copy s message memory. step tree alternate (environment_of copy) s message;
  sent = λ s c. length (sent_on s c);
  taken = taken_on;
  sent_then = λ s copy c. length (sent_on copy c);
  taken_then = λ s copy c. taken_on copy c;
  message = λ memory s c n. message_number s c n;
  message_then = λ memory s copy c n. message_number copy c n;
  held = λ s. s.held;
  release = with_held [];
  keep = keep;
}

-- a world of a program's processes, whose recovery points are whole states (1974)
abbrev pub TreeWorld : Type 0
TreeWorld = World State State Nothing

-- the opening state of process number p, before it settles: its whole text, zeros, and nothing sent or taken
abbrev pub opening_state : Tree → ℕ → ProcessDeclaration → State
opening_state tree p process = record {
  process = p;
  items = performed process.commands [];
  environment = record { globals = frame_of process.variables; calls = [] ∷ [] };
  sent = replicate (length tree.channels) [];
  taken = replicate (length tree.channels) 0;
  held = [];
  kept = [];
}

-- the opening states of the processes from number p on
abbrev pub opening_states : Tree → ℕ → List ProcessDeclaration → List State
opening_states tree p [] = []
opening_states tree p (process ∷ processes) = opening_state tree p process ∷ opening_states tree (p + 1) processes

-- the world in which each run of a program begins
abbrev pub opening_world : Tree → TreeWorld
opening_world tree = opening (tree_kind tree) (opening_states tree 0 tree.processes) tt

-- the run of a list of turns, numbered from 1
abbrev pub run_of : Tree → List ℕ → TreeWorld × List Told
run_of tree turns = run (tree_kind tree) 1 turns (opening_world tree)

-- the names of variables, each with its first word and its size.
abbrev pub variables_named : ℕ → List Declaration → List VariableNaming
variables_named at [] = []
variables_named at (v ∷ vs) =
    record { name = v.name.text; at = at; size = option_map (λ n. size_of (Some n)) v.size } ∷ variables_named (at + size_of v.size) vs

-- the name of a process, and those of its variables
abbrev pub process_named : ProcessDeclaration → ProcessNaming
process_named process = record { name = process.name.text; variables = variables_named 0 process.variables }

-- all names that the lines of a program's runs speak of
abbrev pub naming_of : Tree → Naming
naming_of tree = record {
  processes = map process_named tree.processes;
  channels = map (λ c. c.name.text) tree.channels;
  conversations = map (λ c. c.name.text) tree.conversations;
}

-- a process's status, and how many levels it has open.
abbrev pub standing : {S C : Type 0} → Process S C → ProcessStatus × ℕ
standing q = (q.status, length q.levels)

-- the states of all processes of a world
abbrev pub states_of : {C M : Type 0} → World State C M → List State
states_of w = map (λ q. q.state) w.processes

-- what a state answers, and something else where there is no state
abbrev pub by_state : {A : Type 0} → (State → A) → A → Option State → A
by_state f d None = d
by_state f d (Some s) = f s

-- how many values were sent on each channel from number c on, by the state of its sender
abbrev pub count_sent : List State → ℕ → List Ends → List ℕ
count_sent states c [] = []
count_sent states c (ends ∷ others) =
    by_state (λ s. length (sent_on s c)) 0 (slice_get states ends.sender) ∷ count_sent states (c + 1) others

-- how many values were taken from each channel from number c on, by the state of its receiver
abbrev pub count_taken : List State → ℕ → List Ends → List ℕ
count_taken states c [] = []
count_taken states c (ends ∷ others) =
    by_state (λ s. taken_on s c) 0 (slice_get states ends.receiver) ∷ count_taken states (c + 1) others

-- the ending of a world: statuses, variables, and what was sent on each channel and taken from it
abbrev pub final_of : {C M : Type 0} → Tree → World State C M → Final
final_of tree w = record {
  statuses = map standing w.processes;
  words = map (λ s. global_words s.environment) (states_of w);
  sent = count_sent (states_of w) 0 (channels_of tree);
  taken = count_taken (states_of w) 0 (channels_of tree);
}

-- The text of a run: who is done at turn 0, what each turn printed, and the ending.
abbrev pub text_of : Tree → ℕ → TreeWorld × List Told → List ℕ
text_of tree turns (w, all) =
    told_text (naming_of tree) 0 (told_at_opening (opening_world tree))
    ++ (all_told (naming_of tree) 1 all ++ end_text (naming_of tree) turns (final_of tree w))

-- the whole text of a program's run over a list of turns
abbrev pub run_text : Tree → List ℕ → List ℕ
run_text tree turns = text_of tree (length turns) (run_of tree turns)

-- the survivors of a world: the kept turns of all processes, in the order of their numbers
abbrev pub survivors : {C M : Type 0} → World State C M → List Kept
survivors w = survivors_of (map (λ s. s.kept) (states_of w))
