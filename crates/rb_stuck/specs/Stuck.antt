-- Whether a program still goes on: in a stuck world no process can take a turn. That it is asked of single turns is this project's own.
use Rattle.std.specs.Prelude.{◌≡◌, ℕ, zero, suc, ◌+◌, Bool, true, false, ◌&&◌, cond, List, [], ◌∷◌, ◌++◌, codes, length, position, replicate, slice_get, Option, Some, None}
use Rattle.std.specs.List.{list_all}
use Rattle.std.specs.Option.{unwrap_or}
use Rattle.rb_base.specs.declared.event.TurnKind.{TurnKind}
use Rattle.rb_base.specs.declared.event.TurnKind.TheVariants.{Idle, Wait, Took, Undone}
use Rattle.rb_world.specs.Kind.{Kind, Want, NothingLeft, SendsOn, ReceivesOn, MayReceiveOn, Enters, Starts, Acts}
use Rattle.rb_world.specs.Text.{Naming, conversation_word, line_of, process_word}
use Rattle.rb_world.specs.Turn.{Told, is_over, turn, turn_used}
use Rattle.rb_world.specs.World.{Level, Process, ProcessStatus, Running, Finished, FailedWith, World, last_of}
use Rattle.rb_stuck.specs.Alike.{IsAlike}
use Rattle.rb_stuck.specs.declared.standing.Standing.{Standing}
use Rattle.rb_stuck.specs.declared.standing.Standing.TheVariants.{Ended, Stuck, Open}

-- a turn that was neither taken nor undone
abbrev pub is_still : TurnKind → Bool
is_still Idle = true
is_still Wait = true
is_still Took = false
is_still Undone = false

-- a process that is done or has failed
abbrev pub is_final : ProcessStatus → Bool
is_final Running = false
is_final Finished = true
is_final (FailedWith cause) = true

abbrev pub has_ended : {S C : Type 0} → Process S C → Bool
has_ended q = is_final q.status

-- one turn of process p in a world, with this number, is idle or waits
abbrev pub stands_still : {S C M : Type 0} → Kind S C M → ℕ → World S C M → ℕ → Bool
stands_still k t w p = is_still (turn k t p w).1.kind

-- so it is of each of the first n processes
abbrev pub all_still : {S C M : Type 0} → Kind S C M → ℕ → World S C M → ℕ → Bool
all_still k t w zero = true
all_still k t w (suc n) = all_still k t w n && stands_still k t w n

-- a world is stuck where one turn of each process is idle or waits
abbrev pub is_stuck : {S C M : Type 0} → Kind S C M → ℕ → World S C M → Bool
is_stuck k t w = all_still k t w (length w.processes)

-- how a world stands, before the turn with this number
abbrev pub standing : {S C M : Type 0} → Kind S C M → ℕ → World S C M → Standing
standing k t w = cond (list_all has_ended w.processes) Ended (cond (is_stuck k t w) Stuck Open)

-- what a process waits for, in words: for the other members at a test line, for room, or for a message
abbrev pub channel_word : Naming → ℕ → List ℕ
channel_word names c = unwrap_or (slice_get names.channels c) []

abbrev pub conversation_words : Naming → Option ℕ → List (List ℕ)
conversation_words names None = []
conversation_words names (Some c) = conversation_word names c ∷ []

abbrev pub line_words : {C : Type 0} → Naming → Option (Level C) → List (List ℕ)
line_words names None = []
line_words names (Some level) = conversation_words names level.facts.conversation

abbrev pub want_words : Naming → Want → List (List ℕ)
want_words names (SendsOn c) = codes "for" ∷ codes "room" ∷ channel_word names c ∷ []
want_words names (ReceivesOn c) = codes "for" ∷ codes "message" ∷ channel_word names c ∷ []
want_words names (MayReceiveOn c) = []
want_words names NothingLeft = []
want_words names (Enters facts) = []
want_words names Starts = []
want_words names Acts = []

abbrev pub waiting_words : {S C M : Type 0} → Kind S C M → Naming → Process S C → List (List ℕ)
waiting_words k names q = cond q.at_line (codes "at" ∷ codes "line" ∷ line_words names (last_of q.levels)) (want_words names (k.want q.state))

-- its line, if it runs
abbrev pub waiting_line : {S C M : Type 0} → Kind S C M → Naming → ℕ → Process S C → List ℕ
waiting_line k names p q = line_of (process_word names p ∷ codes "waits" ∷ waiting_words k names q)

abbrev pub waiting_text : {S C M : Type 0} → Kind S C M → Naming → ℕ → List (Process S C) → List ℕ
waiting_text k names p [] = []
waiting_text k names p (q ∷ qs) = cond (has_ended q) [] (waiting_line k names p q) ++ waiting_text k names (p + 1) qs

-- what is written of a world that stands so
abbrev pub text_of : {S C M : Type 0} → Kind S C M → Naming → List (Process S C) → Standing → List ℕ
text_of k names processes Ended = codes "ended\n"
text_of k names processes Stuck = codes "stuck\n" ++ waiting_text k names 0 processes
text_of k names processes Open = codes "open\n"

abbrev pub standing_text : {S C M : Type 0} → Kind S C M → Naming → ℕ → World S C M → List ℕ
standing_text k names t w = text_of k names w.processes (standing k t w)

-- In the next turn of process p no level of it has used more turns than its bound.
abbrev pub IsWithinBounds : {S C M : Type 0} → ℕ → World S C M → Type 0
IsWithinBounds {S} {C} p w = (q : Process S C) → slice_get w.processes p ≡ Some q → position is_over (turn_used q).levels ≡ None

-- a turn tells nothing but its kind
abbrev pub TellsNothing : ℕ → Told → Type 0
TellsNothing processes told = told ≡ record { kind = told.kind; events = []; released = replicate processes [] }

-- A turn that came to this changed no more of the world before it than turns used, and told nothing.
abbrev pub ChangesNoMore : {S C M : Type 0} → World S C M → World S C M × Told → Type 0
ChangesNoMore before end = TellsNothing (length before.processes) end.1 × IsAlike end.0 before

-- one turn of process p in a world, with this number, changes more than turns used
abbrev pub ChangesMore : {S C M : Type 0} → Kind S C M → ℕ → World S C M → ℕ → Type 0
ChangesMore k t w p = ChangesNoMore w (turn k t p w) → ⊥

-- From a world on, turns of these processes change nothing of it but turns used and tell nothing, up to the first in which a level is
-- beyond its bound.
abbrev pub ChangesNothing : {S C M : Type 0} → Kind S C M → World S C M → ℕ → List ℕ → World S C M → Type 0
ChangesNothing k first t [] w = Unit {0}
ChangesNothing k first t (p ∷ turns) w =
    IsWithinBounds p w → ChangesNoMore first (turn k t p w) × ChangesNothing k first (t + 1) turns (turn k t p w).0
