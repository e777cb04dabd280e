-- The line of a turn: whose it is, where in the text stood what was next, and what came of it.
use Rattle.std.specs.Prelude.{ℕ, Bool, cond, List, [], ◌∷◌, ◌++◌, codes, decimal, slice_get, Option, Some, None}
use Rattle.std.specs.Option.{unwrap_or}
use Rattle.rb_base.specs.declared.event.TurnKind.{TurnKind}
use Rattle.rb_base.specs.declared.event.TurnKind.TheVariants.{Idle, Wait, Took, Undone}
use Rattle.rb_base.specs.declared.place.Place.{Place}
use Rattle.rb_world.specs.Kind.{Kind, Want, NothingLeft, SendsOn, ReceivesOn, MayReceiveOn, Enters, Starts, Acts}
use Rattle.rb_world.specs.Text.{Naming, conversation_word, process_word}
use Rattle.rb_world.specs.World.{Level, Process, ProcessStatus, Running, Finished, FailedWith, last_of}
use Rattle.rb_changes.specs.Changes.{line_in}
use Rattle.rb_picture.specs.declared.asked.Asked.{Asked}
use Rattle.rb_picture.specs.declared.asked.Asked.TheVariants.{Nothing, Line, Room, Message, Maybe, Entry, Start, Step}

-- of the innermost level, where there is one, the conversation; and what starts
abbrev pub line_asked : {C : Type 0} → Option (Level C) → Asked
line_asked None = Line None
line_asked (Some level) = Line level.facts.conversation

abbrev pub start_asked : {C : Type 0} → Option (Level C) → Asked
start_asked None = Start 0 0
start_asked (Some level) = Start level.facts.number level.alternate

-- what a process asks of its turn: what it wants first, which the innermost level tells more of; that its test line is passed; or nothing
abbrev pub asked_first : {C : Type 0} → Want → Option (Level C) → Asked
asked_first NothingLeft level = Nothing
asked_first (SendsOn c) level = Room c
asked_first (ReceivesOn c) level = Message c
asked_first (MayReceiveOn c) level = Maybe c
asked_first (Enters facts) level = Entry facts.number
asked_first Starts level = start_asked level
asked_first Acts level = Step

abbrev pub asked_now : {C : Type 0} → ProcessStatus → Bool → Want → Option (Level C) → Asked
asked_now Running at_line want level = cond at_line (line_asked level) (asked_first want level)
asked_now Finished at_line want level = Nothing
asked_now (FailedWith cause) at_line want level = Nothing

abbrev pub asked_of : {S C M : Type 0} → Kind S C M → Process S C → Asked
asked_of k q = asked_now q.status q.at_line (k.want q.state) (last_of q.levels)

-- the name of a channel
abbrev pub channel_word : Naming → ℕ → List ℕ
channel_word names c = unwrap_or (slice_get names.channels c) []

-- what is waited for
abbrev pub waiting_words : Naming → Asked → List (List ℕ)
waiting_words names (Line None) = codes "at" ∷ codes "line" ∷ []
waiting_words names (Line (Some c)) = codes "at" ∷ codes "line" ∷ conversation_word names c ∷ []
waiting_words names (Room c) = codes "for" ∷ codes "room" ∷ channel_word names c ∷ []
waiting_words names (Message c) = codes "for" ∷ codes "message" ∷ channel_word names c ∷ []
waiting_words names _ = []

-- what was carried out
abbrev pub took_words : Naming → Asked → List (List ℕ)
took_words names (Entry b) = codes "enter" ∷ decimal b ∷ []
took_words names (Start b a) = codes "start" ∷ decimal b ∷ decimal a ∷ []
took_words names (Room c) = codes "send" ∷ channel_word names c ∷ []
took_words names (Message c) = codes "receive" ∷ channel_word names c ∷ []
took_words names (Maybe c) = codes "receive" ∷ channel_word names c ∷ []
took_words names _ = codes "step" ∷ []

abbrev pub kind_words : Naming → TurnKind → Asked → List (List ℕ)
kind_words names Idle asked = codes "idle" ∷ []
kind_words names Undone asked = codes "undone" ∷ []
kind_words names Wait asked = codes "waits" ∷ waiting_words names asked
kind_words names Took asked = codes "took" ∷ took_words names asked

-- a place in the text, and `-` for none
abbrev pub place_word : Option Place → List ℕ
place_word None = codes "-"
place_word (Some place) = decimal place.line ++ 58 ∷ decimal place.column

-- the line of turn t of process p
abbrev pub turn_line : Naming → ℕ → ℕ → Option Place → TurnKind → Asked → List ℕ
turn_line names t p place kind asked = line_in t (codes "turn" ∷ process_word names p ∷ place_word place ∷ kind_words names kind asked)
