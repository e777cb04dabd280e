-- What a process waits for, by what it wants and the conversation at whose test line it stands, as a machine tells it.
use Rattle.std.specs.Prelude.{ℕ, List, [], ◌∷◌, codes, Option}
use Rattle.rb_world.specs.Text.{Naming}
use Rattle.rb_proc.specs.declared.answers.Wanted.{Wanted}
use Rattle.rb_proc.specs.declared.answers.Wanted.TheVariants.{Idle, Line, Room, Message, Maybe, Entry, Start, Step}
use Rattle.rb_stuck.specs.Stuck.{channel_word, conversation_words}

abbrev pub wanted_words : Naming → Wanted → Option ℕ → List (List ℕ)
wanted_words names Line line = codes "at" ∷ codes "line" ∷ conversation_words names line
wanted_words names (Room c) line = codes "for" ∷ codes "room" ∷ channel_word names c ∷ []
wanted_words names (Message c) line = codes "for" ∷ codes "message" ∷ channel_word names c ∷ []
wanted_words names Idle line = []
wanted_words names (Maybe c) line = []
wanted_words names (Entry block) line = []
wanted_words names Start line = []
wanted_words names Step line = []
