-- What changed from one world to another, as lines: each tells a thing that is another one now.
use Rattle.std.specs.Prelude.{ℕ, ℤ, ◌+◌, nat_eq, nat_lt, Bool, true, false, ◌&&◌, not, cond, List, [], ◌∷◌, ◌++◌, codes, decimal, drop, length, slice_get, take, Option, Some, None}
use Rattle.std.specs.Fmt.{signed_decimal}
use Rattle.std.specs.Ordering.{int_eq}
use Rattle.std.specs.List.{flat_map}
use Rattle.rb_base.specs.Words.{cause_word}
use Rattle.rb_world.specs.Text.{Naming, ProcessNaming, VariableNaming, line_of, size_of}
use Rattle.rb_world.specs.World.{Talk, last_of}
use Rattle.rb_changes.specs.Noted.{ProcessNoted, WorldNoted}
use Rattle.rb_changes.specs.Numbered.{numbered}
use Rattle.rb_changes.specs.Shown.{ChannelShown, ProcessShown, WorldShown}
use Rattle.rb_changes.specs.declared.noted.Numbers.{Numbers}
use Rattle.rb_changes.specs.declared.noted.OpenLevel.{OpenLevel}
use Rattle.rb_changes.specs.declared.noted.Stand.{Stand}
use Rattle.rb_changes.specs.declared.noted.Stand.TheVariants.{Runs, AtLine, Done as IsDone, Failed as HasFailed}

-- a line of turn t
abbrev pub line_in : ℕ → List (List ℕ) → List ℕ
line_in t words = line_of (decimal t ∷ words)

-- which element of a variable, and `-` for one that is no array
abbrev pub index_word : Option ℕ → List ℕ
index_word None = codes "-"
index_word (Some k) = decimal k

abbrev pub element_of : Option ℕ → ℕ → Option ℕ
element_of None k = None
element_of (Some size) k = Some k

abbrev pub value_line : ℕ → List ℕ → List ℕ → List ℕ → ℤ → List ℕ
value_line t process variable element value = line_in t (codes "var" ∷ process ∷ variable ∷ element ∷ signed_decimal value ∷ [])

-- a value was there, and was this one
abbrev pub is_value : Option ℤ → ℤ → Bool
is_value None value = false
is_value (Some was) value = int_eq was value

-- the value of element k of a variable, if it was another or was not there
abbrev pub value_change : ℕ → List ℕ → VariableNaming → ℕ → Option ℤ → ℤ → List ℕ
value_change t process variable k was value =
    cond (is_value was value) [] (value_line t process variable.name (index_word (element_of variable.size k)) value)

-- the values of a variable that are others now
abbrev pub value_lines : ℕ → List ℕ → VariableNaming → List ℤ → List ℤ → List ℕ
value_lines t process variable before after =
    numbered (λ k value. value_change t process variable k (slice_get before k) value) 0 after

-- the words of a variable, among those of its process
abbrev pub words_in : VariableNaming → List ℤ → List ℤ
words_in variable words = take (size_of variable.size) (drop variable.at words)

abbrev pub variable_change : ℕ → List ℕ → List ℤ → List ℤ → VariableNaming → List ℕ
variable_change t process before after variable =
    value_lines t process variable (words_in variable before) (words_in variable after)

abbrev pub variable_lines : ℕ → ProcessNaming → List ℤ → List ℤ → List ℕ
variable_lines t process before after = flat_map (variable_change t process.name before after) process.variables

-- two levels show the same
abbrev pub is_same_level : OpenLevel → OpenLevel → Bool
is_same_level l m = nat_eq l.block m.block && nat_eq l.alternate m.alternate && nat_eq l.used m.used && nat_eq l.entered m.entered

abbrev pub level_line : ℕ → List ℕ → ℕ → OpenLevel → List ℕ
level_line t process k level =
    line_in t (codes "level" ∷ process ∷ decimal k ∷ codes "block" ∷ decimal level.block ∷ codes "alternate" ∷ decimal level.alternate
    ∷ codes "used" ∷ decimal level.used ∷ codes "entered" ∷ decimal level.entered ∷ [])

-- a level was there, and showed the same
abbrev pub is_level : Option OpenLevel → OpenLevel → Bool
is_level None level = false
is_level (Some was) level = is_same_level was level

-- level number k, if it was another or was not there
abbrev pub level_change : ℕ → List ℕ → ℕ → Option OpenLevel → OpenLevel → List ℕ
level_change t process k was level = cond (is_level was level) [] (level_line t process k level)

-- the open levels that were others or were not there, the outermost of all being number 1
abbrev pub level_lines : ℕ → List ℕ → List OpenLevel → List OpenLevel → List ℕ
level_lines t process before after = numbered (λ k level. level_change t process (k + 1) (slice_get before k) level) 0 after

abbrev pub depth_line : ℕ → List ℕ → ℕ → List ℕ
depth_line t process count = line_in t (codes "levels" ∷ process ∷ decimal count ∷ [])

-- how many levels are open, if that is another number
abbrev pub levels_line : ℕ → List ℕ → ℕ → ℕ → List ℕ
levels_line t process before after = cond (nat_eq before after) [] (depth_line t process after)

-- The lines that a process holds: how many, if that is another number; and the last, if they are one more.
abbrev pub held_line : ℕ → List ℕ → ℕ → List ℕ
held_line t process n = line_in t (codes "held" ∷ process ∷ decimal n ∷ [])

abbrev pub last_line : ℕ → List ℕ → ℕ → Option (List ℕ) → List ℕ
last_line t process n None = []
last_line t process n (Some text) = line_in t (codes "line" ∷ process ∷ decimal n ∷ text ∷ [])

abbrev pub held_lines : ℕ → List ℕ → ℕ → List (List ℕ) → List ℕ
held_lines t process before held =
    cond (nat_eq before (length held)) []
    (held_line t process (length held)
    ++ cond (nat_eq (length held) (before + 1)) (last_line t process (length held) (last_of held)) [])

-- a process stands as it did
abbrev pub is_same_stand : Stand → Stand → Bool
is_same_stand Runs Runs = true
is_same_stand AtLine AtLine = true
is_same_stand IsDone IsDone = true
is_same_stand (HasFailed cause) (HasFailed other) = true
is_same_stand _ _ = false

abbrev pub stand_words : Stand → List (List ℕ)
stand_words Runs = codes "runs" ∷ []
stand_words AtLine = codes "line" ∷ []
stand_words IsDone = codes "done" ∷ []
stand_words (HasFailed cause) = codes "failed" ∷ cause_word cause ∷ []

abbrev pub state_line : ℕ → List ℕ → Stand → Stand → List ℕ
state_line t process before after =
    cond (is_same_stand before after) [] (line_in t (codes "state" ∷ process ∷ stand_words after))

abbrev pub levels_changes : ℕ → List ℕ → List OpenLevel → List OpenLevel → List ℕ
levels_changes t process before after =
    levels_line t process (length before) (length after) ++ level_lines t process before after

-- all that changed of a process
abbrev pub process_changes : ℕ → ProcessNaming → ProcessNoted → ProcessShown → List ℕ
process_changes t process before after =
    variable_lines t process before.words after.words
    ++ (levels_changes t process.name before.levels after.levels
    ++ (held_lines t process.name before.held after.held ++ state_line t process.name before.stand after.stand))

abbrev pub change_of : {B A : Type 0} → (B → A → List ℕ) → Option B → Option A → List ℕ
change_of f None after = []
change_of f (Some b) None = []
change_of f (Some b) (Some a) = f b a

-- the same of all processes
abbrev pub all_processes : ℕ → List ProcessNaming → List ProcessNoted → List ProcessShown → List ℕ
all_processes t processes before after =
    numbered (λ p process. change_of (process_changes t process) (slice_get before p) (slice_get after p)) 0 processes

-- a channel shows the same numbers
abbrev pub is_same_channel : Numbers → Numbers → Bool
is_same_channel b a = nat_eq b.sent a.sent && nat_eq b.taken a.taken && nat_eq b.seen a.seen && nat_eq b.free a.free

abbrev pub numbers_line : ℕ → List ℕ → Numbers → List ℕ
numbers_line t channel a =
    line_in t (codes "channel" ∷ channel ∷ codes "sent" ∷ decimal a.sent ∷ codes "taken" ∷ decimal a.taken ∷ codes "seen" ∷ decimal a.seen
    ∷ codes "free" ∷ decimal a.free ∷ [])

-- message number n, and its value
abbrev pub message_line : ℕ → List ℕ → ℕ → ℤ → List ℕ
message_line t channel n value = line_in t (codes "message" ∷ channel ∷ decimal n ∷ signed_decimal value ∷ [])

-- its numbers, if one of them is another; and the value that was sent last, if more were sent
abbrev pub numbers_change : ℕ → List ℕ → Numbers → Numbers → List ℕ
numbers_change t channel b a = cond (is_same_channel b a) [] (numbers_line t channel a)

abbrev pub message_change : ℕ → List ℕ → ℕ → ℕ → ℤ → List ℕ
message_change t channel before sent last = cond (nat_lt before sent) (message_line t channel sent last) []

abbrev pub channel_changes : ℕ → List ℕ → Numbers → ChannelShown → List ℕ
channel_changes t channel b a =
    numbers_change t channel b a.numbers ++ message_change t channel b.sent a.numbers.sent a.last

abbrev pub all_channels : ℕ → List (List ℕ) → List Numbers → List ChannelShown → List ℕ
all_channels t channels before after =
    numbered (λ c channel. change_of (channel_changes t channel) (slice_get before c) (slice_get after c)) 0 channels

-- a conversation is at the same alternate, or is broken as before
abbrev pub is_same_bool : Bool → Bool → Bool
is_same_bool true b = b
is_same_bool false b = cond b false true

abbrev pub is_same_talk : Talk → Talk → Bool
is_same_talk b a = nat_eq b.alternate a.alternate && is_same_bool b.is_broken a.is_broken

abbrev pub alternate_line : ℕ → List ℕ → ℕ → List ℕ
alternate_line t name alternate = line_in t (codes "conversation" ∷ name ∷ codes "alternate" ∷ decimal alternate ∷ [])

abbrev pub broken_line : ℕ → List ℕ → List ℕ
broken_line t name = line_in t (codes "conversation" ∷ name ∷ codes "broken" ∷ [])

abbrev pub talk_changes : ℕ → List ℕ → Talk → Talk → List ℕ
talk_changes t name b a = cond (is_same_talk b a) [] (cond a.is_broken (broken_line t name) (alternate_line t name a.alternate))

abbrev pub all_talks : ℕ → List (List ℕ) → List Talk → List Talk → List ℕ
all_talks t conversations before after =
    numbered (λ d name. change_of (talk_changes t name) (slice_get before d) (slice_get after d)) 0 conversations

-- all that changed: of processes, of channels, of conversations
abbrev pub changes : ℕ → Naming → WorldNoted → WorldShown → List ℕ
changes t names before after =
    all_processes t names.processes before.processes after.processes
    ++ (all_channels t names.channels before.channels after.channels ++ all_talks t names.conversations before.talks after.talks)

-- The recovery point to which a process was put back: its first level, from the outside in, that is gone or tries another alternate.
abbrev pub is_gone : OpenLevel → Option OpenLevel → Bool
is_gone was None = true
is_gone was (Some level) = not (nat_eq level.alternate was.alternate)

abbrev pub put_back_from : ℕ → List OpenLevel → List OpenLevel → Option OpenLevel
put_back_from k [] after = None
put_back_from k (was ∷ others) after = cond (is_gone was (slice_get after k)) (Some was) (put_back_from (k + 1) others after)

abbrev pub put_back : List OpenLevel → List OpenLevel → Option OpenLevel
put_back before after = put_back_from 0 before after

abbrev pub back_to : ℕ → List ℕ → ℕ → List ℕ
back_to t process entered = line_in t (codes "back" ∷ process ∷ codes "to" ∷ decimal entered ∷ [])

abbrev pub back_line : ℕ → List ℕ → Option OpenLevel → List ℕ
back_line t process None = []
back_line t process (Some level) = back_to t process level.entered

-- which processes went back, and to the recovery point of which turn
abbrev pub back_of : ℕ → ProcessNaming → ProcessNoted → ProcessShown → List ℕ
back_of t process b a = back_line t process.name (put_back b.levels a.levels)

abbrev pub all_back : ℕ → List ProcessNaming → List ProcessNoted → List ProcessShown → List ℕ
all_back t processes before after =
    numbered (λ p process. change_of (back_of t process) (slice_get before p) (slice_get after p)) 0 processes
