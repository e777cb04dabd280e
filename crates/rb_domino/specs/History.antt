-- Histories: a text that lists what processes did, a line each, up to the failure of one; and its first fault. The form of the
-- text is this project's own.
use Rattle.std.specs.Prelude.{◌≡◌, ℕ, ◌+◌, ◌<◌, ◌≤◌, ◌==◌, nat_eq, nat_le, Bool, true, false, ◌&&◌, cond, List, [], ◌∷◌, ◌++◌, length, map, slice_get, codes, Option, Some, None, Result, Ok, Err}
use Rattle.std.specs.Option.{is_some}
use Rattle.std.specs.List.{list_any}
use Rattle.std.specs.Cmp.Lexicographic.{pointwise}
use Rattle.rb_base.specs.declared.fault.TextFault.{TextFault}
use Rattle.rb_base.specs.declared.fault.FaultName.{FaultName}
use Rattle.rb_base.specs.declared.fault.FaultName.TheVariants.{H1, H2, H3, H4, H5}
use Rattle.rb_base.specs.declared.limits.TheConstants.{LONGEST_NAME, MOST_BYTES}
use Rattle.rb_base.specs.Bytes.{is_name}
use Rattle.rb_base.specs.Naming.{first_named}
use Rattle.rb_sched.specs.Schedule.{lines_of, words_of}
use Rattle.rb_domino.specs.declared.line.Line.{Line}
use Rattle.rb_domino.specs.declared.line.Line.TheVariants.{Begin, Point, Send, Take, Fail}
use Rattle.rb_domino.specs.declared.line.Message.{Message}

-- A history: the names of its processes, its messages, and its lines that aren't empty. Processes and messages go by their
-- numbers, from 0 in the order of their first lines. The place of a line is its number in this list, from 0.
pub record Story : Type 0 where
  pub processes : List (List ℕ)
  pub messages : List Message
  pub lines : List Line

-- before the first line
abbrev pub no_story : Story
no_story = record { processes = []; messages = []; lines = [] }

-- a line more
abbrev pub with_line : Story → Line → Story
with_line story line = record { processes = story.processes; messages = story.messages; lines = story.lines ++ line ∷ [] }

-- a process of this name begins
abbrev pub begins : Story → List ℕ → Story
begins story name = record {
  processes = story.processes ++ name ∷ [];
  messages = story.messages;
  lines = story.lines ++ Begin (length story.processes) ∷ [];
}

-- a message that is sent at the end of a history
abbrev pub sent_by : Story → List ℕ → ℕ → ℕ → Message
sent_by story name sender receiver = record { name = name; sender = sender; receiver = receiver; sent = length story.lines }

-- a message of this name is sent by one process to another
abbrev pub sends : Story → List ℕ → ℕ → ℕ → Story
sends story name sender receiver = record {
  processes = story.processes;
  messages = story.messages ++ sent_by story name sender receiver ∷ [];
  lines = story.lines ++ Send (length story.messages) ∷ [];
}

-- the process of this name
abbrev pub process_of : Story → List ℕ → Option ℕ
process_of story name = first_named story.processes name

-- the message of this name
abbrev pub message_of : Story → List ℕ → Option ℕ
message_of story name = first_named (map (λ m. m.name) story.messages) name

-- a line at which message m is taken
abbrev pub is_take_of : ℕ → Line → Bool
is_take_of m (Take n) = n == m
is_take_of m _ = false

abbrev pub is_taken : Story → ℕ → Bool
is_taken story m = list_any (is_take_of m) story.lines

abbrev pub is_failure : Line → Bool
is_failure (Fail p) = true
is_failure _ = false

abbrev pub has_failed : Story → Bool
has_failed story = list_any is_failure story.lines

-- goes on with the number that a name has, unless it has none
abbrev pub if_known : FaultName → Option ℕ → (ℕ → Result Story FaultName) → Result Story FaultName
if_known fault None go_on = Err fault
if_known fault (Some n) go_on = go_on n

-- what the five kinds of lines add, or their fault with the least number
abbrev pub read_process : Story → List ℕ → Result Story FaultName
read_process story name = cond (is_some (process_of story name)) (Err H3) (Ok (begins story name))

abbrev pub read_point : Story → List ℕ → Result Story FaultName
read_point story name = if_known H2 (process_of story name) (λ p. Ok (with_line story (Point p)))

abbrev pub read_send : Story → List ℕ → List ℕ → List ℕ → Result Story FaultName
read_send story message from to =
    if_known H2 (process_of story from) (λ p.
    if_known H2 (process_of story to) (λ q.
    cond (is_some (message_of story message)) (Err H3) (Ok (sends story message p q))))

abbrev pub read_take : Story → List ℕ → Result Story FaultName
read_take story name =
    if_known H4 (message_of story name) (λ m. cond (is_taken story m) (Err H4) (Ok (with_line story (Take m))))

abbrev pub read_fail : Story → List ℕ → Result Story FaultName
read_fail story name = if_known H2 (process_of story name) (λ p. Ok (with_line story (Fail p)))

-- nothing follows a failure
abbrev pub before_failure : Story → Result Story FaultName → Result Story FaultName
before_failure story (Ok new) = cond (has_failed story) (Err H5) (Ok new)
before_failure story (Err fault) = Err fault

-- a name that isn't too long
abbrev pub is_short_name : List ℕ → Bool
is_short_name word = is_name word && nat_le (length word) LONGEST_NAME

abbrev pub is_word : List ℕ → List ℕ → Bool
is_word word text = pointwise nat_eq text word

-- a line of two words: what is done, and by whom or with which message
abbrev pub read_two : Story → List ℕ → List ℕ → Result Story FaultName
read_two story verb name =
    cond (is_word (codes "process") verb) (read_process story name)
    (cond (is_word (codes "point") verb) (read_point story name)
    (cond (is_word (codes "take") verb) (read_take story name)
    (cond (is_word (codes "fail") verb) (read_fail story name)
    (Err H1))))

-- the history with a line more, or the line's fault with the least number
abbrev pub read_words : Story → List (List ℕ) → Result Story FaultName
read_words story [] = Ok story
read_words story (verb ∷ []) = Err H1
read_words story (verb ∷ name ∷ []) = cond (is_short_name name) (before_failure story (read_two story verb name)) (Err H1)
read_words story (verb ∷ message ∷ from ∷ []) = Err H1
read_words story (verb ∷ message ∷ from ∷ to ∷ []) =
    cond (is_word (codes "send") verb && (is_short_name message && (is_short_name from && is_short_name to)))
    (before_failure story (read_send story message from to)) (Err H1)
read_words story (verb ∷ message ∷ from ∷ to ∷ more ∷ words) = Err H1

-- goes on after a line, unless it has a fault, which stands at its number
abbrev pub after_line : Result Story FaultName → ℕ → (Story → Result Story TextFault) → Result Story TextFault
after_line (Ok story) at others = others story
after_line (Err name) at others = Err (record { name = name; at = at })

-- the history that the lines from this number on complete, or the first fault
abbrev pub read_lines : Story → ℕ → List (List ℕ) → Result Story TextFault
read_lines story at [] = cond (has_failed story) (Ok story) (Err (record { name = H5; at = at }))
read_lines story at (line ∷ lines) = after_line (read_words story (words_of line)) at (λ new. read_lines new (at + 1) lines)

-- the history that a text lists, or its first fault
abbrev pub history_of : List ℕ → Result Story TextFault
history_of text = read_lines no_story 1 (lines_of text)

-- What histories are, line by line: nothing follows a failure, names are new where they first stand, and processes and messages
-- have their first lines before all others that name them; no message is taken twice. Each line that is read keeps to it.
pub data IsHistory : Story → Type 0 where
  nothing : IsHistory no_story
  begun : {story : Story} (name : List ℕ) → IsHistory story → has_failed story ≡ false → process_of story name ≡ None
      → IsHistory (begins story name)
  pointed : {story : Story} (p : ℕ) → IsHistory story → has_failed story ≡ false → p < length story.processes
      → IsHistory (with_line story (Point p))
  sent : {story : Story} (name : List ℕ) (p q : ℕ) → IsHistory story → has_failed story ≡ false → message_of story name ≡ None
      → p < length story.processes → q < length story.processes → IsHistory (sends story name p q)
  taken : {story : Story} (m : ℕ) → IsHistory story → has_failed story ≡ false → m < length story.messages → is_taken story m ≡ false
      → IsHistory (with_line story (Take m))
  failed : {story : Story} (p : ℕ) → IsHistory story → has_failed story ≡ false → p < length story.processes
      → IsHistory (with_line story (Fail p))

-- a history that was read whole
pub record IsWhole (story : Story) : Type 0 where
  pub history : IsHistory story
  pub fails : has_failed story ≡ true
  pub few_lines : length story.lines ≤ MOST_BYTES

-- a message is taken at this place, a process fails at this place
abbrev pub IsTakenAt : Story → ℕ → ℕ → Type 0
IsTakenAt story m at = slice_get story.lines at ≡ Some (Take m)

abbrev pub FailsAt : Story → ℕ → ℕ → Type 0
FailsAt story p at = slice_get story.lines at ≡ Some (Fail p)
