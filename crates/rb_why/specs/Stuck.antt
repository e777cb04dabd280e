-- Why the plain run of a record is stuck, in words.
use Rattle.std.specs.Prelude.{ℕ, ◌+◌, ◌==◌, nat_eq, Bool, ◌&&◌, cond, List, [], ◌∷◌, ◌++◌, codes, decimal, slice_get}
use Rattle.std.specs.Option.{unwrap_or}
use Rattle.rb_base.specs.Bytes.{is_number, digits_value}
use Rattle.rb_base.specs.Naming.{process_names}
use Rattle.rb_base.specs.Words.{fault_word}
use Rattle.rb_base.specs.declared.fault.FaultName.TheVariants.{V4}
use Rattle.rb_base.specs.declared.kept.Kept.{Kept}
use Rattle.rb_base.specs.declared.names.Names.{Names}
use Rattle.rb_base.specs.declared.place.Place.{Place}
use Rattle.rb_sched.specs.Schedule.{lines_of, without_comment, without_cr}
use Rattle.rb_levels.specs.declared.cause.StuckCause.{StuckCause}
use Rattle.rb_levels.specs.declared.cause.StuckCause.TheVariants.{Ended, AtLine, NothingStarts, OtherAlternate, NoRoom, NoMessage, TooDeep, TestFails, Traps}
use Rattle.rb_frame.specs.Frame.{framed}
use Rattle.rb_why.specs.Text.{word_place}
use Rattle.rb_why.specs.Words.{word_at}

-- whether the first word of a line is this turn's number
abbrev pub has_turn : ℕ → List ℕ → Bool
has_turn turn line =
    is_number (word_at (without_comment (without_cr line)) 0)
    && nat_eq (digits_value 0 (word_at (without_comment (without_cr line)) 0)) turn

-- the number of the first line that keeps this turn, behind so many lines; 0 where none does
abbrev pub line_of_turn : ℕ → ℕ → List (List ℕ) → ℕ
line_of_turn turn at [] = 0
line_of_turn turn at (line ∷ lines) = cond (has_turn turn line) (at + 1) (line_of_turn turn (at + 1) lines)

-- the place of the first word of the line that keeps this turn
abbrev pub turn_place : List ℕ → ℕ → Place
turn_place text turn = word_place text (line_of_turn turn 0 (lines_of text)) 0

-- the name of this number; nothing past the end
abbrev pub name_at : List (List ℕ) → ℕ → List ℕ
name_at names number = unwrap_or (slice_get names number) []

-- the alternate that a turn gives, if it gives one
abbrev pub alternate_words : ℕ → List ℕ
alternate_words alternate = cond (alternate == 0) [] (codes ", alternate " ++ (decimal alternate ++ codes ","))

-- the turn, with its process
abbrev pub turn_words : List ℕ → Kept → List ℕ
turn_words process kept =
    codes "turn `" ++ (decimal kept.turn ++ (codes "` of `" ++ (process ++ (codes "`" ++ alternate_words kept.alternate))))

-- a block with so many alternates
abbrev pub block_words : ℕ → List ℕ
block_words count =
    cond (count == 1) (codes "a recovery block with 1 alternate starts here")
    (codes "a recovery block with " ++ (decimal count ++ codes " alternates starts here"))

-- a process waits for what the words between say, on the channel of this number
abbrev pub wait_words : List ℕ → List ℕ → List (List ℕ) → ℕ → List ℕ
wait_words process waits channels c = codes "`" ++ (process ++ (waits ++ (name_at channels c ++ codes "`")))

-- why the process can't take the turn, on a program with these channels
abbrev pub cause_words : List ℕ → List (List ℕ) → StuckCause → List ℕ
cause_words process channels Ended = codes "`" ++ (process ++ codes "` has ended before")
cause_words process channels AtLine = codes "`" ++ (process ++ codes "` stands at its test line and waits for the other members")
cause_words process channels NothingStarts = codes "nothing starts here"
cause_words process channels (OtherAlternate count) = block_words count
cause_words process channels (NoRoom c) = wait_words process (codes "` waits for room on `") channels c
cause_words process channels (NoMessage c) = wait_words process (codes "` waits for a message on `") channels c
cause_words process channels TooDeep = codes "32 levels are open, which is the most"
cause_words process channels TestFails = codes "its acceptance test does not hold, or traps"
cause_words process channels Traps = codes "its statement traps"

-- the sentence about a turn of this process, on a program with these channels
abbrev pub sentence_about : List ℕ → List (List ℕ) → Kept → StuckCause → List ℕ
sentence_about process channels kept cause =
    turn_words process kept ++ (codes " cannot be taken: " ++ cause_words process channels cause)

-- the sentence about a turn of a program with these names
abbrev pub stuck_words : Names → Kept → StuckCause → List ℕ
stuck_words names kept cause = sentence_about (name_at (process_names names) kept.process) names.channels.items kept cause

-- why the plain run of a record is stuck at this turn, at the line that keeps it
abbrev pub stuck_told : List ℕ → List ℕ → Names → Kept → StuckCause → List ℕ
stuck_told file text names kept cause =
    framed file text (turn_place text kept.turn) (fault_word V4) (stuck_words names kept cause)
