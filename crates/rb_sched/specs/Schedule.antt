-- Schedules: a text that lists the turns of a run, and its first fault. The form of the text is this project's own, as is
-- all that this crate defines.
use Rattle.std.specs.Prelude.{◌≡◌, ℕ, zero, suc, ◌+◌, ◌*◌, ◌==◌, nat_eq, nat_lt, Bool, ◌&&◌, ◌||◌, cond, List, [], ◌∷◌, ◌++◌, length, codes, replicate, Option, Some, None, Result, Ok, Err}
use Rattle.std.specs.Cmp.Lexicographic.{pointwise}
use Rattle.rb_base.specs.declared.fault.TextFault.{TextFault}
use Rattle.rb_base.specs.declared.fault.FaultName.{FaultName}
use Rattle.rb_base.specs.declared.fault.FaultName.TheVariants.{T1, T2, T3, T4}
use Rattle.rb_base.specs.declared.limits.TheConstants.{MOST_TURNS}
use Rattle.rb_base.specs.Bytes.{is_name, is_number, digits_value}
use Rattle.rb_base.specs.Naming.{first_named}

-- a space or a tab
abbrev pub is_space : ℕ → Bool
is_space b = b == 32 || b == 9

-- the bytes behind the last LF are a line, unless there are none.
abbrev pub end_line : List ℕ → List (List ℕ) → List (List ℕ)
end_line [] lines = lines
end_line (b ∷ bs) lines = (b ∷ bs) ∷ lines

-- the lines of a text, where these bytes of the first one were passed already
abbrev pub lines_from : List ℕ → List ℕ → List (List ℕ)
lines_from line [] = end_line line []
lines_from line (b ∷ bs) = cond (b == 10) (line ∷ lines_from [] bs) (lines_from (line ++ b ∷ []) bs)

-- the lines of a whole text
abbrev pub lines_of : List ℕ → List (List ℕ)
lines_of text = lines_from [] text

-- a CR right before LF, or at the end of the text, is ignored
abbrev pub without_cr : List ℕ → List ℕ
without_cr [] = []
without_cr (b ∷ []) = cond (b == 13) [] (b ∷ [])
without_cr (b ∷ c ∷ bs) = b ∷ without_cr (c ∷ bs)

-- a comment is `#` and all after it on the line
abbrev pub without_comment : List ℕ → List ℕ
without_comment [] = []
without_comment (b ∷ bs) = cond (b == 35) [] (b ∷ without_comment bs)

-- the bytes that were passed are a word, unless there are none.
abbrev pub end_word : List ℕ → List (List ℕ) → List (List ℕ)
end_word [] words = words
end_word (b ∷ bs) words = (b ∷ bs) ∷ words

-- the words of a line, where these bytes of the first one were passed already
abbrev pub words_from : List ℕ → List ℕ → List (List ℕ)
words_from word [] = end_word word []
words_from word (b ∷ bs) = cond (is_space b) (end_word word (words_from [] bs)) (words_from (word ++ b ∷ []) bs)

-- the words of a line, apart from its comment and its CR
abbrev pub words_of : List ℕ → List (List ℕ)
words_of line = words_from [] (without_comment (without_cr line))

-- what a line of two words asks for: turns of one process or rounds of all
pub data Whose : Type 0 where
  One : (process : ℕ) → Whose
  Everyone : Whose

-- the process of this name, or all of them
abbrev pub whose : List (List ℕ) → List ℕ → Option Whose
whose names word = cond (pointwise nat_eq (codes "all") word) (Some Everyone) (one_of (first_named names word))
  where
    one_of : Option ℕ → Option Whose
    one_of None = None
    one_of (Some p) = Some (One p)

-- so many numbers in order, from one on
abbrev pub numbers_from : ℕ → ℕ → List ℕ
numbers_from at zero = []
numbers_from at (suc n) = at ∷ numbers_from (at + 1) n

-- so many rounds, each one turn of every process in the order of declaration
abbrev pub rounds : ℕ → ℕ → List ℕ
rounds processes zero = []
rounds processes (suc n) = numbers_from 0 processes ++ rounds processes n

-- the turns of a line
abbrev pub turns_of : ℕ → Whose → ℕ → List ℕ
turns_of processes (One p) n = replicate n p
turns_of processes Everyone n = rounds processes n

-- how many turns a line has, without listing them
abbrev pub count_of : ℕ → Whose → ℕ → ℕ
count_of processes (One p) n = n
count_of processes Everyone n = processes * n

-- the turns of a line whose words are a name and a count, where so many turns came before; or the least fault
abbrev pub counted_line : List (List ℕ) → ℕ → Option Whose → ℕ → Result (List ℕ) FaultName
counted_line names before None n = Err T2
counted_line names before (Some who) n =
    cond (n == 0 || nat_lt MOST_TURNS n) (Err T3)
    (cond (nat_lt MOST_TURNS (before + count_of (length names) who n)) (Err T4)
    (Ok (turns_of (length names) who n)))

-- a line's turns, or its fault with the least number
abbrev pub line_of_words : List (List ℕ) → ℕ → List (List ℕ) → Result (List ℕ) FaultName
line_of_words names before [] = Ok []
line_of_words names before (name ∷ []) = Err T1
line_of_words names before (name ∷ count ∷ []) =
    cond (is_name name && is_number count) (counted_line names before (whose names name) (digits_value 0 count)) (Err T1)
line_of_words names before (name ∷ count ∷ more ∷ words) = Err T1

-- the turns that a line lists, where so many came before it, or its fault with the least number
abbrev pub line_turns : List (List ℕ) → ℕ → List ℕ → Result (List ℕ) FaultName
line_turns names before line = line_of_words names before (words_of line)

-- the turns of a line in front of those of the lines after it
abbrev pub in_front : List ℕ → Result (List ℕ) TextFault → Result (List ℕ) TextFault
in_front turns (Ok others) = Ok (turns ++ others)
in_front turns (Err fault) = Err fault

-- goes on after a line, unless it has a fault, which stands at its number
abbrev pub after_line : Result (List ℕ) FaultName → ℕ → (ℕ → Result (List ℕ) TextFault) → Result (List ℕ) TextFault
after_line (Ok turns) at others = in_front turns (others (length turns))
after_line (Err name) at others = Err (record { name = name; at = at })

-- the turns of the lines from this number on, where so many turns came before; or the first fault
abbrev pub lines_turns : List (List ℕ) → ℕ → ℕ → List (List ℕ) → Result (List ℕ) TextFault
lines_turns names before at [] = Ok []
lines_turns names before at (line ∷ lines) =
    after_line (line_turns names before line) at (λ n. lines_turns names (before + n) (at + 1) lines)

-- the list of process numbers that a text stands for, or its first fault
abbrev pub schedule_of : List (List ℕ) → List ℕ → Result (List ℕ) TextFault
schedule_of names text = lines_turns names 0 1 (lines_of text)

-- a schedule as its callers see it: all its turns, and those left
pub record Plan : Type 0 where
  pub all : List ℕ
  pub left : List ℕ

-- a schedule that was read and not yet walked
abbrev pub fresh : List ℕ → Plan
fresh turns = record { all = turns; left = turns }

-- the next turn is taken off, until none is left
abbrev pub TakesTurn : Plan → Option ℕ → Plan → Type 0
TakesTurn old None new = (old.left ≡ []) × (new ≡ old)
TakesTurn old (Some p) new = (old.left ≡ p ∷ new.left) × (new.all ≡ old.all)
