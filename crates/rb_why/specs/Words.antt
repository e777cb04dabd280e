-- The words of a line of a schedule, a record, a session or a history.
use Rattle.std.specs.Prelude.{ℕ, zero, suc, Bool, not, cond, List, [], ◌∷◌, take_while}
use Rattle.rb_sched.specs.Schedule.{is_space, without_comment, without_cr}
use Rattle.rb_frame.specs.Lines.{line_at}

-- what is no space between words
abbrev pub is_of_word : ℕ → Bool
is_of_word b = not (is_space b)

-- the line of this number without its comment and its CR
abbrev pub words_line : List ℕ → ℕ → List ℕ
words_line text line = without_comment (without_cr (line_at line text))

-- what stands behind the spaces at the front
abbrev pub after_spaces : List ℕ → List ℕ
after_spaces [] = []
after_spaces (b ∷ bs) = cond (is_of_word b) (b ∷ bs) (after_spaces bs)

-- what stands behind the word at the front
abbrev pub after_word : List ℕ → List ℕ
after_word [] = []
after_word (b ∷ bs) = cond (is_of_word b) (after_word bs) (b ∷ bs)

-- the line from its word of this number on, from 0
abbrev pub from_word : ℕ → List ℕ → List ℕ
from_word zero line = after_spaces line
from_word (suc n) line = from_word n (after_word (after_spaces line))

-- the word of this number, from 0; nothing where the line has no such word
abbrev pub word_at : List ℕ → ℕ → List ℕ
word_at line number = take_while is_of_word (from_word number line)
