-- What a text reads like, where another one is wanted.
use Rattle.std.specs.Prelude.{ℕ, nat_eq, Bool, true, false, not, ◌&&◌, ◌||◌, cond, List, [], ◌∷◌, codes, Option, Some, None}
use Rattle.std.specs.Option.{is_some}
use Rattle.std.specs.Cmp.Lexicographic.{pointwise}
use Rattle.rb_base.specs.Bytes.{is_name, is_number}
use Rattle.rb_base.specs.Naming.{first_named, process_names}
use Rattle.rb_base.specs.declared.names.Names.{Names}
use Rattle.rb_sched.specs.Schedule.{lines_of, without_comment, without_cr}
use Rattle.rb_why.specs.Words.{from_word, word_at}

abbrev pub is_nil : List ℕ → Bool
is_nil [] = true
is_nil (b ∷ bs) = false

-- the first line that has words, without its comment and its CR
abbrev pub first_words : List (List ℕ) → List ℕ
first_words [] = []
first_words (line ∷ lines) =
    cond (is_nil (from_word 0 (without_comment (without_cr line)))) (first_words lines) (without_comment (without_cr line))

-- whether a source begins with this word
abbrev pub begins_source : List ℕ → Bool
begins_source word = pointwise nat_eq word (codes "program") || pointwise nat_eq word (codes "edition")

-- the first word of a text that stands in no comment
abbrev pub first_word : List ℕ → List ℕ
first_word text = word_at (first_words (lines_of text)) 0

-- whether a process has this name, where it is known which processes there are
abbrev pub is_process : Option Names → List ℕ → Bool
is_process None word = false
is_process (Some names) word = is_some (first_named (process_names names) word)

-- whether a text reads like a source: its first word is `program` or `edition`, and no process has that name
abbrev pub reads_like_source : Option Names → List ℕ → Bool
reads_like_source names text = begins_source (first_word text) && not (is_process names (first_word text))

-- whether a line has a name, a number and no more
abbrev pub is_counted : List ℕ → Bool
is_counted line =
    is_name (word_at line 0) && (is_number (word_at line 1) && (is_nil (from_word 2 line) && not (begins_source (word_at line 0))))

-- whether a text reads like a schedule: the first line that has words has a name and a number
abbrev pub reads_like_schedule : List ℕ → Bool
reads_like_schedule text = is_counted (first_words (lines_of text))
