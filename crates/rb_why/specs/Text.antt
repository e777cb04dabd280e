-- Why a schedule, a record, a session or a history is refused, in words.
use Rattle.std.specs.Prelude.{ℕ, ◌+◌, ◌-◌, ◌==◌, min, Bool, true, false, ◌&&◌, cond, List, [], ◌++◌, length, codes, Option, Some, None}
use Rattle.rb_base.specs.Naming.{process_names}
use Rattle.rb_base.specs.Words.{fault_word}
use Rattle.rb_base.specs.declared.fault.FaultName.{FaultName}
use Rattle.rb_base.specs.declared.fault.FaultName.TheVariants.{T1, T2, T3, T4, V1, V2, V3, B1, B2, B3}
use Rattle.rb_base.specs.declared.fault.TextFault.{TextFault}
use Rattle.rb_base.specs.declared.limits.TheConstants.{MOST_BYTES}
use Rattle.rb_base.specs.declared.names.Names.{Names}
use Rattle.rb_base.specs.declared.place.Place.{Place}
use Rattle.rb_near.specs.Nearest.{nearest}
use Rattle.rb_why.specs.Bytes.{carriage_return_words, has_cr, has_order_mark, order_mark_words}
use Rattle.rb_frame.specs.Frame.{framed_with}
use Rattle.rb_why.specs.Likeness.{reads_like_source}
use Rattle.rb_why.specs.Listed.{listed}
use Rattle.rb_why.specs.Meant.{meant_or}
use Rattle.rb_why.specs.Phrases.{sentence}
use Rattle.rb_why.specs.Words.{from_word, word_at, words_line}

-- which word of its line a fault is about, from 0
abbrev pub told_word : FaultName → ℕ
told_word T3 = 1
told_word V2 = 1
told_word B2 = 1
told_word name = 0

-- whether the sentence about a fault names this word
abbrev pub is_about_word : FaultName → Bool
is_about_word T2 = true
is_about_word T3 = true
is_about_word V2 = true
is_about_word V3 = true
is_about_word B2 = true
is_about_word name = false

-- what the sentence about a fault of a line names, if it names a word
abbrev pub subject : List ℕ → FaultName → List ℕ
subject line name = cond (is_about_word name) (word_at line (told_word name)) []

-- whether a text with a fault of this name speaks of the processes of a program, as a schedule, a record and a session do
abbrev pub names_process : FaultName → Bool
names_process T1 = true
names_process T2 = true
names_process T3 = true
names_process T4 = true
names_process V1 = true
names_process V2 = true
names_process V3 = true
names_process B1 = true
names_process B2 = true
names_process B3 = true
names_process name = false

-- whether a fault is about a name that no process has
abbrev pub is_about_process : FaultName → Bool
is_about_process T2 = true
is_about_process V2 = true
is_about_process B2 = true
is_about_process name = false

-- the sentence with the processes that there are
abbrev pub with_processes : List ℕ → Option Names → List ℕ
with_processes words None = words
with_processes words (Some names) = words ++ (codes ", which has " ++ listed (process_names names) [])

-- the sentence about the word that a fault is about, with the processes that there are where it is a name that none has
abbrev pub word_words : List ℕ → Option Names → FaultName → List ℕ
word_words line names name =
    cond (is_about_process name) (with_processes (sentence name (subject line name)) names) (sentence name (subject line name))

-- the sentence about a fault of a line; what a comment has is no matter
abbrev pub line_words : List ℕ → Option Names → TextFault → List ℕ
line_words text names fault =
    cond ((fault.at == 1) && has_order_mark text) order_mark_words
    (cond (reads_like_source names text) (codes "this reads like a source, and another text is wanted here")
    (cond (has_cr (words_line text fault.at)) carriage_return_words
    (word_words (words_line text fault.at) names fault.name)))

-- the place of a word of a line, from 0; no text has a column above the most bytes
abbrev pub word_place : List ℕ → ℕ → ℕ → Place
word_place text line number = record {
  line = line;
  column = min (length (words_line text line) - length (from_word number (words_line text line))) MOST_BYTES + 1;
}

-- the process that was meant, where a fault is about a name that none has
abbrev pub process_meant : List ℕ → Option Names → FaultName → Option (List ℕ)
process_meant line None name = None
process_meant line (Some names) name = cond (is_about_process name) (nearest (subject line name) (process_names names)) None

-- why a text of this file is refused for the fault of one of its lines
abbrev pub text_told : List ℕ → List ℕ → Option Names → TextFault → List ℕ
text_told file text names fault =
    framed_with file text (word_place text fault.at (told_word fault.name)) (fault_word fault.name) (line_words text names fault)
    (meant_or (process_meant (words_line text fault.at) names fault.name) [])
