-- What is told beside the sentence about a fault of a source.
use Rattle.std.specs.Prelude.{ℕ, nat_lt, Bool, true, false, ◌||◌, cond, List, [], ◌∷◌, ◌++◌, codes, Option, Some, None}
use Rattle.rb_base.specs.Reserved.{is_one_of}
use Rattle.rb_base.specs.declared.fault.FaultName.{FaultName}
use Rattle.rb_base.specs.declared.fault.FaultName.TheVariants.{X1, Y1, S1}
use Rattle.rb_base.specs.declared.fault.SourceFault.{SourceFault}
use Rattle.rb_base.specs.declared.place.Place.{Place}
use Rattle.rb_frame.specs.Frame.{helped}
use Rattle.rb_frame.specs.Lines.{before}
use Rattle.rb_lex.specs.TokenList.{tokens_of}
use Rattle.rb_lex.specs.Tokens.{Lexeme}
use Rattle.rb_why.specs.Bytes.{from_place}
use Rattle.rb_why.specs.Habits.{habit_words}
use Rattle.rb_why.specs.Likeness.{is_nil}
use Rattle.rb_why.specs.Meant.{meant_among, meant_or, statement_meant}
use Rattle.rb_why.specs.Named.{name_told, note_of}
use Rattle.rb_why.specs.Open.{innermost_open, last_of, text_of}
use Rattle.rb_why.specs.Seconds.{second_place}
use Rattle.rb_why.specs.Tokens.{text_at}

-- the faults that come of what is written in other languages: about a byte, a token and a name
abbrev pub has_habits : FaultName → Bool
has_habits X1 = true
has_habits Y1 = true
has_habits S1 = true
has_habits name = false

-- whether a fault is about a token that can't stand there
abbrev pub is_about_token : FaultName → Bool
is_about_token Y1 = true
is_about_token name = false

-- whether a fault is about a name that nothing declares
abbrev pub is_unknown : FaultName → Bool
is_unknown S1 = true
is_unknown name = false

-- what stands outside of all processes
abbrev pub outer_words : List (List ℕ)
outer_words = codes "end" ∷ codes "process" ∷ codes "channel" ∷ codes "conversation" ∷ []

-- help in words, where there are some, and else another remark
abbrev pub help_or : Option (List ℕ) → List ℕ → List ℕ
help_or None other = other
help_or (Some words) other = helped words

-- the word that a token was meant to be which can't stand here, among those that may; or the token before it, where that begins a statement
abbrev pub word_told : List ℕ → List ℕ → List (List ℕ) → List ℕ
word_told before here may = meant_or (meant_among here may) (meant_or (statement_meant before may) [])

-- what was meant by a token that can't stand here, or by a name that nothing declares
abbrev pub meant_told : List ℕ → FaultName → List ℕ → List Lexeme → List (List ℕ) → List ℕ
meant_told source name here tokens may =
    cond (is_about_token name) (word_told (text_of (last_of tokens)) here may) (cond (is_unknown name) (name_told source here tokens) [])

-- whether a process should have ended at a place: the source does, or what stands outside of all processes begins
abbrev pub ends_all : List ℕ → Place → Bool
ends_all source place = is_nil (from_place source place) || is_one_of outer_words (text_at place (tokens_of source))

-- a `{` that is still open where a process should have ended
abbrev pub open_told : List ℕ → SourceFault → List Lexeme → List ℕ
open_told source fault tokens =
    cond (ends_all source fault.place) (note_of source (innermost_open tokens) (codes "this `{` is still open")) []

-- the place of the last token, where it stands on a line before
abbrev pub line_end : Place → Option Lexeme → Option Place
line_end place None = None
line_end place (Some token) = cond (nat_lt token.place.line place.line) (Some token.place) None

-- a `;` that may be missing at the end of a line before
abbrev pub missing_told : List ℕ → Place → Option Lexeme → List (List ℕ) → List ℕ
missing_told source place last may =
    cond (is_one_of may (codes ";")) (note_of source (line_end place last) (codes "a `;` may be missing behind this")) []

-- what the tokens before a place tell of a token that can't stand there
abbrev pub stray_remarks : List ℕ → SourceFault → List Lexeme → List (List ℕ) → List ℕ
stray_remarks source fault tokens may = open_told source fault tokens ++ missing_told source fault.place (last_of tokens) may

-- the same of any fault that comes of what is written elsewhere, with what is written here in place of what stands there, or
-- what was meant by it
abbrev pub remarks_behind : List ℕ → SourceFault → List Lexeme → List (List ℕ) → List ℕ
remarks_behind source fault tokens may =
    help_or (habit_words (text_of (last_of tokens)) may (text_at fault.place (tokens_of source)) (from_place source fault.place))
    (meant_told source fault.name (text_at fault.place (tokens_of source)) tokens may)
    ++ cond (is_about_token fault.name) (stray_remarks source fault tokens may) []

-- the remarks about a fault, where these may stand at its place
abbrev pub remarks : List ℕ → SourceFault → List (List ℕ) → List ℕ
remarks source fault may =
    cond (has_habits fault.name) (remarks_behind source fault (tokens_of (before source fault.place)) may)
    (second_place source fault.name (text_at fault.place (tokens_of source)) (tokens_of (before source fault.place)))
