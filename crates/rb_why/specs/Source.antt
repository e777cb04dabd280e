-- Why a source is refused, in words.
use Rattle.std.specs.Prelude.{◌≡◌, ℕ, nat_le, Bool, not, ◌&&◌, cond, List, [], ◌∷◌, ◌++◌, length, codes}
use Rattle.rb_base.specs.Words.{fault_word}
use Rattle.rb_base.specs.declared.fault.FaultName.{FaultName}
use Rattle.rb_base.specs.declared.fault.FaultName.TheVariants.{X1, X2, Y1, N3, N4, N5}
use Rattle.rb_base.specs.declared.fault.SourceFault.{SourceFault}
use Rattle.rb_base.specs.declared.place.Place.{Place}
use Rattle.rb_lex.specs.TokenList.{tokens_of}
use Rattle.rb_why.specs.Bytes.{byte_words, open_words}
use Rattle.rb_why.specs.Expected.{TellsTried, told_first}
use Rattle.rb_frame.specs.Frame.{framed_with}
use Rattle.rb_why.specs.Likeness.{reads_like_schedule}
use Rattle.rb_frame.specs.Lines.{before}
use Rattle.rb_why.specs.Nested.{elsewhere, lacking, unequal}
use Rattle.rb_why.specs.Phrases.{sentence}
use Rattle.rb_why.specs.Remarks.{is_about_token, remarks}
use Rattle.rb_why.specs.Tokens.{text_at}
use Rattle.rb_why.specs.declared.expected.TheConstants.{MOST_TRIED}
use Rattle.rb_why.specs.declared.source.Way.{Way}
use Rattle.rb_why.specs.declared.source.Way.TheVariants as ways

-- which sentence a fault of a source has
abbrev pub way_of : FaultName → Way
way_of X1 = ways.Byte
way_of X2 = ways.Open
way_of Y1 = ways.Stray
way_of N3 = ways.Lacking
way_of N4 = ways.Elsewhere
way_of N5 = ways.Unequal
way_of name = ways.Token

-- that a token can't stand at a place, or that the source ends there too early
abbrev pub stray_words : List ℕ → List ℕ
stray_words [] = codes "the source ends too early"
stray_words (b ∷ bs) = sentence Y1 (b ∷ bs)

-- with these that may stand there, if any may
abbrev pub with_expected : List ℕ → List (List ℕ) → List ℕ
with_expected words [] = words ++ codes ": the program has ended"
with_expected words (token ∷ tokens) = words ++ (codes "; expected " ++ told_first (token ∷ tokens))

-- whether it is tried what may stand in place of a stray token: where the text is a source, and not too much stands before
abbrev pub is_tried : List ℕ → Place → Bool
is_tried source place = not (reads_like_schedule source) && nat_le (length (before source place)) MOST_TRIED

-- what may stand at the place of a fault, where that is tried
abbrev pub Tries : List ℕ → SourceFault → List (List ℕ) → Type 0
Tries source fault may =
    cond (is_about_token fault.name && is_tried source fault.place) (TellsTried (before source fault.place) fault.place.line may) (may ≡ [])

-- the sentence about a place where a token is stray, or the source ends
abbrev pub stray_told : List ℕ → Place → List (List ℕ) → List ℕ
stray_told source place may =
    cond (reads_like_schedule source) (codes "this reads like a schedule, and a source is wanted here")
    (cond (is_tried source place) (with_expected (stray_words (text_at place (tokens_of source))) may)
    (stray_words (text_at place (tokens_of source))))

-- the sentence about a fault of a source, the token at whose place is what it is about
abbrev pub words_by : Way → List ℕ → SourceFault → List (List ℕ) → List ℕ
words_by ways.Byte source fault may = byte_words source fault.place
words_by ways.Open source fault may = open_words source fault.place
words_by ways.Stray source fault may = stray_told source fault.place may
words_by ways.Lacking source fault may = lacking (tokens_of source) fault.place
words_by ways.Elsewhere source fault may = elsewhere (tokens_of source) fault.place
words_by ways.Unequal source fault may = unequal (tokens_of source) fault.place
words_by ways.Token source fault may = sentence fault.name (text_at fault.place (tokens_of source))

-- the sentence and the remarks, where this may stand at the place
abbrev pub reason_told : List ℕ → List ℕ → SourceFault → List (List ℕ) → List ℕ
reason_told file source fault may =
    framed_with file source fault.place (fault_word fault.name) (words_by (way_of fault.name) source fault may) (remarks source fault may)

-- why a source of this file is refused for this fault
abbrev pub IsReason : List ℕ → List ℕ → SourceFault → List ℕ → Type 0
IsReason file source fault told =
    (may : List (List ℕ)) × Tries source fault may × (told ≡ reason_told file source fault may)
