-- Sentences about bytes that no token has, and about texts that do not end.
use Rattle.std.specs.Prelude.{ℕ, nat_eq, nat_le, ◌==◌, Bool, ◌&&◌, cond, List, [], ◌∷◌, ◌++◌, length, drop, take, codes, decimal}
use Rattle.std.specs.List.{list_any}
use Rattle.std.specs.Cmp.Lexicographic.{pointwise}
use Rattle.rb_base.specs.declared.fault.FaultName.TheVariants.{X1, X2}
use Rattle.rb_base.specs.declared.place.Place.{Place}
use Rattle.rb_lex.specs.Bytes.{first_place, is_printable}
use Rattle.rb_sched.specs.Schedule.{without_cr}
use Rattle.rb_frame.specs.Lines.{before, line_at}
use Rattle.rb_frame.specs.Places.{is_place}
use Rattle.rb_why.specs.Phrases.{sentence}

-- whether a text begins with a byte order mark
abbrev pub has_order_mark : List ℕ → Bool
has_order_mark text = pointwise nat_eq (take 3 text) (239 ∷ 187 ∷ 191 ∷ [])

abbrev pub order_mark_words : List ℕ
order_mark_words = codes "a byte order mark stands at the front: save the file as plain ASCII without one"

abbrev pub carriage_return_words : List ℕ
carriage_return_words = codes "a carriage return stands in the middle of this line"

abbrev pub has_cr : List ℕ → Bool
has_cr bytes = list_any (nat_eq 13) bytes

-- the source from a place on
abbrev pub from_place : List ℕ → Place → List ℕ
from_place source place = drop (length (before source place)) source

-- what stands of its line from a place on, without the CR that may end the line
abbrev pub line_from : List ℕ → Place → List ℕ
line_from source place = without_cr (line_at 1 (from_place source place))

-- the sentence about the byte at the front, which can't stand there: a tab that can't stand somewhere stands in a text
abbrev pub front_byte_words : List ℕ → List ℕ
front_byte_words [] = sentence X1 []
front_byte_words (b ∷ bs) =
    cond (b == 58) (codes "a `:` has no `=` behind it")
    (cond (b == 9) (codes "a tab stands in this text: write blanks")
    (cond (is_printable b) (codes "`" ++ (b ∷ codes "` begins no token"))
    (cond (nat_le 128 b) (codes "the byte " ++ (decimal b ++ codes " is no ASCII, and a source has no other bytes"))
    (sentence X1 (decimal b)))))

-- the sentence about the byte at a place of a source, which can't stand there: a byte order mark is one at the first place alone
abbrev pub byte_words : List ℕ → Place → List ℕ
byte_words source place =
    cond (is_place place first_place && has_order_mark source) order_mark_words (front_byte_words (from_place source place))

-- the sentence about the text whose opening quote stands at a place, which has no closing quote on its line
abbrev pub open_words : List ℕ → Place → List ℕ
open_words source place =
    cond (has_cr (line_from source place)) (codes "a carriage return stands in this text before its closing quote") (sentence X2 [])
