-- Tokens: how the bytes of a source are cut. Each token is the longest that fits at its start, and between two tokens
-- there are only blanks and comments.
use Rattle.std.specs.Prelude.{◌≡◌, ℕ, pos, ◌+◌, ◌==◌, nat_eq, nat_le, nat_lt, Bool, true, false, not, ◌||◌, cond, List, [], ◌∷◌, length, take, drop, take_while, codes}
use Rattle.std.specs.Cmp.Lexicographic.{pointwise}
use Rattle.rb_base.specs.Reserved.{is_one_of, is_reserved}
use Rattle.rb_base.specs.declared.edition.Edition.{Edition}
use Rattle.rb_base.specs.declared.edition.Edition.TheVariants.{First, Second}
use Rattle.rb_base.specs.declared.limits.TheConstants.{LARGEST_NUMBER, LONGEST_NAME, LONGEST_TEXT}
use Rattle.rb_base.specs.Bytes.{is_letter, is_digit, is_name_byte, digits_value}
use Rattle.rb_base.specs.declared.place.Place.{Place}
use Rattle.rb_base.specs.declared.fault.SourceFault.{SourceFault}
use Rattle.rb_base.specs.declared.fault.FaultName.{FaultName}
use Rattle.rb_base.specs.declared.fault.FaultName.TheVariants.{X1, X2, X3, X4, X5}
use Rattle.rb_lex.specs.declared.token.Kind.{Kind}
use Rattle.rb_lex.specs.declared.token.Kind.TheVariants.{Name, Word, Number, Text, Mark}
use Rattle.rb_lex.specs.Bytes.{is_blank, is_printable, is_comment_byte, place_after, columns_on, first_place}

-- a token without where its bytes lie: its kind, its whole text, quotes included, and the place of its first byte
pub record Lexeme : Type 0 where
  pub kind : Kind
  pub text : List ℕ
  pub place : Place

-- the marks of two bytes
abbrev pub two_marks : List (List ℕ)
two_marks = codes ":=" ∷ codes "<>" ∷ codes "<=" ∷ codes ">=" ∷ []

-- the marks of one byte
abbrev pub one_marks : List (List ℕ)
one_marks = codes ";" ∷ codes "," ∷ codes "." ∷ codes "(" ∷ codes ")" ∷ codes "{" ∷ codes "}" ∷ codes "[" ∷ codes "]"
    ∷ codes "=" ∷ codes "<" ∷ codes ">" ∷ codes "+" ∷ codes "-" ∷ codes "*" ∷ codes "/" ∷ codes "%" ∷ []

-- the marks of one byte that an edition has beside them
abbrev pub own_marks : Edition → List (List ℕ)
own_marks First = []
own_marks Second = codes ":" ∷ []

-- What stands at the front of the bytes: a whole token of so many bytes, or a fault so many bytes further on.
pub data Front : Type 0 where
  Whole : (kind : Kind) (size : ℕ) → Front
  Faulty : (name : FaultName) (offset : ℕ) → Front

-- a name, or a reserved word
abbrev pub name_front : Edition → List ℕ → Front
name_front edition text =
    cond (nat_lt LONGEST_NAME (length text)) (Faulty X5 0)
    (Whole (cond (is_reserved edition text) Word Name) (length text))

-- a number, or the fault X3 where it is above the largest
abbrev pub number_front : List ℕ → Front
number_front digits =
    cond (nat_lt LARGEST_NUMBER (digits_value 0 digits)) (Faulty X3 0)
    (Whole (Number (pos (digits_value 0 digits))) (length digits))

-- A text is scanned from its quote, and what is met first decides. So many of its bytes were passed: the closing quote
-- ends it, CR, LF or the end of the source are X2, a 257th byte is X4, and a byte that isn't printable is X1.
abbrev pub text_front : ℕ → List ℕ → Front
text_front n [] = Faulty X2 0
text_front n (b ∷ bs) =
    cond (b == 34) (Whole Text (n + 2))
    (cond (b == 10 || b == 13) (Faulty X2 0)
    (cond (nat_le LONGEST_TEXT n) (Faulty X4 0)
    (cond (not (is_printable b)) (Faulty X1 (n + 1))
    (text_front (n + 1) bs))))

-- the longest mark that fits, or the fault X1 where none does
abbrev pub mark_front : Edition → List ℕ → Front
mark_front edition bytes =
    cond (is_one_of two_marks (take 2 bytes)) (Whole Mark 2)
    (cond (is_one_of one_marks (take 1 bytes) || is_one_of (own_marks edition) (take 1 bytes)) (Whole Mark 1)
    (Faulty X1 0))

-- what stands at the front, where that is no blank and no comment
abbrev pub front : Edition → List ℕ → Front
front edition [] = Faulty X1 0
front edition (b ∷ bs) =
    cond (is_letter b) (name_front edition (take_while is_name_byte (b ∷ bs)))
    (cond (is_digit b) (number_front (take_while is_digit (b ∷ bs)))
    (cond (b == 34) (text_front 0 bs)
    (mark_front edition (b ∷ bs))))

-- What comes next: the end of the source, a token with the place and the bytes after it, or a fault.
pub data Next : Type 0 where
  End : (at : Place) → Next
  Found : (token : Lexeme) (at : Place) (left : List ℕ) → Next
  Refused : (fault : SourceFault) → Next

-- tokens hold no LF, so a token of n bytes moves the place n columns
abbrev pub cut : Front → Place → List ℕ → Next
cut (Whole kind n) p bytes = Found (record { kind = kind; text = take n bytes; place = p }) (columns_on p n) (drop n bytes)
cut (Faulty name offset) p bytes = Refused (record { name = name; place = columns_on p offset })

-- What comes next from a place on, inside a comment or not. A comment is `#` and all up to LF or the end.
abbrev pub next_from : Edition → Bool → Place → List ℕ → Next
next_from edition comment p [] = End p
next_from edition true p (b ∷ bs) =
    cond (b == 10) (next_from edition false (place_after p b) bs)
    (cond (is_comment_byte b) (next_from edition true (place_after p b) bs)
    (Refused (record { name = X1; place = p })))
next_from edition false p (b ∷ bs) =
    cond (is_blank b) (next_from edition false (place_after p b) bs)
    (cond (b == 35) (next_from edition true (place_after p b) bs)
    (cut (front edition (b ∷ bs)) p (b ∷ bs)))

-- the first token has these bytes
abbrev pub begins_with : Next → List ℕ → Bool
begins_with (End p) word = false
begins_with (Found token p left) word = pointwise nat_eq token.text word
begins_with (Refused fault) word = false

-- a text is of edition 2 exactly where its first token has the bytes `edition`
abbrev pub edition_of : List ℕ → Edition
edition_of bytes = cond (begins_with (next_from First false first_place bytes) (codes "edition")) Second First

-- how a list of tokens ends: at the end of the source, whose place is told, or with the first fault
pub data Ending : Type 0 where
  AtEnd : (at : Place) → Ending
  AtFault : (fault : SourceFault) → Ending

-- The bytes from a place on are these tokens, and then this ending.
pub data TokensFrom (edition : Edition) : Place → List ℕ → List Lexeme → Ending → Type 0 where
  no_more : (p : Place) (bytes : List ℕ) (at : Place) → next_from edition false p bytes ≡ End at → TokensFrom edition p bytes [] (AtEnd at)
  one_more : (p : Place) (bytes : List ℕ) (token : Lexeme) (at : Place) (left : List ℕ) (tokens : List Lexeme) (ending : Ending)
      → next_from edition false p bytes ≡ Found token at left → TokensFrom edition at left tokens ending
      → TokensFrom edition p bytes (token ∷ tokens) ending
  a_fault : (p : Place) (bytes : List ℕ) (fault : SourceFault) → next_from edition false p bytes ≡ Refused fault
      → TokensFrom edition p bytes [] (AtFault fault)

-- the tokens of a whole text
abbrev pub Tokens : List ℕ → List Lexeme → Ending → Type 0
Tokens bytes tokens ending = TokensFrom (edition_of bytes) first_place bytes tokens ending
