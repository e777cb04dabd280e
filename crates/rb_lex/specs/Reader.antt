-- A lexer as its callers see it, and what `next` answers.
use Rattle.std.specs.Prelude.{◌≡◌, ℕ, false, List, [], Option, Some, None, Result, Ok, Err}
use Rattle.rb_base.specs.declared.edition.Edition.{Edition}
use Rattle.rb_base.specs.declared.place.Place.{Place}
use Rattle.rb_base.specs.declared.fault.SourceFault.{SourceFault}
use Rattle.rb_lex.specs.declared.token.Token.{Token}
use Rattle.rb_lex.specs.Tokens.{Lexeme, Next, End, Found, Refused, next_from}

-- the edition, the place of the next byte, and the bytes left
pub record Reader : Type 0 where
  pub edition : Edition
  pub place : Place
  pub left : List ℕ

-- what comes next for a lexer
abbrev pub next_of : Reader → Next
next_of reader = next_from reader.edition false reader.place reader.left

-- a token without where its bytes lie
abbrev pub lexeme_of : Token → Lexeme
lexeme_of token = record { kind = token.kind; text = token.text.now; place = token.place }

-- what `next` answers, and the reader after it, are what comes next; after a fault the reader stays where it was
abbrev pub Answers : Reader → Result (Option Token) SourceFault → Reader → Type 0
Answers old (Ok None) new = (next_of old ≡ End new.place) × (new.left ≡ []) × (new.edition ≡ old.edition)
Answers old (Ok (Some token)) new = (next_of old ≡ Found (lexeme_of token) new.place new.left) × (new.edition ≡ old.edition)
Answers old (Err fault) new = (next_of old ≡ Refused fault) × (new ≡ old)
