-- The token list of a text as a function of its bytes.
use Rattle.std.specs.Prelude.{ℕ, zero, suc, false, List, [], ◌∷◌, length}
use Rattle.rb_base.specs.declared.edition.Edition.{Edition}
use Rattle.rb_base.specs.declared.place.Place.{Place}
use Rattle.rb_lex.specs.Bytes.{first_place}
use Rattle.rb_lex.specs.Reader.{Reader}
use Rattle.rb_lex.specs.Tokens.{Lexeme, Next, End, Found, Refused, Ending, AtEnd, AtFault, next_from, edition_of}

-- the token that comes next, if one does, and those after it
abbrev pub token_and : Next → (Place → List ℕ → List Lexeme) → List Lexeme
token_and (End at) rest = []
token_and (Found token at left) rest = token ∷ rest at left
token_and (Refused fault) rest = []

-- how the tokens end: right here, or as those after the next token do
abbrev pub ending_and : Next → (Place → List ℕ → Ending) → Ending
ending_and (End at) rest = AtEnd at
ending_and (Found token at left) rest = rest at left
ending_and (Refused fault) rest = AtFault fault

-- The tokens from a place on, and how they end, in at most so many bytes. Each token takes one byte at least.
abbrev pub tokens_within : ℕ → Edition → Place → List ℕ → List Lexeme
tokens_within zero edition p bytes = []
tokens_within (suc n) edition p bytes = token_and (next_from edition false p bytes) (λ at left. tokens_within n edition at left)

-- how the tokens from a place on end, in at most so many bytes
abbrev pub ending_within : ℕ → Edition → Place → List ℕ → Ending
ending_within zero edition p bytes = AtEnd p
ending_within (suc n) edition p bytes = ending_and (next_from edition false p bytes) (λ at left. ending_within n edition at left)

-- the tokens from a place on, and how they end
abbrev pub tokens_from : Edition → Place → List ℕ → List Lexeme
tokens_from edition p bytes = tokens_within (length bytes) edition p bytes

-- how the tokens from a place on end
abbrev pub ending_from : Edition → Place → List ℕ → Ending
ending_from edition p bytes = ending_within (length bytes) edition p bytes

-- those of a whole text
abbrev pub tokens_of : List ℕ → List Lexeme
tokens_of bytes = tokens_from (edition_of bytes) first_place bytes

-- how the tokens of a whole text end
abbrev pub ending_of : List ℕ → Ending
ending_of bytes = ending_from (edition_of bytes) first_place bytes

-- those that a lexer has still to answer
abbrev pub tokens_left : Reader → List Lexeme
tokens_left reader = tokens_from reader.edition reader.place reader.left

-- how the tokens end that a lexer has still to answer
abbrev pub ending_left : Reader → Ending
ending_left reader = ending_from reader.edition reader.place reader.left
