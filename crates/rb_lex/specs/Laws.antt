-- Laws of the token lists of texts.
use Rattle.std.specs.Prelude.{◌≡◌, ℕ, ◌+◌, ◌<◌, ◌==◌, not, ◌⊎◌, List, [], ◌∷◌, ◌++◌, length, All, AllPairs, count_by, Option, Some, None, Result, Ok, Err}
use Rattle.std.specs.List.{suffix_len}
use Rattle.rb_base.specs.declared.place.Place.{Place}
use Rattle.rb_lex.specs.Bytes.{first_place, place_past}
use Rattle.rb_lex.specs.Tokens.{Lexeme, Ending, AtEnd, AtFault, Tokens}
use Rattle.rb_base.specs.declared.fault.SourceFault.{SourceFault}
use Rattle.rb_lex.specs.declared.token.Token.{Token}
use Rattle.rb_lex.specs.Reader.{Reader, lexeme_of, Answers}
use Rattle.rb_lex.specs.TokenList.{tokens_of, ending_of, tokens_left, ending_left}

-- a text has one token list and one ending
abbrev pub HasOneTokenList : Type 0
HasOneTokenList = (bytes : List ℕ) (ts us : List Lexeme) (e f : Ending) → Tokens bytes ts e → Tokens bytes us f → (ts ≡ us) × (e ≡ f)

-- each text has a token list
abbrev pub HasTokenList : Type 0
HasTokenList = (bytes : List ℕ) → Tokens bytes (tokens_of bytes) (ending_of bytes)

-- a part of a source stands at this place
abbrev pub StandsAt : List ℕ → List ℕ → Place → Type 0
StandsAt source text place = (before : List ℕ) × (after : List ℕ) × (source ≡ before ++ text ++ after) × (place ≡ place_past first_place before)

-- each token's text is the part of the source at its place
abbrev pub TokensStand : Type 0
TokensStand =
    (bytes : List ℕ) (tokens : List Lexeme) (ending : Ending) → Tokens bytes tokens ending
    → All (λ token. StandsAt bytes token.text token.place) tokens

-- one place stands before another: on an earlier line, or on its line at an earlier column
abbrev pub IsBefore : Place → Place → Type 0
IsBefore p q = (p.line < q.line) ⊎ ((p.line ≡ q.line) × (p.column < q.column))

-- each token stands before all later ones
abbrev pub TokensRise : Type 0
TokensRise =
    (bytes : List ℕ) (tokens : List Lexeme) (ending : Ending) → Tokens bytes tokens ending → AllPairs (λ t u. IsBefore t.place u.place) tokens

-- the end stands behind the last byte, and a fault at some byte
abbrev pub EndingStandsAt : List ℕ → Ending → Type 0
EndingStandsAt source (AtEnd at) = at ≡ place_past first_place source
EndingStandsAt source (AtFault fault) = (b : ℕ) × StandsAt source (b ∷ []) fault.place

-- the ending of each text stands behind its last byte, or at the byte of its fault
abbrev pub EndingStands : Type 0
EndingStands = (bytes : List ℕ) (tokens : List Lexeme) (ending : Ending) → Tokens bytes tokens ending → EndingStandsAt bytes ending

-- how many bytes follow the last LF
abbrev pub since_last_lf : List ℕ → ℕ
since_last_lf bytes = suffix_len (λ b. not (b == 10)) bytes

-- a line counts the LF before it, and a column the bytes since the last of them
abbrev pub PlacesCount : Type 0
PlacesCount =
    (before : List ℕ) → place_past first_place before ≡ record { line = 1 + count_by (λ b. b == 10) before; column = 1 + since_last_lf before }

-- What a lexer answers is the first of the tokens that it has left, or their ending. Each token leaves fewer bytes.
abbrev pub AnswersFirst : Type 0
AnswersFirst = (old new : Reader) (token : Token) → Answers old (Ok (Some token)) new
    → (tokens_left old ≡ lexeme_of token ∷ tokens_left new) × (ending_left old ≡ ending_left new) × (length new.left < length old.left)

-- where a lexer answers that there is no token, it has none left, and the source ends there
abbrev pub AnswersEnd : Type 0
AnswersEnd = (old new : Reader) → Answers old (Ok None) new → (tokens_left old ≡ []) × (ending_left old ≡ AtEnd new.place)

-- where a lexer answers a fault, it has no token left, and the tokens end with this fault
abbrev pub AnswersFault : Type 0
AnswersFault = (old new : Reader) (fault : SourceFault) → Answers old (Err fault) new → (tokens_left old ≡ []) × (ending_left old ≡ AtFault fault)

-- the end, or a fault, is answered again, and nothing changes
abbrev pub EndStays : Type 0
EndStays = (a b c : Reader) (outcome : Result (Option Token) SourceFault) → Answers a (Ok None) b → Answers b outcome c
    → (outcome ≡ Ok None) × (c ≡ b)

-- a fault is answered again, and nothing changes
abbrev pub FaultStays : Type 0
FaultStays = (a b c : Reader) (fault : SourceFault) (outcome : Result (Option Token) SourceFault) → Answers a (Err fault) b
    → Answers b outcome c → (outcome ≡ Err fault) × (c ≡ b)
