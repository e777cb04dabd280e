-- The tokens that a cursor has to give. The first bracket with which too many are open is the last of them, and the
-- fault behind it is its own.
use Rattle.std.specs.Prelude.{ℕ, nat_lt, Bool, cond, List, [], ◌∷◌}
use Rattle.rb_base.specs.declared.limits.TheConstants.{MOST_OPEN_BRACKETS}
use Rattle.rb_base.specs.declared.fault.SourceFault.{SourceFault}
use Rattle.rb_base.specs.declared.fault.FaultName.TheVariants.{Y2}
use Rattle.rb_lex.specs.Tokens.{Lexeme, Ending, AtFault}
use Rattle.rb_lex.specs.TokenList.{tokens_of, ending_of}
use Rattle.rb_grammar.specs.Brackets.{open_after}
use Rattle.rb_grammar.specs.Terminals.{terminal_of}

-- whether too many brackets are open after a token, by how many were open before it
abbrev pub is_too_deep : ℕ → Lexeme → Bool
is_too_deep n token = nat_lt MOST_OPEN_BRACKETS (open_after (terminal_of token) n)

-- the fault of a bracket too many
abbrev pub too_deep : Lexeme → SourceFault
too_deep token = record { name = Y2; place = token.place }

-- these tokens, up to the first bracket too many and with it; so many brackets were open before them
abbrev pub allowed : ℕ → List Lexeme → List Lexeme
allowed n [] = []
allowed n (token ∷ tokens) =
    token ∷ cond (is_too_deep n token) [] (allowed (open_after (terminal_of token) n) tokens)

-- how they end: with a bracket too many, or as all tokens do
abbrev pub ending_allowed : ℕ → List Lexeme → Ending → Ending
ending_allowed n [] ending = ending
ending_allowed n (token ∷ tokens) ending =
    cond (is_too_deep n token) (AtFault (too_deep token)) (ending_allowed (open_after (terminal_of token) n) tokens ending)

-- those of a whole text
abbrev pub allowed_of : List ℕ → List Lexeme
allowed_of bytes = allowed 0 (tokens_of bytes)

-- how those of a whole text end
abbrev pub ending_allowed_of : List ℕ → Ending
ending_allowed_of bytes = ending_allowed 0 (tokens_of bytes) (ending_of bytes)
