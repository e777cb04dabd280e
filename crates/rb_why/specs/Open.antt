-- What is still open, and what stands last, seen from the tokens before a place.
use Rattle.std.specs.Prelude.{ℕ, ◌-◌, nat_eq, cond, List, [], ◌∷◌, ◌++◌, length, take, codes, Option, Some, None, slice_get}
use Rattle.std.specs.Cmp.Lexicographic.{pointwise}
use Rattle.rb_base.specs.declared.place.Place.{Place}
use Rattle.rb_lex.specs.Tokens.{Lexeme}

-- the places of the `{` that are open behind tokens, the outermost first, where these were open before
abbrev pub open_behind : List Place → List Lexeme → List Place
open_behind opened [] = opened
open_behind opened (token ∷ tokens) =
    cond (pointwise nat_eq token.text (codes "{")) (open_behind (opened ++ token.place ∷ []) tokens)
    (cond (pointwise nat_eq token.text (codes "}")) (open_behind (take (length opened - 1) opened) tokens)
    (open_behind opened tokens))

-- the last of some things
abbrev pub last_of : {A : Type 0} → List A → Option A
last_of items = slice_get items (length items - 1)

-- the innermost `{` that is open behind all these tokens
abbrev pub innermost_open : List Lexeme → Option Place
innermost_open tokens = last_of (open_behind [] tokens)

-- the text of a token; nothing where there is none
abbrev pub text_of : Option Lexeme → List ℕ
text_of None = []
text_of (Some token) = token.text
