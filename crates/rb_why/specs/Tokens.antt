-- The token at a place.
use Rattle.std.specs.Prelude.{ℕ, cond, List, [], ◌∷◌}
use Rattle.rb_base.specs.declared.place.Place.{Place}
use Rattle.rb_lex.specs.Tokens.{Lexeme}
use Rattle.rb_frame.specs.Places.{is_place}

-- the text of the token at a place; nothing where none stands there
abbrev pub text_at : Place → List Lexeme → List ℕ
text_at place [] = []
text_at place (token ∷ tokens) = cond (is_place token.place place) token.text (text_at place tokens)
