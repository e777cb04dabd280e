-- What is told of a name by where it is declared, and the name that was meant.
use Rattle.std.specs.Prelude.{ℕ, nat_eq, Bool, cond, List, [], ◌∷◌, map, drop, length, codes, Option, Some, None, option_map, option_and_then, slice_get}
use Rattle.std.specs.Option.{is_some}
use Rattle.std.specs.Cmp.Lexicographic.{pointwise}
use Rattle.rb_base.specs.declared.place.Place.{Place}
use Rattle.rb_frame.specs.Frame.{noted}
use Rattle.rb_lex.specs.TokenList.{tokens_of}
use Rattle.rb_lex.specs.Tokens.{Lexeme}
use Rattle.rb_near.specs.Nearest.{nearest}
use Rattle.rb_why.specs.Meant.{meant_or}
use Rattle.rb_why.specs.Scope.{named_behind, names_around}
use Rattle.rb_why.specs.declared.converses.Converse.{Converse}

-- the names that are declared around the place of a source behind these tokens
abbrev pub names_at : List ℕ → List Lexeme → List Lexeme
names_at source before = names_around before (drop (length before) (tokens_of source))

-- help with the name that an unknown one was meant to be
abbrev pub name_told : List ℕ → List ℕ → List Lexeme → List ℕ
name_told source here before = meant_or (nearest here (map (λ (token : Lexeme). token.text) (names_at source before))) []

-- the place of the last of these that has this text, or else the one that was found before
abbrev pub last_named : List ℕ → List Lexeme → Option Place → Option Place
last_named name [] found = found
last_named name (token ∷ tokens) found = last_named name tokens (cond (pointwise nat_eq token.text name) (Some token.place) found)

abbrev pub quantifiers : List (List ℕ)
quantifiers = codes "every" ∷ codes "some" ∷ codes "sum" ∷ []

-- whether a quantified expression among these tokens has this name
abbrev pub is_quantified : List ℕ → List Lexeme → Bool
is_quantified name before = is_some (last_named name (named_behind quantifiers [] [] before) None)

-- where a name is declared, of those around the place behind these tokens; nothing where a quantified expression before has that name too
abbrev pub declaration : List ℕ → List ℕ → List Lexeme → Option Place
declaration source name before = cond (is_quantified name before) None (last_named name (names_at source before) None)

-- the place of a `converse`, which is that of its name
abbrev pub place_named : List Lexeme → Option Converse → Option Place
place_named tokens converse = option_and_then (λ c. option_map (λ (token : Lexeme). token.place) (slice_get tokens c.named)) converse

-- a remark about a place, if there is one
abbrev pub note_of : List ℕ → Option Place → List ℕ → List ℕ
note_of source None words = []
note_of source (Some place) words = noted source place words
