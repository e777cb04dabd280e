-- Which conversation stands around a `converse`, seen from the tokens alone.
use Rattle.std.specs.Prelude.{ℕ, ◌+◌, ◌-◌, nat_eq, Bool, false, cond, List, [], ◌∷◌, ◌++◌, length, take, codes, Option, Some, None, slice_get, option_map, option_and_then}
use Rattle.std.specs.List.{find}
use Rattle.std.specs.Cmp.Lexicographic.{pointwise}
use Rattle.rb_base.specs.declared.place.Place.{Place}
use Rattle.rb_lex.specs.Tokens.{Lexeme}
use Rattle.rb_frame.specs.Places.{is_place}
use Rattle.rb_why.specs.declared.converses.Converse.{Converse}

-- the innermost conversation of blocks that are open, the outermost first, each with its conversation if it has one
abbrev pub innermost : List (Option ℕ) → Option ℕ → Option ℕ
innermost [] found = found
innermost (None ∷ blocks) found = innermost blocks found
innermost (Some name ∷ blocks) found = innermost blocks (Some name)

-- Every `converse` among tokens, of which the first has this number. A block begins at its `ensure` and ends at its `error`; a `converse`
-- names its conversation right behind it, and that is the conversation of the next block.
abbrev pub converses : ℕ → List Lexeme → List (Option ℕ) → Option ℕ → List Converse
converses at [] blocks next = []
converses at (token ∷ tokens) blocks next =
    cond (pointwise nat_eq token.text (codes "converse"))
    (record { named = at + 1; around = innermost blocks None } ∷ converses (at + 1) tokens blocks (Some (at + 1)))
    (cond (pointwise nat_eq token.text (codes "ensure")) (converses (at + 1) tokens (blocks ++ next ∷ []) None)
    (cond (pointwise nat_eq token.text (codes "error")) (converses (at + 1) tokens (take (length blocks - 1) blocks) next)
    (converses (at + 1) tokens blocks next)))

-- those of a whole source
abbrev pub converses_of : List Lexeme → List Converse
converses_of tokens = converses 0 tokens [] None

-- whether a token stands at a place
abbrev pub stands_at : Place → Option Lexeme → Bool
stands_at place None = false
stands_at place (Some token) = is_place token.place place

-- whether a token has this text
abbrev pub has_text : List ℕ → Option Lexeme → Bool
has_text text None = false
has_text text (Some token) = pointwise nat_eq token.text text

-- the `converse` whose name stands at a place
abbrev pub converse_at : List Lexeme → Place → Option Converse
converse_at tokens place = find (λ c. stands_at place (slice_get tokens c.named)) (converses_of tokens)

-- the first `converse` for the conversation of this name
abbrev pub first_converse : List Lexeme → List ℕ → Option Converse
first_converse tokens name = find (λ c. has_text name (slice_get tokens c.named)) (converses_of tokens)

-- the name of the conversation right around a `converse`
abbrev pub name_around : List Lexeme → Option Converse → Option (List ℕ)
name_around tokens None = None
name_around tokens (Some converse) = option_and_then (λ n. option_map (λ token. token.text) (slice_get tokens n)) converse.around
