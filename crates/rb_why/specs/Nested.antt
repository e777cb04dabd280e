-- Sentences about conversations inside each other, and about the alternates of one.
use Rattle.std.specs.Prelude.{ℕ, ◌==◌, cond, List, [], ◌++◌, drop, codes, decimal, Option, Some, None}
use Rattle.rb_base.specs.declared.place.Place.{Place}
use Rattle.rb_lex.specs.Tokens.{Lexeme}
use Rattle.rb_why.specs.Tokens.{text_at}
use Rattle.rb_why.specs.Blocks.{alternates}
use Rattle.rb_why.specs.Converses.{converse_at, first_converse, name_around}
use Rattle.rb_why.specs.declared.converses.Converse.{Converse}

-- a name that may be wanting
abbrev pub or_nothing : Option (List ℕ) → List ℕ
or_nothing None = []
or_nothing (Some name) = name

-- that a conversation stands inside one that lacks one of its members, with both names
abbrev pub lacking : List Lexeme → Place → List ℕ
lacking tokens place =
    codes "`" ++ (text_at place tokens ++ (codes "` stands inside `" ++ (or_nothing (name_around tokens (converse_at tokens place))
    ++ codes "`, which lacks one of its members")))

-- what a `converse` stands right inside
abbrev pub standing : Option (List ℕ) → List ℕ
standing None = codes "inside no conversation"
standing (Some name) = codes "right inside `" ++ (name ++ codes "`")

-- that a conversation stands inside another one here than at its first `converse`, with both around it
abbrev pub elsewhere : List Lexeme → Place → List ℕ
elsewhere tokens place =
    codes "`" ++ (text_at place tokens ++ (codes "` stands " ++ (standing (name_around tokens (converse_at tokens place))
    ++ (codes " here, and " ++ (standing (name_around tokens (first_converse tokens (text_at place tokens)))
    ++ codes " at its first `converse`")))))

-- how many alternates a `converse` has
abbrev pub alternates_of : List Lexeme → Option Converse → ℕ
alternates_of tokens None = 0
alternates_of tokens (Some converse) = alternates 0 (drop converse.named tokens)

-- so many alternates
abbrev pub counted : ℕ → List ℕ
counted count = decimal count ++ cond (count == 1) (codes " alternate") (codes " alternates")

-- that a `converse` has another number of alternates than the first one for its conversation, with both numbers
abbrev pub unequal : List Lexeme → Place → List ℕ
unequal tokens place =
    codes "this `converse` for `" ++ (text_at place tokens ++ (codes "` has " ++ (counted (alternates_of tokens (converse_at tokens place))
    ++ (codes ", and the first one has " ++ counted (alternates_of tokens (first_converse tokens (text_at place tokens)))))))
