-- What may stand at a place of a source in place of what stands there.
use Rattle.std.specs.Prelude.{◌≡◌, ◌⊎◌, ℕ, ◌+◌, ◌-◌, ◌^◌, ◌==◌, min, nat_eq, Bool, true, not, ◌&&◌, ◌||◌, cond, List, [], ◌∷◌, ◌++◌, length, take, codes, decimal}
use Rattle.std.specs.List.{list_all}
use Rattle.std.specs.Cmp.Lexicographic.{pointwise}
use Rattle.rb_base.specs.Bytes.{is_name}
use Rattle.rb_base.specs.Reserved.{is_one_of, is_reserved}
use Rattle.rb_base.specs.declared.fault.SourceFault.{SourceFault}
use Rattle.rb_base.specs.declared.place.Place.{Place}
use Rattle.rb_lex.specs.Tokens.{edition_of}
use Rattle.rb_grammar.specs.Terminals.{marks, words}
use Rattle.rb_grammar.specs.Verdict.{RefusedFor}
use Rattle.rb_why.specs.Listed.{quoted, with_word}
use Rattle.rb_why.specs.declared.expected.TheConstants.{MOST_TOLD}

-- one token of each kind, a name, a number, 2, a text, and each word and mark of the grammar, in the order in which they are told: what
-- completes what stands before, then what begins something, and what goes on with it last
abbrev pub tried : List (List ℕ)
tried = codes ";" ∷ codes ")" ∷ codes "]" ∷ codes ":=" ∷ codes "{" ∷ codes "}" ∷ codes "." ∷ codes ":" ∷ codes "by" ∷ codes "within"
    ∷ codes "error" ∷ codes "from" ∷ codes "to" ∷ codes "size" ∷ codes "(" ∷ codes "x" ∷ codes "1" ∷ codes "2"
    ∷ codes "\"t\"" ∷ codes "," ∷ codes "program" ∷ codes "process" ∷ codes "end" ∷ codes "edition" ∷ codes "print" ∷ codes "if"
    ∷ codes "while" ∷ codes "ensure" ∷ codes "call" ∷ codes "var" ∷ codes "send" ∷ codes "receive" ∷ codes "converse" ∷ codes "fail" ∷ codes "else"
    ∷ codes "procedure" ∷ codes "channel" ∷ codes "conversation" ∷ codes "[" ∷ codes "+" ∷ codes "-" ∷ codes "*" ∷ codes "/" ∷ codes "%"
    ∷ codes "=" ∷ codes "<>" ∷ codes "<" ∷ codes "<=" ∷ codes ">" ∷ codes ">=" ∷ codes "and" ∷ codes "or" ∷ codes "not" ∷ codes "prior"
    ∷ codes "every" ∷ codes "some" ∷ codes "sum" ∷ codes "all" ∷ []

-- each word and each mark of the grammar is tried
pub record TriesAll : Type 0 where
  pub words : list_all (λ s. is_one_of tried s.0) words ≡ true
  pub marks : list_all (λ s. is_one_of tried s.0) marks ≡ true

-- how a token is told
abbrev pub label : List ℕ → List ℕ
label token =
    cond (pointwise nat_eq token (codes "x")) (codes "a name")
    (cond (pointwise nat_eq token (codes "1")) (codes "a number")
    (cond (pointwise nat_eq token (codes "\"t\"")) (codes "a text")
    (quoted token)))

-- the source in which a token is tried: a text, and the token behind it on a line of its own
abbrev pub trial : List ℕ → List ℕ → List ℕ
trial text token = text ++ (codes "\n" ++ token)

-- the front of the line behind this one
abbrev pub front_behind : ℕ → Place
front_behind line = record { line = min (line + 1) (2 ^ 32 - 1); column = 1 }

-- a source is refused at the front of the line behind this one
abbrev pub IsRefusedBehind : List ℕ → ℕ → Type 0
IsRefusedBehind source line = (fault : SourceFault) × RefusedFor source fault × (fault.place ≡ front_behind line)

-- a name that is no word of the source's edition
abbrev pub is_name_there : List ℕ → List ℕ → Bool
is_name_there source word = is_name word && not (is_reserved (edition_of source) word)

-- a token may stand behind a text: the text with it is not refused at it
abbrev pub MayStand : List ℕ → ℕ → List ℕ → Type 0
MayStand text line token = IsRefusedBehind (trial text token) line → ⊥

-- whether a token is no other one behind a text: what is no word of the edition is a name there
abbrev pub is_own : List ℕ → List ℕ → Bool
is_own text token = pointwise nat_eq token (codes "x") || not (is_name_there (trial text token) token)

-- where any number may stand, 2 is none of its own
abbrev pub IsOther : List ℕ → ℕ → List ℕ → Type 0
IsOther text line token = pointwise nat_eq token (codes "2") ≡ true → MayStand text line (codes "1") → ⊥

-- A token may stand behind a text, and is told by no other one.
pub record IsTold (text : List ℕ) (line : ℕ) (token : List ℕ) : Type 0 where
  pub own : is_own text token ≡ true
  pub other : IsOther text line token
  pub stands : MayStand text line token

-- those of these tokens that are told, behind the ones that were told before
abbrev pub Tells : List ℕ → ℕ → List (List ℕ) → List (List ℕ) → List (List ℕ) → Type 0
Tells text line [] told all = all ≡ told
Tells text line (token ∷ tokens) told all =
    (IsTold text line token × Tells text line tokens (told ++ (token ∷ [])) all)
    ⊎ ((IsTold text line token → ⊥) × Tells text line tokens told all)

-- Of the tokens that are tried those are told that may stand behind a text, in their order, and no other.
pub record TellsTried (text : List ℕ) (line : ℕ) (told : List (List ℕ)) : Type 0 where
  pub all : Tells text line tried [] told

-- what was told after a token was tried
abbrev pub GoesOn : List ℕ → ℕ → List ℕ → List (List ℕ) → List (List ℕ) → Type 0
GoesOn text line token told next =
    (IsTold text line token × (next ≡ told ++ (token ∷ []))) ⊎ ((IsTold text line token → ⊥) × (next ≡ told))

-- tokens as they are told, behind what was told before
abbrev pub labels : List (List ℕ) → List ℕ → List ℕ
labels [] told = told
labels (token ∷ tokens) told = labels tokens (with_word told (label token))

-- how many tokens there are beside those that are named
abbrev pub others : ℕ → List ℕ
others count =
    cond (count == 0) [] (cond (count == 1) (codes " or 1 other") (codes " or " ++ (decimal count ++ codes " others")))

-- the first tokens of a list as they are told, and how many others there are
abbrev pub told_first : List (List ℕ) → List ℕ
told_first tokens = labels (take MOST_TOLD tokens) [] ++ others (length tokens - MOST_TOLD)
