-- The machine: it reads tokens by a plan, one after the other, and accepts a tree or stops at the first token that no row
-- of the table takes.
use Rattle.std.specs.Prelude.{◌≡◌, ℕ, ◌+◌, Bool, false, cond, List, [], ◌∷◌, Option, Some, None}
use denote.Enum.Bare.{sameb}
use Rattle.rb_base.specs.declared.place.Place.{Place}
use Rattle.rb_lex.specs.declared.token.Kind.TheVariants as kinds
use Rattle.rb_lex.specs.Bytes.{first_place}
use Rattle.rb_lex.specs.Tokens.{Lexeme}
use Rattle.rb_grammar.specs.contracts.terminal.Terminal.{the_type}
use Rattle.rb_grammar.specs.declared.terminal.Terminal.{Terminal}
use Rattle.rb_grammar.specs.declared.terminal.Terminal.TheVariants as terminals
use Rattle.rb_grammar.specs.Grammar.{Point}
use Rattle.rb_grammar.specs.Parts.{Part}
use Rattle.rb_grammar.specs.Plans.{Value, Seen, Plan, Done, Token, Call, bind}
use Rattle.rb_grammar.specs.Table.{Start, start, empty}
use Rattle.rb_grammar.specs.Terminals.{terminal_of}
use Rattle.rb_syntax.specs.Tree.{Tree}

-- Accepted, with the tree; or refused with these tokens left, the first of which fits no row, or none where the end came
-- too early.
pub data Outcome : Type 0 where
  Accepted : (tree : Tree) → Outcome
  Refused : (left : List Lexeme) → Outcome

-- whether two terminals are one
abbrev pub is_same : Terminal → Terminal → Bool
is_same = sameb the_type

-- whether the token that stands first is of a terminal
abbrev pub fits : Option Terminal → Terminal → Bool
fits None terminal = false
fits (Some first) terminal = is_same first terminal

-- how many names, and how many recoveries, came before the point after a token
abbrev pub names_after : Option Terminal → ℕ → ℕ
names_after (Some terminals.Name) names = names + 1
names_after _ names = names

-- how many recoveries came before the point after a token
abbrev pub blocks_after : Option Terminal → ℕ → ℕ
blocks_after (Some terminals.Ensure) blocks = blocks + 1
blocks_after _ blocks = blocks

-- what becomes of a part: its form begins, or it gives what a part without tokens does, or neither
abbrev pub called : {V R : Type 0} → Start V → Option V → ((Seen → Plan V) → R) → (V → R) → R → R
called (Some f) without begun passed neither = begun f
called None (Some v) begun passed neither = passed v
called None None begun passed neither = neither

-- at the end of the tokens
unfoldable pub finish : Plan Tree → Outcome
finish (Done tree) = Accepted tree
finish (Token terminal f) = Refused []
finish (Call part k) = called None (empty part) (λ f. Refused []) (λ v. finish (k v)) (Refused [])

-- the plan that is left after a token, if the plan takes it
unfoldable pub step : Option Terminal → Seen → Plan Tree → Option (Plan Tree)
step first seen (Done tree) = None
step first seen (Token terminal f) = cond (fits first terminal) (Some (f seen)) None
step first seen (Call part k) =
    called (start part first) (empty part) (λ f. Some (bind (f seen) k)) (λ v. step first seen (k v)) None

-- on with the plan that is left, if there is one
abbrev pub onward : Option (Plan Tree) → (Plan Tree → Outcome) → Outcome → Outcome
onward None next refused = refused
onward (Some plan) next refused = next plan

-- what comes of a plan over the tokens left, with so many names and recoveries before
unfoldable pub read : List Lexeme → ℕ → ℕ → Plan Tree → Outcome
read [] names blocks plan = finish plan
read (token ∷ others) names blocks plan =
    onward (step (terminal_of token) (record { token = token; names = names; blocks = blocks }) plan)
    (λ later. read others (names_after (terminal_of token) names) (blocks_after (terminal_of token) blocks) later)
    (Refused (token ∷ others))

-- what comes of a plan from a point on
abbrev pub run : Plan Tree → Point → Outcome
run plan point = read point.left point.names point.blocks plan

-- a whole program is wanted, and nothing behind it
abbrev pub whole : Plan Tree
whole = Call Part.Program (λ tree. Done tree)

-- what stands first
abbrev pub look : List Lexeme → Option Terminal
look [] = None
look (token ∷ others) = terminal_of token

-- the place of the token that stands first, if there is one
abbrev pub place_of : List Lexeme → Option Place
place_of [] = None
place_of (token ∷ others) = Some token.place

-- the first token of a point; at the end nothing stands for it
abbrev pub no_token : Lexeme
no_token = record { kind = kinds.Mark; text = []; place = first_place }

-- the token that stands first
abbrev pub first_of : List Lexeme → Lexeme
first_of [] = no_token
first_of (token ∷ others) = token

-- what is seen at a point
abbrev pub seen_at : Point → Seen
seen_at point = record { token = first_of point.left; names = point.names; blocks = point.blocks }

-- a token of this terminal stands between two points
pub record Advances (terminal : Terminal) (token : Lexeme) (a b : Point) : Type 0 where
  pub stands : a.left ≡ token ∷ b.left
  pub is : terminal_of token ≡ Some terminal
  pub names : b.names ≡ names_after (Some terminal) a.names
  pub blocks : b.blocks ≡ blocks_after (Some terminal) a.blocks

-- from one point to another a part was read, with its value
pub record Reads (part : Part) (value : Value part) (a b : Point) : Type 0 where
  pub leads : (k : Value part → Plan Tree) → run (Call part k) a ≡ run (k value) b

-- the reading of a part stopped at a point, whose first token fits no row
pub record Stops (part : Part) (a b : Point) : Type 0 where
  pub leads : (k : Value part → Plan Tree) → run (Call part k) a ≡ Refused b.left
