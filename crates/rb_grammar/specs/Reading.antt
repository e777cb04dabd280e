-- Where a cursor stands, and why reading stops there.
use Rattle.std.specs.Prelude.{◌≡◌, ℕ, ◌+◌, ◌^◌, ◌≤◌, length, Bool, true, false, List, [], ◌∷◌, Option, Some, None}
use Rattle.rb_base.specs.declared.limits.TheConstants.{MOST_OPEN_BRACKETS}
use Rattle.rb_lex.specs.declared.token.Token.{Token}
use Rattle.rb_lex.specs.Reader.{Reader, lexeme_of}
use Rattle.rb_lex.specs.Tokens.{Lexeme, Ending, AtEnd, AtFault}
use Rattle.rb_lex.specs.TokenList.{tokens_left, ending_left}
use Rattle.rb_base.specs.declared.fault.SourceFault.{SourceFault}
use Rattle.rb_base.specs.declared.place.Place.{Place}
use Rattle.rb_grammar.specs.declared.stop.Stop.{Stop}
use Rattle.rb_grammar.specs.declared.stop.Stop.TheVariants as stops
use Rattle.rb_grammar.specs.declared.terminal.Terminal.{Terminal}
use Rattle.rb_grammar.specs.Allowed.{allowed, ending_allowed}
use Rattle.rb_grammar.specs.Grammar.{Point, TakesName}
use Rattle.rb_grammar.specs.Machine.{Advances, Stops, fits, look, run}
use Rattle.rb_grammar.specs.Parts.{Part}
use Rattle.rb_grammar.specs.Plans.{Value, Plan, Call, bind}
use Rattle.rb_grammar.specs.Terminals.{terminal_of}
use Rattle.rb_syntax.specs.Tree.{Identifier, Tree}

-- where a cursor stands: the point, and how its tokens end
pub record Position : Type 0 where
  pub point : Point
  pub ending : Ending

-- the tokens from the one ahead on; with none ahead none is left
abbrev pub tokens_ahead : Option Token → List Lexeme → List Lexeme
tokens_ahead None others = []
tokens_ahead (Some token) others = lexeme_of token ∷ others

-- where a cursor stands before these tokens, with so many brackets open
abbrev pub position_before : List Lexeme → Ending → ℕ → ℕ → ℕ → Position
position_before tokens ending names blocks brackets = record {
  point = record { left = allowed brackets tokens; names = names; blocks = blocks };
  ending = ending_allowed brackets tokens ending;
}

-- where a cursor stands, with one token ahead of its reader
abbrev pub position_of : Option Token → Reader → ℕ → ℕ → ℕ → Position
position_of ahead reader names blocks brackets =
    position_before (tokens_ahead ahead (tokens_left reader)) (ending_left reader) names blocks brackets

-- what stands first does not fit, and nothing was taken
pub record Misses (terminal : Terminal) (old new : Position) : Type 0 where
  pub other : fits (look old.point.left) terminal ≡ false
  pub stays : new ≡ old

-- a token of this terminal was taken, and no other stands behind it
pub record TakesLast (terminal : Terminal) (old : Position) : Type 0 where
  pub token : Lexeme
  pub after : Point
  pub takes : Advances terminal token old.point after
  pub ended : after.left ≡ []

-- two tokens were taken, one behind the other
pub record TakesTwo (first second : Terminal) (a c : Point) : Type 0 where
  pub between : Point
  pub one : Lexeme
  pub two : Lexeme
  pub takes : Advances first one a between
  pub behind : Advances second two between c

-- a token was taken, and a name behind it
pub record TakesNamed (first : Terminal) (name : Identifier) (a c : Point) : Type 0 where
  pub between : Point
  pub one : Lexeme
  pub takes : Advances first one a between
  pub named : TakesName name between c

-- of two tokens the first is not what stands first, or the second not what stands behind it
pub data MissesTwo (first second : Terminal) (old new : Position) : Type 0 where
  misses_first : Misses first old new → MissesTwo first second old new
  misses_second : (between : Position) (token : Lexeme) → Advances first token old.point between.point →
      Misses second between new → MissesTwo first second old new

-- of two tokens one was taken, and no other stands behind it
pub data TakesLastTwo (first second : Terminal) (old : Position) : Type 0 where
  last_first : TakesLast first old → TakesLastTwo first second old
  last_second : (between : Position) (token : Lexeme) → Advances first token old.point between.point →
      TakesLast second between → TakesLastTwo first second old

-- a part was begun, all tokens were taken, and this plan is left of it
pub record Exhausts (part : Part) (a : Point) : Type 0 where
  pub end : Point
  pub plan : Plan (Value part)
  pub ended : end.left ≡ []
  pub leads : (k : Value part → Plan Tree) → run (Call part k) a ≡ run (bind plan k) end

-- why reading stopped: P says what a form that is not there means, L what it means that the tokens end with a fault
pub data Stopped (P L : Type 0) (ending : Ending) : Stop → Type 0 where
  by_form : P → Stopped P L ending stops.Form
  by_token : (fault : SourceFault) → ending ≡ AtFault fault → L → Stopped P L ending (stops.Token fault)
  by_memory : Stopped P L ending stops.Memory

-- why the taking of a token stopped, why that of two tokens did, and why the reading of a part did
abbrev pub IsNotTaken : Terminal → Position → Position → Stop → Type 0
IsNotTaken terminal old new stop = Stopped (Misses terminal old new) (TakesLast terminal old) old.ending stop

abbrev pub AreNotTaken : Terminal → Terminal → Position → Position → Stop → Type 0
AreNotTaken first second old new stop =
    Stopped (MissesTwo first second old new) (TakesLastTwo first second old) old.ending stop

abbrev pub IsNotRead : Part → Position → Position → Stop → Type 0
IsNotRead part old new stop = Stopped (Stops part old.point new.point) (Exhausts part old.point) old.ending stop

-- what the token ahead is to the grammar
abbrev pub terminal_ahead : Option Token → Option Terminal
terminal_ahead None = None
terminal_ahead (Some token) = terminal_of (lexeme_of token)

-- A cursor knows what stands first, and with nothing there its reader stands at the end. No bracket too many was taken. A
-- source of at most 1,048,576 bytes has no more tokens, which bounds the counts.
pub record IsSound (terminal : Option Terminal) (ahead : Option Token) (reader : Reader) (brackets : ℕ) (at : Position) : Type 0 where
  pub looks : terminal ≡ look at.point.left
  pub ended : ahead ≡ None → ending_left reader ≡ AtEnd reader.place
  pub brackets_fit : brackets ≤ MOST_OPEN_BRACKETS
  pub names_fit : at.point.names + length at.point.left ≤ 2 ^ 20
  pub blocks_fit : at.point.blocks + length at.point.left ≤ 2 ^ 20

-- no token is left
abbrev pub is_nothing : List Lexeme → Bool
is_nothing [] = true
is_nothing (token ∷ others) = false

-- the source itself ends there, if this is so
abbrev pub EndsIf : Bool → Ending → Type 0
EndsIf true ending = (at : Place) × (ending ≡ AtEnd at)
EndsIf false ending = Unit {0}

-- the place of what stands first, or where nothing is left that of the end
abbrev pub IsPlaceOf : List Lexeme → Ending → Place → Type 0
IsPlaceOf [] ending place = ending ≡ AtEnd place
IsPlaceOf (token ∷ others) ending place = place ≡ token.place
