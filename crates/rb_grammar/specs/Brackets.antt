-- Open brackets. A text has at most so many open at any point, so that no reader of it needs more room than for these.
use Rattle.std.specs.Prelude.{ℕ, ◌+◌, ◌-◌, ◌≤◌, List, [], ◌∷◌, take, Option, Some}
use Rattle.rb_base.specs.declared.limits.TheConstants.{MOST_OPEN_BRACKETS}
use Rattle.rb_lex.specs.Tokens.{Lexeme}
use Rattle.rb_grammar.specs.declared.terminal.Terminal.{Terminal}
use Rattle.rb_grammar.specs.declared.terminal.Terminal.TheVariants as terminals
use Rattle.rb_grammar.specs.Terminals.{terminal_of}

-- how many brackets are open after a token, by how many were open before it
abbrev pub open_after : Option Terminal → ℕ → ℕ
open_after (Some terminals.OpenParen) n = n + 1
open_after (Some terminals.OpenBrace) n = n + 1
open_after (Some terminals.OpenBracket) n = n + 1
open_after (Some terminals.CloseParen) n = n - 1
open_after (Some terminals.CloseBrace) n = n - 1
open_after (Some terminals.CloseBracket) n = n - 1
open_after _ n = n

-- how many brackets are open after these tokens, with so many open before them
abbrev pub open_from : ℕ → List Lexeme → ℕ
open_from n [] = n
open_from n (token ∷ tokens) = open_from (open_after (terminal_of token) n) tokens

-- how many brackets these tokens leave open
abbrev pub open_in : List Lexeme → ℕ
open_in tokens = open_from 0 tokens

-- after no token are more brackets open than may be
abbrev pub HasFewOpen : List Lexeme → Type 0
HasFewOpen tokens = (n : ℕ) → open_in (take n tokens) ≤ MOST_OPEN_BRACKETS
