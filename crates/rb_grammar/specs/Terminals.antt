-- Terminals: what a token is to the grammar. What this crate defines is this project's own, but for the statements that
-- `Grammar` names as those of the literature.
use Rattle.std.specs.Prelude.{ℕ, ℤ, pos, nat_eq, cond, List, [], ◌∷◌, codes, Option, Some, None}
use Rattle.std.specs.Cmp.Lexicographic.{pointwise}
use Rattle.std.specs.Ordering.{int_eq}
use Rattle.rb_lex.specs.declared.token.Kind.{Kind}
use Rattle.rb_lex.specs.declared.token.Kind.TheVariants as kinds
use Rattle.rb_lex.specs.Tokens.{Lexeme}
use Rattle.rb_grammar.specs.declared.terminal.Terminal.{Terminal}
use Rattle.rb_grammar.specs.declared.terminal.Terminal.TheVariants as terminals

-- a word or a mark, and what it is
abbrev pub Spelling : Type 0
Spelling = List ℕ × Terminal

-- what these bytes are in a table
abbrev pub spelled : List ℕ → List Spelling → Option Terminal
spelled text [] = None
spelled text ((bytes, terminal) ∷ others) = cond (pointwise nat_eq bytes text) (Some terminal) (spelled text others)

-- the reserved words of both editions
abbrev pub words : List Spelling
words = (codes "all", terminals.All) ∷ (codes "and", terminals.And) ∷ (codes "by", terminals.By) ∷ (codes "call", terminals.Call)
    ∷ (codes "channel", terminals.Channel) ∷ (codes "conversation", terminals.Conversation) ∷
    (codes "converse", terminals.Converse) ∷ (codes "edition", terminals.Edition) ∷ (codes "else", terminals.Else) ∷
    (codes "end", terminals.End) ∷ (codes "ensure", terminals.Ensure) ∷ (codes "error", terminals.Error) ∷
    (codes "every", terminals.Every) ∷ (codes "fail", terminals.Fail) ∷ (codes "from", terminals.From) ∷
    (codes "if", terminals.If) ∷ (codes "not", terminals.Not) ∷ (codes "or", terminals.Or) ∷ (codes "print", terminals.Print) ∷
    (codes "prior", terminals.Prior) ∷ (codes "procedure", terminals.Procedure) ∷ (codes "process", terminals.Process) ∷
    (codes "program", terminals.Program) ∷ (codes "receive", terminals.Receive) ∷ (codes "send", terminals.Send) ∷
    (codes "size", terminals.Size) ∷ (codes "some", terminals.Some) ∷ (codes "sum", terminals.Sum) ∷ (codes "to", terminals.To) ∷
    (codes "var", terminals.Var) ∷ (codes "while", terminals.While) ∷ (codes "within", terminals.Within) ∷ []

-- the marks of both editions
abbrev pub marks : List Spelling
marks = (codes ";", terminals.Semicolon) ∷ (codes ",", terminals.Comma) ∷ (codes ".", terminals.Dot) ∷
    (codes ":", terminals.Colon) ∷ (codes "(", terminals.OpenParen) ∷ (codes ")", terminals.CloseParen) ∷
    (codes "{", terminals.OpenBrace) ∷ (codes "}", terminals.CloseBrace) ∷
    (codes "[", terminals.OpenBracket) ∷ (codes "]", terminals.CloseBracket) ∷ (codes ":=", terminals.Becomes) ∷
    (codes "=", terminals.Equal) ∷ (codes "<>", terminals.Unequal) ∷ (codes "<", terminals.Less) ∷
    (codes "<=", terminals.LessEqual) ∷ (codes ">", terminals.Greater) ∷ (codes ">=", terminals.GreaterEqual) ∷
    (codes "+", terminals.Plus) ∷ (codes "-", terminals.Minus) ∷ (codes "*", terminals.Star) ∷ (codes "/", terminals.Slash) ∷
    (codes "%", terminals.Percent) ∷ []

-- two is a number of its own, since an edition asks for it
abbrev pub number_terminal : ℤ → Terminal
number_terminal value = cond (int_eq value (pos 2)) terminals.Two terminals.Number

-- what a token is, by its kind and its bytes
abbrev pub terminal_of_kind : Kind → List ℕ → Option Terminal
terminal_of_kind kinds.Name text = Some terminals.Name
terminal_of_kind (kinds.Number value) text = Some (number_terminal value)
terminal_of_kind kinds.Text text = Some terminals.Text
terminal_of_kind kinds.Word text = spelled text words
terminal_of_kind kinds.Mark text = spelled text marks

-- what a token is
abbrev pub terminal_of : Lexeme → Option Terminal
terminal_of token = terminal_of_kind token.kind token.text
