-- A token for each terminal.
use Rattle.std.proofs.Common.{◌≡◌, ℕ, List, [], ◌∷◌, pos, Some, refl}
use Rattle.std.specs.Prelude.{codes}
use Rattle.rb_lex.specs.declared.token.Kind.TheVariants as kinds
use Rattle.rb_lex.specs.Bytes.{first_place}
use Rattle.rb_lex.specs.Tokens.{Lexeme}
use Rattle.rb_grammar.specs.declared.terminal.Terminal.{Terminal}
use Rattle.rb_grammar.specs.declared.terminal.Terminal.TheVariants as terminals
use Rattle.rb_grammar.specs.Terminals.{terminal_of}

abbrev word : List ℕ → Lexeme
word text = record { kind = kinds.Word; text = text; place = first_place }

abbrev mark : List ℕ → Lexeme
mark text = record { kind = kinds.Mark; text = text; place = first_place }

abbrev pub sample : Terminal → Lexeme
sample terminals.Name = record { kind = kinds.Name; text = codes "x"; place = first_place }
sample terminals.Number = record { kind = kinds.Number (pos 0); text = codes "0"; place = first_place }
sample terminals.Two = record { kind = kinds.Number (pos 2); text = codes "2"; place = first_place }
sample terminals.Text = record { kind = kinds.Text; text = 34 ∷ 34 ∷ []; place = first_place }
sample terminals.All = word (codes "all")
sample terminals.And = word (codes "and")
sample terminals.By = word (codes "by")
sample terminals.Call = word (codes "call")
sample terminals.Channel = word (codes "channel")
sample terminals.Conversation = word (codes "conversation")
sample terminals.Converse = word (codes "converse")
sample terminals.Edition = word (codes "edition")
sample terminals.Else = word (codes "else")
sample terminals.End = word (codes "end")
sample terminals.Ensure = word (codes "ensure")
sample terminals.Error = word (codes "error")
sample terminals.Every = word (codes "every")
sample terminals.Fail = word (codes "fail")
sample terminals.From = word (codes "from")
sample terminals.If = word (codes "if")
sample terminals.Not = word (codes "not")
sample terminals.Or = word (codes "or")
sample terminals.Print = word (codes "print")
sample terminals.Prior = word (codes "prior")
sample terminals.Procedure = word (codes "procedure")
sample terminals.Process = word (codes "process")
sample terminals.Program = word (codes "program")
sample terminals.Receive = word (codes "receive")
sample terminals.Send = word (codes "send")
sample terminals.Size = word (codes "size")
sample terminals.Some = word (codes "some")
sample terminals.Sum = word (codes "sum")
sample terminals.To = word (codes "to")
sample terminals.Var = word (codes "var")
sample terminals.While = word (codes "while")
sample terminals.Within = word (codes "within")
sample terminals.Semicolon = mark (codes ";")
sample terminals.Comma = mark (codes ",")
sample terminals.Dot = mark (codes ".")
sample terminals.Colon = mark (codes ":")
sample terminals.OpenParen = mark (codes "(")
sample terminals.CloseParen = mark (codes ")")
sample terminals.OpenBrace = mark (codes "{")
sample terminals.CloseBrace = mark (codes "}")
sample terminals.OpenBracket = mark (codes "[")
sample terminals.CloseBracket = mark (codes "]")
sample terminals.Becomes = mark (codes ":=")
sample terminals.Equal = mark (codes "=")
sample terminals.Unequal = mark (codes "<>")
sample terminals.Less = mark (codes "<")
sample terminals.LessEqual = mark (codes "<=")
sample terminals.Greater = mark (codes ">")
sample terminals.GreaterEqual = mark (codes ">=")
sample terminals.Plus = mark (codes "+")
sample terminals.Minus = mark (codes "-")
sample terminals.Star = mark (codes "*")
sample terminals.Slash = mark (codes "/")
sample terminals.Percent = mark (codes "%")

pub sample_is : (terminal : Terminal) → terminal_of (sample terminal) ≡ Some terminal
sample_is terminals.Name = refl
sample_is _ = refl
