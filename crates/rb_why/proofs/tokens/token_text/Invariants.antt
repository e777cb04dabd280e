use Rattle.std.proofs.Common.{◌≡◌, length}
use Rattle.rb_lex.specs.TokenList.{tokens_of, tokens_left}
use Rattle.rb_why.specs.Tokens.{text_at}
use Rattle.rb_why.proofs.tokens.token_text.Given as goal

-- the token at the place is among those that are left
abbrev pub invariant-reading : goal.invariant-reading
invariant-reading l = text_at l.place (tokens_left l.lexer) ≡ text_at l.place (tokens_of l.source)

abbrev pub decreases-reading : goal.decreases-reading
decreases-reading l = length l.lexer.left
