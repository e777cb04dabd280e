use Rattle.std.proofs.Common.{◌≡◌, ◌++◌, length, map}
use Rattle.rb_lex.specs.Reader.{lexeme_of}
use Rattle.rb_lex.specs.TokenList.{tokens_of, tokens_left}
use Rattle.rb_why.proofs.tokens.tokens_of.Given as goal

-- the tokens so far and those that are left are all
abbrev pub invariant-reading : goal.invariant-reading
invariant-reading l = map lexeme_of l.tokens.items ++ tokens_left l.lexer ≡ tokens_of l.source

abbrev pub decreases-reading : goal.decreases-reading
decreases-reading l = length l.lexer.left
