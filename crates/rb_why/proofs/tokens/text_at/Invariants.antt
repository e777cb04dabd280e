use Rattle.std.proofs.Common.{◌≡◌, length, map}
use Rattle.rb_lex.specs.Reader.{lexeme_of}
use Rattle.rb_why.specs.Tokens.{text_at}
use Rattle.rb_why.proofs.tokens.text_at.Given as goal

abbrev pub invariant-loop-rest : goal.invariant-loop-rest
invariant-loop-rest l = text_at l.place (map lexeme_of l.rest) ≡ text_at l.place (map lexeme_of l.tokens)

abbrev pub decreases-loop-rest : goal.decreases-loop-rest
decreases-loop-rest l = length l.rest
