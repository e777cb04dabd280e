use Rattle.std.proofs.Common.{◌≡◌, [], length, map}
use Rattle.rb_lex.specs.Reader.{lexeme_of}
use Rattle.rb_why.specs.Open.{open_behind}
use Rattle.rb_why.proofs.open.open_behind.Given as goal

-- what is open behind the rest is what is open behind all
abbrev pub invariant-loop-rest : goal.invariant-loop-rest
invariant-loop-rest l = open_behind l.opened.items (map lexeme_of l.rest) ≡ open_behind [] (map lexeme_of l.tokens)

abbrev pub decreases-loop-rest : goal.decreases-loop-rest
decreases-loop-rest l = length l.rest
