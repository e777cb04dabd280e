use Rattle.std.proofs.Common.{◌≡◌, None, length, map}
use Rattle.rb_lex.specs.Reader.{lexeme_of}
use Rattle.rb_why.specs.Named.{last_named}
use Rattle.rb_why.proofs.named.last_named.Given as goal

-- the last one is found among the rest, or was found before
abbrev pub invariant-loop-rest : goal.invariant-loop-rest
invariant-loop-rest l = last_named l.name (map lexeme_of l.rest) l.found ≡ last_named l.name (map lexeme_of l.tokens) None

abbrev pub decreases-loop-rest : goal.decreases-loop-rest
decreases-loop-rest l = length l.rest
