use Rattle.std.proofs.Common.{◌≡◌, ◌+◌, ◌++◌, length, map}
use Rattle.rb_lex.specs.Reader.{lexeme_of}
use Rattle.rb_why.specs.Converses.{converses, converses_of}
use Rattle.rb_why.proofs.converses.converses.Given as goal

-- those that were found and those of the rest are all
abbrev pub invariant-loop-rest : goal.invariant-loop-rest
invariant-loop-rest l = record {
  all : l.found.items ++ converses l.at (map lexeme_of l.rest) l.blocks.items l.next ≡ converses_of (map lexeme_of l.tokens);
  few : l.at + length l.rest ≡ length l.tokens;
}

abbrev pub decreases-loop-rest : goal.decreases-loop-rest
decreases-loop-rest l = length l.rest
