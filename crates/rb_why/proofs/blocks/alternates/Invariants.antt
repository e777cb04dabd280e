use Rattle.std.proofs.Common.{◌≡◌, ◌+◌, ◌≤◌, length, map}
use Rattle.rb_lex.specs.Reader.{lexeme_of}
use Rattle.rb_why.specs.Blocks.{alternates}
use Rattle.rb_why.proofs.blocks.alternates.Given as goal

-- those that were counted and those of the rest are all
abbrev pub invariant-loop-rest : goal.invariant-loop-rest
invariant-loop-rest l = record {
  all : l.count + alternates l.depth (map lexeme_of l.rest) ≡ alternates 0 (map lexeme_of l.tokens);
  few : l.count + length l.rest ≤ length l.tokens;
  deep : l.depth + length l.rest ≤ length l.tokens;
}

abbrev pub decreases-loop-rest : goal.decreases-loop-rest
decreases-loop-rest l = length l.rest
