use Rattle.std.proofs.Common.{◌≡◌, length, map}
use Rattle.rb_lex.specs.Reader.{lexeme_of}
use Rattle.rb_why.specs.Blocks.{blocks_behind, blocks_open}
use Rattle.rb_why.proofs.blocks.blocks_open.Given as goal

-- what is open behind the rest is what is open behind all
abbrev pub invariant-loop-rest : goal.invariant-loop-rest
invariant-loop-rest l = blocks_behind l.blocks.items l.named l.before (map lexeme_of l.rest) ≡ blocks_open (map lexeme_of l.tokens)

abbrev pub decreases-loop-rest : goal.decreases-loop-rest
decreases-loop-rest l = length l.rest
