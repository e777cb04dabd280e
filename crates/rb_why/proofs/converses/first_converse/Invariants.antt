use Rattle.std.proofs.Common.{◌≡◌, length, map, slice_get}
use Rattle.std.specs.List.{find}
use Rattle.rb_lex.specs.Reader.{lexeme_of}
use Rattle.rb_why.specs.Converses.{first_converse, has_text}
use Rattle.rb_why.proofs.converses.first_converse.Given as goal

abbrev pub invariant-loop-rest : goal.invariant-loop-rest
invariant-loop-rest l =
    find (λ c. has_text l.name (slice_get (map lexeme_of l.tokens) c.named)) l.rest ≡ first_converse (map lexeme_of l.tokens) l.name

abbrev pub decreases-loop-rest : goal.decreases-loop-rest
decreases-loop-rest l = length l.rest
