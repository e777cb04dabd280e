use Rattle.std.proofs.Common.{◌≡◌, length, map, slice_get}
use Rattle.std.specs.List.{find}
use Rattle.rb_lex.specs.Reader.{lexeme_of}
use Rattle.rb_why.specs.Converses.{converse_at, stands_at}
use Rattle.rb_why.proofs.converses.converse_at.Given as goal

abbrev pub invariant-loop-rest : goal.invariant-loop-rest
invariant-loop-rest l =
    find (λ c. stands_at l.place (slice_get (map lexeme_of l.tokens) c.named)) l.rest ≡ converse_at (map lexeme_of l.tokens) l.place

abbrev pub decreases-loop-rest : goal.decreases-loop-rest
decreases-loop-rest l = length l.rest
