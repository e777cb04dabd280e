use Rattle.std.proofs.Common.{ℕ, List, [], Bor, length, map}
use Rattle.rb_why.specs.Expected.{Tells}
use Rattle.rb_why.proofs.expected.told_among.Given as goal

-- whatever the rest adds to what was told is what all tokens tell
abbrev pub invariant-loop-rest : goal.invariant-loop-rest
invariant-loop-rest l =
    let bytes_of : List (Bor (List ℕ)) → List (List ℕ) = map (λ token. token.now) in
    (all : List (List ℕ)) → Tells l.before l.line (bytes_of l.rest) (bytes_of l.told.items) all → Tells l.before l.line (bytes_of l.tokens) [] all

abbrev pub decreases-loop-rest : goal.decreases-loop-rest
decreases-loop-rest l = length l.rest
