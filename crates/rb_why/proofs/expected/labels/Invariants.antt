use Rattle.std.proofs.Common.{◌≡◌, [], Bor, List, ℕ, length, map}
use Rattle.rb_why.specs.Expected.{labels}
use Rattle.rb_why.proofs.expected.labels.Given as goal

-- the labels so far with those that are left are those of all
abbrev pub invariant-loop-rest : goal.invariant-loop-rest
invariant-loop-rest l =
    let bytes_of : List (Bor (List ℕ)) → List (List ℕ) = map (λ token. token.now) in
    labels (bytes_of l.rest) l.told.items ≡ labels (bytes_of l.tokens) []

abbrev pub decreases-loop-rest : goal.decreases-loop-rest
decreases-loop-rest l = length l.rest
