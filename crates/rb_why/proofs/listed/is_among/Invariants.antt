use Rattle.std.proofs.Common.{◌≡◌, Bor, List, ℕ, length, map}
use Rattle.rb_base.specs.Reserved.{is_one_of}
use Rattle.rb_why.proofs.listed.is_among.Given as goal

abbrev pub invariant-loop-rest : goal.invariant-loop-rest
invariant-loop-rest l =
    let bytes_of : List (Bor (List ℕ)) → List (List ℕ) = map (λ word. word.now) in
    is_one_of (bytes_of l.rest) l.word ≡ is_one_of (bytes_of l.words) l.word

abbrev pub decreases-loop-rest : goal.decreases-loop-rest
decreases-loop-rest l = length l.rest
