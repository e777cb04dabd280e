use Rattle.std.proofs.Common.{◌≡◌, ◌++◌, ℕ, List, Bor, length}
use Rattle.std.specs.List.{flat_map}
use Rattle.rb_frame.proofs.joined.joined.Given as goal

-- the pieces so far and those that are left are all
abbrev pub invariant-loop-rest : goal.invariant-loop-rest
invariant-loop-rest l =
    let each : Bor (List ℕ) → List ℕ = λ piece. piece.now in
    l.bytes.items ++ flat_map each l.rest ≡ flat_map each l.pieces

abbrev pub decreases-loop-rest : goal.decreases-loop-rest
decreases-loop-rest l = length l.rest
