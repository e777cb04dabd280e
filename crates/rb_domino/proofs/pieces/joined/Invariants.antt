use Rattle.std.proofs.Common.{◌≡◌, ℕ, List, take, Bor}
use Rattle.std.specs.List.{flat_map}
use Rattle.rb_domino.proofs.pieces.joined.Given as goal

-- the pieces so far
abbrev pub invariant-loop-piece : goal.invariant-loop-piece
invariant-loop-piece l =
    let each : Bor (List ℕ) → List ℕ = λ piece. piece.now in
    l.line.items ≡ flat_map each (take l.piece-index l.pieces)
