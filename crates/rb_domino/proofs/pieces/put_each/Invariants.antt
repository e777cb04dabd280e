use Rattle.std.proofs.Common.{ℕ, List, take, Bor, Ok}
use Rattle.std.specs.List.{flat_map}
use Rattle.rb_outside.specs.declared.Failed.{Failed}
use Rattle.rb_outside.specs.Puts.{Puts}
use Rattle.rb_domino.proofs.pieces.put_each.Given as goal

-- the pieces so far were put
abbrev pub invariant-loop-piece : goal.invariant-loop-piece
invariant-loop-piece g l =
    let each : Bor (List ℕ) → List ℕ = λ piece. piece.now in
    Puts {T = Unit {0}} {E = Failed} (flat_map each (take l.piece-index l.pieces)) (g.S.Sink.written l.initial.out)
    (g.S.Sink.written l.out) (g.S.Sink.faults l.initial.out) (g.S.Sink.faults l.out) (Ok tt)
