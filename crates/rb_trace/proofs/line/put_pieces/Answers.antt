use Rattle.std.proofs.Common.{List, ℕ, Bor}
use Rattle.rb_outside.proofs.Puts.{puts_nothing}
use Rattle.rb_trace.proofs.Spaced.{puts_next, puts_part, puts_whole}
use Rattle.rb_trace.proofs.line.put_pieces.Goals as goal

pub loop-piece-init : goal.loop-piece-init
loop-piece-init g c = puts_nothing _ _ _

pub returns-in_err-put : goal.returns-in_err-put
returns-in_err-put g c =
    let next = puts_next
    (λ (piece : Bor
    (List ℕ)). piece.now) c.args.pieces.now c.loop-piece.piece-index _ c.loop-piece-test.true _ _ _ _ _ _ _ _ c.loop-piece.invariant c.in_err-put.ensures in
    puts_part (λ (piece : Bor (List ℕ)). piece.now) c.args.pieces.now _ _ _ _ _ _ c.from_residual.result c.from_residual.ensures.0 next

pub loop-piece-preserved : goal.loop-piece-preserved
loop-piece-preserved g c =
    puts_next (λ (piece : Bor
    (List ℕ)). piece.now) c.args.pieces.now c.loop-piece.piece-index _ c.loop-piece-test.true _ _ _ _ _ _ _ _ c.loop-piece.invariant c.in_ok-put.ensures

pub returns : goal.returns
returns g c = puts_whole (λ (piece : Bor (List ℕ)). piece.now) c.args.pieces.now _ _ _ _ _ _ c.loop-piece-test.false c.loop-piece.invariant
