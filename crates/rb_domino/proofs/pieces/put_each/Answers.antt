use Rattle.std.proofs.Common.{List, ℕ, Bor}
use Rattle.rb_outside.proofs.Puts.{puts_nothing}
use Rattle.rb_domino.proofs.Putting.{puts_next, puts_part, puts_whole}
use Rattle.rb_domino.proofs.pieces.put_each.Goals as goal

-- what is put of a piece
abbrev text : Bor (List ℕ) → List ℕ
text piece = piece.now

pub loop-piece-init : goal.loop-piece-init
loop-piece-init g c = puts_nothing _ _ _

pub returns-in_err-put_all : goal.returns-in_err-put_all
returns-in_err-put_all g c =
    puts_part text c.args.pieces.now _ _ _ _ _ _ c.from_residual.result c.from_residual.ensures.0
    (puts_next text c.args.pieces.now c.loop-piece.piece-index _ c.loop-piece-test.true _ _ _ _ _ _ _ _
    c.loop-piece.invariant c.in_err-put_all.ensures)

pub loop-piece-preserved : goal.loop-piece-preserved
loop-piece-preserved g c =
    puts_next text c.args.pieces.now c.loop-piece.piece-index _ c.loop-piece-test.true _ _ _ _ _ _ _ _
    c.loop-piece.invariant c.in_ok-put_all.ensures

pub returns : goal.returns
returns g c = puts_whole text c.args.pieces.now _ _ _ _ _ _ c.loop-piece-test.false c.loop-piece.invariant
