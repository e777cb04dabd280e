use Rattle.rb_outside.proofs.Puts.{puts_nothing}
use Rattle.rb_domino.specs.Written.{drop_text}
use Rattle.rb_domino.proofs.Putting.{puts_next, puts_part, puts_whole}
use Rattle.rb_domino.proofs.text.write_drops.Goals as goal

pub loop-drop-init : goal.loop-drop-init
loop-drop-init g c = puts_nothing _ _ _

pub returns-in_err-write_drop : goal.returns-in_err-write_drop
returns-in_err-write_drop g c =
    puts_part (drop_text c.args.history.now) c.args.drops.now _ _ _ _ _ _ c.from_residual.result c.from_residual.ensures.0
    (puts_next (drop_text c.args.history.now) c.args.drops.now c.loop-drop.drop-index _ c.loop-drop-test.true _ _ _ _ _ _ _ _
    c.loop-drop.invariant c.in_err-write_drop.ensures)

pub loop-drop-preserved : goal.loop-drop-preserved
loop-drop-preserved g c =
    puts_next (drop_text c.args.history.now) c.args.drops.now c.loop-drop.drop-index _ c.loop-drop-test.true _ _ _ _ _ _ _ _
    c.loop-drop.invariant c.in_ok-write_drop.ensures

pub returns : goal.returns
returns g c = puts_whole (drop_text c.args.history.now) c.args.drops.now _ _ _ _ _ _ c.loop-drop-test.false c.loop-drop.invariant
