-- A turn is still where it would have been so at first.
use Rattle.std.proofs.Common.{◌<◌, sym, subst, ◌∙◌}
use Rattle.rb_stuck.proofs.Surveyed.{not_stuck, one_more, still_as_first}
use Rattle.rb_stuck.proofs.surveying.stand_still.Goals as goal

pub returns-then-not-is_still-clause-stuck : goal.returns-then-not-is_still-clause-stuck
returns-then-not-is_still-clause-stuck g c =
    sym (not_stuck c.args.machine.now c.loop-p.p (subst (λ n. c.loop-p.p < n) c.requires.all c.loop-p-test.true)
    (still_as_first c.args.machine.now c.loop-p.machine c.turn.new.self c.loop-p.p _ c.loop-p.invariant c.turn.ensures.turned
    ∙ sym c.is_still.ensures ∙ c.if-not-is_still.true))

pub loop-p-preserved : goal.loop-p-preserved
loop-p-preserved g c =
    one_more c.args.machine.now c.loop-p.machine c.turn.new.self c.loop-p.p _ c.loop-p.invariant c.turn.ensures.turned c.turn.ensures.freed
    (sym c.is_still.ensures ∙ c.if-not-is_still.false)
