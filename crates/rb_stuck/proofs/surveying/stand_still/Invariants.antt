use Rattle.rb_stuck.proofs.Surveyed.{HasSurveyed}
use Rattle.rb_stuck.proofs.surveying.stand_still.Given as goal

abbrev pub invariant-loop-p : goal.invariant-loop-p
invariant-loop-p g l = HasSurveyed l.initial.machine l.p l.machine
