-- The line so far, and what is left.
use Rattle.rb_walk.proofs.Lines.{LineSoFar}
use Rattle.rb_walk.proofs.steps.line_of.Given as goal

abbrev pub invariant-loop-item : goal.invariant-loop-item
invariant-loop-item l = LineSoFar l.environment l.items l.item-index l.first l.line.items
