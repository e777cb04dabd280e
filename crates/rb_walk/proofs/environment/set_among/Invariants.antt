use Rattle.std.proofs.Common.{◌≡◌, map}
use Rattle.rb_walk.specs.Slots.{frame}
use Rattle.rb_walk.proofs.Innermost.{IsFurtherOut}
use Rattle.rb_walk.proofs.environment.set_among.Given as goal

abbrev pub invariant-loop-left : goal.invariant-loop-left
invariant-loop-left l = record {
  same : map (λ slots. frame slots.items) l.frames ≡ map (λ slots. frame slots.items) l.initial.frames;
  further_out : IsFurtherOut l.name (map (λ slots. frame slots.items) l.initial.frames) l.left;
}

abbrev pub decreases-loop-left : goal.decreases-loop-left
decreases-loop-left l = l.left
