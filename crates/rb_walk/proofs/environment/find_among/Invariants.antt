use Rattle.std.proofs.Common.{◌≡◌, ◌≤◌, length, map, reverse}
use Rattle.rb_meaning.specs.Environment.{found_among}
use Rattle.rb_walk.specs.Slots.{frame}
use Rattle.rb_walk.proofs.environment.find_among.Given as goal

abbrev pub invariant-loop-frames : goal.invariant-loop-frames
invariant-loop-frames l = record {
  fewer : length l.frames ≤ length l.initial.frames;
  same : found_among l.name (reverse (map (λ slots. frame slots.items) l.frames))
      ≡ found_among l.name (reverse (map (λ slots. frame slots.items) l.initial.frames));
}

abbrev pub decreases-loop-frames : goal.decreases-loop-frames
decreases-loop-frames l = length l.frames
