-- The conversations so far are kept.
use Rattle.std.proofs.Common.{◌≡◌, length, take}
use Rattle.rb_view.specs.Noting.{talks_noted}
use Rattle.rb_view.proofs.noting.note_talks.Given as goal

abbrev pub invariant-loop-d : goal.invariant-loop-d
invariant-loop-d g l = record {
  long : length l.kept.items ≡ length l.fn.kept.items;
  noted : take l.d (talks_noted l.kept.items) ≡ take l.d l.machine.world.talks;
}
