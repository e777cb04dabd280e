-- The levels so far are kept.
use Rattle.std.proofs.Common.{◌≡◌, ◌≤◌, [], map, slice_get, take, vec_capacity, vec_len, Some}
use Rattle.rb_world.specs.World.{Process}
use Rattle.rb_code.specs.WordMachine.Turn.{Copy, Standing}
use Rattle.rb_changes.specs.Shown.{level_shown}
use Rattle.rb_picture.specs.Trace.{word_reading}
use Rattle.rb_view.proofs.noting.note_levels.Given as goal

abbrev pub invariant-loop-k : goal.invariant-loop-k
invariant-loop-k g l = record {
  long : vec_len l.levels ≡ l.k;
  room : vec_capacity l.fn.levels ≤ vec_capacity l.levels;
  noted : (q : Process Standing Copy) → slice_get l.machine.world.processes l.p ≡ Some q
      → l.levels.items ≡ map (level_shown (word_reading l.machine.code l.machine.groups []) l.machine.world.memory) (take l.k q.levels);
}
