-- The words so far are those of the variables.
use Rattle.std.proofs.Common.{◌≡◌, length, take}
use Rattle.rb_base.specs.Lines.{belonging}
use Rattle.rb_recovery.specs.Reading.{variables_of}
use Rattle.rb_view.proofs.noting.note_words.Given as goal

abbrev pub invariant-loop-at : goal.invariant-loop-at
invariant-loop-at g l = record {
  long : length l.words.items ≡ length l.fn.words.items;
  noted : take l.at l.words.items ≡ take l.at (belonging (variables_of l.machine.code l.machine.world.processes) l.p);
}
