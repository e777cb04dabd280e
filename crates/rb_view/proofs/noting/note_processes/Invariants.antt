-- The processes so far are kept as they stand now, and each has as many words as it had.
use Rattle.std.proofs.Common.{◌≡◌, map, take}
use Rattle.rb_view.specs.Noting.{AreReady, processes_noted, words_long}
use Rattle.rb_view.specs.Steady.{noted_now}
use Rattle.rb_view.proofs.noting.note_processes.Given as goal

abbrev pub invariant-loop-p : goal.invariant-loop-p
invariant-loop-p g l = record {
  long : map words_long (processes_noted l.kept.items) ≡ map words_long (processes_noted l.fn.kept.items);
  ready : AreReady l.kept.items;
  noted : take l.p (processes_noted l.kept.items) ≡ take l.p (noted_now l.machine).processes;
}
