-- So far each process is as it is before the opening.
use Rattle.std.proofs.Common.{◌≡◌, map, take}
use Rattle.rb_code.specs.Instructions.Plain.{part}
use Rattle.rb_picture.specs.Trace.{process_before}
use Rattle.rb_view.specs.Noting.{AreReady, processes_noted}
use Rattle.rb_view.proofs.was.opening_processes.Given as goal

abbrev pub invariant-loop-process : goal.invariant-loop-process
invariant-loop-process l = record {
  noted : processes_noted l.processes.items ≡ map process_before (map part (take l.process-index l.parts));
  ready : AreReady l.processes.items;
}
