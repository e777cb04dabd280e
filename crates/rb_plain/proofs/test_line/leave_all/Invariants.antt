-- Those who came first have left the line, and the others are as they were.
use Rattle.std.proofs.Common.{◌≡◌, ◌++◌, map, take, drop}
use Rattle.rb_syntax.specs.Plain.{tree}
use Rattle.rb_world.specs.Turn.{leaves}
use Rattle.rb_levels.specs.Worlds.{process_of, unkept_kind}
use Rattle.rb_plain.proofs.test_line.leave_all.Given as goal

abbrev pub invariant-loop-process : goal.invariant-loop-process
invariant-loop-process l =
    map process_of l.processes
    ≡ map (leaves (unkept_kind (tree l.program)) l.conversation) (map process_of (take l.process-index l.fn.processes))
    ++ map process_of (drop l.process-index l.fn.processes)
