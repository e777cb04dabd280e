use Rattle.std.proofs.Common.{◌≡◌, ◌++◌, drop, map}
use Rattle.rb_syntax.specs.Plain.{process_declaration}
use Rattle.rb_code.specs.Agreement.Places.{processes_turns}
use Rattle.rb_changes.proofs.turn_places.add_processes.Given as goal

-- the places so far, and those of the other processes
abbrev pub invariant-loop-process : goal.invariant-loop-process
invariant-loop-process l =
    l.turns.items ++ processes_turns (map process_declaration (drop l.process-index l.processes))
    ≡ l.fn.turns.items ++ processes_turns (map process_declaration l.processes)
