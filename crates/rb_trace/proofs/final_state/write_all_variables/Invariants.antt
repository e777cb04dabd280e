use Rattle.std.proofs.Common.{◌+◌, ◌≤◌, take, sum_by, drop, map}
use Rattle.rb_world.specs.Text.{value_lines}
use Rattle.rb_trace.specs.Naming.{process_naming}
use Rattle.rb_trace.specs.Ended.{words_printed}
use Rattle.rb_trace.proofs.Written.{Written}
use Rattle.rb_trace.proofs.final_state.write_all_variables.Given as goal

-- the processes from this one on are left to write, and each word of those before was read by one tick at most
abbrev pub invariant-loop-p : goal.invariant-loop-p
invariant-loop-p g l =
    let processes = l.names.processes.items in
    let words = g.M.Final.words l.end in
    Written (value_lines (map process_naming processes) words)
    (value_lines (map process_naming (drop l.p processes)) (drop l.p words)) (g.S.Sink.written l.initial.out)
    (g.S.Sink.written l.out) (g.S.Sink.faults l.initial.out) (g.S.Sink.faults l.out)
    × (l.steps ≤ l.initial.steps + sum_by words_printed (map process_naming (take l.p processes)))
