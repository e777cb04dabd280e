use Rattle.std.proofs.Common.{◌+◌, ◌≤◌, take, sum_by, drop, map}
use Rattle.rb_trace.specs.Naming.{process_naming}
use Rattle.rb_trace.specs.Ended.{processes_text, words_printed}
use Rattle.rb_trace.proofs.Written.{Written}
use Rattle.rb_trace.proofs.final_state.write_processes.Given as goal

-- the processes from this one on are left to write, and each word of those before was read by one tick at most
abbrev pub invariant-loop-p : goal.invariant-loop-p
invariant-loop-p g l =
    let processes = l.names.processes.items in
    let states = g.M.Final.states l.end in
    let words = g.M.Final.words l.end in
    Written (processes_text (map process_naming processes) states words)
    (processes_text (map process_naming (drop l.p processes)) (drop l.p states) (drop l.p words))
    (g.S.Sink.written l.initial.out) (g.S.Sink.written l.out) (g.S.Sink.faults l.initial.out) (g.S.Sink.faults l.out)
    × (l.steps ≤ l.initial.steps + sum_by words_printed (map process_naming (take l.p processes)))
