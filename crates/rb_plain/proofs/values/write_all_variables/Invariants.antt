use Rattle.std.proofs.Common.{drop, map}
use Rattle.rb_trace.specs.Naming.{process_naming}
use Rattle.rb_trace.proofs.Written.{Written}
use Rattle.rb_world.specs.Text.{value_lines}
use Rattle.rb_plain.specs.Played.{words_of_all}
use Rattle.rb_plain.proofs.values.write_all_variables.Given as goal

-- the processes from this one on are left to write
abbrev pub invariant-loop-p : goal.invariant-loop-p
invariant-loop-p g l =
    let names = l.names.processes.items in
    let words = words_of_all l.processes in
    Written (value_lines (map process_naming names) words) (value_lines (map process_naming (drop l.p names)) (drop l.p words))
    (g.S.Sink.written l.initial.out) (g.S.Sink.written l.out) (g.S.Sink.faults l.initial.out) (g.S.Sink.faults l.out)
