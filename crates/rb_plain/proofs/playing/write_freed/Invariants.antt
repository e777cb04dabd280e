use Rattle.std.proofs.Common.{drop}
use Rattle.rb_syntax.specs.Plain.{tree}
use Rattle.rb_trace.specs.Naming.{naming}
use Rattle.rb_trace.proofs.Written.{Written}
use Rattle.rb_world.specs.Text.{out_lines}
use Rattle.rb_world.specs.Turn.{freed_lines}
use Rattle.rb_levels.specs.Worlds.{unkept_kind, world_of}
use Rattle.rb_plain.proofs.playing.write_freed.Given as goal

-- the lines of the processes from this one on are left to write
abbrev pub invariant-loop-p : goal.invariant-loop-p
invariant-loop-p g l =
    let lines = freed_lines (unkept_kind (tree l.program)) (world_of (tree l.program) l.processes) in
    Written (out_lines (naming l.names) l.turn 0 lines) (out_lines (naming l.names) l.turn l.p (drop l.p lines))
    (g.S.Sink.written l.initial.out) (g.S.Sink.written l.out) (g.S.Sink.faults l.initial.out) (g.S.Sink.faults l.out)
