-- The lines so far were gathered.
use Rattle.std.proofs.Common.{[], take, Ok}
use Rattle.std.specs.List.{flat_map}
use Rattle.rb_outside.specs.declared.Failed.{Failed}
use Rattle.rb_trace.specs.Naming.{naming}
use Rattle.rb_run.specs.Gathers.{Gathers}
use Rattle.rb_run.proofs.Recorded.{line_of_kept}
use Rattle.rb_run.proofs.record.write_record.Given as goal

abbrev pub invariant-loop-turn : goal.invariant-loop-turn
invariant-loop-turn g l =
    Gathers {T = Unit {0}} {E = Failed} (flat_map (line_of_kept (naming l.names)) (take l.turn-index l.kept)) [] l.block.bytes.items
    (g.S.Sink.written l.initial.out) (g.S.Sink.written l.out) (g.S.Sink.faults l.initial.out) (g.S.Sink.faults l.out) (Ok tt)
