use Rattle.std.proofs.Common.{◌≡◌, None, drop}
use Rattle.rb_syntax.specs.Plain.{tree}
use Rattle.rb_trace.specs.Naming.{naming}
use Rattle.rb_trace.proofs.Written.{Written}
use Rattle.rb_plain.specs.Played.{outs_in, played, stuck_in, world_in}
use Rattle.rb_levels.specs.Worlds.{world_of}
use Rattle.rb_plain.proofs.playing.play.Given as goal

-- what is left is stuck nowhere, ends where the whole ends, and has the lines that are left to write
abbrev pub invariant-loop-kept : goal.invariant-loop-kept
invariant-loop-kept g l =
    let program = tree l.program in
    let whole = played program l.turns (world_of program l.fn.processes) in
    let left = played program (drop l.kept-index l.turns) (world_of program l.processes) in
    record {
      goes : stuck_in left ≡ None;
      ends : world_in whole ≡ world_in left;
      text : Written (outs_in (naming l.names) whole) (outs_in (naming l.names) left) (g.S.Sink.written l.initial.out)
          (g.S.Sink.written l.out) (g.S.Sink.faults l.initial.out) (g.S.Sink.faults l.out);
    }
