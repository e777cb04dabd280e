use Rattle.std.proofs.Common.{drop}
use Rattle.rb_syntax.specs.Plain.{tree}
use Rattle.rb_trace.proofs.Written.{Written}
use Rattle.rb_world.specs.Text.{channel_lines}
use Rattle.rb_meaning.specs.Groups.{channels_of}
use Rattle.rb_meaning.specs.Meaning.{count_sent, count_taken, states_of}
use Rattle.rb_levels.specs.Worlds.{world_of}
use Rattle.rb_plain.proofs.values.write_channels.Given as goal

-- the channels from this one on are left to write
abbrev pub invariant-loop-c : goal.invariant-loop-c
invariant-loop-c g l =
    let states = states_of (world_of (tree l.program) l.processes) in
    let channels = channels_of (tree l.program) in
    let names = l.names.channels.items in
    Written (channel_lines names (count_sent states 0 channels) (count_taken states 0 channels))
    (channel_lines (drop l.c names) (count_sent states l.c (drop l.c channels)) (count_taken states l.c (drop l.c channels)))
    (g.S.Sink.written l.initial.out) (g.S.Sink.written l.out) (g.S.Sink.faults l.initial.out) (g.S.Sink.faults l.out)
