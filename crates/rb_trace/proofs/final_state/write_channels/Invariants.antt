use Rattle.std.proofs.Common.{◌+◌, ◌*◌, ◌≤◌, drop}
use Rattle.rb_world.specs.Text.{channel_lines}
use Rattle.rb_trace.proofs.Written.{Written}
use Rattle.rb_trace.proofs.final_state.write_channels.Given as goal

-- the channels from this one on are left to write, and the counts of each before were read by two ticks at most
abbrev pub invariant-loop-c : goal.invariant-loop-c
invariant-loop-c g l =
    let names = l.names.channels.items in
    let sent = g.M.Final.sent l.end in
    let taken = g.M.Final.taken l.end in
    Written (channel_lines names sent taken) (channel_lines (drop l.c names) (drop l.c sent) (drop l.c taken))
    (g.S.Sink.written l.initial.out) (g.S.Sink.written l.out) (g.S.Sink.faults l.initial.out) (g.S.Sink.faults l.out)
    × (l.steps ≤ l.initial.steps + 2 * l.c)
