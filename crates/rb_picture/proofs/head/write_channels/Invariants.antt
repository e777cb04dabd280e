-- From this one on they are left to write.
use Rattle.std.proofs.Common.{drop, map}
use Rattle.rb_trace.proofs.Written.{Written}
use Rattle.rb_trace.specs.Naming.{naming}
use Rattle.rb_code.specs.Instructions.Plain.{channel as plain_channel}
use Rattle.rb_picture.specs.Head.{channel_head}
use Rattle.rb_changes.specs.Numbered.{numbered}
use Rattle.rb_picture.proofs.head.write_channels.Given as goal

abbrev pub invariant-loop-c : goal.invariant-loop-c
invariant-loop-c g l =
    let text = channel_head (naming l.names) in
    let all = map plain_channel l.channels in
    Written (numbered text 0 all) (numbered text l.c (drop l.c all))
    (g.S.Sink.written l.initial.out) (g.S.Sink.written l.out) (g.S.Sink.faults l.initial.out) (g.S.Sink.faults l.out)
