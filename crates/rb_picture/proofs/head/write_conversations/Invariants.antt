-- From this one on they are left to write.
use Rattle.std.proofs.Common.{drop, map}
use Rattle.rb_trace.proofs.Written.{Written}
use Rattle.rb_trace.specs.Naming.{naming}
use Rattle.rb_picture.specs.Heads.{meeting}
use Rattle.rb_picture.specs.Head.{conversation_head}
use Rattle.rb_changes.specs.Numbered.{numbered}
use Rattle.rb_picture.proofs.head.write_conversations.Given as goal

abbrev pub invariant-loop-d : goal.invariant-loop-d
invariant-loop-d g l =
    let text = conversation_head (naming l.names) in
    let all = map meeting l.groups in
    Written (numbered text 0 all) (numbered text l.d (drop l.d all))
    (g.S.Sink.written l.initial.out) (g.S.Sink.written l.out) (g.S.Sink.faults l.initial.out) (g.S.Sink.faults l.out)
