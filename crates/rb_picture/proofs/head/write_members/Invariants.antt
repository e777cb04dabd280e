-- From this one on they are left to write.
use Rattle.std.proofs.Common.{drop, map}
use Rattle.std.specs.List.{flat_map}
use Rattle.rb_trace.proofs.Written.{Written}
use Rattle.rb_trace.specs.Lines.{spaced_word}
use Rattle.rb_trace.specs.Naming.{naming}
use Rattle.rb_world.specs.Text.{process_word}
use Rattle.rb_picture.proofs.head.write_members.Given as goal

abbrev pub invariant-loop-member : goal.invariant-loop-member
invariant-loop-member g l =
    let text = spaced_word in
    let all = map (process_word (naming l.names)) l.members in
    Written (flat_map text all) (flat_map text (drop l.member-index all))
    (g.S.Sink.written l.initial.out) (g.S.Sink.written l.out) (g.S.Sink.faults l.initial.out) (g.S.Sink.faults l.out)
