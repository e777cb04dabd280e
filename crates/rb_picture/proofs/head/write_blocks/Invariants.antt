-- From this one on they are left to write.
use Rattle.std.proofs.Common.{drop, map}
use Rattle.rb_trace.proofs.Written.{Written}
use Rattle.rb_trace.specs.Naming.{naming}
use Rattle.rb_code.specs.Instructions.Plain.{block as plain_block}
use Rattle.rb_picture.specs.Head.{block_head}
use Rattle.rb_changes.specs.Numbered.{numbered}
use Rattle.rb_picture.proofs.head.write_blocks.Given as goal

abbrev pub invariant-loop-b : goal.invariant-loop-b
invariant-loop-b g l =
    let text = block_head (naming l.names) in
    let all = map plain_block l.blocks in
    Written (numbered text 0 all) (numbered text l.b (drop l.b all))
    (g.S.Sink.written l.initial.out) (g.S.Sink.written l.out) (g.S.Sink.faults l.initial.out) (g.S.Sink.faults l.out)
