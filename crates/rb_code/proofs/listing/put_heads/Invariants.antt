use Rattle.std.proofs.Common.{◌≡◌, ◌+◌, length}
use Rattle.rb_trace.specs.Naming.{naming}
use Rattle.rb_trace.proofs.Written.{Written}
use Rattle.rb_code.specs.Instructions.Listing.{heads_past, lines_at}
use Rattle.rb_code.specs.Instructions.Heads.{heads_left}
use Rattle.rb_code.proofs.listing.put_heads.Given as goal

-- the lines of the heads so far were written
abbrev pub invariant-heads : goal.invariant-heads
invariant-heads g l =
    let names = naming l.names in
    record {
      text : Written (lines_at l.address (heads_left names l.heads)) (lines_at l.address (heads_left names l.left))
          (g.S.Sink.written l.initial.out) (g.S.Sink.written l.out) (g.S.Sink.faults l.initial.out) (g.S.Sink.faults l.out);
      past : heads_past l.address (heads_left names l.heads) ≡ heads_past l.address (heads_left names l.left);
      few : l.left.process + length l.left.processes.now ≡ l.heads.process + length l.heads.processes.now;
    }

abbrev pub decreases-heads : goal.decreases-heads
decreases-heads g l = length (heads_left (naming l.names) l.left)
