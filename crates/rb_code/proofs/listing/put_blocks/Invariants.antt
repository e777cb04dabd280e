use Rattle.std.proofs.Common.{map, drop}
use Rattle.rb_trace.specs.Naming.{naming}
use Rattle.rb_trace.proofs.Written.{Written}
use Rattle.rb_code.specs.Instructions.Plain.{block}
use Rattle.rb_code.specs.Instructions.Listing.{block_lines}
use Rattle.rb_code.proofs.listing.put_blocks.Given as goal

-- the recovery blocks from this number on are left to write
abbrev pub invariant-loop-number : goal.invariant-loop-number
invariant-loop-number g l =
    Written (block_lines (naming l.code.names) 0 (map block l.code.blocks.items))
    (block_lines (naming l.code.names) l.number (map block (drop l.number l.code.blocks.items)))
    (g.S.Sink.written l.initial.out) (g.S.Sink.written l.out) (g.S.Sink.faults l.initial.out) (g.S.Sink.faults l.out)
