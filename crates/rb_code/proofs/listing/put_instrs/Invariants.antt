use Rattle.std.proofs.Common.{◌≡◌, ◌+◌, length, drop, map}
use Rattle.rb_trace.specs.Naming.{naming}
use Rattle.rb_trace.proofs.Written.{Written}
use Rattle.rb_code.specs.Instructions.Plain.{part}
use Rattle.rb_code.specs.Instructions.Listing.{heads_from, instr_lines}
use Rattle.rb_code.specs.Instructions.Heads.{heads_left}
use Rattle.rb_code.proofs.listing.put_instrs.Given as goal

-- the instructions from this address on are left to write, and the heads that stand before them
abbrev pub invariant-loop-address : goal.invariant-loop-address
invariant-loop-address g l = record {
  text : Written
      (instr_lines l.code.texts.items 0 (heads_from (naming l.code.names) 0 (map part l.code.processes.items)) l.code.instrs.items)
      (instr_lines l.code.texts.items l.address (heads_left (naming l.code.names) l.heads) (drop l.address l.code.instrs.items))
      (g.S.Sink.written l.initial.out) (g.S.Sink.written l.out) (g.S.Sink.faults l.initial.out) (g.S.Sink.faults l.out);
  few : l.heads.process + length l.heads.processes.now ≡ length l.code.processes.items;
}
