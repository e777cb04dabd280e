use Rattle.std.proofs.Common.{arith}
use Rattle.std.proofs.lemmas.List.{length-map}
use Rattle.rb_scope.proofs.Long.{got}
use Rattle.rb_code.specs.Instructions.Plain.{code as plain, part}
use Rattle.rb_recovery.proofs.Passing.RoomsAndMessages.{is_of_code}
use Rattle.rb_machine.proofs.reading.cursor_at.Goals as goal

pub cursor-requires : goal.cursor-requires
cursor-requires g c =
    let there = got c.args.procs.now c.args.p c.index-procs-p.result c.requires.end.there c.index-procs-p.is in
    omega (
      arith,
      is_of_code (plain c.args.code.now) c.args.procs.now c.requires.counted.numbered c.args.p c.index-procs-p.result there,
      length-map c.args.code.now.processes.items part,
    )
