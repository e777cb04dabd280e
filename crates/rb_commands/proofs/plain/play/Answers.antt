use Rattle.rb_syntax.specs.Plain.{tree}
use Rattle.rb_commands.proofs.Recorded.{ends_failed, ends_played, ends_short, ends_stuck, members_are}
use Rattle.rb_commands.proofs.plain.play.Goals as goal

pub plain-requires-clause-members : goal.plain-requires-clause-members
plain-requires-clause-members g c = members_are c.requires.judged.0 c.args.judged c.requires.judged.1

pub returns-in-Ok : goal.returns-in-Ok
returns-in-Ok g c =
    ends_played (tree c.args.judged.checked.program) c.args.turns.now (g.S.Sink.written c.args.out.now) (g.S.Sink.written c.plain.new.out)
    (g.S.Sink.faults c.args.out.now) (g.S.Sink.faults c.plain.new.out) tt c.in-Ok.ensures

pub stuck_at-requires-clause-stuck : goal.stuck_at-requires-clause-stuck
stuck_at-requires-clause-stuck g c = let played = rw c.in-Err-Stuck.field-0-is at c.in-Err-Stuck.ensures in played.0

pub returns-in-Err-Stuck : goal.returns-in-Err-Stuck
returns-in-Err-Stuck g c =
    let played = rw c.in-Err-Stuck.field-0-is at c.in-Err-Stuck.ensures in
    ends_stuck (tree c.args.judged.checked.program) c.args.turns.now (g.S.Sink.written c.args.out.now) (g.S.Sink.written c.plain.new.out)
    (g.S.Sink.faults c.args.out.now) (g.S.Sink.faults c.plain.new.out) c.in-Err-Stuck.turn played.0 played.1 played.2
    c.stuck_at.result c.stuck_at.ensures

pub returns-in-Err-WriteFault : goal.returns-in-Err-WriteFault
returns-in-Err-WriteFault g c =
    ends_failed (tree c.args.judged.checked.program) c.args.turns.now (g.S.Sink.written c.args.out.now) (g.S.Sink.written c.plain.new.out)
    (g.S.Sink.faults c.args.out.now) (g.S.Sink.faults c.plain.new.out) (rw c.in-Err-WriteFault.field-0-is at c.in-Err-WriteFault.ensures)

pub returns-in-Err-Memory : goal.returns-in-Err-Memory
returns-in-Err-Memory g c =
    ends_short (tree c.args.judged.checked.program) c.args.turns.now (g.S.Sink.written c.args.out.now) (g.S.Sink.written c.plain.new.out)
    (g.S.Sink.faults c.args.out.now) (g.S.Sink.faults c.plain.new.out) (rw c.in-Err-Memory.field-0-is at c.in-Err-Memory.ensures)
