use Rattle.std.proofs.Common.{codes}
use Rattle.rb_outside.proofs.Puts.{puts_both, puts_stopped_at}
use Rattle.rb_code.specs.WordMachine.WordKind.{word_kind}
use Rattle.rb_trace.specs.Naming.{naming}
use Rattle.rb_stuck.specs.Stuck.{waiting_text}
use Rattle.rb_stuck.proofs.text.write_standing.Goals as goal

pub returns-in_err-put_all-in-Stuck : goal.returns-in_err-put_all-in-Stuck
returns-in_err-put_all-in-Stuck g c =
    let m = c.args.machine.now in
    rw c.in-Stuck.is
    (puts_stopped_at (codes "stuck\n") (waiting_text (word_kind m.code m.groups) (naming c.args.names.now) 0 m.world.processes)
    (g.S.Sink.written c.args.out.now) (g.S.Sink.written c.put_all-in-Stuck.new.out) (g.S.Sink.faults c.args.out.now)
    (g.S.Sink.faults c.put_all-in-Stuck.new.out) c.in_err-put_all-in-Stuck.field-0.0 c.from_residual.result c.from_residual.ensures.0
    c.in_err-put_all-in-Stuck.ensures)

pub returns-in_ok-put_all-in-Stuck : goal.returns-in_ok-put_all-in-Stuck
returns-in_ok-put_all-in-Stuck g c =
    let m = c.args.machine.now in
    rw c.in-Stuck.is
    (puts_both (codes "stuck\n") (waiting_text (word_kind m.code m.groups) (naming c.args.names.now) 0 m.world.processes)
    (g.S.Sink.written c.args.out.now) (g.S.Sink.written c.put_all-in-Stuck.new.out) (g.S.Sink.written c.write_waits.new.out)
    (g.S.Sink.faults c.args.out.now) (g.S.Sink.faults c.put_all-in-Stuck.new.out) (g.S.Sink.faults c.write_waits.new.out)
    tt c.write_waits.result c.in_ok-put_all-in-Stuck.ensures c.write_waits.ensures)
