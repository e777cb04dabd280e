use Rattle.rb_hall.proofs.Answering.{written_answers, refused_answers}
use Rattle.rb_hall.proofs.driver.carry.Goals as goal

pub returns-in-Ok-clause-answers : goal.returns-in-Ok-clause-answers
returns-in-Ok-clause-answers g c =
    let all = c.in-Ok.ensures.all in
    written_answers (g.F.Shelf.files c.args.shelf.now) (g.F.Shelf.files c.gather.new.shelf) (g.C.Command.judges c.args.command.now)
    (g.C.Command.explains c.args.command.now) (g.C.Command.wanted c.args.command.now) (g.C.Command.takes c.args.command.now)
    (g.F.Shelf.starts c.args.shelf.now) (g.F.Shelf.starts c.gather.new.shelf) (g.F.Shelf.faults c.args.shelf.now)
    (g.F.Shelf.faults c.gather.new.shelf) (g.C.Command.holds c.args.command.now) c.in-Ok.field-0.held c.in-Ok.field-0.number
    c.in-Ok.field-0.text.now all c.in-Ok.ensures.quiet
    (g.S.Sink.written c.args.out) (g.S.Sink.written c.write.result.sink) (g.S.Sink.written c.after_writing.result.sink)
    (g.S.Sink.faults c.args.out) (g.S.Sink.faults c.write.result.sink) (g.S.Sink.faults c.after_writing.result.sink)
    c.write.result.ended c.after_writing.result.outcome (c.write.ensures all.texts all.many all.holding) c.after_writing.ensures

pub returns-in-Err-Refused-clause-answers : goal.returns-in-Err-Refused-clause-answers
returns-in-Err-Refused-clause-answers g c =
    let stop = rw c.in-Err-Refused.field-0-is at c.in-Err-Refused.ensures.stopped in
    refused_answers (g.F.Shelf.files c.args.shelf.now) (g.F.Shelf.files c.gather.new.shelf) (g.C.Command.judges c.args.command.now)
    (g.C.Command.explains c.args.command.now) (g.C.Command.wanted c.args.command.now) (g.C.Command.takes c.args.command.now)
    (g.F.Shelf.starts c.args.shelf.now) (g.F.Shelf.starts c.gather.new.shelf) (g.F.Shelf.faults c.args.shelf.now)
    (g.F.Shelf.faults c.gather.new.shelf) (g.S.Sink.faults c.args.out) (g.S.Sink.faults c.refuse.result.sink) (g.S.Sink.written c.args.out)
    (g.S.Sink.written c.refuse.result.sink) c.in-Err-Refused.refusal c.refuse.result.outcome stop.0 stop.1
    (rw c.in-Err-Refused.field-0-is at c.refuse.ensures)
