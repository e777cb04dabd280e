use Rattle.std.proofs.Common.{◌≡◌, ◌&&◌, drop, refl, sym, ap, subst, ◌∙◌}
use Rattle.rb_outside.specs.Outside.{went_well, then_written}
use Rattle.rb_outside.proofs.Written.{then_written-nil}
use Rattle.rb_hall.specs.Judgement.{Limited}
use Rattle.rb_hall.specs.Answers.{Scene}
use Rattle.rb_hall.specs.Ending.{EndsBehind}
use Rattle.rb_hall.proofs.Behind.{ends_behind, ends_without_memory, begins_empty}
use Rattle.rb_hall.proofs.ending.carry_out.Goals as goal

pub returns-in_default-clause-ends : goal.returns-in_default-clause-ends
returns-in_default-clause-ends g c =
    ends_without_memory (Limited (g.C.Command.judges c.args.command.now) (g.C.Command.wanted c.args.command.now)) (g.C.Command.explains c.args.command.now) (g.C.Command.wanted c.args.command.now)
    (g.C.Command.takes c.args.command.now) (g.F.Shelf.files c.args.shelf.now)
    (g.F.Shelf.starts c.args.shelf.now)
    (g.F.Shelf.faults c.args.shelf.now) (g.S.Sink.faults c.args.out) (g.S.Sink.written c.args.out)

pub returns-clause-ends : goal.returns-clause-ends
returns-clause-ends g c =
    let first = c.over.result in
    let before = c.drive-carried.result.sink in
    let after = c.finish-ended.new.out in
    let files = g.F.Shelf.files c.args.shelf.now in
    let starts = g.F.Shelf.starts c.args.shelf.now in
    let reads = g.F.Shelf.faults c.args.shelf.now in
    let shelf = c.drive-carried.new.shelf in
    let told = then_written (g.S.Sink.written before.sink) (drop before.passed_on before.bytes.items) in
    let before_faults = g.S.Sink.faults before.sink in
    let mid : Scene = record {
      files = g.F.Shelf.files shelf;
      starts = g.F.Shelf.starts shelf;
      read_faults = g.F.Shelf.faults shelf;
      written = told;
      write_faults = record { count = before_faults.count; failed_last = before.failed && before_faults.failed_last };
    } in
    let old : Scene =
    record {
      files = files;
      starts = starts;
      read_faults = reads;
      written = g.S.Sink.written c.args.out;
      write_faults =
          went_well (g.S.Sink.faults c.args.out);
    } in
    let bytes : then_written (g.S.Sink.written first.sink) (drop first.passed_on first.bytes.items) ≡ g.S.Sink.written c.args.out =
    ap (then_written (g.S.Sink.written first.sink)) c.over.ensures.waits
    ∙ then_written-nil (g.S.Sink.written first.sink) ∙ ap (λ s. g.S.Sink.written s) c.over.ensures.sink in
    let faults : record { count = (g.S.Sink.faults first.sink).count; failed_last = first.failed && (g.S.Sink.faults first.sink).failed_last }
    ≡ went_well (g.S.Sink.faults c.args.out) =
    ap (λ b. record {
      count = (g.S.Sink.faults first.sink).count;
      failed_last =
          b && (g.S.Sink.faults first.sink).failed_last;
    }) c.over.ensures.well
    ∙ ap (λ s. went_well (g.S.Sink.faults s)) c.over.ensures.sink in
    let answers = begins_empty (Limited (g.C.Command.judges c.args.command.now) (g.C.Command.wanted c.args.command.now)) (g.C.Command.explains c.args.command.now) (g.C.Command.wanted c.args.command.now)
    (g.C.Command.takes c.args.command.now) files starts reads _ (g.S.Sink.faults c.args.out) _ (g.S.Sink.written c.args.out) mid
    c.drive-carried.result.outcome bytes faults c.drive-carried.ensures.answers in
    let ends = ends_behind (Limited (g.C.Command.judges c.args.command.now) (g.C.Command.wanted c.args.command.now)) (g.C.Command.explains c.args.command.now) (g.C.Command.wanted c.args.command.now)
    (g.C.Command.takes c.args.command.now) files starts reads (g.S.Sink.written c.args.out) (g.S.Sink.faults c.args.out) c.requires.unwritten
    (g.F.Shelf.files shelf) (g.F.Shelf.starts shelf) (g.F.Shelf.faults shelf) told (g.S.Sink.written before.sink) (g.S.Sink.written after.sink)
    (drop before.passed_on before.bytes.items) (drop after.passed_on after.bytes.items) before.failed
    (g.S.Sink.faults before.sink) (g.S.Sink.faults after.sink)
    refl (sym c.finish-ended.ensures.waits)
    c.drive-carried.result.outcome c.finish-ended.result answers c.finish-ended.ensures.finishes in
    subst (λ s. EndsBehind (Limited (g.C.Command.judges c.args.command.now) (g.C.Command.wanted c.args.command.now)) (g.C.Command.explains c.args.command.now) (g.C.Command.wanted c.args.command.now)
    (g.C.Command.takes c.args.command.now) old (record {
      files = g.F.Shelf.files shelf;
      starts = g.F.Shelf.starts shelf;
      read_faults = g.F.Shelf.faults shelf;
      written = g.S.Sink.written s;
      write_faults = g.S.Sink.faults s;
    }) c.finish-ended.result) (sym c.into_sink.ensures) ends
