use Rattle.std.proofs.Common.{Option, codes, ap, subst}
use Rattle.rb_outside.specs.Outside.{went_well}
use Rattle.rb_hall.specs.Answers.{scene_of}
use Rattle.rb_hall.specs.Judgement.{Wants}
use Rattle.rb_asking.specs.Views.{view_of}
use Rattle.rb_show.specs.Entrance.{view_wrong}
use Rattle.rb_show.specs.Wished.{request_of, task_of}
use Rattle.rb_tell.specs.Entrance.{wrong_in}
use Rattle.rb_tell.specs.Telling.{TellsEnd}
use Rattle.rb_show.proofs.Ends.{task_short}
use Rattle.rb_show.proofs.entrance.carried.Goals as goal

pub returns-clause-ends : goal.returns-clause-ends
returns-clause-ends g c =
    let given = c.args.wish in
    let wrong = view_wrong c.args.words.now (view_of c.args.words.now) in
    let carried = c.command-carried in
    let outcome = carried.result.outcome in
    let told = c.tell_end-told in
    let old = scene_of g.F.Shelf.files g.F.Shelf.starts g.F.Shelf.faults g.S.Sink.written (λ sink. went_well (g.S.Sink.faults sink)) c.args.shelf.now
    c.args.out in
    let new = scene_of g.F.Shelf.files g.F.Shelf.starts g.F.Shelf.faults g.S.Sink.written g.S.Sink.faults carried.new.shelf carried.result.sink in
    record {
      outcome = outcome;
      is = c.number_of.ensures;
      ends = carried.ensures.ends;
      untouched = λ none. (
        ap g.F.Shelf.starts (carried.ensures.untouched none),
        ap g.F.Shelf.faults (carried.ensures.untouched none),
      );
      tells = subst
          (λ (file : Option Wants). TellsEnd (codes "rblview") (wrong_in (request_of (task_of given)).command wrong) file outcome
          (g.E.Sink.written c.args.err.now) (g.E.Sink.written told.new.err)
          (g.E.Sink.faults c.args.err.now) (g.E.Sink.faults told.new.err) told.result)
          c.file_in-file.ensures
          (told.ensures (task_short given old new outcome carried.ensures.ends));
    }
