use Rattle.std.proofs.Common.{refl}
use Rattle.rb_hall.specs.declared.outcome.Outcome.TheVariants as out
use Rattle.rb_hall.proofs.Behind.{ends_without_memory}
use Rattle.rb_verdict.specs.Judging.{JudgesWithin, TakesWhileWriting}
use Rattle.rb_verdict.specs.Words.{request_for}
use Rattle.rb_commands.specs.Requests.{explains_of}
use Rattle.rb_tell.proofs.entrance.hall.Goals as goal

pub returns-in_default-clause-ends : goal.returns-in_default-clause-ends
returns-in_default-clause-ends g c =
    let request = request_for c.args.words.now in
    record {
      outcome = out.Memory;
      is = refl;
      ends = ends_without_memory (JudgesWithin request) (explains_of request.command) request.files (TakesWhileWriting request.command)
          (g.F.Shelf.files c.args.shelf.now) (g.F.Shelf.starts c.args.shelf.now) (g.F.Shelf.faults c.args.shelf.now) (g.S.Sink.faults c.args.out)
          (g.S.Sink.written c.args.out);
      untouched = λ none. (refl, refl);
      tells = (refl, (refl, refl));
    }
