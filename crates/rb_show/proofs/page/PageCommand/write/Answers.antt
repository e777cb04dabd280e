use Rattle.std.proofs.Common.{subst}
use Rattle.rb_show.specs.Drawing.{HoldsPage}
use Rattle.rb_show.proofs.Held.{page_ends}
use Rattle.rb_show.proofs.page.PageCommand.write.Goals as goal

pub draw-requires-clause-traced : goal.draw-requires-clause-traced
draw-requires-clause-traced g c = let held = subst (HoldsPage c.requires.0) c.in-All.is c.requires.2 in held.1

pub draw-requires-clause-short : goal.draw-requires-clause-short
draw-requires-clause-short g c = let held = subst (HoldsPage c.requires.0) c.in-All.is c.requires.2 in held.2

pub returns : goal.returns
returns g c =
    rw c.in-All.is
    (λ texts many holds. page_ends c.in-All.page c.in-All.source c.in-All.schedule c.in-All.traced (g.S.Sink.written c.args.out)
    (g.S.Sink.written c.draw.result.sink) (g.S.Sink.faults c.args.out) (g.S.Sink.faults c.draw.result.sink) c.draw.result.ended c.draw.ensures texts holds)
