use Rattle.std.proofs.Common.{Some, sym, subst}
use Rattle.rb_web.specs.Ending.{EndsOf, quiet, scene_in}
use Rattle.rb_web.proofs.over_texts.carried.Goals as goal

pub returns-in-Rbl-clause-ends : goal.returns-in-Rbl-clause-ends
returns-in-Rbl-clause-ends c =
    subst (λ program. EndsOf program c.args.words.now (scene_in c.args.shelf.now (quiet c.args.out)) (scene_in c.hall.new.shelf c.hall.result.sink)
    (Some c.args.told.now.bytes) (Some c.hall.new.err.bytes) c.args.told.now.faults c.hall.new.err.faults c.hall.result.number c.hall.result.told)
    (sym c.in-Rbl.is) c.hall.ensures.ends
