use Rattle.std.proofs.Common.{sym, subst}
use Rattle.rb_code.specs.Instructions.Plain.{code as plain}
use Rattle.rb_search.specs.Search.{HasGained}
use Rattle.rb_flow.specs.Ways.{steps_of}
use Rattle.rb_search.specs.Found.{found, pending}
use Rattle.rb_flow.specs.declared.way.Way.{Way}
use Rattle.rb_search.proofs.Searching.{gains_nothing}
use Rattle.rb_search.proofs.search.carry.Goals as goal

pub returns-in-Ends-clause-gains : goal.returns-in-Ends-clause-gains
returns-in-Ends-clause-gains c =
    let f = found c.args.lists.now c.args.cells.now
    in let p = pending c.args.cells.now
    in subst (λ (w : Way). HasGained (steps_of (plain c.args.code.now) c.args.lists.now w) f p f p)
    (sym c.in-Ends.is) (gains_nothing f p)
