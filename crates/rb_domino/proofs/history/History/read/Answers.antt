use Rattle.std.proofs.Common.{sym, subst}
use Rattle.rb_domino.specs.History.{IsWhole}
use Rattle.rb_domino.proofs.history.History.read.Goals as goal

pub invariant_of-result : goal.invariant_of-result
invariant_of-result c =
    let parts = c.into_parts-processes.ensures in
    subst IsWhole
    (λ i. record { processes = (sym parts.processes i).items; messages = (sym parts.messages i).items; lines = (sym parts.lines i).items })
    c.in_ok-read_lines.ensures.whole

pub returns-clause-whole : goal.returns-clause-whole
returns-clause-whole c = invariant_of-result c
