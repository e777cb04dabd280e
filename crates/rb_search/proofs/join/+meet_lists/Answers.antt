use Rattle.std.proofs.Common.{[], get_or, sym, ap, ◌∙◌}
use Rattle.rb_entries.specs.Join.{met_operands}
use Rattle.rb_search.proofs.Joins.{met_itself}
use Rattle.rb_search.proofs.join.+meet_lists.Goals as goal

pub returns-then-a-b-clause-met : goal.returns-then-a-b-clause-met
returns-then-a-b-clause-met t c =
    let all = c.args.operands.now
    in sym (met_itself (get_or all c.args.a [])) ∙ ap (λ i. met_operands (get_or all c.args.a []) (get_or all i [])) c.if-a-b.true
