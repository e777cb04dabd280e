use Rattle.std.proofs.Common.{[], get_or, sym, ap}
use Rattle.rb_search.proofs.Joins.{blocks_tell}
use Rattle.rb_search.proofs.join.+are_same_blocks.Goals as goal

pub returns-then-a-b : goal.returns-then-a-b
returns-then-a-b t c =
    let blocks = c.args.blocks.now
    in sym ((blocks_tell (get_or blocks c.args.a []) (get_or blocks c.args.b [])).0 (ap (λ i. get_or blocks i []) c.if-a-b.true))
