-- One address more.
use Rattle.std.proofs.Common.{arith}
use Rattle.rb_code.specs.Instructions.Plain.{code as plain}
use Rattle.rb_back.specs.Stores.{HasStores}
use Rattle.rb_back.proofs.Storing.Gathered.{all_before, all_ranges, both_hold, has_stores}
use Rattle.rb_back.proofs.stores.are_ranges.Goals as goal

pub loop-at-preserved : goal.loop-at-preserved
loop-at-preserved c e =
    let both = both_hold c.loop-at.all c.is_within-all.result e in
    all_before (HasStores (plain c.args.code.now) c.args.most c.args.ranges.now) c.loop-at.at (c.loop-at.invariant both.0)
    (has_stores (plain c.args.code.now) c.args.most c.args.ranges.now c.loop-at.at c.stores_from.result c.stores_from.ensures.own
    c.stores_from.ensures.behind (λ k found. c.stores_at-here.ensures.no_more k (c.is_within-all.ensures both.1 k found)))

pub returns : goal.returns
returns c e =
    all_ranges (plain c.args.code.now) c.args.most c.args.ranges.now c.loop-at.at c.requires.bounds
    (omega (arith, c.requires.long, c.loop-at-test.false)) (c.loop-at.invariant e)
