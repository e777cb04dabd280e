use Rattle.std.proofs.Common.{slice_get}
use Rattle.rb_back.specs.Stores.{MayBeIn}
use Rattle.rb_back.proofs.Storing.Gathered.{unless_stored}
use Rattle.rb_back.proofs.stores.stores_by.Goals as goal

pub returns-in_default : goal.returns-in_default
returns-in_default c k low may =
    c.stores_at.ensures.all k low
    (unless_stored (slice_get c.args.code.now.instrs.items c.args.at) (MayBeIn k (slice_get c.args.ranges.now c.args.at)) may)
