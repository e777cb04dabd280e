-- The machine tells the address.
use Rattle.std.proofs.Common.{slice_get, subst, sym}
use Rattle.rb_back.specs.Stores.{MayBeIn}
use Rattle.rb_back.proofs.session.stores_of.Goals as goal

pub returns-then-p-processes : goal.returns-then-p-processes
returns-then-p-processes g c less q there k low may =
    c.stores_at.ensures.all k low
    (subst (λ a. MayBeIn k (slice_get c.args.ranges.now a)) (sym (c.place.ensures q there)) may)
