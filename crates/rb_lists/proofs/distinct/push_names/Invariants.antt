use Rattle.std.proofs.Common.{◌≡◌, ◌++◌, map, take}
use Rattle.rb_lists.proofs.distinct.push_names.Given as goal

abbrev pub invariant-loop-item : goal.invariant-loop-item
invariant-loop-item g l =
    map (λ name. name.now) l.outer.items ≡ map (λ name. name.now) l.fn.outer.items ++ map g.T.Named.name (take l.item-index l.items)
