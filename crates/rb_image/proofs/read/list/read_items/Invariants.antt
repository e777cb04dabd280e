use Rattle.std.proofs.Common.{◌≡◌, ◌-◌, map}
use Rattle.rb_image.specs.Reading.{items_at}
use Rattle.rb_image.proofs.Loop.{with_front}
use Rattle.rb_image.proofs.read.list.read_items.Given as goal

-- the items so far stand before those that are still read
abbrev pub invariant-items : goal.invariant-items
invariant-items g l =
    with_front (map g.T.Item.plain l.items.items) (items_at g.T.Item.reading (l.length - l.at) l.rest)
    ≡ items_at g.T.Item.reading l.length l.bytes
