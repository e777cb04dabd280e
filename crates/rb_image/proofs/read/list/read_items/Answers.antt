use Rattle.std.proofs.Common.{◌≡◌, ◌++◌, ◌∷◌, [], map}
use Rattle.std.proofs.lemmas.Result.{err_from_is_err_and}
use Rattle.std.proofs.lemmas.List.{map_push}
use Rattle.rb_image.specs.Reading.{items_at}
use Rattle.rb_image.proofs.Loop.{goes_on, ends, is_done}
use Rattle.rb_image.proofs.read.list.read_items.Goals as goal

pub returns-in_err-item : goal.returns-in_err-item
returns-in_err-item g c =
    let p = err_from_is_err_and c.from_residual-in_err-item.result c.from_residual-in_err-item.ensures.1 in
    rw (p.1, p.2)
    (ends g.T.Item.reading c.in_err-item.field-0.0 (map g.T.Item.plain c.items.items.items) c.args.length c.items.at c.items.rest.now
    (items_at g.T.Item.reading c.args.length c.args.bytes.now) c.items-test.true c.in_err-item.ensures c.items.invariant)

pub items-preserved : goal.items-preserved
items-preserved g c =
    let item = g.T.Item.plain c.in_ok-item.item in
    let e : map g.T.Item.plain c.push.new.self.items ≡ map g.T.Item.plain c.items.items.items ++ item ∷ [] =
    rw c.in_ok-push.ensures.items (map_push _ c.items.items.items c.in_ok-item.item) in
    rw e
    (goes_on g.T.Item.reading (map g.T.Item.plain c.items.items.items) c.args.length c.items.at c.items.rest.now item c.in_ok-item.after.now
    (items_at g.T.Item.reading c.args.length c.args.bytes.now) c.items-test.true c.in_ok-item.ensures c.items.invariant)

pub returns : goal.returns
returns g c =
    is_done g.T.Item.reading (map g.T.Item.plain c.items.items.items) c.args.length c.items.at c.items.rest.now
    (items_at g.T.Item.reading c.args.length c.args.bytes.now) c.items-test.false c.items.invariant
