use Rattle.std.proofs.Common.{◌++◌, List, ℕ, map, ap, ◌∙◌}
use Rattle.std.proofs.lemmas.List.{map_push, take_all}
use Rattle.std.specs.Borrow.{Bor}
use Rattle.rb_lists.proofs.Mapped.{pushed_one}
use Rattle.rb_lists.proofs.distinct.push_names.Goals as goal

pub loop-item-preserved : goal.loop-item-preserved
loop-item-preserved g c =
    let text = λ (name : Bor (List ℕ)). name.now in
    let before = c.loop-item.outer.items in
    pushed_one g.T.Named.name _ (map text before) _ c.args.items.now c.loop-item.item-index c.item-item.result _ c.item-item.is
    c.loop-item-test.true c.name.ensures (ap (map text) c.in_ok-push.ensures.items ∙ map_push text before _) c.loop-item.invariant

pub returns : goal.returns
returns g c =
    let before : List (List ℕ) = map (λ (name : Bor (List ℕ)). name.now) c.args.outer.now.items in
    c.loop-item.invariant
    ∙ ap (λ (items : List g.row.T.Denot). before ++ map g.T.Named.name items)
    (take_all c.loop-item.item-index c.args.items.now c.loop-item-test.false)
