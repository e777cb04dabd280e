use Rattle.std.proofs.Common.{sym, subst}
use Rattle.std.proofs.lemmas.List.Folds.{flat_map-map}
use Rattle.rb_outside.proofs.Puts.{puts_nothing, puts_same}
use Rattle.rb_trace.proofs.Spaced.{puts_part, puts_whole}
use Rattle.rb_image.proofs.Items.{all_next, all_whole, puts_item}
use Rattle.rb_image.proofs.write.list.put_items.Goals as goal

pub loop-item-init : goal.loop-item-init
loop-item-init g c = record { text = puts_nothing _ _ _; ranges = tt }

pub loop-item-preserved : goal.loop-item-preserved
loop-item-preserved g c =
    let plain = g.T.Spelled.plain in
    let bytes = g.T.Spelled.bytes in
    let item = c.item-item.result in
    record {
      text = puts_item (λ (x : g.row.T.Denot). bytes (plain x)) c.args.items.now c.loop-item.item-index item c.loop-item-test.true
          c.item-item.is _ _ _ _ _ _ _ _ c.loop-item.invariant.text c.in_ok-put.ensures.text;
      ranges = all_next g.T.Spelled.Ranges plain c.args.items.now c.loop-item.item-index item c.loop-item-test.true
          c.loop-item.invariant.ranges (subst (λ (x : g.row.T.Denot). g.T.Spelled.Ranges (plain x)) c.item-item.is c.in_ok-put.ensures.ranges);
    }

pub returns-in_err-put-clause-text : goal.returns-in_err-put-clause-text
returns-in_err-put-clause-text g c =
    let plain = g.T.Spelled.plain in
    let bytes = g.T.Spelled.bytes in
    let item = c.item-item.result in
    let next = puts_item (λ (x : g.row.T.Denot). bytes (plain x)) c.args.items.now c.loop-item.item-index item c.loop-item-test.true
    c.item-item.is _ _ _ _ _ _ _ _ c.loop-item.invariant.text c.in_err-put.ensures.text in
    let all = puts_part (λ (x : g.row.T.Denot). bytes (plain x)) c.args.items.now _ _ _ _ _ _ c.from_residual.result c.from_residual.ensures.0 next in
    puts_same _ _ _ _ _ _ _ (sym (flat_map-map bytes plain c.args.items.now)) all

pub returns-clause-text : goal.returns-clause-text
returns-clause-text g c =
    let plain = g.T.Spelled.plain in
    let bytes = g.T.Spelled.bytes in
    let all = puts_whole (λ (x : g.row.T.Denot). bytes (plain x)) c.args.items.now _ _ _ _ _ _ c.loop-item-test.false c.loop-item.invariant.text in
    puts_same _ _ _ _ _ _ _ (sym (flat_map-map bytes plain c.args.items.now)) all

pub returns-clause-ranges : goal.returns-clause-ranges
returns-clause-ranges g c =
    all_whole g.T.Spelled.Ranges g.T.Spelled.plain c.args.items.now _ c.loop-item-test.false c.loop-item.invariant.ranges
