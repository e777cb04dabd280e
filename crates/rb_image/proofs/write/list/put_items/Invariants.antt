use Rattle.std.proofs.Common.{map, take, Ok}
use Rattle.std.specs.List.{AllByRecursion, flat_map}
use Rattle.rb_outside.specs.declared.Failed.{Failed}
use Rattle.rb_outside.specs.Puts.{Puts}
use Rattle.rb_image.proofs.write.list.put_items.Given as goal

-- the items so far were written, and are in their ranges
abbrev pub invariant-loop-item : goal.invariant-loop-item
invariant-loop-item g l =
    let plain = g.T.Spelled.plain in
    let bytes = g.T.Spelled.bytes in
    record {
      text : Puts {T = Unit {0}} {E = Failed} (flat_map (λ item. bytes (plain item)) (take l.item-index l.items)) (g.S.Sink.written l.initial.out)
          (g.S.Sink.written l.out) (g.S.Sink.faults l.initial.out) (g.S.Sink.faults l.out) (Ok tt);
      ranges : AllByRecursion g.T.Spelled.Ranges (map plain (take l.item-index l.items));
    }
