use Rattle.std.proofs.Common.{map, refl}
use Rattle.std.specs.List.{flat_map}
use Rattle.rb_syntax.specs.declared.statement.Item.{Item}
use Rattle.rb_syntax.specs.Tree.{PrintItem}
use Rattle.rb_syntax.specs.Plain.{print_item, printed}
use Rattle.rb_scope.specs.Sites.{printed_sites}
use Rattle.rb_faults.specs.Memory.{spot_of}
use Rattle.rb_faults.proofs.Visited.{step}
use Rattle.rb_faults.proofs.operands.visit_items.Goals as goal

pub loop-item-preserved : goal.loop-item-preserved
loop-item-preserved c =
    let spot = spot_of c.args.spot.now in
    step (λ items. flat_map (λ (item : PrintItem). printed_sites spot item.what) (map print_item items))
    (λ (item : Item). printed_sites spot (printed item.what)) (λ x xs. refl)
    c.args.items.now c.loop-item.item-index c.item-item.result c.item-item.is c.loop-item-test.true
    c.loop-item.finder c.visit_printed.new.finder _ c.loop-item.invariant c.in_ok-visit_printed.ensures
