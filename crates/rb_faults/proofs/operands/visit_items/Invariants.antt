use Rattle.std.proofs.Common.{◌≡◌, drop, map}
use Rattle.std.specs.List.{flat_map}
use Rattle.rb_syntax.specs.Tree.{PrintItem}
use Rattle.rb_syntax.specs.Plain.{print_item}
use Rattle.rb_scope.specs.Sites.{printed_sites}
use Rattle.rb_faults.specs.Finding.{visited}
use Rattle.rb_faults.specs.Memory.{spot_of}
use Rattle.rb_faults.proofs.operands.visit_items.Given as goal

-- what is found, and then behind the other items
abbrev pub invariant-loop-item : goal.invariant-loop-item
invariant-loop-item l =
    visited l.finder (flat_map (λ (item : PrintItem). printed_sites (spot_of l.spot) item.what) (map print_item (drop l.item-index l.items)))
    ≡ visited l.fn.finder (flat_map (λ (item : PrintItem). printed_sites (spot_of l.spot) item.what) (map print_item l.items))
