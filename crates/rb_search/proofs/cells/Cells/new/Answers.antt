use Rattle.rb_search.proofs.Keeping.{new_cells, new_kept}
use Rattle.rb_search.proofs.cells.Cells.new.Goals as goal

pub invariant_of-result : goal.invariant_of-result
invariant_of-result c = new_kept c.new.result.items c.args.n c.in_ok-slots.slots.items c.in_ok-slots.ensures

pub returns : goal.returns
returns c = new_cells _ c.args.n c.in_ok-slots.slots.items c.in_ok-slots.ensures
