use Rattle.rb_search.proofs.Keeping.{cells_put, kept_more, kept_put}
use Rattle.rb_search.proofs.cells.put.Goals as goal

pub returns-in_err-slot-clause-kept : goal.returns-in_err-slot-clause-kept
returns-in_err-slot-clause-kept c =
    kept_more c.args.contexts.now.items c.slot_of.new.contexts.items c.args.slots.now.items c.in_err-slot.ensures.grown c.requires.kept

pub returns-clause-kept : goal.returns-clause-kept
returns-clause-kept c =
    kept_put c.args.contexts.now.items c.slot_of.new.contexts.items c.args.slots.now.items c.args.at c.in_ok-slot.slot
    c.in_ok-slot.ensures.grown c.requires.kept c.in_ok-slot.ensures.there

pub returns-clause-cells : goal.returns-clause-cells
returns-clause-cells c =
    cells_put c.args.contexts.now.items c.slot_of.new.contexts.items c.args.slots.now.items c.args.at c.in_ok-slot.slot c.args.cell
    c.in_ok-slot.ensures.grown c.requires.kept c.in_ok-slot.ensures.is
