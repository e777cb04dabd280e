use Rattle.std.proofs.Common.{sym, ◌∙◌}
use Rattle.rb_syntax.specs.Plain.{print_item}
use Rattle.rb_syntax.specs.Tree.{PrintItem}
use Rattle.rb_faults.proofs.Long.{long_copy}
use Rattle.rb_faults.proofs.lists.count_items.Goals as goal

pub returns-in_ok-note : goal.returns-in_ok-note
returns-in_ok-note c =
    c.in_ok-note.ensures
    ∙ sym (long_copy print_item (λ (item : PrintItem). item.place) 16 c.args.finder.now c.args.items.now _ c.if-items-gt-MOST_ITEMS.true)
