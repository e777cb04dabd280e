use Rattle.std.proofs.Common.{sym, ◌∙◌}
use Rattle.rb_syntax.specs.Plain.{print_item}
use Rattle.rb_syntax.specs.Tree.{PrintItem}
use Rattle.rb_scope.proofs.Long.{long_copy}
use Rattle.rb_resolve.proofs.lists.count_items.Goals as goal

pub returns-then-items-gt-MOST_ITEMS : goal.returns-then-items-gt-MOST_ITEMS
returns-then-items-gt-MOST_ITEMS c =
    c.note.ensures
    ∙ sym (long_copy print_item (λ (item : PrintItem). item.place) 16 c.args.finder.now c.args.items.now _ c.if-items-gt-MOST_ITEMS.true)
