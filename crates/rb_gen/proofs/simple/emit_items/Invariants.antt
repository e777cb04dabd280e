use Rattle.std.proofs.Common.{length, map}
use Rattle.rb_syntax.specs.Plain.{print_item}
use Rattle.rb_code.specs.Agreement.Forms.{ItemsCode}
use Rattle.rb_draft.specs.Output.{Output, output}
use Rattle.rb_draft.specs.Emits.{Adds}
use Rattle.rb_gen.proofs.simple.emit_items.Given as goal

-- whatever stands for the rest completes it
abbrev pub invariant-items : goal.invariant-items
invariant-items l =
    (after : Output) → Adds (ItemsCode l.slots (map print_item l.rest)) (output l.draft) after
    → Adds (ItemsCode l.slots (map print_item l.fn.items)) (output l.fn.draft) after

abbrev pub decreases-items : goal.decreases-items
decreases-items l = length l.rest
