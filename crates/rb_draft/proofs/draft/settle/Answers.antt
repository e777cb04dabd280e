use Rattle.std.proofs.Common.{ap, List}
use Rattle.std.proofs.lemmas.List.{map-set}
use Rattle.rb_code.specs.Instructions.Plain.{Block, block}
use Rattle.rb_draft.specs.Output.{Output}
use Rattle.rb_draft.proofs.draft.settle.Goals as goal

pub returns-then-at-len : goal.returns-then-at-len
returns-then-at-len c =
    let with : List Block → Output = λ xs. record { instrs = c.args.draft.now.instrs.items; texts = c.args.draft.now.texts.items; blocks = xs } in
    ap with (map-set block c.args.draft.now.blocks.items c.args.number c.args.entry)
