use Rattle.std.proofs.Common.{◌+◌, refl}
use Rattle.rb_code.specs.Instructions.Plain.{code as plain}
use Rattle.rb_flow.proofs.Chosen.{put_flow}
use Rattle.rb_flow.proofs.pushing.put.Goals as goal

pub returns : goal.returns
returns c =
    let number = c.in-Ok.ensures.number
    in put_flow (plain c.args.code.now) (c.args.at + 1) c.args.lists.now
    (record { operands = c.push.new.self; blocks = c.args.lists.now.blocks }) c.args.entry
    (record c.args.entry { operands = c.in-Ok.operands; mode = c.args.mode }) c.args.top c.args.below c.args.mode c.requires.held
    c.in-Ok.ensures.list refl (λ i. record c.args.entry { operands = number i; mode = c.args.mode })
