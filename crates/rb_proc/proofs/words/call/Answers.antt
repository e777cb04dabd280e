use Rattle.std.proofs.Common.{ℤ, List, length, arith, ap, ◌∙◌}
use Rattle.rb_operands.proofs.Tops.{arguments_long}
use Rattle.rb_proc.proofs.words.call.Goals as goal

pub open_call-requires-clause-words : goal.open_call-requires-clause-words
open_call-requires-clause-words g c =
    let long = ap (λ (l : List ℤ). length l) c.top.ensures.top ∙ arguments_long c.args.count c.args.operands.now c.requires.enough in
    omega arith

pub returns-clause-ticks : goal.returns-clause-ticks
returns-clause-ticks g c =
    let long = ap (λ (l : List ℤ). length l) c.top.ensures.top ∙ arguments_long c.args.count c.args.operands.now c.requires.enough in
    omega (arith, c.open_call.ensures.ticks)
