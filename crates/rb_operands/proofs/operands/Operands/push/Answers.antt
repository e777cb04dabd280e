use Rattle.std.proofs.Common.{arith, ◌∙◌, length-set}
use Rattle.rb_operands.proofs.Tops.{height_is}
use Rattle.rb_operands.proofs.operands.Operands.push.Goals as goal

pub bounds-self-inside-self-inside : goal.bounds-self-inside-self-inside
bounds-self-inside-self-inside c =
    let long = height_is c.self.inside.values.now _ c.self.inside.height (omega arith) c.self.view_is in omega arith

pub invariant_of-self : goal.invariant_of-self
invariant_of-self c =
    let long = height_is c.self.inside.values.now _ c.self.inside.height (omega arith) c.self.view_is in
    (length-set c.self.inside.values.now c.self.inside.height _ ∙ c.self.invariant.0, omega arith)
