use Rattle.std.proofs.Common.{ℤ, List, length, take, ap, ◌∙◌, arith, length-take-le}
use Rattle.std.proofs.lemmas.List.{length-reverse}
use Rattle.rb_code.specs.WordMachine.Act.{below}
use Rattle.rb_operands.proofs.Tops.{left_in}
use Rattle.rb_operands.proofs.operands.Operands.drop_top.Goals as goal

pub returns : goal.returns
returns c =
    let h = c.self.inside.height in
    let vs = c.self.inside.values.now in
    let long = ap (λ (l : List ℤ). length l) c.self.view_is in
    let turned = length-reverse (take h vs) in
    let taken = length-take-le h vs (omega arith) in
    left_in vs h c.args.count (omega arith) (omega arith) ∙ ap (λ (l : List ℤ). below c.args.count l) c.self.view_is
