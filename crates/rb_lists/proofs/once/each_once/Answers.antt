use Rattle.std.proofs.Common.{◌≡◌, length, refl, arith}
use Rattle.std.proofs.lemmas.Grind.{common_steps}
use Rattle.rb_lists.proofs.Counted.{tells_one}
use Rattle.rb_lists.proofs.once.each_once.Goals as goal

pub returns : goal.returns
returns c =
    let size : length c.deref_mut.result.now ≡ c.args.blocks = grind (arith, common_steps) in
    tells_one c.args.mark (length c.deref_mut.result.now) c.args.blocks c.args.instrs.now c.args.instrs.now c.see_each_once.result size refl
    c.see_each_once.ensures
