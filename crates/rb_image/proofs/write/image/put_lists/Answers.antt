use Rattle.std.proofs.lemmas.Result.{on_ok_weaker}
use Rattle.rb_outside.proofs.Puts.{puts_same}
use Rattle.rb_image.proofs.Spellings.{lists_spelled, lists_fit}
use Rattle.rb_image.proofs.write.image.put_lists.Goals as goal

pub returns-clause-text : goal.returns-clause-text
returns-clause-text g c = puts_same _ _ _ _ _ _ _ (lists_spelled c.args.code.now) c.put.ensures.text

pub returns-clause-ranges : goal.returns-clause-ranges
returns-clause-ranges g c = on_ok_weaker c.put.result (lists_fit c.args.code.now) c.put.ensures.ranges
