use Rattle.std.proofs.lemmas.Result.{on_ok_weaker}
use Rattle.rb_outside.proofs.Puts.{puts_same}
use Rattle.rb_image.proofs.Spellings.{names_spelled, names_fit}
use Rattle.rb_image.proofs.write.names.NamesSpelled.put.Goals as goal

pub returns-clause-text : goal.returns-clause-text
returns-clause-text g c = puts_same _ _ _ _ _ _ _ (names_spelled c.args.self.now) c.put.ensures.text

pub returns-clause-ranges : goal.returns-clause-ranges
returns-clause-ranges g c = on_ok_weaker c.put.result (names_fit c.args.self.now) c.put.ensures.ranges
