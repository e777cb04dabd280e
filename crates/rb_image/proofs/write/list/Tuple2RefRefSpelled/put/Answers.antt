use Rattle.std.proofs.lemmas.Result.{on_ok_weaker}
use Rattle.rb_outside.proofs.Puts.{puts_both, puts_stopped_at}
use Rattle.rb_image.proofs.write.list.Tuple2RefRefSpelled.put.Goals as goal

pub returns-in_err-put-clause-text : goal.returns-in_err-put-clause-text
returns-in_err-put-clause-text g c =
    puts_stopped_at (g.A.Spelled.bytes (g.A.Spelled.plain c.args.self.now.0.now)) (g.B.Spelled.bytes (g.B.Spelled.plain c.args.self.now.1.now))
    _ _ _ _ _ c.from_residual.result c.from_residual.ensures.0 c.in_err-put.ensures.text

pub returns-clause-text : goal.returns-clause-text
returns-clause-text g c =
    puts_both (g.A.Spelled.bytes (g.A.Spelled.plain c.args.self.now.0.now)) (g.B.Spelled.bytes (g.B.Spelled.plain c.args.self.now.1.now))
    _ _ _ _ _ _ _ _ c.in_ok-put.ensures.text c.put-2.ensures.text

pub returns-clause-ranges : goal.returns-clause-ranges
returns-clause-ranges g c =
    on_ok_weaker c.put-2.result (λ (second : g.B.Spelled.Ranges (g.B.Spelled.plain c.args.self.now.1.now)). (c.in_ok-put.ensures.ranges, second))
    c.put-2.ensures.ranges
