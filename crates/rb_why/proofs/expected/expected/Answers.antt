use Rattle.std.proofs.lemmas.Result.{IfOk-weaker}
use Rattle.rb_why.proofs.Telling.{bytes_of, tells_tried}
use Rattle.rb_why.proofs.expected.expected.Goals as goal

pub returns : goal.returns
returns c =
    IfOk-weaker c.told_among.result _ _
    (λ told h. tells_tried c.args.before.now c.args.line _ (bytes_of told.items) c.tried.ensures h) c.told_among.ensures
