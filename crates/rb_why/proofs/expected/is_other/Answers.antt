use Rattle.std.proofs.lemmas.Result.{IfOk-weaker}
use Rattle.rb_why.proofs.Telling.{other_at_two}
use Rattle.rb_why.proofs.expected.is_other.Goals as goal

pub returns-then-is_two : goal.returns-then-is_two
returns-then-is_two c =
    IfOk-weaker c.lacks_number.result _ _
    (λ lacks h. other_at_two c.args.before.now c.args.line c.args.token.now c.is_two.result lacks c.is_two.ensures c.if-is_two.true h)
    c.lacks_number.ensures
