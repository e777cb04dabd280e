use Rattle.std.proofs.Common.{refl}
use Rattle.std.proofs.lemmas.Result.{IfOk-weaker}
use Rattle.rb_draft.specs.Output.{output}
use Rattle.rb_gen.proofs.Rows.{then_adds}
use Rattle.rb_gen.proofs.expressions.emit_test.Goals as goal

pub returns : goal.returns
returns c =
    IfOk-weaker c.leave.result _ _
    (λ place h. (output c.emit_expression.new.draft, then_adds (c.in_ok-put.ensures refl) c.in_ok-emit_expression.ensures, h)) c.leave.ensures
