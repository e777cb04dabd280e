use Rattle.std.proofs.Common.{◌≡◌, Bor, Option, option_map}
use Rattle.std.proofs.lemmas.Result.{IfOk-weaker}
use Rattle.rb_base.specs.declared.names.Names.{Names}
use Rattle.rb_why.specs.Text.{text_told}
use Rattle.rb_tell.specs.Reasons.{IsReasonFor}
use Rattle.rb_tell.proofs.Told.{told_of_line}
use Rattle.rb_tell.proofs.reason.reason_of.Goals as goal

pub returns-in-Text : goal.returns-in-Text
returns-in-Text c =
    let names : Option Names = option_map (λ (n : Bor Names). n.now) c.names_known.result in
    IfOk-weaker c.text_reason.result (λ told. told.items ≡ text_told c.args.file.now c.args.refusal.now.text.now names c.in-Text.fault)
    (λ told. IsReasonFor c.args.file.now c.args.refusal.now told.items)
    (λ told h. told_of_line c.args.file.now c.args.refusal.now c.in-Text.fault names told.items c.in-Text.is c.names_known.ensures h)
    c.text_reason.ensures
