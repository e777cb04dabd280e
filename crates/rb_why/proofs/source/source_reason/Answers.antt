-- What may stand there is what was tried.
use Rattle.std.proofs.Common.{◌∙◌, List, ℕ, Bor, ap}
use Rattle.std.proofs.lemmas.Result.{IfOk-weaker}
use Rattle.rb_why.specs.Source.{reason_told}
use Rattle.rb_why.proofs.Telling.{bytes_of}
use Rattle.rb_why.proofs.source.source_reason.Goals as goal

pub returns : goal.returns
returns c =
    IfOk-weaker c.reason_told.result _ _
    (λ told h. (
      bytes_of c.in_ok-may.may.items,
      c.in_ok-may.ensures,
      h ∙ ap (λ (may : List (Bor (List ℕ))). reason_told c.args.file.now c.args.source.now c.args.fault (bytes_of may)) c.as_slice.ensures.value,
    ))
    c.reason_told.ensures
