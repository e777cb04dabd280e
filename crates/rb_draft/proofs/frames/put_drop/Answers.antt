use Rattle.std.proofs.Common.{refl}
use Rattle.std.proofs.lemmas.Result.{IfOk-weaker}
use Rattle.rb_draft.proofs.Emits.{drop_row}
use Rattle.rb_draft.proofs.frames.put_drop.Goals as goal

pub returns : goal.returns
returns c = IfOk-weaker c.put.result _ _ (λ _ h. drop_row c.args.words c.if-words-eq0.false (h refl)) c.put.ensures
