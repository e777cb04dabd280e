use Rattle.std.proofs.Common.{refl}
use Rattle.rb_draft.proofs.Emits.{one}
use Rattle.rb_draft.proofs.draft.put.Goals as goal

pub returns : goal.returns
returns c = λ t p n. one c.args.instr _ _ c.in_ok-push.ensures.items refl refl t p n
