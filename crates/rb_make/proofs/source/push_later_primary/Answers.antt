use Rattle.std.proofs.Common.{append_assoc, append-nil}
use Rattle.std.proofs.lemmas.Result.{IfOk-equal}
use Rattle.rb_make.specs.Trial.{later_primary}
use Rattle.rb_make.proofs.source.push_later_primary.Goals as goal

pub returns : goal.returns
unfolding later_primary
returns c = IfOk-equal _ _ _ _ c.push-2.ensures (simp (c.in_ok-push_send.ensures, c.in_ok-push.ensures, append_assoc, append-nil))
