use Rattle.std.proofs.Common.{append_assoc, append-nil}
use Rattle.std.proofs.lemmas.Result.{IfOk-equal}
use Rattle.rb_make.specs.Trial.{later_alternate}
use Rattle.rb_make.proofs.source.push_later_alternate.Goals as goal

pub returns : goal.returns
unfolding later_alternate
returns c = IfOk-equal _ _ _ _ c.push_send.ensures (simp (c.in_ok-push.ensures, append_assoc, append-nil))
