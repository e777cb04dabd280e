use Rattle.std.proofs.Common.{append_assoc, append-nil}
use Rattle.std.proofs.lemmas.Result.{IfOk-equal}
use Rattle.rb_make.specs.Trial.{later_process}
use Rattle.rb_make.proofs.source.push_later_process.Goals as goal

pub returns : goal.returns
unfolding later_process
returns c =
    IfOk-equal _ _ _ _ c.push_ending.ensures
    (simp (c.in_ok-push_later_alternate.ensures, c.in_ok-push_later_primary.ensures, c.in_ok-push_beginning.ensures, append_assoc, append-nil))
