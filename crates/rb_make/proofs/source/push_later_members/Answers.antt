use Rattle.std.proofs.Common.{arith}
use Rattle.rb_make.specs.Trial.{next_member}
use Rattle.rb_make.proofs.Texts.{put_none, put_more}
use Rattle.rb_make.proofs.source.push_later_members.Goals as goal

pub loop-process-init : goal.loop-process-init
loop-process-init c = put_none _ _ _

pub loop-process-preserved : goal.loop-process-preserved
unfolding next_member
loop-process-preserved c = put_more _ _ _ _ _ _ c.loop-process.invariant (omega arith) c.in_ok-push.ensures
