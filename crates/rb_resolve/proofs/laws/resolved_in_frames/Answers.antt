use Rattle.rb_scope.proofs.ResolvedInFrames.{resolved_in_frames}
use Rattle.rb_resolve.proofs.laws.resolved_in_frames.Goals as goal

pub returns : goal.returns
returns c = resolved_in_frames
