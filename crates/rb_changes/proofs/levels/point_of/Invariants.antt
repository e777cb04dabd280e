-- None of the levels before this one is gone.
use Rattle.std.proofs.Common.{◌≡◌, drop}
use Rattle.rb_changes.specs.Changes.{put_back, put_back_from}
use Rattle.rb_changes.proofs.levels.point_of.Given as goal

abbrev pub invariant-loop-k : goal.invariant-loop-k
invariant-loop-k l = put_back l.was l.now ≡ put_back_from l.k (drop l.k l.was) l.now
