use Rattle.std.proofs.Common.{◌≡◌, length, None}
use Rattle.rb_why.specs.Converses.{innermost}
use Rattle.rb_why.proofs.converses.innermost.Given as goal

abbrev pub invariant-loop-rest : goal.invariant-loop-rest
invariant-loop-rest l = innermost l.rest l.found ≡ innermost l.blocks None

abbrev pub decreases-loop-rest : goal.decreases-loop-rest
decreases-loop-rest l = length l.rest
