use Rattle.std.proofs.Common.{◌≡◌, length, None}
use Rattle.rb_why.specs.Blocks.{innermost_private}
use Rattle.rb_why.proofs.blocks.innermost_private.Given as goal

abbrev pub invariant-loop-rest : goal.invariant-loop-rest
invariant-loop-rest l = innermost_private l.rest l.found ≡ innermost_private l.blocks None

abbrev pub decreases-loop-rest : goal.decreases-loop-rest
decreases-loop-rest l = length l.rest
