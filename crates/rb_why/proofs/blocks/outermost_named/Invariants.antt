use Rattle.std.proofs.Common.{◌≡◌, length}
use Rattle.rb_why.specs.Blocks.{outermost_named}
use Rattle.rb_why.proofs.blocks.outermost_named.Given as goal

abbrev pub invariant-loop-rest : goal.invariant-loop-rest
invariant-loop-rest l = outermost_named l.rest ≡ outermost_named l.blocks

abbrev pub decreases-loop-rest : goal.decreases-loop-rest
decreases-loop-rest l = length l.rest
