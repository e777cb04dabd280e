use Rattle.std.proofs.Common.{◌≡◌, ◌≤◌, length}
use Rattle.rb_why.specs.Words.{after_spaces}
use Rattle.rb_why.proofs.words.after_spaces.Given as goal

abbrev pub invariant-loop-rest : goal.invariant-loop-rest
invariant-loop-rest l = record { same : after_spaces l.rest ≡ after_spaces l.line; within : length l.rest ≤ length l.line }

abbrev pub decreases-loop-rest : goal.decreases-loop-rest
decreases-loop-rest l = length l.rest
