use Rattle.std.proofs.Common.{◌≡◌, ◌≤◌, length}
use Rattle.rb_why.specs.Words.{after_word}
use Rattle.rb_why.proofs.words.after_word.Given as goal

abbrev pub invariant-loop-rest : goal.invariant-loop-rest
invariant-loop-rest l = record { same : after_word l.rest ≡ after_word l.line; within : length l.rest ≤ length l.line }

abbrev pub decreases-loop-rest : goal.decreases-loop-rest
decreases-loop-rest l = length l.rest
