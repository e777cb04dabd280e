use Rattle.std.proofs.Common.{◌≡◌, ◌≤◌, length}
use Rattle.rb_why.specs.Words.{from_word}
use Rattle.rb_why.proofs.words.from_word.Given as goal

abbrev pub invariant-loop-left : goal.invariant-loop-left
invariant-loop-left l = record { same : from_word l.left l.rest ≡ from_word l.number l.line; within : length l.rest ≤ length l.line }

abbrev pub decreases-loop-left : goal.decreases-loop-left
decreases-loop-left l = l.left
