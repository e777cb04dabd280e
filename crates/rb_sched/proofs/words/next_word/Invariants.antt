use Rattle.std.proofs.Common.{◌≡◌, ◌≤◌, [], length}
use Rattle.rb_sched.specs.Schedule.{words_from}
use Rattle.rb_sched.proofs.words.next_word.Given as goal

abbrev pub invariant-loop-rest : goal.invariant-loop-rest
invariant-loop-rest l = record {
  within : length l.rest ≤ length l.line;
  read : words_from [] l.line ≡ words_from [] l.rest;
}

abbrev pub decreases-loop-rest : goal.decreases-loop-rest
decreases-loop-rest l = length l.rest
