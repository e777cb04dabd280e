use Rattle.std.proofs.Common.{◌≡◌, List, ℕ, ◌+◌, ◌++◌, take, drop, length}
use Rattle.rb_sched.specs.Schedule.{words_from}
use Rattle.rb_sched.proofs.words.word_length.Given as goal

abbrev pub invariant-loop-rest : goal.invariant-loop-rest
invariant-loop-rest l = record {
  left : l.rest ≡ drop l.length l.line;
  within : l.length + length l.rest ≡ length l.line;
  read : (word : List ℕ) → words_from word l.line ≡ words_from (word ++ take l.length l.line) l.rest;
}

abbrev pub decreases-loop-rest : goal.decreases-loop-rest
decreases-loop-rest l = length l.rest
