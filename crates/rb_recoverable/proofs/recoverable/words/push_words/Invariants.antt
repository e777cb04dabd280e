use Rattle.std.proofs.Common.{◌≡◌, ◌+◌, ◌*◌, ◌≤◌, ◌++◌, take}
use Rattle.rb_recoverable.proofs.recoverable.words.push_words.Given as goal

abbrev pub invariant-loop-word : goal.invariant-loop-word
invariant-loop-word g l = record {
  stored : l.cells ≡ record { words = l.initial.cells.words ++ take l.word-index l.words; limit = l.initial.cells.limit };
  counted : l.steps ≤ l.initial.steps + 2 * l.word-index;
}
