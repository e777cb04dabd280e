use Rattle.std.proofs.Common.{length, take, ap, arith}
use Rattle.std.proofs.lemmas.List.{length-append, length-take-le}
use Rattle.rb_cell.specs.Store.{Store}
use Rattle.rb_recoverable.proofs.recoverable.words.push_words.Goals as goal

pub push_word-requires : goal.push_word-requires
push_word-requires g c =
    let i = c.loop-word.word-index in
    let stored = c.loop-word.invariant.stored in
    omega (
      arith,
      ap (λ (s : Store). length s.words) stored,
      ap (λ (s : Store). s.limit) stored,
      length-append c.args.cells.now.words (take i c.args.words.now),
      length-take-le i c.args.words.now (omega (arith, c.loop-word-test.true)),
      c.loop-word-test.true,
      c.requires,
    )
