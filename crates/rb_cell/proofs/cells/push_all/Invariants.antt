use Rattle.std.proofs.Common.{◌≡◌, ◌+◌, ◌≤◌, ◌++◌, pos, replicate, vec_len, vec_capacity}
use Rattle.rb_cell.proofs.cells.push_all.Given as goal

abbrev pub invariant-loop-i : goal.invariant-loop-i
invariant-loop-i g l =
    record {
      words : l.words.items ≡ l.fn.words.items ++ replicate l._i (pos 0);
      len : vec_len l.words ≡ vec_len l.fn.words + l._i;
      room : vec_capacity l.fn.words ≤ vec_capacity l.words;
      ticks : l.steps ≡ l.fn.steps + l._i;
    }
