use Rattle.std.proofs.Common.{◌≡◌, ◌≤◌, ◌+◌, ◌++◌, length, take, drop, sum_by, vec_len, vec_capacity}
use Rattle.rb_back.specs.Noting.{Notes}
use Rattle.rb_back.specs.Picture.{picture}
use Rattle.rb_back.proofs.noting.note_all_words.Given as goal

-- the processes so far are shown with their words of now
abbrev pub invariant-loop-p : goal.invariant-loop-p
invariant-loop-p g l =
    let words = (picture l.fn.view).words in
    let now = g.M.Final.words l.machine in
    record {
      shown : picture l.view ≡ record (picture l.fn.view) { words = take l.p now ++ drop l.p words };
      noted : Notes now l.fn.changes.items l.changes.items (picture l.fn.view) (picture l.view);
      len : vec_len l.changes ≤ vec_len l.fn.changes + sum_by length (take l.p words);
      room : vec_capacity l.fn.changes ≤ vec_capacity l.changes;
    }
