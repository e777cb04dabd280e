use Rattle.std.proofs.Common.{◌≡◌, ◌≤◌, ◌+◌, ◌-◌, ◌++◌, length, take, drop, slice_set, vec_len, vec_capacity}
use Rattle.rb_base.specs.Lines.{belonging}
use Rattle.rb_back.specs.Noting.{Notes}
use Rattle.rb_back.specs.Picture.{picture}
use Rattle.rb_back.proofs.noting.note_words.Given as goal

-- the words so far are shown as they are now
abbrev pub invariant-loop-from : goal.invariant-loop-from
invariant-loop-from g l =
    let words = (picture l.fn.view).words in
    let now = g.M.Final.words l.machine in
    record {
      tall : l.height ≡ length (belonging words l.process);
      within : l.from ≤ l.height;
      ends : l.end ≤ l.height;
      shown : picture l.view
          ≡ record (picture l.fn.view) {
            words = slice_set words l.process (take l.from (belonging now l.process) ++ drop l.from (belonging words l.process));
          };
      noted : Notes now l.fn.changes.items l.changes.items (picture l.fn.view) (picture l.view);
      len : vec_len l.changes ≤ vec_len l.fn.changes + l.from;
      room : vec_capacity l.fn.changes ≤ vec_capacity l.changes;
    }

abbrev pub decreases-loop-from : goal.decreases-loop-from
decreases-loop-from g l = l.end - l.from
