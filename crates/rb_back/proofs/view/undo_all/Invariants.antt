use Rattle.std.proofs.Common.{◌≡◌, ◌+◌, ◌≤◌, length, count_by}
use Rattle.rb_back.specs.Picture.{is_word, picture, undone_all}
use Rattle.rb_back.proofs.view.undo_all.Given as goal

-- the changes that are left lead back to where all of them do
abbrev pub invariant-loop-last : goal.invariant-loop-last
invariant-loop-last g l = record {
  view : undone_all l.rest (picture l.view) ≡ undone_all l.fn.changes (picture l.fn.view);
  work : l.steps + count_by is_word l.rest ≤ l.fn.steps + count_by is_word l.fn.changes;
}

abbrev pub decreases-loop-last : goal.decreases-loop-last
decreases-loop-last g l = length l.rest
