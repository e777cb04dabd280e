use Rattle.std.proofs.Common.{◌≡◌, ◌+◌, ◌≤◌, length, count_by}
use Rattle.rb_back.specs.Picture.{is_word, picture, redone_all}
use Rattle.rb_back.proofs.view.redo_all.Given as goal

-- the changes that are left lead to where all of them lead
abbrev pub invariant-loop-rest : goal.invariant-loop-rest
invariant-loop-rest g l = record {
  view : redone_all l.rest (picture l.view) ≡ redone_all l.fn.changes (picture l.fn.view);
  work : l.steps + count_by is_word l.rest ≤ l.fn.steps + count_by is_word l.fn.changes;
}

abbrev pub decreases-loop-rest : goal.decreases-loop-rest
decreases-loop-rest g l = length l.rest
