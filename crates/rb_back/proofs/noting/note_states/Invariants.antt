use Rattle.std.proofs.Common.{◌≡◌, ◌≤◌, ◌+◌, ℤ, List, ◌++◌, take, drop, vec_len, vec_capacity}
use Rattle.rb_back.specs.Noting.{Notes}
use Rattle.rb_back.specs.Picture.{picture}
use Rattle.rb_back.proofs.noting.note_states.Given as goal

-- the processes so far are shown as they stand now
abbrev pub invariant-loop-p : goal.invariant-loop-p
invariant-loop-p g l = record {
  shown : picture l.view ≡ record (picture l.fn.view) { states = take l.p (g.M.Final.states l.machine) ++ drop l.p (picture l.fn.view).states };
  noted : (target : List (List ℤ)) → Notes target l.fn.changes.items l.changes.items (picture l.fn.view) (picture l.view);
  len : vec_len l.changes ≤ vec_len l.fn.changes + l.p;
  room : vec_capacity l.fn.changes ≤ vec_capacity l.changes;
}
