use Rattle.std.proofs.Common.{◌≡◌, ◌≤◌, ◌-◌}
use Rattle.rb_back.specs.Showing.{GoesOver}
use Rattle.rb_back.proofs.showing.go_forth.Given as goal

-- the session is on its way over the schedule
abbrev pub invariant-forth : goal.invariant-forth
invariant-forth g l = record {
  code : l.session.code ≡ l.fn.session.code;
  groups : l.session.groups ≡ l.fn.session.groups;
  turns : l.session.turns ≡ l.fn.session.turns;
  all : l.schedule.all ≡ l.fn.schedule.all;
  goes : GoesOver l.session l.schedule;
  forth : l.session.position ≤ l.position;
}

abbrev pub decreases-forth : goal.decreases-forth
decreases-forth g l = l.position - l.session.position
