use Rattle.std.proofs.Common.{◌≡◌, ◌≤◌}
use Rattle.rb_back.proofs.showing.go_back.Given as goal

abbrev pub invariant-back : goal.invariant-back
invariant-back g l = record {
  same : l.session ≡ record l.fn.session { position = l.session.position };
  within : l.position ≤ l.session.position;
}

abbrev pub decreases-back : goal.decreases-back
decreases-back g l = l.session.position
