use Rattle.std.proofs.Common.{◌≡◌, drop}
use Rattle.rb_search.specs.Joinings.{groups_join}
use Rattle.rb_search.proofs.joining.groups_join_once.Given as goal

abbrev pub invariant-loop-d : goal.invariant-loop-d
invariant-loop-d l = groups_join l.d l.all (drop l.d l.groups) ≡ groups_join 0 l.all l.groups
