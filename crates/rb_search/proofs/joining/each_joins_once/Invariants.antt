use Rattle.std.proofs.Common.{◌≡◌, drop}
use Rattle.rb_search.specs.Joinings.{members_join}
use Rattle.rb_search.proofs.joining.each_joins_once.Given as goal

abbrev pub invariant-loop-member : goal.invariant-loop-member
invariant-loop-member l =
    members_join l.conversation l.count l.all (drop l.member-index l.members) ≡ members_join l.conversation l.count l.all l.members
