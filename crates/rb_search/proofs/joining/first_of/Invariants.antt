use Rattle.std.proofs.Common.{◌≡◌, drop}
use Rattle.rb_search.specs.Joinings.{first_of as first_such}
use Rattle.rb_search.proofs.joining.first_of.Given as goal

abbrev pub invariant-loop-one : goal.invariant-loop-one
invariant-loop-one l = first_such l.conversation l.member (drop l.one-index l.all) ≡ first_such l.conversation l.member l.all
