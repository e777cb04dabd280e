-- What was reached so far, and what the older links lead to from the turns that are wanted now, is what all links lead to.
use Rattle.std.proofs.Common.{◌≡◌, ◌++◌, length, map, reverse}
use Rattle.rb_recovery.specs.Survivors.{reached}
use Rattle.rb_recovery.specs.Worlds.{link_of}
use Rattle.rb_recovery.proofs.Linking.ReachedLinks.{from}
use Rattle.rb_recovery.proofs.survivors.reach.Given as goal

abbrev pub invariant-loop-link : goal.invariant-loop-link
invariant-loop-link l =
    l.kept.items ++ from (reverse l.links) (length l.yielded) l.wanted ≡ reached (map link_of (reverse l.links)) l.fn.wanted
