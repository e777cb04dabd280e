use Rattle.std.proofs.Common.{◌≡◌, ◌-◌, ◌<◌, ◌≤◌, length, map, drop, take, get_or}
use Rattle.rb_cache.specs.declared.entry.Entry.{Entry}
use Rattle.rb_cache.specs.Arena.{saved_of}
use Rattle.rb_cache.specs.Chains.{first_saved, or_else}
use Rattle.rb_cache.proofs.chain.first_value.Given as goal

abbrev pub invariant-loop-stamp : goal.invariant-loop-stamp
invariant-loop-stamp l =
    record {
      small : l.stamp ≤ length l.arena;
      same : (d : Entry) → 0 < l.stamp → (get_or l.arena (l.stamp - 1) d).place ≡ l.at;
      rest : or_else (first_saved l.at (map saved_of (drop l.first (take l.stamp l.arena)))) l.found ≡ first_saved l.at
          (map saved_of (drop l.first l.arena));
    }

abbrev pub decreases-loop-stamp : goal.decreases-loop-stamp
decreases-loop-stamp l = l.stamp
